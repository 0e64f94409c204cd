use Rattle.std.proofs.Common.{◌≡◌, false, ℕ, map, Option, Some, None, ap, sym, ◌∙◌}
use Rattle.match_model.specs.Types.{MType}
use Rattle.decl_syntax.specs.Patterns.{pattern_view, patterns_from}
use Rattle.type_table.specs.Tables.{table_type}
use Rattle.pattern_rules.specs.Settings.{bottom_type}
use Rattle.pattern_rules.specs.NodeRules.{is_row}
use Rattle.pattern_check.specs.NodeForms.{pick}
use Rattle.pattern_check.specs.TypeTests.{row_of}
use Rattle.pattern_check.proofs.TypeLemmas.{not_row, slice_type, array_type}
use Rattle.pattern_check.proofs.OwnFaults.{slice_wrong, slice_rules, array_rules}
use Rattle.pattern_check.proofs.form_faults.slice_fault.Goals as goal

pub returns-in-Some-default-Some : goal.returns-in-Some-default-Some
returns-in-Some-default-Some c = λ edition standing m twice s at before is e tw.
    let t = table_type c.args.table.now c.args.ty in
    let b = table_type c.args.table.now c.bottom_type.result in
    let u = table_type c.args.table.now c.in-Some-default-Some.field-0-0 in
    let row : Some (u, Some c.in-Some-default-Some.len) ≡ row_of b = ap (λ (o : Option ℕ). Some (u, o)) (sym c.in-Some-default-Some.field-0-1-is) ∙ c.in-Some-default-Some.ensures.is in
    array_rules s at standing t m before (patterns_from (map pattern_view c.args.items.now)) u c.in-Some-default-Some.len c.has_other_count.result c.has_rests.result c.pick.result
    (sym c.bottom_type.ensures.is ∙ array_type b u c.in-Some-default-Some.len row) c.has_other_count.ensures c.has_rests.ensures
    (c.pick.ensures ∙ ap (λ (r : Option ℕ). pick c.has_other_count.result 23 r) c.pick-rests.ensures)

pub returns-in-Some-default-None : goal.returns-in-Some-default-None
returns-in-Some-default-None c = λ edition standing m twice s at before is e tw.
    let t = table_type c.args.table.now c.args.ty in
    let b = table_type c.args.table.now c.bottom_type.result in
    let u = table_type c.args.table.now c.in-Some-default-None.field-0-0 in
    let row : Some (u, None) ≡ row_of b = ap (λ (o : Option ℕ). Some (u, o)) (sym c.in-Some-default-None.field-0-1-is) ∙ c.in-Some-default-None.ensures.is in
    slice_rules s at standing t m before (patterns_from (map pattern_view c.args.items.now)) u c.has_rests.result c.pick-rests.result
    (sym c.bottom_type.ensures.is ∙ slice_type b u row) c.has_rests.ensures c.pick-rests.ensures

pub returns-in-None : goal.returns-in-None
returns-in-None c = λ edition standing m twice s at before is e tw.
    let t = table_type c.args.table.now c.args.ty in
    let other : false ≡ is_row (bottom_type t) = not_row (table_type c.args.table.now c.bottom_type.result) c.in-None.ensures.is ∙ ap (λ (u : MType). is_row u) c.bottom_type.ensures.is in
    slice_wrong s at standing t m before (patterns_from (map pattern_view c.args.items.now)) other
