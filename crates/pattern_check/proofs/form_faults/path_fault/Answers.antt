use Rattle.std.proofs.Common.{◌≡◌, Bool, true, false, not, Option, Some, ap, sym, ◌∙◌}
use Rattle.match_model.specs.Types.{MType}
use Rattle.decl_syntax.specs.Patterns.{path_view}
use Rattle.type_names.specs.Finding.{path_finds, is_found}
use Rattle.type_names.specs.declared.meanings.FormKind.{FormKind}
use Rattle.type_table.specs.Tables.{table_type}
use Rattle.pattern_rules.specs.Settings.{bottom_type}
use Rattle.pattern_rules.specs.Namings.{found_if, is_short, is_unit_form, meets}
use Rattle.pattern_check.specs.NodeForms.{pick}
use Rattle.pattern_check.proofs.OwnFaults.{path_unfound, path_missed, path_rules}
use Rattle.pattern_check.proofs.form_faults.path_fault.Goals as goal

pub meets-requires : goal.meets-requires
meets-requires c = record { found = c.path_found-found.ensures.of; of = c.bottom_type.ensures.of }

pub form-requires : goal.form-requires
form-requires c = record { of = c.path_found-found.ensures.of }

pub returns-then-not-is_found : goal.returns-then-not-is_found
returns-then-not-is_found c = λ edition standing m twice s at before is e tw.
    let path = path_view c.args.path.now in
    let told = found_if (is_short path) (path_finds s.items path) in
    let t = table_type c.args.table.now c.args.ty in
    let f = c.path_found-found.ensures.is s is in
    path_unfound s at standing t m before path c.pick.result (sym c.if-not-is_found.true ∙ c.is_found.ensures told f)
    (c.pick.ensures ∙ ap (λ (b : Bool). pick b 20 (Some 35)) c.is_short.ensures)

pub returns-then-not-meets : goal.returns-then-not-meets
returns-then-not-meets c = λ edition standing m twice s at before is e tw.
    let path = path_view c.args.path.now in
    let told = found_if (is_short path) (path_finds s.items path) in
    let t = table_type c.args.table.now c.args.ty in
    let f = c.path_found-found.ensures.is s is in
    let found : true ≡ is_found told = sym c.if-not-is_found.false ∙ c.is_found.ensures told f in
    let met : false ≡ meets told (bottom_type t) = sym c.if-not-meets.true ∙ (c.meets.ensures told f ∙ ap (λ (u : MType). meets told u) c.bottom_type.ensures.is) in
    path_missed s at standing t m before path found met

pub returns : goal.returns
returns c = λ edition standing m twice s at before is e tw.
    let path = path_view c.args.path.now in
    let told = found_if (is_short path) (path_finds s.items path) in
    let t = table_type c.args.table.now c.args.ty in
    let f = c.path_found-found.ensures.is s is in
    let found : true ≡ is_found told = sym c.if-not-is_found.false ∙ c.is_found.ensures told f in
    let met : true ≡ meets told (bottom_type t) = sym c.if-not-meets.false ∙ (c.meets.ensures told f ∙ ap (λ (u : MType). meets told u) c.bottom_type.ensures.is) in
    path_rules s at standing t m before path (not c.is_unit_form.result) c.pick-2.result found met
    (ap not (c.is_unit_form.ensures ∙ ap (λ (o : Option FormKind). is_unit_form o) (c.form.ensures.form s.items s.width told is f))) c.pick-2.ensures
