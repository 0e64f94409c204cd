use Rattle.std.proofs.Common.{◌≡◌, true, false, Bool, Some, option_map, refl, ap, sym, ◌∙◌}
use Rattle.number_kinds.specs.Kinds.{kind_type}
use Rattle.decl_syntax.specs.Patterns.{lit_view}
use Rattle.type_table.specs.Tables.{table_type}
use Rattle.pattern_rules.specs.Settings.{bottom_type}
use Rattle.pattern_rules.specs.Literals.{some_end_refused}
use Rattle.pattern_rules.specs.NodeRules.{is_numeric}
use Rattle.pattern_check.specs.NodeForms.{pick, standing_view, open_item}
use Rattle.pattern_check.proofs.TypeLemmas.{number_type, not_numeric}
use Rattle.pattern_check.proofs.OwnFaults.{range_refused, range_other, range_along, range_wrong}
use Rattle.pattern_check.proofs.literal_faults.range_fault.Goals as goal

pub returns-then-end_refused : goal.returns-then-end_refused
returns-then-end_refused c = λ edition m twice s at before is e tw.
    let low = option_map lit_view c.args.range.now.low in
    let high = option_map lit_view c.args.range.now.high in
    let st = standing_view c.args.standing in
    let t = table_type c.args.table.now c.args.ty in
    let refused : true ≡ some_end_refused low high = rw (← c.if-end_refused.ensures) refl in
    range_refused s at st t m before low high c.args.range.now.closed c.pick.result refused
    (c.pick.ensures ∙ ap (λ (b : Bool). pick b 33 (Some 35)) c.is_open_item-is_open.ensures)

pub returns-then-end_refused-2 : goal.returns-then-end_refused-2
returns-then-end_refused-2 c = λ edition m twice s at before is e tw.
    let low = option_map lit_view c.args.range.now.low in
    let high = option_map lit_view c.args.range.now.high in
    let st = standing_view c.args.standing in
    let t = table_type c.args.table.now c.args.ty in
    let refused : true ≡ some_end_refused low high = rw (← c.if-end_refused.ensures, ← c.if-end_refused-2.ensures) refl in
    range_refused s at st t m before low high c.args.range.now.closed c.pick-then-end_refused-2.result refused
    (c.pick-then-end_refused-2.ensures ∙ ap (λ (b : Bool). pick b 33 (Some 35)) c.is_open_item-is_open.ensures)

pub returns-in-Some : goal.returns-in-Some
returns-in-Some c = λ edition m twice s at before is e tw.
    let low = option_map lit_view c.args.range.now.low in
    let high = option_map lit_view c.args.range.now.high in
    let st = standing_view c.args.standing in
    let t = table_type c.args.table.now c.args.ty in
    let read : false ≡ some_end_refused low high = rw (← c.if-end_refused.ensures, ← c.if-end_refused-2.ensures) refl in
    let u = table_type c.args.table.now c.bottom_type-met.result in
    range_other s at st t m before low high c.args.range.now.closed c.number_range_fault.result read
    (c.number_range_fault.ensures
    ∙ range_along c.width.result s.width (kind_type c.in-Some.kind) (bottom_type t) low high c.args.range.now.closed c.is_open_item-is_open.result (open_item st low high)
    (c.width.ensures ∙ is.width_is) (sym (number_type u c.in-Some.kind c.in-Some.ensures) ∙ c.bottom_type-met.ensures.is) c.is_open_item-is_open.ensures)

pub returns-in-None : goal.returns-in-None
returns-in-None c = λ edition m twice s at before is e tw.
    let low = option_map lit_view c.args.range.now.low in
    let high = option_map lit_view c.args.range.now.high in
    let st = standing_view c.args.standing in
    let t = table_type c.args.table.now c.args.ty in
    let read : false ≡ some_end_refused low high = rw (← c.if-end_refused.ensures, ← c.if-end_refused-2.ensures) refl in
    let u = table_type c.args.table.now c.bottom_type-met.result in
    let none : false ≡ is_numeric (bottom_type t) = not_numeric u c.in-None.ensures ∙ ap is_numeric c.bottom_type-met.ensures.is in
    range_other s at st t m before low high c.args.range.now.closed (Some 22) read
    (range_wrong s.width (bottom_type t) low high c.args.range.now.closed (open_item st low high) none)
