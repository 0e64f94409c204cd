use Rattle.std.proofs.Common.{◌≡◌, Bool, true, false, Option, ℕ, map, ap, sym, ◌∙◌}
use Rattle.std.specs.Prelude.{is_some}
use Rattle.match_model.specs.Types.{MType}
use Rattle.decl_syntax.specs.Patterns.{path_view, pattern_view, patterns_from}
use Rattle.type_names.specs.Finding.{path_finds, found_form, is_found}
use Rattle.type_table.specs.Tables.{table_type}
use Rattle.pattern_rules.specs.Settings.{bottom_type}
use Rattle.pattern_rules.specs.Namings.{found_if, is_short, meets}
use Rattle.pattern_check.specs.NodeForms.{pick}
use Rattle.pattern_check.proofs.FieldLemmas.{path_there}
use Rattle.pattern_check.proofs.OwnFaults.{form_unfound, form_missed, form_rules}
use Rattle.pattern_check.proofs.form_faults.tuple_form_fault.Goals as goal

pub meets-requires : goal.meets-requires
meets-requires c = record { found = c.path_found-found.ensures.of; of = c.bottom_type-met.ensures.of }

pub misfits_form-requires : goal.misfits_form-requires
misfits_form-requires c = record { found = c.path_found-found.ensures.of; of = c.bottom_type-met.ensures.of }

pub returns-then-not-is_found : goal.returns-then-not-is_found
returns-then-not-is_found c = λ edition standing m twice s at before is e tw.
    let path = path_view c.args.path.now in
    let told = found_if (is_short path) (path_finds s.items path) in
    let t = table_type c.args.table.now c.args.ty in
    let f = c.path_found-found.ensures.is s is in
    let ps = patterns_from (map pattern_view c.args.items.now) in
    form_unfound s at standing t m before path ps c.has_rests.result c.pick.result (sym c.if-not-is_found.true ∙ c.is_found.ensures told f) c.has_rests.ensures
    (c.pick.ensures ∙ (ap (λ (b : Bool). pick b 20 c.pick-unread.result) c.is_short.ensures ∙ ap (λ (r : Option ℕ). pick (is_short path) 20 r) c.pick-unread.ensures))

pub returns-then-not-meets : goal.returns-then-not-meets
returns-then-not-meets c = λ edition standing m twice s at before is e tw.
    let path = path_view c.args.path.now in
    let told = found_if (is_short path) (path_finds s.items path) in
    let t = table_type c.args.table.now c.args.ty in
    let f = c.path_found-found.ensures.is s is in
    let found : true ≡ is_found told = sym c.if-not-is_found.false ∙ c.is_found.ensures told f in
    let met : false ≡ meets told (bottom_type t) = sym c.if-not-meets.true ∙ (c.meets.ensures told f ∙ ap (λ (u : MType). meets told u) c.bottom_type-met.ensures.is) in
    form_missed s at standing t m before path (patterns_from (map pattern_view c.args.items.now)) found met

pub returns : goal.returns
returns c = λ edition standing m twice s at before is e tw.
    let path = path_view c.args.path.now in
    let told = found_if (is_short path) (path_finds s.items path) in
    let t = table_type c.args.table.now c.args.ty in
    let f = c.path_found-found.ensures.is s is in
    let found : true ≡ is_found told = sym c.if-not-is_found.false ∙ c.is_found.ensures told f in
    let met : true ≡ meets told (bottom_type t) = sym c.if-not-meets.false ∙ (c.meets.ensures told f ∙ ap (λ (u : MType). meets told u) c.bottom_type-met.ensures.is) in
    let there : is_some (found_form s.items told) ≡ true = path_there s.items path (is_short path) found in
    let meet : meets told (table_type c.args.table.now c.bottom_type-met.result) ≡ true = sym (c.meets.ensures told f) ∙ c.if-not-meets.false in
    form_rules s at standing t m before path (patterns_from (map pattern_view c.args.items.now)) c.misfits_form.result c.has_rests-2.result c.pick-2.result found met
    (c.misfits_form.ensures s told is f (record { there = there; met = meet })) c.has_rests-2.ensures
    (c.pick-2.ensures ∙ ap (λ (r : Option ℕ). pick c.misfits_form.result 23 r) c.pick-rests.ensures)
