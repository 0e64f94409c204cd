use Rattle.std.proofs.Common.{Option, ℕ, ap, ◌∙◌}
use Rattle.match_model.specs.Types.{MType}
use Rattle.type_names.specs.Finding.{name_finds}
use Rattle.type_names.specs.declared.meanings.FormKind.{FormKind}
use Rattle.type_table.specs.Tables.{table_type}
use Rattle.pattern_rules.specs.Namings.{is_path_name, is_tuple_form, found_if}
use Rattle.pattern_rules.specs.NodeRules.{misses}
use Rattle.pattern_check.specs.NodeForms.{pick, standing_view}
use Rattle.pattern_check.proofs.OwnFaults.{name_rules}
use Rattle.pattern_check.proofs.name_faults.name_fault.Goals as goal

pub misses-requires : goal.misses-requires
misses-requires c = record { found = c.name_found-found.ensures.of; of = c.bottom_type.ensures.of }

pub returns : goal.returns
returns c = λ edition m s at before is e tw.
    let name = c.args.name.now in
    let told = found_if (is_path_name s name) (name_finds s.items name) in
    name_rules s at (standing_view c.args.standing) (table_type c.args.table.now c.args.ty) m before name
    c.name_is_twice.result c.is_tuple_form.result c.misses.result c.args.twice c.pick.result
    (c.name_is_twice.ensures s is)
    (c.is_tuple_form.ensures ∙ ap (λ (f : Option FormKind). is_tuple_form f) (c.name_form.ensures s is))
    (c.misses.ensures told (c.name_found-found.ensures.is s is) ∙ ap (λ (u : MType). misses told u) c.bottom_type.ensures.is)
    tw
    (c.pick.ensures ∙ ap (λ (r : Option ℕ). pick c.name_is_twice.result 20 r) (c.pick-taken.ensures ∙ ap (λ (r : Option ℕ). pick c.is_tuple_form.result 21 r) (c.pick-missed.ensures ∙ ap (λ (r : Option ℕ). pick c.misses.result 22 r) c.pick-last.ensures)))
