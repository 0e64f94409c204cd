use Rattle.std.proofs.Common.{ℕ, List, length, ap, sym, ◌∙◌}
use Rattle.type_table.specs.Tables.{table_program, table_type, fields_of_type}
use Rattle.pattern_rules.specs.Namings.{found_number}
use Rattle.pattern_check.proofs.NamedFields.{names_in, counted, met_is_named}
use Rattle.pattern_check.proofs.fields.field_count.Goals as goal

pub returns : goal.returns
returns c = λ s told is f m.
    let p = table_program c.args.table.now in
    let t = table_type c.args.table.now c.args.ty in
    let names = names_in p s.items s.width told t is.program m.there (c.types_are_sound.ensures.types c.args.ty c.requires) m.met in
    c.fields.ensures
    ∙ (ap (λ (k : ℕ). fields_of_type p t k) (c.found_number.ensures told f)
    ∙ (counted p t (found_number told) (met_is_named told t m.met) ∙ ap (λ (ns : List (List ℕ)). length ns) (sym names)))
