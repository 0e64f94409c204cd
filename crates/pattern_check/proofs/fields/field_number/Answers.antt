use Rattle.std.proofs.Common.{ℕ, List, ap, sym, ◌∙◌}
use Rattle.std.specs.Prelude.{position}
use Rattle.std.specs.Str.{bytes_eq}
use Rattle.type_table.specs.Lookups.{field_named}
use Rattle.type_table.specs.Tables.{table_program, table_type, type_variant}
use Rattle.pattern_check.proofs.NamedFields.{names_in}
use Rattle.pattern_check.proofs.fields.field_number.Goals as goal

pub returns : goal.returns
returns c = λ s told is f m.
    let p = table_program c.args.table.now in
    let t = table_type c.args.table.now c.args.ty in
    let names = names_in p s.items s.width told t is.program m.there (c.types_are_sound.ensures.types c.args.ty c.requires) m.met in
    c.field_named.ensures
    ∙ (ap (λ (k : ℕ). field_named (type_variant p t k) c.args.name.now) (c.found_number.ensures told f)
    ∙ ap (λ (ns : List (List ℕ)). position (λ n. bytes_eq c.args.name.now n) ns) (sym names))
