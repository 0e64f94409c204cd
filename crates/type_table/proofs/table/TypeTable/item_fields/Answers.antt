use Rattle.std.proofs.Common.{Option, sym, ap, ◌∙◌}
use Rattle.match_model.specs.Declarations.{MVariant, variant_types}
use Rattle.match_model.specs.RustTypes.{count_of_types}
use Rattle.type_table.specs.Tables.{table_types}
use Rattle.type_table.proofs.KindLemmas.{fields_count}
use Rattle.type_table.proofs.table.TypeTable.item_fields.Goals as goal

pub returns-in-Some : goal.returns-in-Some
returns-in-Some c =
    c.field_count.ensures
    ∙ (sym (fields_count (table_types c.args.self.now) c.in-Some.variant.now)
    ∙ ap (λ (o : Option MVariant). count_of_types (variant_types o)) c.in-Some.ensures.variant)
