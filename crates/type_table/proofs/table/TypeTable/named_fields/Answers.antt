use Rattle.std.proofs.Common.{List, sym, ap, ◌∙◌}
use Rattle.std.specs.Prelude.{slice_get}
use Rattle.match_model.specs.Types.{MType, NamedType, types_of}
use Rattle.match_model.specs.Declarations.{MVariant, variant_types}
use Rattle.match_model.specs.RustTypes.{count_of_types}
use Rattle.type_names.specs.declared.meanings.Owner.{Owner}
use Rattle.type_names.specs.Views.{owner_view}
use Rattle.type_table.specs.Nodes.{owner_arguments}
use Rattle.type_table.specs.Tables.{table_program, type_parts, fields_of_type}
use Rattle.type_table.proofs.PlainTypes.{table_variants}
use Rattle.type_table.proofs.FieldLemmas.{option_count, result_count}
use Rattle.type_table.proofs.table.TypeTable.named_fields.Goals as goal

pub returns-in-Item : goal.returns-in-Item
returns-in-Item c =
    let table = c.args.self.now in
    let parts = type_parts table c.args.ty in
    let type = c.requires.named.0 ∙ ap (λ (o : Owner). NamedType (owner_view o) (types_of parts)) c.in-Item.is in
    c.item_fields.ensures
    ∙ (ap (λ (vs : List MVariant). count_of_types (variant_types (slice_get vs c.args.k))) (sym (table_variants table c.in-Item.n (types_of parts)))
    ∙ ap (λ (t : MType). fields_of_type (table_program table) t c.args.k) (sym type))

pub returns-in-Option : goal.returns-in-Option
returns-in-Option c =
    let table = c.args.self.now in
    let parts = type_parts table c.args.ty in
    let type = c.requires.named.0 ∙ ap (λ (o : Owner). NamedType (owner_view o) (types_of parts)) c.in-Option.is in
    let count = c.requires.named.1 ∙ ap (λ (o : Owner). owner_arguments (owner_view o)) c.in-Option.is in
    option_count (table_program table) parts c.args.k c.option_fields.result count c.option_fields.ensures ∙ ap (λ (t : MType). fields_of_type (table_program table) t c.args.k) (sym type)

pub returns-in-Result : goal.returns-in-Result
returns-in-Result c =
    let table = c.args.self.now in
    let parts = type_parts table c.args.ty in
    let type = c.requires.named.0 ∙ ap (λ (o : Owner). NamedType (owner_view o) (types_of parts)) c.in-Result.is in
    let count = c.requires.named.1 ∙ ap (λ (o : Owner). owner_arguments (owner_view o)) c.in-Result.is in
    result_count (table_program table) parts c.args.k c.result_fields.result count c.result_fields.ensures ∙ ap (λ (t : MType). fields_of_type (table_program table) t c.args.k) (sym type)
