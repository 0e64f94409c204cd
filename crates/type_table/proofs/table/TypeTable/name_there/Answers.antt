use Rattle.std.proofs.Common.{List, sym, ap, ◌∙◌}
use Rattle.std.specs.Prelude.{slice_get}
use Rattle.match_model.specs.Types.{MType, NamedType, types_of}
use Rattle.match_model.specs.Declarations.{MVariant}
use Rattle.type_names.specs.declared.meanings.Owner.{Owner}
use Rattle.type_names.specs.Views.{owner_view}
use Rattle.type_table.specs.Nodes.{owner_arguments}
use Rattle.type_table.specs.Tables.{table_type, table_program, type_parts, type_variant, variant_name_of}
use Rattle.type_table.proofs.PlainTypes.{table_variants}
use Rattle.type_table.proofs.FieldLemmas.{no_variants, option_named, result_named}
use Rattle.type_table.proofs.table.TypeTable.name_there.Goals as goal

pub returns-in-Some-Item : goal.returns-in-Some-Item
returns-in-Some-Item c =
    let table = c.args.self.now in
    let parts = type_parts table c.args.ty in
    let by = c.in-Some-Item.ensures.by in
    let type = by.0 ∙ ap (λ (o : Owner). NamedType (owner_view o) (types_of parts)) c.in-Some-Item.field-0-is in
    c.declared_name.ensures
    ∙ (ap (λ (vs : List MVariant). variant_name_of (slice_get vs c.args.k)) (sym (table_variants table c.in-Some-Item.i (types_of parts)))
    ∙ ap (λ (t : MType). variant_name_of (type_variant (table_program table) t c.args.k)) (sym type))

pub returns-in-Some-Option : goal.returns-in-Some-Option
returns-in-Some-Option c =
    let table = c.args.self.now in
    let parts = type_parts table c.args.ty in
    let by = c.in-Some-Option.ensures.by in
    let type = by.0 ∙ ap (λ (o : Owner). NamedType (owner_view o) (types_of parts)) c.in-Some-Option.field-0-is in
    let count = by.1 ∙ ap (λ (o : Owner). owner_arguments (owner_view o)) c.in-Some-Option.field-0-is in
    option_named (table_program table) parts c.args.k _ count (λ t. c.option_name.ensures (table_program table) t) ∙ ap (λ (t : MType). variant_name_of (type_variant (table_program table) t c.args.k)) (sym type)

pub returns-in-Some-Result : goal.returns-in-Some-Result
returns-in-Some-Result c =
    let table = c.args.self.now in
    let parts = type_parts table c.args.ty in
    let by = c.in-Some-Result.ensures.by in
    let type = by.0 ∙ ap (λ (o : Owner). NamedType (owner_view o) (types_of parts)) c.in-Some-Result.field-0-is in
    let count = by.1 ∙ ap (λ (o : Owner). owner_arguments (owner_view o)) c.in-Some-Result.field-0-is in
    result_named (table_program table) parts c.args.k _ count (λ t u. c.result_name.ensures (table_program table) t u) ∙ ap (λ (t : MType). variant_name_of (type_variant (table_program table) t c.args.k)) (sym type)

pub returns-in-None : goal.returns-in-None
returns-in-None c =
    let table = c.args.self.now in
    ap (λ (vs : List MVariant). variant_name_of (slice_get vs c.args.k)) (no_variants (table_program table) (table_type table c.args.ty) c.in-None.ensures.owner)
