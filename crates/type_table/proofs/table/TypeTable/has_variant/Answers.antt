use Rattle.std.proofs.Common.{◌≡◌, is_some, sym, ap, ◌∙◌}
use Rattle.match_model.specs.Types.{MType, NamedType, types_of}
use Rattle.match_model.specs.Declarations.{node_types}
use Rattle.type_names.specs.Views.{owner_view}
use Rattle.type_table.specs.declared.nodes.Head.TheVariants as heads
use Rattle.type_table.specs.Tables.{table_program, type_parts, type_variant, variant_name_of}
use Rattle.type_table.proofs.KindLemmas.{shape_of}
use Rattle.type_table.proofs.EmptyVariants.{base_variant, tuple_variant, named_variant, some_mapped}
use Rattle.type_table.proofs.table.TypeTable.has_variant.Goals as goal

pub returns-in-Base : goal.returns-in-Base
returns-in-Base c =
    let table = c.args.self.now in
    let shape = shape_of table c.args.ty c.node.result.now c.node.ensures (heads.Base c.in-Base.field-0) c.in-Base.is in
    base_variant (table_program table) c.in-Base.field-0 c.args.k ∙ ap (λ (t : MType). is_some (node_types (table_program table) t c.args.k)) (sym shape)

pub returns-in-Opaque : goal.returns-in-Opaque
returns-in-Opaque c =
    let table = c.args.self.now in
    let shape = shape_of table c.args.ty c.node.result.now c.node.ensures (heads.Opaque c.in-Opaque.field-0) c.in-Opaque.is in
    ap (λ (t : MType). is_some (node_types (table_program table) t c.args.k)) (sym shape)

pub returns-in-Tuple : goal.returns-in-Tuple
returns-in-Tuple c =
    let table = c.args.self.now in
    let shape = shape_of table c.args.ty c.node.result.now c.node.ensures heads.Tuple c.in-Tuple.is in
    tuple_variant (table_program table) (types_of (type_parts table c.args.ty)) c.args.k ∙ ap (λ (t : MType). is_some (node_types (table_program table) t c.args.k)) (sym shape)

pub returns-in-Point : goal.returns-in-Point
returns-in-Point c =
    let table = c.args.self.now in
    let shape = shape_of table c.args.ty c.node.result.now c.node.ensures (heads.Point c.in-Point.field-0) c.in-Point.is in
    ap (λ (t : MType). is_some (node_types (table_program table) t c.args.k)) (sym shape)

pub returns-in-Slice : goal.returns-in-Slice
returns-in-Slice c =
    let table = c.args.self.now in
    let shape = shape_of table c.args.ty c.node.result.now c.node.ensures heads.Slice c.in-Slice.is in
    ap (λ (t : MType). is_some (node_types (table_program table) t c.args.k)) (sym shape)

pub returns-in-Array : goal.returns-in-Array
returns-in-Array c =
    let table = c.args.self.now in
    let shape = shape_of table c.args.ty c.node.result.now c.node.ensures (heads.Array c.in-Array.field-0) c.in-Array.is in
    ap (λ (t : MType). is_some (node_types (table_program table) t c.args.k)) (sym shape)

pub returns-in-Named : goal.returns-in-Named
returns-in-Named c =
    let table = c.args.self.now in
    let shape = shape_of table c.args.ty c.node.result.now c.node.ensures (heads.Named c.in-Named.field-0) c.in-Named.is in
    let named : c.is_some.result ≡ is_some (variant_name_of (type_variant (table_program table) (NamedType (owner_view c.in-Named.field-0) (types_of (type_parts table c.args.ty))) c.args.k)) =
    c.is_some.ensures
    ∙ (sym (some_mapped (λ s. s.now) c.name_there.result)
    ∙ (ap is_some c.name_there.ensures ∙ ap (λ (t : MType). is_some (variant_name_of (type_variant (table_program table) t c.args.k))) shape)) in
    named_variant (table_program table) (owner_view c.in-Named.field-0) (types_of (type_parts table c.args.ty)) c.args.k c.is_some.result named
    ∙ ap (λ (t : MType). is_some (node_types (table_program table) t c.args.k)) (sym shape)
