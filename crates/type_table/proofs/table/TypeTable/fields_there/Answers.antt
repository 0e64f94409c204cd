use Rattle.std.proofs.Common.{◌≡◌, ℕ, cond, length, sym, ap, ◌∙◌, refl}
use Rattle.std.specs.Prelude.{nat_eq}
use Rattle.std.proofs.lemmas.List.{length-map}
use Rattle.std.proofs.lemmas.Bool.{eqb-true}
use Rattle.match_model.specs.Types.{MType}
use Rattle.type_names.specs.Views.{owner_view}
use Rattle.type_table.specs.declared.nodes.Head.TheVariants as heads
use Rattle.type_table.specs.Nodes.{owner_arguments}
use Rattle.type_table.specs.Tables.{table_program, type_parts, fields_of_type}
use Rattle.type_table.proofs.KindLemmas.{parts_are, shape_of, parts_fit}
use Rattle.type_table.proofs.FieldLemmas.{base_fields, tuple_count}
use Rattle.type_table.proofs.table.TypeTable.fields_there.Goals as goal

pub named_fields-requires-clause-named : goal.named_fields-requires-clause-named
named_fields-requires-clause-named c =
    let table = c.args.self.now in (
      shape_of table c.args.ty c.node-node.result.now c.node-node.ensures (heads.Named c.in-Named.owner) c.in-Named.is,
      eqb-true _ (owner_arguments (owner_view c.in-Named.owner)) (parts_fit table c.args.ty c.node-node.result.now c.node-node.ensures (heads.Named c.in-Named.owner) c.in-Named.is),
    )

pub returns-in-Base : goal.returns-in-Base
returns-in-Base c =
    let table = c.args.self.now in
    let shape = shape_of table c.args.ty c.node-node.result.now c.node-node.ensures (heads.Base c.in-Base.field-0) c.in-Base.is in
    base_fields (table_program table) c.in-Base.field-0 c.args.k ∙ ap (λ (t : MType). fields_of_type (table_program table) t c.args.k) (sym shape)

pub returns-in-Opaque : goal.returns-in-Opaque
returns-in-Opaque c =
    let table = c.args.self.now in
    let shape = shape_of table c.args.ty c.node-node.result.now c.node-node.ensures (heads.Opaque c.in-Opaque.field-0) c.in-Opaque.is in
    ap (λ (t : MType). fields_of_type (table_program table) t c.args.k) (sym shape)

pub returns-in-Point : goal.returns-in-Point
returns-in-Point c =
    let table = c.args.self.now in
    let shape = shape_of table c.args.ty c.node-node.result.now c.node-node.ensures (heads.Point c.in-Point.field-0) c.in-Point.is in
    ap (λ (t : MType). fields_of_type (table_program table) t c.args.k) (sym shape)

pub returns-in-Slice : goal.returns-in-Slice
returns-in-Slice c =
    let table = c.args.self.now in
    let shape = shape_of table c.args.ty c.node-node.result.now c.node-node.ensures (heads.Slice) c.in-Slice.is in
    ap (λ (t : MType). fields_of_type (table_program table) t c.args.k) (sym shape)

pub returns-in-Array : goal.returns-in-Array
returns-in-Array c =
    let table = c.args.self.now in
    let shape = shape_of table c.args.ty c.node-node.result.now c.node-node.ensures (heads.Array c.in-Array.field-0) c.in-Array.is in
    ap (λ (t : MType). fields_of_type (table_program table) t c.args.k) (sym shape)

pub returns-in-Tuple : goal.returns-in-Tuple
returns-in-Tuple c =
    let table = c.args.self.now in
    let shape = shape_of table c.args.ty c.node-node.result.now c.node-node.ensures heads.Tuple c.in-Tuple.is in
    let parts = parts_are table c.args.ty c.node-node.result.now c.node-node.ensures in
    let count : length c.node-node.result.now.parts.items ≡ length (type_parts table c.args.ty) = sym (ap length parts ∙ rw length-map refl) in
    tuple_count (table_program table) (type_parts table c.args.ty) c.args.k c.tuple_fields.result (c.tuple_fields.ensures ∙ ap (λ (n : ℕ). cond (nat_eq c.args.k 0) n 0) count)
    ∙ ap (λ (t : MType). fields_of_type (table_program table) t c.args.k) (sym shape)
