use Rattle.std.proofs.Common.{◌≡◌, ◌<◌, ◌^◌, ℕ, length, refl, sym, ap, ◌∙◌, subst, arith, rules}
use Rattle.std.proofs.lemmas.List.{length-map}
use Rattle.std.proofs.lemmas.Bool.{eqb-true}
use Rattle.match_model.specs.Types.{MType, PointType, SliceType, ArrayType, types_of}
use Rattle.match_model.specs.Typing.{is_opaque}
use Rattle.type_names.specs.Views.{owner_view}
use Rattle.type_table.specs.declared.nodes.Head.TheVariants as heads
use Rattle.type_table.specs.Nodes.{owner_arguments}
use Rattle.type_table.specs.Tables.{KindIs, table_type, table_program, type_parts, count_of_type}
use Rattle.type_table.proofs.KindLemmas.{parts_are, shape_of, parts_fit, count_back}
use Rattle.type_table.proofs.FewParts.{count_few}
use Rattle.type_table.proofs.PartLemmas.{inner_held}
use Rattle.type_table.proofs.table.TypeTable.kind.Goals as goal

pub overflow_cast-result : goal.overflow_cast-result
overflow_cast-result c =
    let table = c.args.self.now in
    let shape = shape_of table c.args.ty c.node-node.result.now c.node-node.ensures heads.Tuple c.in-Tuple.is in
    let parts = parts_are table c.args.ty c.node-node.result.now c.node-node.ensures in
    let counted : count_of_type (table_program table) (table_type table c.args.ty) ≡ c.len.result =
    ap (count_of_type (table_program table)) shape ∙ (count_back (type_parts table c.args.ty) ∙ (ap length parts ∙ (rw length-map (search rules)))) in
    let P : ℕ → Type 0 = λ n. n < 2 ^ 32 in
    let few : c.len.result < 2 ^ 32 = subst P counted (count_few table c.args.ty c.requires.of) in
    omega arith

pub named_kind-requires-clause-named : goal.named_kind-requires-clause-named
named_kind-requires-clause-named c =
    let table = c.args.self.now in (
      types_of (type_parts table c.args.ty),
      shape_of table c.args.ty c.node-node.result.now c.node-node.ensures (heads.Named c.in-Named.owner) c.in-Named.is,
      count_back (type_parts table c.args.ty)
          ∙ eqb-true _ (owner_arguments (owner_view c.in-Named.owner)) (parts_fit table c.args.ty c.node-node.result.now c.node-node.ensures (heads.Named c.in-Named.owner) c.in-Named.is),
    )

pub named_kind-requires-clause-few : goal.named_kind-requires-clause-few
named_kind-requires-clause-few c = count_few c.args.self.now c.args.ty c.requires.of

pub returns-in-Base-clause-is : goal.returns-in-Base-clause-is
returns-in-Base-clause-is c =
    let table = c.args.self.now in
    let P : MType → Type 0 = λ t. KindIs table t c.base_kind.result in
    subst P (sym (shape_of table c.args.ty c.node-node.result.now c.node-node.ensures (heads.Base c.in-Base.b) c.in-Base.is)) (c.base_kind.ensures.is table)

pub returns-in-Opaque-clause-is : goal.returns-in-Opaque-clause-is
returns-in-Opaque-clause-is c = ap is_opaque (shape_of c.args.self.now c.args.ty c.node-node.result.now c.node-node.ensures (heads.Opaque c.in-Opaque.field-0) c.in-Opaque.is)

pub returns-in-Tuple-clause-is : goal.returns-in-Tuple-clause-is
returns-in-Tuple-clause-is c =
    let table = c.args.self.now in
    let parts = parts_are table c.args.ty c.node-node.result.now c.node-node.ensures in (
      types_of (type_parts table c.args.ty),
      shape_of table c.args.ty c.node-node.result.now c.node-node.ensures heads.Tuple c.in-Tuple.is,
      count_back (type_parts table c.args.ty) ∙ (ap length parts ∙ (rw length-map (search rules))),
    )

pub returns-in-Point-clause-is : goal.returns-in-Point-clause-is
returns-in-Point-clause-is c =
    let table = c.args.self.now in
    inner_held table c.args.ty c.inner.result c.requires.of c.inner.ensures (PointType c.in-Point.mutable) (λ t. refl)
    (shape_of table c.args.ty c.node-node.result.now c.node-node.ensures (heads.Point c.in-Point.mutable) c.in-Point.is)

pub returns-in-Slice-clause-is : goal.returns-in-Slice-clause-is
returns-in-Slice-clause-is c =
    let table = c.args.self.now in
    inner_held table c.args.ty c.inner-in-Slice.result c.requires.of c.inner-in-Slice.ensures SliceType (λ t. refl)
    (shape_of table c.args.ty c.node-node.result.now c.node-node.ensures heads.Slice c.in-Slice.is)

pub returns-in-Array-clause-is : goal.returns-in-Array-clause-is
returns-in-Array-clause-is c =
    let table = c.args.self.now in
    inner_held table c.args.ty c.inner-in-Array.result c.requires.of c.inner-in-Array.ensures (λ t. ArrayType t c.in-Array.n) (λ t. refl)
    (shape_of table c.args.ty c.node-node.result.now c.node-node.ensures (heads.Array c.in-Array.n) c.in-Array.is)
