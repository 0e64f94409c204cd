use Rattle.std.proofs.Common.{refl, sym, ap, subst, ◌∙◌}
use Rattle.match_model.specs.Types.{PointType}
use Rattle.type_table.specs.declared.nodes.Head.TheVariants as heads
use Rattle.type_table.specs.Tables.{IsOf}
use Rattle.type_table.specs.Readers.{behind}
use Rattle.type_table.proofs.KindLemmas.{shape_of}
use Rattle.type_table.proofs.FieldLemmas.{base_behind}
use Rattle.type_table.proofs.PartLemmas.{inner_held, inner_is_of}
use Rattle.type_table.proofs.table.TypeTable.behind.Goals as goal

pub returns-in-Base-clause-type_is : goal.returns-in-Base-clause-type_is
returns-in-Base-clause-type_is c =
    base_behind c.in-Base.field-0 ∙ ap behind (sym (shape_of c.args.self.now c.args.ty c.node.result.now c.node.ensures (heads.Base c.in-Base.field-0) c.in-Base.is))

pub returns-in-Opaque-clause-type_is : goal.returns-in-Opaque-clause-type_is
returns-in-Opaque-clause-type_is c =
    ap behind (sym (shape_of c.args.self.now c.args.ty c.node.result.now c.node.ensures (heads.Opaque c.in-Opaque.field-0) c.in-Opaque.is))

pub returns-in-Tuple-clause-type_is : goal.returns-in-Tuple-clause-type_is
returns-in-Tuple-clause-type_is c =
    ap behind (sym (shape_of c.args.self.now c.args.ty c.node.result.now c.node.ensures (heads.Tuple) c.in-Tuple.is))

pub returns-in-Slice-clause-type_is : goal.returns-in-Slice-clause-type_is
returns-in-Slice-clause-type_is c =
    ap behind (sym (shape_of c.args.self.now c.args.ty c.node.result.now c.node.ensures (heads.Slice) c.in-Slice.is))

pub returns-in-Array-clause-type_is : goal.returns-in-Array-clause-type_is
returns-in-Array-clause-type_is c =
    ap behind (sym (shape_of c.args.self.now c.args.ty c.node.result.now c.node.ensures (heads.Array c.in-Array.field-0) c.in-Array.is))

pub returns-in-Named-clause-type_is : goal.returns-in-Named-clause-type_is
returns-in-Named-clause-type_is c =
    ap behind (sym (shape_of c.args.self.now c.args.ty c.node.result.now c.node.ensures (heads.Named c.in-Named.field-0) c.in-Named.is))

pub returns-in-Point-clause-type_is : goal.returns-in-Point-clause-type_is
returns-in-Point-clause-type_is c =
    let table = c.args.self.now in
    let held = inner_held table c.args.ty c.inner.result c.requires.of c.inner.ensures (PointType c.in-Point.field-0) (λ t. refl)
    (shape_of table c.args.ty c.node.result.now c.node.ensures (heads.Point c.in-Point.field-0) c.in-Point.is) in
    ap behind (sym held.1)

pub returns-in-Point-clause-of : goal.returns-in-Point-clause-of
returns-in-Point-clause-of c = subst (IsOf c.args.self.now) (sym c.inner.ensures) (inner_is_of c.args.self.now c.args.ty c.requires.of)
