use Rattle.std.proofs.Common.{sym, ap, ◌∙◌}
use Rattle.std.proofs.lemmas.Bool.{eqb-true}
use Rattle.type_table.specs.declared.nodes.Head.TheVariants as heads
use Rattle.type_table.specs.Nodes.{owner_arguments}
use Rattle.type_names.specs.Views.{owner_view}
use Rattle.type_table.specs.Readers.{type_owner}
use Rattle.type_table.proofs.KindLemmas.{shape_of, parts_fit}
use Rattle.type_table.proofs.FieldLemmas.{base_owner}
use Rattle.type_table.proofs.table.TypeTable.named.Goals as goal

pub returns-in-Base-clause-owner : goal.returns-in-Base-clause-owner
returns-in-Base-clause-owner c =
    base_owner c.in-Base.field-0 ∙ ap type_owner (sym (shape_of c.args.self.now c.args.ty c.node.result.now c.node.ensures (heads.Base c.in-Base.field-0) c.in-Base.is))

pub returns-in-Opaque-clause-owner : goal.returns-in-Opaque-clause-owner
returns-in-Opaque-clause-owner c =
    ap type_owner (sym (shape_of c.args.self.now c.args.ty c.node.result.now c.node.ensures (heads.Opaque c.in-Opaque.field-0) c.in-Opaque.is))

pub returns-in-Tuple-clause-owner : goal.returns-in-Tuple-clause-owner
returns-in-Tuple-clause-owner c =
    ap type_owner (sym (shape_of c.args.self.now c.args.ty c.node.result.now c.node.ensures (heads.Tuple) c.in-Tuple.is))

pub returns-in-Point-clause-owner : goal.returns-in-Point-clause-owner
returns-in-Point-clause-owner c =
    ap type_owner (sym (shape_of c.args.self.now c.args.ty c.node.result.now c.node.ensures (heads.Point c.in-Point.field-0) c.in-Point.is))

pub returns-in-Slice-clause-owner : goal.returns-in-Slice-clause-owner
returns-in-Slice-clause-owner c =
    ap type_owner (sym (shape_of c.args.self.now c.args.ty c.node.result.now c.node.ensures (heads.Slice) c.in-Slice.is))

pub returns-in-Array-clause-owner : goal.returns-in-Array-clause-owner
returns-in-Array-clause-owner c =
    ap type_owner (sym (shape_of c.args.self.now c.args.ty c.node.result.now c.node.ensures (heads.Array c.in-Array.field-0) c.in-Array.is))

pub returns-in-Named-clause-owner : goal.returns-in-Named-clause-owner
returns-in-Named-clause-owner c =
    ap type_owner (sym (shape_of c.args.self.now c.args.ty c.node.result.now c.node.ensures (heads.Named c.in-Named.owner) c.in-Named.is))

pub returns-in-Named-clause-by : goal.returns-in-Named-clause-by
returns-in-Named-clause-by c =
    let table = c.args.self.now in (
      shape_of table c.args.ty c.node.result.now c.node.ensures (heads.Named c.in-Named.owner) c.in-Named.is,
      eqb-true _ (owner_arguments (owner_view c.in-Named.owner)) (parts_fit table c.args.ty c.node.result.now c.node.ensures (heads.Named c.in-Named.owner) c.in-Named.is),
    )
