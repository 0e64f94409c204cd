use Rattle.match_model.specs.Declarations.{node_types}
use Rattle.type_table.specs.Tables.{IsOf, table_program, table_type}
use Rattle.pattern_elaboration.proofs.FieldLists.{wild_field, made_trees}
use Rattle.pattern_elaboration.proofs.fields.wildcards.Goals as goal

pub loop-i-preserved : goal.loop-i-preserved
loop-i-preserved c =
    let table = c.args.table.now in
    let ps = c.loop-i.parts.items in
    let p = c.in_ok-part.part in
    rw c.in_ok-push.ensures.items record {
      shown = wild_field (table_type table) ps p (node_types (table_program table)
          (table_type table c.args.ty) c.args.variant) c.loop-i.i c.loop-i.next
          c.field.result c.loop-i.invariant.shown c.field.ensures.type_is c.in_ok-part.ensures.tree;
      made = made_trees (IsOf table) c.args.next.now c.loop-i.next c.leaf.new.next ps p c.loop-i.invariant.made
          (c.in_ok-part.ensures.made table c.field.ensures.of);
    }
