use Rattle.std.proofs.Common.{◌≡◌, ℕ, ◌-◌, ◌+◌, map, take, drop, ap, ◌∙◌, arith}
use Rattle.match_model.specs.Types.{types_list}
use Rattle.match_model.specs.Constructors.{WildCtor}
use Rattle.pattern_rules.specs.Builders.{leaf, types_or_none}
use Rattle.match_model.specs.Declarations.{node_types}
use Rattle.type_table.specs.Tables.{IsOf, table_program, table_type, fields_of_type}
use Rattle.pattern_elaboration.proofs.FieldLists.{made_trees}
use Rattle.pattern_elaboration.proofs.RowLists.{wild_between}
use Rattle.pattern_elaboration.proofs.rows.wildcards.Goals as goal

pub loop-i-preserved : goal.loop-i-preserved
loop-i-preserved c =
    let table = c.args.table.now in
    let ps = c.loop-i.all.items in
    let p = c.in_ok-part.part in
    rw c.in_ok-push.ensures.items record {
      shown = wild_between (table_type table) ps p (node_types (table_program table)
          (table_type table c.args.ty) 0) c.args.front c.loop-i.i c.loop-i.next
          c.field.result c.loop-i.auto.i c.loop-i.invariant.shown c.field.ensures.type_is c.in_ok-part.ensures.tree;
      within = omega (arith, c.loop-i-test.true, c.loop-i.auto.i);
      made = made_trees (IsOf table) c.args.next.now c.loop-i.next c.leaf.new.next ps p c.loop-i.invariant.made
          (c.in_ok-part.ensures.made table c.field.ensures.of);
    }

pub returns-clause-shown : goal.returns-clause-shown
returns-clause-shown c =
    let table = c.args.table.now in
    let n = fields_of_type (table_program table) (table_type table c.args.ty) 0 in
    let ts = types_list (types_or_none (node_types (table_program table) (table_type table c.args.ty) 0)) in
    let count : c.loop-i.i - c.args.front ≡ n - (c.args.front + c.args.back) =
    omega (arith, c.loop-i.invariant.within, c.loop-i-test.false, c.saturating_sub-end.ensures, c.fields.ensures) in
    c.loop-i.invariant.shown ∙ ap (λ (k : ℕ). map (leaf WildCtor) (take k (drop c.args.front ts))) count
