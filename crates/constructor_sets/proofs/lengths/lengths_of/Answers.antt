use Rattle.std.proofs.Common.{List, refl, subst}
use Rattle.std.proofs.lemmas.List.{drop_all}
use Rattle.pat_context.specs.declared.ctor.Ctor.{Ctor}
use Rattle.constructor_sets.specs.Columns.{plain_ctors}
use Rattle.constructor_sets.specs.RowLengths.{IsShortRow}
use Rattle.constructor_sets.proofs.EachHead.{at_head}
use Rattle.constructor_sets.proofs.RowLengths.{Gathered, none_gathered, all_gathered, one_more}
use Rattle.constructor_sets.proofs.lengths.lengths_of.Goals as goal

pub add_head-requires : goal.add_head-requires
add_head-requires c = at_head IsShortRow c.args.column.now c.loop-head.head-index c.head-item.result c.requires c.loop-head-test.true c.head-item.is

pub loop-head-init : goal.loop-head-init
loop-head-init c = none_gathered (plain_ctors c.args.column.now) _ c.new.ensures.items refl refl refl

pub loop-head-preserved : goal.loop-head-preserved
loop-head-preserved c =
    one_more (plain_ctors c.args.column.now) c.args.column.now c.loop-head.head-index c.head-item.result c.loop-head.lengths c.add_head.new.lengths c.loop-head-test.true c.head-item.is
    (at_head IsShortRow c.args.column.now c.loop-head.head-index c.head-item.result c.requires c.loop-head-test.true c.head-item.is) c.in_ok-add_head.ensures c.loop-head.invariant

pub returns : goal.returns
returns c =
    let heads = c.args.column.now in
    all_gathered (plain_ctors heads) c.loop-head.lengths
    (subst (λ (hs : List Ctor). Gathered (plain_ctors hs) (plain_ctors heads) c.loop-head.lengths) (drop_all c.loop-head.head-index heads c.loop-head-test.false) c.loop-head.invariant)
