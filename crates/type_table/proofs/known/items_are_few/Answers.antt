use Rattle.std.proofs.Common.{subst}
use Rattle.std.proofs.lemmas.List.Elements.{All-more}
use Rattle.type_table.specs.Known.{IsFew}
use Rattle.type_table.proofs.known.items_are_few.Goals as goal

pub loop-item-preserved : goal.loop-item-preserved
loop-item-preserved c =
    All-more IsFew c.args.items.now c.loop-item.item-index c.item-item.result c.loop-item-test.true c.loop-item.invariant
    (subst IsFew c.item-item.is (c.is_few.ensures.0 c.if-not-is_few.false))
