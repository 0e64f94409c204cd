use Rattle.std.proofs.Common.{◌∙◌}
use Rattle.range_split.specs.Ends.{ends_are_apart}
use Rattle.range_split.specs.Ranges.{plain_range}
use Rattle.range_split.proofs.Pairs.{below_by_ends}
use Rattle.range_split.proofs.range.Range.before.Goals as goal

pub returns : goal.returns
returns c =
    below_by_ends (plain_range c.args.self.now) (plain_range c.args.other.now) c.are_apart.result
    c.args.self.now.ascending c.args.other.now.ascending (c.are_apart.ensures ∙ λ i. ends_are_apart (c.high.ensures i) (c.low.ensures i))
