use Rattle.std.proofs.Common.{◌∙◌}
use Rattle.range_split.specs.Ends.{ends_ascend}
use Rattle.range_split.specs.Ranges.{plain_range}
use Rattle.range_split.proofs.Pairs.{meets_by_ends}
use Rattle.range_split.proofs.range.Range.meets.Goals as goal

pub returns-then-ascend : goal.returns-then-ascend
returns-then-ascend c =
    meets_by_ends (plain_range c.args.self.now) (plain_range c.args.other.now) c.ascend.result c.ascend-then-ascend.result
    c.args.self.now.ascending c.args.other.now.ascending
    (c.ascend.ensures ∙ λ i. ends_ascend (c.low.ensures i) (c.high.ensures i))
    (c.ascend-then-ascend.ensures ∙ λ i. ends_ascend (c.low-then-ascend.ensures i) (c.high-then-ascend.ensures i)) c.if-ascend.true
