use Rattle.std.proofs.Common.{sym, ap, ◌∙◌}
use Rattle.range_split.specs.Ends.{plain_end}
use Rattle.range_split.specs.Numbers.{num_value}
use Rattle.range_split.specs.Ranges.{plain_range}
use Rattle.pattern_lints.proofs.Mixed.{only}
use Rattle.pattern_lints.proofs.mixing.only_number.Goals as goal

pub returns-in-At : goal.returns-in-At
returns-in-At c x there =
    only (plain_range c.args.range.now) (num_value c.in-At.number) x (sym c.is_single.ensures ∙ c.if-not-is_single.false) (sym c.low.ensures ∙ ap plain_end c.in-At.is) there
