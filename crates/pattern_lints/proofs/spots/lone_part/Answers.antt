use Rattle.std.proofs.Common.{sym, ap, ◌∙◌, option_map}
use Rattle.range_split.specs.Ranges.{plain_range}
use Rattle.pattern_lints.proofs.Entering.{only-part}
use Rattle.pattern_lints.proofs.spots.lone_part.Goals as goal

pub returns-in-None : goal.returns-in-None
returns-in-None g c = record {
  only = only-part c.args.p.now c.sub-lone.result.now c.if-p-ne1.false c.sub-lone.ensures.is;
  plain = sym c.several.ensures ∙ ap (option_map plain_range) c.in-None.is;
}
