use Rattle.std.proofs.Common.{sym, ◌∙◌}
use Rattle.pattern_lints.proofs.Entering.{only-part}
use Rattle.pattern_lints.proofs.hulls.only_part.Goals as goal

pub returns : goal.returns
returns g c = record {
  only = only-part c.args.p.now c.sub-only.result.now c.if-p-ne1.false c.sub-only.ensures.is;
  plain = sym c.is_kept.ensures ∙ c.if-is_kept.false;
}
