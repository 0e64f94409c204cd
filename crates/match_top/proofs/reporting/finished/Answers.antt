use Rattle.std.proofs.Common.{ap, refl}
use Rattle.match_top.specs.Reports.{status_of}
use Rattle.match_top.proofs.reporting.finished.Goals as goal

pub returns-clause-reported : goal.returns-clause-reported
returns-clause-reported c = λ command s unbroken h. record {
  unbroken = unbroken;
  entries = h.entries;
  each = h.each;
  text_is = c.in_ok-text.ensures h.entries h.text;
  status_is = ap status_of h.clean_is;
}

pub returns-clause-counted : goal.returns-clause-counted
returns-clause-counted c = λ command s unbroken h. record {
  unbroken = unbroken;
  entries = h.entries;
  each = h.each;
  counts = c.args.entries.counts;
  counts_are = h.counts;
  text_is = refl;
  status_is = ap status_of h.clean_is;
}
