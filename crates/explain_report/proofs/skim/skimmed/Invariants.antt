use Rattle.std.proofs.Common.{◌≡◌, ◌++◌, drop}
use Rattle.explain_report.specs.Skimming.{skimmed_from, skimmed}
use Rattle.explain_report.proofs.skim.skimmed.Given as goal

abbrev pub invariant-loop-byte : goal.invariant-loop-byte
invariant-loop-byte l = l.kept.items ++ skimmed_from l.skim (drop l.byte-index l.text) ≡ skimmed l.text
