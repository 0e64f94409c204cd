use Rattle.std.proofs.Common.{◌≡◌, ◌++◌, drop, map}
use Rattle.explain_text.specs.Findings.{finding_view, unreached_finding}
use Rattle.explain_text.proofs.findings.add_unreached.Given as goal

abbrev pub invariant-loop-one : goal.invariant-loop-one
invariant-loop-one l =
    map finding_view l.found.items ++ map (unreached_finding l.pieces l.function) (drop l.one-index l.all)
    ≡ map finding_view l.initial.found.items ++ map (unreached_finding l.pieces l.function) l.all
