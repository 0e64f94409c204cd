use Rattle.std.proofs.Common.{◌≡◌, ◌++◌, drop, map}
use Rattle.explain_report.specs.Records.{overlap_view}
use Rattle.explain_text.specs.Findings.{finding_view, overlap_finding}
use Rattle.explain_text.proofs.findings.add_overlaps.Given as goal

abbrev pub invariant-loop-one : goal.invariant-loop-one
invariant-loop-one l =
    map finding_view l.found.items ++ map (overlap_finding l.pieces l.function) (map overlap_view (drop l.one-index l.all))
    ≡ map finding_view l.initial.found.items ++ map (overlap_finding l.pieces l.function) (map overlap_view l.all)
