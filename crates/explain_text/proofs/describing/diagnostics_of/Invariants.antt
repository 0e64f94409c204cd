use Rattle.std.proofs.Common.{◌≡◌, ◌++◌, drop, map}
use Rattle.explain_report.specs.Arms.{arms_view}
use Rattle.explain_text.specs.Diagnosing.{diagnostic_of}
use Rattle.explain_text.specs.Diagnostics.{diagnostic_view}
use Rattle.explain_text.specs.Findings.{finding_view}
use Rattle.explain_text.proofs.describing.diagnostics_of.Given as goal

abbrev pub invariant-loop-finding : goal.invariant-loop-finding
invariant-loop-finding l =
    map diagnostic_view l.all.items ++ map (diagnostic_of l.text l.mark (map arms_view l.arms)) (map finding_view (drop l.finding-index l.findings))
    ≡ map (diagnostic_of l.text l.mark (map arms_view l.arms)) (map finding_view l.findings)
