use Rattle.std.proofs.Common.{◌≡◌, ◌++◌, drop, map}
use Rattle.explain_report.specs.Records.{function_view}
use Rattle.explain_text.specs.Findings.{finding_view, functions_findings}
use Rattle.explain_text.proofs.findings.functions_findings.Given as goal

abbrev pub invariant-loop-i : goal.invariant-loop-i
invariant-loop-i l =
    map finding_view l.found.items ++ functions_findings l.site.pieces.now l.i (map function_view (drop l.i l.functions))
    ≡ functions_findings l.site.pieces.now 0 (map function_view l.functions)
