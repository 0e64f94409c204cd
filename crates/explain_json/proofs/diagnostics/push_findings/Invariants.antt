use Rattle.std.proofs.Common.{◌≡◌, ◌++◌, drop, map, string_bytes}
use Rattle.std.specs.Prelude.{flat_map}
use Rattle.explain_text.specs.Diagnostics.{diagnostic_view}
use Rattle.explain_json.specs.Diagnostics.{finding_line}
use Rattle.explain_json.proofs.diagnostics.push_findings.Given as goal

abbrev pub invariant-loop-one : goal.invariant-loop-one
invariant-loop-one l =
    string_bytes l.text ++ flat_map (finding_line l.source.paint l.source.name.now l.source.text.now l.source.mark) (map diagnostic_view (drop l.one-index l.found))
    ≡ string_bytes l.initial.text ++ flat_map (finding_line l.source.paint l.source.name.now l.source.text.now l.source.mark) (map diagnostic_view l.found)
