use Rattle.std.proofs.Common.{◌≡◌, ◌++◌, map, drop, false, string_bytes}
use Rattle.serde_json.specs.View.{items_of}
use Rattle.serde_json.specs.Written.{items_text}
use Rattle.verdict_json.specs.Report.{overlap_entry}
use Rattle.verdict_json.specs.Trees.{overlap_view}
use Rattle.verdict_json.proofs.report.push_overlaps.Given as goal

abbrev pub invariant-loop-overlap : goal.invariant-loop-overlap
invariant-loop-overlap l =
    string_bytes l.text ++ items_text l.later (items_of (map overlap_entry (map overlap_view (drop l.overlap-index l.overlaps))))
    ≡ string_bytes l.initial.text ++ items_text false (items_of (map overlap_entry (map overlap_view l.overlaps)))
