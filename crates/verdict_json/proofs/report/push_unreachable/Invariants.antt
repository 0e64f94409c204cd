use Rattle.std.proofs.Common.{◌≡◌, ◌++◌, map, drop, false, string_bytes}
use Rattle.serde_json.specs.View.{items_of}
use Rattle.serde_json.specs.Written.{items_text}
use Rattle.verdict_json.specs.Report.{unreachable_data}
use Rattle.verdict_json.specs.Trees.{unreachable_view}
use Rattle.verdict_json.proofs.report.push_unreachable.Given as goal

abbrev pub invariant-loop-entry : goal.invariant-loop-entry
invariant-loop-entry l =
    string_bytes l.text ++ items_text l.later (items_of (map unreachable_data (map unreachable_view (drop l.entry-index l.entries))))
    ≡ string_bytes l.initial.text ++ items_text false (items_of (map unreachable_data (map unreachable_view l.entries)))
