use Rattle.std.proofs.Common.{◌≡◌, ◌++◌, map, drop, false, string_bytes}
use Rattle.serde_json.specs.View.{items_of}
use Rattle.serde_json.specs.Written.{items_text}
use Rattle.witness_text.specs.Trees.{witness_view}
use Rattle.witness_text.specs.Reported.{witness_data}
use Rattle.witness_text.proofs.report.push_entries.Given as goal

abbrev pub invariant-loop-witness : goal.invariant-loop-witness
invariant-loop-witness l =
    string_bytes l.text ++ items_text l.later (items_of (map witness_data (map witness_view (drop l.witness-index l.witnesses))))
    ≡ string_bytes l.initial.text ++ items_text false (items_of (map witness_data (map witness_view l.witnesses)))
