use Rattle.std.proofs.Common.{◌≡◌, ◌++◌, map, drop, false, string_bytes}
use Rattle.serde_json.specs.View.{items_of}
use Rattle.serde_json.specs.Written.{items_text}
use Rattle.verdict_json.specs.OutcomeTrees.{held_view}
use Rattle.verdict_json.specs.Outcomes.{held_data}
use Rattle.verdict_json.proofs.outcome.push_each_held.Given as goal

abbrev pub invariant-loop-held : goal.invariant-loop-held
invariant-loop-held l =
    string_bytes l.text ++ items_text l.later (items_of (map held_data (map held_view (drop l.held-index l.bindings))))
    ≡ string_bytes l.initial.text ++ items_text false (items_of (map held_data (map held_view l.bindings)))
