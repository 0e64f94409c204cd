use Rattle.std.proofs.Common.{◌≡◌, ◌++◌, map, drop, false, string_bytes}
use Rattle.serde_json.specs.View.{items_of}
use Rattle.serde_json.specs.Written.{items_text}
use Rattle.verdict_json.specs.OutcomeTrees.{asked_view}
use Rattle.verdict_json.specs.Outcomes.{asked_data}
use Rattle.verdict_json.proofs.outcome.push_each_asked.Given as goal

abbrev pub invariant-loop-one : goal.invariant-loop-one
invariant-loop-one l =
    string_bytes l.text ++ items_text l.later (items_of (map asked_data (map asked_view (drop l.one-index l.asked))))
    ≡ string_bytes l.initial.text ++ items_text false (items_of (map asked_data (map asked_view l.asked)))
