-- The JSON of an outcome, piece by piece.
use Rattle.std.proofs.Common.{◌≡◌, refl, false, ◌++◌, map, codes}
use Rattle.serde_json.specs.Data.{string}
use Rattle.serde_json.specs.View.{items_of}
use Rattle.serde_json.specs.Written.{compact_text, items_text}
use Rattle.serde_json.proofs.OnLiterals.{serde_json_on_literals}
use Rattle.tree_text.specs.Reported.{count_data, mode_word}
use Rattle.verdict_json.specs.OutcomeTrees.{HeldTree, AskedTree, OutcomeTree}
use Rattle.verdict_json.specs.Outcomes.{held_data, bindings_data, asked_data, taken_arm_data, taken_bindings_data, ending_word, outcome_data}

pub held_written : (h : HeldTree) →
    compact_text (held_data h)
    ≡ codes "{\"mode\":" ++
    (compact_text (string (mode_word h.mode)) ++ (codes ",\"name\":" ++ (compact_text (string h.name)
    ++ (codes ",\"value\":" ++ (compact_text (string h.value) ++ codes "}")))))
unfolding serde_json_on_literals
held_written h = refl

pub asked_written : (a : AskedTree) →
    compact_text (asked_data a)
    ≡ codes "{\"arm\":" ++
    (compact_text (count_data a.arm)
    ++ (codes ",\"bindings\":" ++ (compact_text (bindings_data a.bindings) ++ codes "}")))
unfolding serde_json_on_literals
asked_written a = refl

pub outcome_written : (o : OutcomeTree) →
    compact_text (outcome_data o)
    ≡ codes "{\"arm\":" ++
    (compact_text (taken_arm_data o.ending)
    ++ (codes ",\"asked\":[" ++ (items_text false (items_of (map asked_data o.asked))
    ++ (codes ",\"bindings\":" ++ (compact_text (taken_bindings_data o.ending) ++ (codes ",\"outcome\":"
    ++ (compact_text (string (ending_word o.ending)) ++ codes "}")))))))
unfolding serde_json_on_literals
outcome_written o = refl
