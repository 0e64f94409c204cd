use Rattle.std.proofs.Common.{◌∙◌, ap, sym, ◌++◌, false, map, string_bytes}
use Rattle.serde_json.specs.View.{items_of}
use Rattle.serde_json.specs.Written.{items_text}
use Rattle.witness_text.proofs.Adding.{seven_added}
use Rattle.verdict_json.specs.OutcomeTrees.{asked_view, outcome_view}
use Rattle.verdict_json.specs.Outcomes.{asked_data}
use Rattle.verdict_json.proofs.OutcomeLines.{outcome_written}
use Rattle.verdict_json.proofs.outcome.push_outcome.Goals as goal

pub returns : goal.returns
unfolding lib.Utf8.encode
returns c =
    seven_added _ _ _ _ _ _ _ _ _ _ _ _ _ _ _ c.in_ok-push_str.ensures.bytes c.in_ok-push_taken_arm.ensures
    c.in_ok-push_str-2.ensures.bytes
    (c.in_ok-push_each_asked.ensures
    ∙ ap (λ us. string_bytes c.push_str-2.new.self ++ items_text false
    (items_of (map asked_data (map asked_view us)))) c.deref.ensures.value)
    c.in_ok-push_str-3.ensures.bytes c.in_ok-push_taken.ensures
    (c.in_ok-push_str-4.ensures.bytes ∙ ap (λ z. string_bytes c.push_taken.new.text ++ z) c.last_piece.ensures)
    ∙ ap (λ z. string_bytes c.args.text.now ++ z) (sym (outcome_written (outcome_view c.args.outcome.now)))
