use Rattle.std.proofs.Common.{◌≡◌, ◌++◌, drop, string_bytes}
use Rattle.std.specs.Prelude.{flat_map}
use Rattle.pat_context.specs.Views.{plain_place}
use Rattle.tree_text.specs.Places.{step_text}
use Rattle.tree_text.proofs.place.push_steps.Given as goal

abbrev pub invariant-loop-step : goal.invariant-loop-step
invariant-loop-step l =
    string_bytes l.text ++ flat_map step_text (plain_place (drop l.step-index l.steps))
    ≡ string_bytes l.initial.text ++ flat_map step_text (plain_place l.steps)
