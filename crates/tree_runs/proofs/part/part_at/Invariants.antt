use Rattle.std.proofs.Common.{◌≡◌, drop}
use Rattle.match_model.specs.Places.{part_at}
use Rattle.pat_context.specs.Views.{plain_place}
use Rattle.tree_eval.specs.Views.{plain_value}
use Rattle.tree_runs.specs.Parts.{plain_part}
use Rattle.tree_runs.proofs.part.part_at.Given as goal

abbrev pub invariant-loop-step : goal.invariant-loop-step
invariant-loop-step l =
    part_at (plain_place (drop l.step-index l.steps)) (plain_part l.part)
    ≡ part_at (plain_place l.steps) (plain_value l.value)
