use Rattle.std.proofs.Common.{◌≡◌, take}
use Rattle.pat_context.specs.Places.{steps_of}
use Rattle.decision_tree.proofs.binds.place_by.Given as goal

abbrev pub invariant-loop-step : goal.invariant-loop-step
invariant-loop-step l = steps_of l.place ≡ take l.step-index l.steps
