use Rattle.std.proofs.Common.{◌≡◌, ◌-◌, length}
use Rattle.std.specs.List.{All}
use Rattle.explain_lines.specs.Steps.{IsSpotOf}
use Rattle.explain_lines.proofs.spots.all_checkpoints.Given as goal

abbrev pub invariant-loop-spot : goal.invariant-loop-spot
invariant-loop-spot l = record { all : All (IsSpotOf l.text) l.spots.items; here : IsSpotOf l.text l.spot }

abbrev pub decreases-loop-spot : goal.decreases-loop-spot
decreases-loop-spot l = length l.text - l.spot.at
