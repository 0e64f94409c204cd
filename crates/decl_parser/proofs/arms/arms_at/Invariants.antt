use Rattle.std.proofs.Common.{◌≡◌, map, length}
use Rattle.decl_syntax.specs.Units.{left}
use Rattle.decl_syntax.proofs.ListLemmas.{with_front}
use Rattle.decl_syntax.specs.Items.{arm_view}
use Rattle.decl_parser.specs.ArmReading.{arms_at}
use Rattle.decl_parser.proofs.arms.arms_at.Given as goal

abbrev pub invariant-arms : goal.invariant-arms
invariant-arms l = with_front (map arm_view l.arms.items) (arms_at (left l.rest)) ≡ arms_at (left l.at)

abbrev pub decreases-arms : goal.decreases-arms
decreases-arms l = length (left l.rest)
