use Rattle.keyed_rows.proofs.ArmWays.{pat-fine}
use Rattle.keyed_rows.proofs.ways_ascend.Goals as goal

pub returns : goal.returns
returns g c = λ decides p n v i. (pat-fine decides p n v i).ordered
