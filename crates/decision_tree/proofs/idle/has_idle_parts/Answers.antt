use Rattle.std.proofs.Common.{ap}
use Rattle.decision_tree.specs.Idle.{is_idle}
use Rattle.keyed_matrix.specs.Views.{plain_head}
use Rattle.decision_tree.specs.Cutting.{parts_pass}
use Rattle.decision_tree.proofs.Enough.{flat-parts}
use Rattle.decision_tree.proofs.idle.has_idle_parts.Goals as goal

pub returns-in-Some : goal.returns-in-Some
returns-in-Some g c =
    let parts = flat-parts is_idle c.in-Some.p.now in
    let same = ap (λ h. parts_pass is_idle (plain_head h)) c.in-Some.is in
    cc
