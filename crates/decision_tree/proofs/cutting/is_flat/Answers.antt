use Rattle.std.proofs.Common.{ap}
use Rattle.match_model.specs.Rows.{is_wild}
use Rattle.keyed_matrix.specs.Views.{plain_head}
use Rattle.decision_tree.specs.Cutting.{is_flat}
use Rattle.decision_tree.proofs.Enough.{flat-parts}
use Rattle.decision_tree.proofs.cutting.is_flat.Goals as goal

pub returns-in-Some : goal.returns-in-Some
returns-in-Some g c =
    let parts = flat-parts is_wild c.in-Some.p.now in
    let same = ap (λ h. is_flat (plain_head h)) c.in-Some.is in
    cc
