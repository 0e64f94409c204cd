use Rattle.std.proofs.Common.{◌+◌, ◌++◌, ◌∷◌, [], Some, sym, ap, ◌∙◌}
use Rattle.decision_tree.specs.KnownViews.{uids_of}
use Rattle.decision_tree.proofs.KnownHeads.{more-some}
use Rattle.decision_tree.proofs.tells.goes_on.Goals as goal

pub returns-in-Some-uid-2 : goal.returns-in-Some-uid-2
returns-in-Some-uid-2 c = λ e.
    let heads = c.args.heads.now in
    let first = c.in-Some.first in
    let next = c.in-Some-uid-2.next in
    ap (λ x. uids_of x (heads.count + 1)) c.in-Some.is
    ∙ more-some first heads.count next (c.is_next.ensures e)
    ∙ ap (λ x. uids_of x heads.count ++ Some next ∷ []) (sym c.in-Some.is)
    ∙ ap (λ y. uids_of heads.first heads.count ++ y ∷ []) (sym c.in-Some-uid-2.is)
