use Rattle.std.proofs.Common.{◌∙◌}
use Rattle.list_members.proofs.MemberLemmas.{among_set}
use Rattle.list_members.proofs.members.are_among.Goals as goal

pub returns : goal.returns
returns g c = c.has_all.ensures
    ∙ among_set g.K.PartialEq.eq g.met.K.Eq.laws c.args.first.now c.args.second.now c.in_ok-members.members.keys c.in_ok-members.ensures
