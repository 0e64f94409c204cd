use Rattle.std.proofs.Common.{◌∙◌, ap}
use Rattle.first_match.specs.Names.{names_held}
use Rattle.first_match.proofs.Joined.{names_joined}
use Rattle.first_match.proofs.names.joined.Goals as goal

pub returns : goal.returns
returns c = ap names_held c.in_ok-extend_from_slice.ensures.items ∙ names_joined c.args.way.items c.args.first.now
