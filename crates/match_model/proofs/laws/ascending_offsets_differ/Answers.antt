use Rattle.match_model.proofs.Empties.{offsets_then_differ}
use Rattle.match_model.proofs.laws.ascending_offsets_differ.Goals as goal

pub returns : goal.returns
returns c = offsets_then_differ
