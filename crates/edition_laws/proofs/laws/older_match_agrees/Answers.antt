use Rattle.edition_laws.proofs.Agreed.{older_match_agrees}
use Rattle.edition_laws.proofs.laws.older_match_agrees.Goals as goal

pub returns : goal.returns
returns c = older_match_agrees
