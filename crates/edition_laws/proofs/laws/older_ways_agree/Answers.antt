use Rattle.edition_laws.proofs.Agreed.{older_ways_agree}
use Rattle.edition_laws.proofs.laws.older_ways_agree.Goals as goal

pub returns : goal.returns
returns c = older_ways_agree
