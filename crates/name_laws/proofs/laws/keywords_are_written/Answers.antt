use Rattle.name_laws.proofs.Keywords.{keywords_are_written}
use Rattle.name_laws.proofs.laws.keywords_are_written.Goals as goal

pub returns : goal.returns
returns c = keywords_are_written
