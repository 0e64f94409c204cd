use Rattle.range_split.specs.Ranges.{plain_range}
use Rattle.range_split.proofs.Pairs.{some_number}
use Rattle.range_split.proofs.laws.range_has_number.Goals as goal

pub returns : goal.returns
returns c = λ r. some_number (plain_range r).low (plain_range r).high r.ascending
