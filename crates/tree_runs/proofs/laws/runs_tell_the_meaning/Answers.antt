use Rattle.tree_runs.proofs.Told.{runs_end, runs_ask}
use Rattle.tree_runs.proofs.laws.runs_tell_the_meaning.Goals as goal

pub returns : goal.returns
returns c = record {
  end = λ nodes v answers s o m r. runs_end nodes v answers s o m r;
  asked = λ nodes v answers s ns m a. runs_ask nodes v answers s ns m a;
}
