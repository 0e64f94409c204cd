use Rattle.std.proofs.Common.{map}
use Rattle.pattern_arena.specs.Trees.{plain_arm}
use Rattle.witness_search.specs.Opened.{places_of, numbers_of}
use Rattle.witness_search.specs.Starts.{starting_rows}
use Rattle.witness_search.specs.Wells.{heads_over}
use Rattle.witness_search.proofs.top.stacks_of_match.Given as goal

abbrev pub ghost-stacks_of : goal.ghost-stacks_of
ghost-stacks_of g a = record {
  places = places_of a.opened.items;
  rows = heads_over (numbers_of a.opened.items) (starting_rows (map plain_arm a.arms.now));
  arms = map plain_arm a.arms.now;
}
