-- No meaning: the names of a way as the program holds them, for the proofs of `names` and `ways`.
use Rattle.std.specs.Prelude.{List, [], ◌∷◌, map, reverse}
use Rattle.match_model.specs.ArenaPatterns.{MBound}
use Rattle.match_model.specs.ArenaWays.{bound_part}
use Rattle.match_model.specs.Values.{MValue}
use Rattle.match_model.specs.Ways.{Binding, bind_into}
use Rattle.pattern_arena.specs.Trees.{plain_bound}
use Rattle.tree_eval.specs.Views.{plain_value}
use Rattle.first_match.specs.declared.names.Seen.{Seen}

-- what a name of a pattern is bound to, where the pattern meets the value
abbrev pub bound_to : MValue → MBound → Binding
bound_to v b = record { name = b.name; mode = b.mode; value = bound_part b.part v }

-- a name that was seen
abbrev pub plain_seen : Seen → Binding
plain_seen s = bound_to (plain_value s.value.now) (plain_bound s.bound.now)

-- the bindings with these put in, the last one first
abbrev pub put_all : List Binding → List Binding → List Binding
put_all [] bs = bs
put_all (a ∷ rest) bs = bind_into a (put_all rest bs)

-- the bindings of names that were seen from the last one on
abbrev pub names_held : List Seen → List Binding
names_held seen = put_all (reverse (map plain_seen seen)) []
