-- What is marked.
use Rattle.std.specs.Prelude.{ℕ, Bool, false, ◌&&◌, cond, nat_eq, List, slice_index_or}
use Rattle.std.specs.List.{list_any}
use Rattle.pattern_matrix.specs.Counting.{Question, has_chosen}
use Rattle.usefulness.specs.declared.marks.Alternative.{Alternative}
use Rattle.usefulness.specs.declared.marks.Marks.{Marks}

-- the alternative is the one that is asked for
abbrev pub is_asked : Question → Alternative → Bool
is_asked q a = nat_eq q.arm a.arm && nat_eq q.id a.uid

-- the question is marked in the tables
abbrev pub in_tables : (arms : List Bool) → (alternatives : List Alternative) → Question → Bool
in_tables arms alternatives q =
    cond q.whole (slice_index_or arms q.arm false) (list_any (is_asked q) alternatives)

-- the question is of the arm, and the arm itself is asked for or one of these alternatives
abbrev pub is_answer : (arm : ℕ) → (chosen : List ℕ) → Question → Bool
is_answer arm chosen q = nat_eq q.arm arm && has_chosen q chosen

-- the question is marked
abbrev pub is_marked : Marks → Question → Bool
is_marked m q = in_tables m.arms.items m.alternatives.keys q
