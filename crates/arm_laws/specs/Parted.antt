-- No meaning: where two witnesses of a list first differ. They do at two pieces of one column, of which something
-- holds.
use Rattle.std.specs.Prelude.{◌≡◌, ℕ, List, ◌∷◌, length}
use Rattle.match_model.specs.Constructors.{MCtor}
use Rattle.match_model.specs.Contexts.{Context, Open}
use Rattle.match_model.specs.Lists.{Among}
use Rattle.match_model.specs.Rows.{parts_open}
use Rattle.match_model.specs.Witness.{MWitness}
use Rattle.match_model.specs.WitnessList.{witness_of}

-- the first stands among these before the second
pub data StandsBefore (p q : MCtor) : List MCtor → Type 0 where
  first : (rest : List MCtor) → Among q rest → StandsBefore p q (p ∷ rest)
  later : (c : MCtor) (rest : List MCtor) → StandsBefore p q rest → StandsBefore p q (c ∷ rest)

-- something that holds of two pieces of a column at a place, with the texts that the column names
abbrev pub Holding : (T : Type 0) → Type 1
Holding T = Open T → List (List ℕ) → MCtor → MCtor → Type 0

mutual
  -- two witnesses of a place: they have two pieces of which it holds; or one piece, and its parts differ first so
  pub data PartedOne {T : Type 0} (cx : Context T) (Holds : Holding T) : Open T → MWitness → MWitness → Type 0 where
    by_pieces : (o : Open T) (named : List (List ℕ)) (p q : MCtor) (ws us : List MWitness) → Holds o named p q →
        length ws ≡ cx.arity p o.type → length us ≡ cx.arity q o.type →
        PartedOne cx Holds o (witness_of p named ws) (witness_of q named us)
    in_parts : (o : Open T) (p : MCtor) (named : List (List ℕ)) (ws us : List MWitness) → length ws ≡ cx.arity p
        o.type →
        length us ≡ cx.arity p o.type → Parted cx Holds (parts_open cx o p) ws us →
        PartedOne cx Holds o (witness_of p named ws) (witness_of p named us)

  -- two stacks of witnesses for these places: the first one differs so, or they are one and those behind differ so
  pub data Parted {T : Type 0} (cx : Context T) (Holds : Holding T) :
      List (Open T) → List MWitness → List MWitness → Type 0 where
    at_head : (o : Open T) (places : List (Open T)) (w u : MWitness) (ws us : List MWitness) →
        PartedOne cx Holds o w u → Parted cx Holds (o ∷ places) (w ∷ ws) (u ∷ us)
    behind : (o : Open T) (places : List (Open T)) (w : MWitness) (ws us : List MWitness) →
        Parted cx Holds places ws us → Parted cx Holds (o ∷ places) (w ∷ ws) (w ∷ us)
