-- What follows of what is unreachable in a match from what its rows come to.
use Rattle.std.specs.Prelude.{◌≡◌, ◌↔◌, ◌<◌, ℕ, suc, Bool, true, false, not, cond, List, [], ◌∷◌, ◌++◌, length}
use Rattle.std.specs.List.{list_all, Contains}
use Rattle.match_model.specs.Values.{MValue}
use Rattle.match_model.specs.Constructors.{MCtor, MSet}
use Rattle.match_model.specs.Contexts.{Context, Open}
use Rattle.match_model.specs.Made.{IsMadeSet}
use Rattle.match_model.specs.Pieces.{ArePieces}
use Rattle.match_model.specs.Rows.{starts_wild}
use Rattle.match_model.specs.ArenaPatterns.{MDeMatch}
use Rattle.match_model.specs.ArenaWays.{match_arms, InMatchDomain}
use Rattle.match_model.specs.Match.{ArmWays, Alternatives, no_alternative, alternative, is_covered, comes_to, comes_through, IsArmReachable, IsAlternativeReachable}
use Rattle.match_model.specs.Unreachable.{Entry, IsUnreachableList}
use Rattle.match_model.specs.ArenaUnreachable.{in_reading_order, IsReadingList}
use Rattle.match_model.specs.Places.{MStep}
use Rattle.match_model.specs.Steps.{expand_head}
use Rattle.pattern_matrix.specs.Searching.{Submatrix, weight_of, heads_in, IsFit, Comes, SomeComes, apart, IsSplit}
use Rattle.pattern_matrix.specs.Counting.{Question, WantedRow, AreLong, wanted_at, counts, asked_rows, to_arm, through_alternative}

-- the rows of a match tell of each value to which arm it comes, and there through which alternatives, and whether no arm
-- covers it: then it comes to the row behind them
pub record RowsTell (T : Type 0) : Type 0 where
  pub arm : (m : MDeMatch T) (j : ℕ) (v : MValue) → j < length m.arms →
      counts (to_arm j) (asked_rows m) (v ∷ []) ≡ comes_to (match_arms m) j v
  pub alternative : (m : MDeMatch T) (j id : ℕ) (v : MValue) →
      counts (through_alternative j id) (asked_rows m) (v ∷ []) ≡ comes_through (match_arms m) j id v
  pub behind : (m : MDeMatch T) (v : MValue) →
      counts (to_arm (length m.arms)) (asked_rows m) (v ∷ []) ≡ not (is_covered (match_arms m) v)

-- the entries of the alternatives that are not marked, none inside another
abbrev pub left_in : (is_marked : ℕ → Bool) → (arm : ℕ) → Alternatives → List Entry
left_in is_marked j no_alternative = []
left_in is_marked j (alternative id at inside others) =
    cond (is_marked id) (left_in is_marked j inside) (record { arm = j; id = id; at = at; whole = false } ∷ [])
    ++ left_in is_marked j others

-- the entries of the arms from number `j` on
abbrev pub left_from : (is_arm_marked : ℕ → Bool) → (is_marked : (arm id : ℕ) → Bool) → ℕ → List ArmWays → List Entry
left_from is_arm_marked is_marked j [] = []
left_from is_arm_marked is_marked j (a ∷ rest) =
    cond (is_arm_marked j) (left_in (is_marked j) j a.alternatives) (record { arm = j; id = a.id; at = a.at; whole = true } ∷ [])
    ++ left_from is_arm_marked is_marked (suc j) rest

-- marks tell exactly which arms and alternatives are reachable
pub record AreMarksExact (Domain : MValue → Type 0) (arms : List ArmWays) (is_arm_marked : ℕ → Bool) (is_marked : (arm id : ℕ) → Bool) : Type 0 where
  pub arm : (j : ℕ) → j < length arms → (is_arm_marked j ≡ true) ↔ IsArmReachable Domain arms j
  pub alternative : (j id : ℕ) → j < length arms → (is_marked j id ≡ true) ↔ IsAlternativeReachable Domain arms j id

-- what such marks of a match leave is the list of what is unreachable, and in reading order the reading list
abbrev pub LeftIsUnreachable : {T : Type 0} → (T → Bool → MValue → Type 0) → Type 0
LeftIsUnreachable {T} IsValue =
    (m : MDeMatch T) (is_arm_marked : ℕ → Bool) (is_marked : (arm id : ℕ) → Bool) →
    AreMarksExact (InMatchDomain IsValue m) (match_arms m) is_arm_marked is_marked →
    IsUnreachableList (InMatchDomain IsValue m) (match_arms m) (left_from is_arm_marked is_marked 0 (match_arms m))
    × IsReadingList (InMatchDomain IsValue m) (match_arms m) (in_reading_order (left_from is_arm_marked is_marked 0 (match_arms m)))

-- expanding or-patterns, at whatever column, keeps what counts
abbrev pub ExpandingKeepsCounts : (T : Type 0) → Type 0
ExpandingKeepsCounts T =
    (q : Question) (place : List MStep) (i : ℕ) (rows : List (WantedRow T)) (vs : List MValue) → i < length vs → AreLong (length vs) rows →
    counts q (wanted_at expand_head place i rows) vs ≡ counts q rows vs

-- of a submatrix that fits, whose first place is taken apart: what values come to in it they come to in one of those that are
-- left, and in these nothing else; they fit too, and weigh less, where some head there is no wildcard
pub record SplitsHandOn {T : Type 0} (IsType : T → Type 0) (IsValue : T → Bool → MValue → Type 0) (cx : Context T) : Type 0 where
  pub on : (o : Open T) (places : List (Open T)) (rows : List (WantedRow T)) (left : List (Submatrix T)) →
      IsFit IsType IsValue cx (record { places = o ∷ places; rows = rows }) → IsSplit IsValue cx o places (apart rows) left →
      (q : Question) → Comes IsValue q (record { places = o ∷ places; rows = rows }) → SomeComes IsValue q left
  pub fit : (o : Open T) (places : List (Open T)) (rows : List (WantedRow T)) (left : List (Submatrix T)) →
      IsFit IsType IsValue cx (record { places = o ∷ places; rows = rows }) → IsSplit IsValue cx o places (apart rows) left →
      (n : Submatrix T) → Contains left n → IsFit IsType IsValue cx n
  pub back : (o : Open T) (places : List (Open T)) (rows : List (WantedRow T)) (left : List (Submatrix T)) →
      IsFit IsType IsValue cx (record { places = o ∷ places; rows = rows }) → IsSplit IsValue cx o places (apart rows) left →
      (n : Submatrix T) → Contains left n → (q : Question) → Comes IsValue q n → Comes IsValue q (record { places = o ∷ places; rows = rows })
  pub falls : (o : Open T) (places : List (Open T)) (rows : List (WantedRow T)) (left : List (Submatrix T)) →
      IsFit IsType IsValue cx (record { places = o ∷ places; rows = rows }) → IsSplit IsValue cx o places (apart rows) left →
      list_all starts_wild (heads_in rows) ≡ false →
      (n : Submatrix T) → Contains left n → weight_of n < weight_of (record { places = o ∷ places; rows = rows })

-- every column over a set whose ranges can be held has pieces
abbrev pub ColumnsHavePieces : Type 0
ColumnsHavePieces = (set : MSet) (heads : List MCtor) → IsMadeSet set → (pieces : List MCtor) × ArePieces set heads pieces
