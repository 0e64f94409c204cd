-- The search for what is reached: what is still to be looked at, and what comes of it (Maranget 2007; that one row may be
-- wanted and another not, and the list of what is left, are our own choice).
use Rattle.std.specs.Prelude.{⊤, ◌≡◌, ◌⊎◌, ◌<◌, ◌+◌, ◌*◌, ℕ, zero, suc, Bool, true, false, not, ◌&&◌, ◌||◌, nat_eq, List, [], ◌∷◌, ◌++◌, map, length}
use Rattle.std.specs.List.{list_all, Contains}
use Rattle.match_model.specs.Values.{MValue}
use Rattle.match_model.specs.Constructors.{MCtor}
use Rattle.match_model.specs.Contexts.{Context, Open}
use Rattle.match_model.specs.ArenaPatterns.{MDeMatch}
use Rattle.match_model.specs.Pieces.{ArePieces}
use Rattle.match_model.specs.PieceStates.{IsPresentPiece, IsMissingPiece, named_in}
use Rattle.match_model.specs.Rows.{Head, is_wild, starts_wild, column_of, parts_open}
use Rattle.match_model.specs.Steps.{expand_head, specialise_head, default_head}
use Rattle.match_model.specs.Weights.{rows_weight}
use Rattle.pat_context.specs.Parts.{AreValues}
use Rattle.pattern_matrix.specs.Counting.{Question, WantedRow, has_chosen, row_answers, row_stops, counts, wanted_at, asked_rows}
use Rattle.pattern_matrix.specs.HeadRows.{cols, AreTypes, AllTyped, AreMadeRows}

-- rows over open places. Where a place lies in the value does not count, since nothing is asked of names
pub record Submatrix (T : Type 0) : Type 0 where
  pub places : List (Open T)
  pub rows : List (WantedRow T)

-- the heads of the rows
abbrev pub heads_in : {T : Type 0} → List (WantedRow T) → List (List (Head T))
heads_in rows = map (λ x. x.row.heads) rows

-- what the submatrix weighs
abbrev pub weight_of : {T : Type 0} → Submatrix T → ℕ
weight_of s = rows_weight (map (λ x. x.row) s.rows)

-- the places have types, and values; each row has a well-typed head for each place, whose ranges can be held
pub record IsFit {T : Type 0} (IsType : T → Type 0) (IsValue : T → Bool → MValue → Type 0) (cx : Context T) (s : Submatrix T) : Type 0 where
  pub types : AreTypes IsType (cols s.places)
  pub typed : AllTyped cx (cols s.places) (heads_in s.rows)
  pub made : AreMadeRows (heads_in s.rows)
  pub some : (vs : List MValue) × AreValues IsValue s.places vs

-- some values of the places come to a wanted row, as is asked
abbrev pub Comes : {T : Type 0} → (T → Bool → MValue → Type 0) → Question → Submatrix T → Type 0
Comes IsValue q s = (vs : List MValue) × AreValues IsValue s.places vs × (counts q s.rows vs ≡ true)

-- and so in one of the submatrices
abbrev pub SomeComes : {T : Type 0} → (T → Bool → MValue → Type 0) → Question → List (Submatrix T) → Type 0
SomeComes {T} IsValue q todo = (s : Submatrix T) × Contains todo s × Comes IsValue q s

-- the rows with the or-patterns of the first place taken apart
abbrev pub apart : {T : Type 0} → List (WantedRow T) → List (WantedRow T)
apart rows = wanted_at expand_head [] 0 rows

-- what is left where the value at the first place is of no piece that a head has: the rows that are wild there, without
-- that head
abbrev pub left_over : {T : Type 0} → List (Open T) → List (WantedRow T) → Submatrix T
left_over places rows = record { places = places; rows = wanted_at default_head [] 0 rows }

-- what is left where the value at the first place is of the piece: the rows that have it, with the heads of its parts
abbrev pub entered : {T : Type 0} → Context T → Open T → List (Open T) → List (WantedRow T) → (piece : MCtor) → Submatrix T
entered cx o places rows piece =
    record { places = parts_open cx o piece ++ places; rows = wanted_at (specialise_head piece (cx.arity piece o.type)) [] 0 rows }

-- the rows that are wild at the first place are wanted no more, since they were looked for where they are left over
abbrev pub settled : {T : Type 0} → List (WantedRow T) → List (WantedRow T)
settled rows = map (λ x. record { row = x.row; wanted = x.wanted && not (starts_wild x.row.heads) }) rows

-- the constructors at the first place
abbrev pub first_ctors : {T : Type 0} → List (WantedRow T) → List MCtor
first_ctors rows = column_of (heads_in rows)

-- the pieces of a column, of which these have values and are in heads; whether one that has values is in no head
pub record IsColumnCut {T : Type 0} (IsValue : T → Bool → MValue → Type 0) (cx : Context T) (o : Open T) (heads present : List MCtor) (missing : Bool) : Type 0 where
  pub pieces : List MCtor
  pub listed : ArePieces (cx.set_of o.type) heads pieces
  pub each_present : (p : MCtor) → Contains present p → Contains pieces p × IsPresentPiece IsValue o (named_in pieces) heads p
  pub all_present : (p : MCtor) → Contains pieces p → IsPresentPiece IsValue o (named_in pieces) heads p → Contains present p
  pub one_missing : missing ≡ true → (p : MCtor) × Contains pieces p × IsMissingPiece IsValue o (named_in pieces) heads p
  pub none_missing : missing ≡ false → (p : MCtor) → Contains pieces p → IsMissingPiece IsValue o (named_in pieces) heads p → ⊥

-- what is left of rows without or-patterns at the first place, by its value: where all are wild there, they without it; else
-- for each present piece what has it, and where a piece is missing what is left over, once for all that are
pub data IsSplit {T : Type 0} (IsValue : T → Bool → MValue → Type 0) (cx : Context T) (o : Open T) (places : List (Open T)) (rows : List (WantedRow T)) : List (Submatrix T) → Type 0 where
  all_wild : list_all starts_wild (heads_in rows) ≡ true → IsSplit IsValue cx o places rows (left_over places rows ∷ [])
  none_missing : (present : List MCtor) → list_all starts_wild (heads_in rows) ≡ false →
      IsColumnCut IsValue cx o (first_ctors rows) present false →
      IsSplit IsValue cx o places rows (map (entered cx o places rows) present)
  some_missing : (present : List MCtor) → list_all starts_wild (heads_in rows) ≡ false →
      IsColumnCut IsValue cx o (first_ctors rows) present true →
      IsSplit IsValue cx o places rows (left_over places rows ∷ map (entered cx o places (settled rows)) present)

-- ---- rows that are listed, and rows that are left out

-- what counts where of the rows behind these so much does
abbrev pub counts_before : {T : Type 0} → Question → List (WantedRow T) → List MValue → (behind : Bool) → Bool
counts_before q [] vs k = k
counts_before q (x ∷ rows) vs k = (x.wanted && row_answers q x.row vs) || (not (row_stops x.row vs) && counts_before q rows vs k)

-- the row has only wildcards
abbrev pub is_bare : {T : Type 0} → WantedRow T → Bool
is_bare x = list_all is_wild x.row.heads

-- everything that the row may answer is marked, or nothing is looked for in the row
abbrev pub IsDone : {T : Type 0} → (is_marked : Question → Bool) → WantedRow T → Type 0
IsDone is_marked x = x.wanted ≡ true → (q : Question) (vs : List MValue) → row_answers q x.row vs ≡ true → is_marked q ≡ true

-- the row's arm is marked and what it has chosen, where it is wanted
abbrev pub IsNoted : {T : Type 0} → (is_marked : Question → Bool) → WantedRow T → Type 0
IsNoted is_marked x =
    x.wanted ≡ true → (q : Question) → (nat_eq q.arm x.row.arm && has_chosen q x.row.chosen) ≡ true → is_marked q ≡ true

-- the first list of rows of heads is what is left of the second where some are left out
pub data IsPart {T : Type 0} : List (List (Head T)) → List (List (Head T)) → Type 0 where
  no_more : IsPart [] []
  kept : (hs : List (Head T)) (xs ys : List (List (Head T))) → IsPart xs ys → IsPart (hs ∷ xs) (hs ∷ ys)
  left_out : (hs : List (Head T)) (xs ys : List (List (Head T))) → IsPart xs ys → IsPart xs (hs ∷ ys)

-- the kept rows do for those that were gone through, whatever stands behind them: what counts in these is marked or counts in
-- those, and nothing else counts there
pub record DoFor {T : Type 0} (is_marked : Question → Bool) (count : ℕ) (through kept : List (WantedRow T)) : Type 0 where
  pub on : (q : Question) (vs : List MValue) (k : Bool) → length vs ≡ count → counts_before q through vs k ≡ true →
      (is_marked q ≡ true) ⊎ (counts_before q kept vs k ≡ true)
  pub back : (q : Question) (vs : List MValue) (k : Bool) → length vs ≡ count → counts_before q kept vs k ≡ true →
      counts_before q through vs k ≡ true
  pub part : IsPart (heads_in kept) (heads_in through)

-- the same where nothing stands behind
pub record StandFor {T : Type 0} (is_marked : Question → Bool) (count : ℕ) (rows kept : List (WantedRow T)) : Type 0 where
  pub on : (q : Question) (vs : List MValue) → length vs ≡ count → counts q rows vs ≡ true →
      (is_marked q ≡ true) ⊎ (counts q kept vs ≡ true)
  pub back : (q : Question) (vs : List MValue) → length vs ≡ count → counts q kept vs ≡ true → counts q rows vs ≡ true
  pub part : IsPart (heads_in kept) (heads_in rows)

-- a row says what another does, but for alternatives that are marked
pub record IsAlike {T : Type 0} (is_marked : Question → Bool) (x y : WantedRow T) : Type 0 where
  pub heads : x.row.heads ≡ y.row.heads
  pub guarded : x.row.guarded ≡ y.row.guarded
  pub wanted : x.wanted ≡ y.wanted
  pub arm : x.wanted ≡ true → x.row.arm ≡ y.row.arm
  pub chosen : x.wanted ≡ true → (q : Question) → is_marked q ≡ false → has_chosen q x.row.chosen ≡ true → has_chosen q y.row.chosen ≡ true

-- ---- the search

-- the question is marked, or values come to it in a submatrix that is still to be looked at and weighs less than this
abbrev pub IsAccounted : {T : Type 0} → (T → Bool → MValue → Type 0) → (is_marked : Question → Bool) → List (Submatrix T) → Question → (weight : ℕ) → Type 0
IsAccounted {T} IsValue is_marked todo q w =
    (is_marked q ≡ true) ⊎ ((n : Submatrix T) × Contains todo n × (weight_of n < w) × Comes IsValue q n)

-- a search for what values come to in the first submatrix: what is marked is right; what is to be looked at fits, and what
-- values come to there they do in the first; what they come to in the first, or in one that was seen, is accounted for, by
-- lighter ones than those that were seen
pub record IsSearch {T : Type 0} (IsType : T → Type 0) (IsValue : T → Bool → MValue → Type 0) (cx : Context T) (first : Submatrix T) (is_marked : Question → Bool) (todo seen : List (Submatrix T)) : Type 0 where
  pub right : (q : Question) → is_marked q ≡ true → Comes IsValue q first
  pub fit : (s : Submatrix T) → Contains todo s → IsFit IsType IsValue cx s
  pub back : (s : Submatrix T) → Contains todo s → (q : Question) → Comes IsValue q s → Comes IsValue q first
  pub on : (q : Question) → Comes IsValue q first → IsAccounted IsValue is_marked todo q (suc (weight_of first))
  pub told : (s : Submatrix T) → Contains seen s → (q : Question) → Comes IsValue q s → IsAccounted IsValue is_marked todo q (weight_of s)

-- a submatrix is looked at: more is marked, all of it right, and what values come to in it is marked, or they come to it in a
-- new one, which is lighter
pub record IsLookedAt {T : Type 0} (IsType : T → Type 0) (IsValue : T → Bool → MValue → Type 0) (cx : Context T) (old now : Question → Bool) (s : Submatrix T) (new : List (Submatrix T)) : Type 0 where
  pub grow : (q : Question) → old q ≡ true → now q ≡ true
  pub right : (q : Question) → now q ≡ true → (old q ≡ true) ⊎ Comes IsValue q s
  pub fit : (n : Submatrix T) → Contains new n → IsFit IsType IsValue cx n
  pub lighter : (n : Submatrix T) → Contains new n → weight_of n < weight_of s
  pub back : (n : Submatrix T) → Contains new n → (q : Question) → Comes IsValue q n → Comes IsValue q s
  pub on : (q : Question) → Comes IsValue q s → (now q ≡ true) ⊎ SomeComes IsValue q new

-- `b` to the power of `n`
abbrev pub power : (b n : ℕ) → ℕ
power b zero = 1
power b (suc n) = b * power b n

-- how much there is to do, where fewer than `b` new submatrices come of one that is looked at
abbrev pub work : {T : Type 0} → (b : ℕ) → List (Submatrix T) → ℕ
work b [] = 0
work b (s ∷ todo) = power b (weight_of s) + work b todo

-- the children of a submatrix whose rows were listed: each stands for one that was left of it, and each of these has one, or
-- nothing is left in it
pub record AreListed {T : Type 0} (is_marked : Question → Bool) (left new : List (Submatrix T)) : Type 0 where
  pub each : (n : Submatrix T) → Contains left n → (rows : List (WantedRow T)) × StandFor is_marked (length n.places) n.rows rows
      × (Contains new (record { places = n.places; rows = rows }) ⊎ (rows ≡ []))
  pub of_left : (m : Submatrix T) → Contains new m → (n : Submatrix T) × Contains left n × (m.places ≡ n.places)
      × StandFor is_marked (length n.places) n.rows m.rows

-- rows that say the same, but for alternatives that are marked
abbrev pub AreAlike : {T : Type 0} → (is_marked : Question → Bool) → (rows others : List (WantedRow T)) → Type 0
AreAlike is_marked [] [] = ⊤
AreAlike is_marked [] (y ∷ others) = ⊥
AreAlike is_marked (x ∷ rows) [] = ⊥
AreAlike is_marked (x ∷ rows) (y ∷ others) = IsAlike is_marked x y × AreAlike is_marked rows others

-- ---- another place first

-- behind the first of the list
abbrev pub put_second : {A : Type 0} → A → List A → List A
put_second x [] = x ∷ []
put_second x (y ∷ ys) = y ∷ x ∷ ys

-- the list with number `i` in front of the others
abbrev pub moved : {A : Type 0} → (i : ℕ) → List A → List A
moved i [] = []
moved zero (x ∷ xs) = x ∷ xs
moved (suc i) (x ∷ xs) = put_second x (moved i xs)

-- the submatrix with place `i` in front of the others
abbrev pub moved_first : {T : Type 0} → (i : ℕ) → Submatrix T → Submatrix T
moved_first i s = record {
  places = moved i s.places;
  rows = map (λ x. record { row = record x.row { heads = moved i x.row.heads }; wanted = x.wanted }) s.rows;
}

-- ---- the first submatrix

-- the submatrix that the search begins with: the place of the scrutinee, the rows of the arms, and the one behind them
abbrev pub first_submatrix : {T : Type 0} → MDeMatch T → Submatrix T
first_submatrix m = record { places = record { type = m.type; sure = m.sure } ∷ []; rows = asked_rows m }
