-- Rows of a column of which some pieces have the first alone, since it is taken there (our own choice).
use Rattle.std.specs.Prelude.{◌≡◌, ◌⊎◌, ◌≤◌, ◌<◌, ◌+◌, ℕ, zero, suc, Bool, true, not, ◌&&◌, List, [], ◌∷◌, map, take, drop, length, Some, None, slice_get, cond}
use Rattle.std.specs.List.{All, list_all}
use Rattle.match_model.specs.ArenaPatterns.{de_pat, de_pats_list}
use Rattle.match_model.specs.Matrices.{MRow}
use Rattle.match_model.specs.Rows.{Head, is_wild}
use Rattle.constructor_sets.specs.declared.piece.Span.{Span}
use Rattle.pattern_matrix.specs.Halving.{span_meets, having, leaves_with}
use Rattle.pattern_matrix.specs.Parts.{plain_spans}
use Rattle.pattern_matrix.specs.declared.halving.Part.{Part}

-- the head in the column, a wildcard where there is none
abbrev pub head_there : {T : Type 0} → (i : ℕ) → List (Head T) → Head T
head_there i [] = None
head_there zero (h ∷ hs) = h
head_there (suc i) (h ∷ hs) = head_there i hs

-- all patterns below the head pass the test
abbrev pub parts_pass : {T : Type 0} → (Head T → Bool) → Head T → Bool
parts_pass q None = true
parts_pass q (Some (de_pat c t uid at subs binds)) = list_all q (map Some (de_pats_list subs))

-- how many heads do not pass the test
abbrev pub count_unless : {T : Type 0} → (Head T → Bool) → List (Head T) → ℕ
count_unless q [] = 0
count_unless q (h ∷ hs) = cond (q h) (count_unless q hs) (suc (count_unless q hs))

-- whatever piece of the column is entered that the row has, all its heads pass the test then, and it has no guard: those in
-- the other columns pass, and the patterns below its head in this one
abbrev pub takes_by : {T : Type 0} → (Head T → Bool) → (i : ℕ) → MRow T → Bool
takes_by q i r =
    not r.guarded && (parts_pass q (head_there i r.heads) && (list_all q (take i r.heads) && list_all q (drop (i + 1) r.heads)))

-- the patterns below the head are wildcards and names
abbrev pub is_flat : {T : Type 0} → Head T → Bool
is_flat h = parts_pass is_wild h

-- how many heads are neither wildcards nor names
abbrev pub open_count : {T : Type 0} → List (Head T) → ℕ
open_count hs = count_unless is_wild hs

-- whatever piece of the column is entered that the row has, the row is taken
abbrev pub takes_pieces : {T : Type 0} → (i : ℕ) → MRow T → Bool
takes_pieces i r = takes_by is_wild i r

-- the row with the number is such a row
pub record TakesPieces {T : Type 0} (i : ℕ) (rows : List (MRow T)) (number : ℕ) : Type 0 where
  pub row : MRow T
  pub got : slice_get rows number ≡ Some row
  pub takes : takes_pieces i row ≡ true

-- where the row with the number has a piece of the range it is such a row, as these spans tell
abbrev pub TakesMet : {T : Type 0} → (i : ℕ) → List (MRow T) → List (ℕ × ℕ) → (first end : ℕ) → (number : ℕ) → Type 0
TakesMet i rows spans first end number =
    span_meets first end (slice_get spans number) ≡ true → TakesPieces i rows number

-- both lists begin with the number of such a row
pub record BeginAlike {T : Type 0} (i : ℕ) (rows : List (MRow T)) (some all : List ℕ) : Type 0 where
  pub first : ℕ
  pub takes : TakesPieces i rows first
  pub behind : List ℕ
  pub others : List ℕ
  pub some_are : some ≡ first ∷ behind
  pub all_are : all ≡ first ∷ others

-- these numbers are all of those, or begin as they do, with the number of a row that takes its pieces
abbrev pub AreEnough : {T : Type 0} → (i : ℕ) → List (MRow T) → (some all : List ℕ) → Type 0
AreEnough i rows some all = (some ≡ all) ⊎ BeginAlike i rows some all

-- a range of pieces, and numbers of rows that are enough for each of them
pub record IsCutPart {T : Type 0} (i : ℕ) (rows : List (MRow T)) (spans : List Span) (p : Part) : Type 0 where
  pub some : p.first < p.end
  pub within : All (λ k. k < length spans) p.leaves.items
  pub enough : (j : ℕ) → p.first ≤ j → j < p.end →
      AreEnough i rows (having (plain_spans spans) j p.leaves.items) (leaves_with (plain_spans spans) j)

-- what is kept of the numbers of a part is enough for each of its pieces
pub record IsCutTo {T : Type 0} (i : ℕ) (rows : List (MRow T)) (spans : List Span) (first end : ℕ) (numbers kept : List ℕ) :
    Type 0 where
  pub within : All (λ k. k < length spans) kept
  pub enough : (j : ℕ) → first ≤ j → j < end →
      AreEnough i rows (having (plain_spans spans) j kept) (having (plain_spans spans) j numbers)

-- of these numbers the first stands alone, that of a row that takes its pieces
pub record IsFirstAlone {T : Type 0} (i : ℕ) (rows : List (MRow T)) (some all : List ℕ) : Type 0 where
  pub first : ℕ
  pub takes : TakesPieces i rows first
  pub others : List ℕ
  pub alone : some ≡ first ∷ []
  pub all_are : all ≡ first ∷ others

-- these numbers are all of those, or the first of them alone, that of a row that takes its pieces
abbrev pub AreLed : {T : Type 0} → (i : ℕ) → List (MRow T) → (some all : List ℕ) → Type 0
AreLed i rows some all = (some ≡ all) ⊎ IsFirstAlone i rows some all
