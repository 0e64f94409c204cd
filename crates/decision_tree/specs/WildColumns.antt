-- Rows without a column in which every row is wild (our own choice).
use Rattle.std.specs.Prelude.{◌≡◌, ◌<◌, ℕ, zero, suc, Bool, true, false, ◌&&◌, List, [], ◌∷◌, ◌++◌, map, drop, length, slice_get, Some, None}
use Rattle.match_model.specs.Lists.{Every}
use Rattle.match_model.specs.Lowering.{all_wild_at}
use Rattle.match_model.specs.Matrices.{MColumn, MRow, head_binds}
use Rattle.match_model.specs.Places.{MStep}
use Rattle.match_model.specs.Rows.{Head, is_wild, starts_wild, wildcards}
use Rattle.match_model.specs.Steps.{replaced_at}
use Rattle.match_model.specs.Trees.{MBind}

-- the head of column `i`
abbrev pub head_at : {T : Type 0} → (i : ℕ) → List (Head T) → Head T
head_at i [] = None
head_at zero (h ∷ hs) = h
head_at (suc i) (h ∷ hs) = head_at i hs

-- the row without its head at column `i`, which has this place; the names that it bound there are caught before all others
abbrev pub left_out : {T : Type 0} → List MStep → (i : ℕ) → MRow T → MRow T
left_out place i r = record r {
  heads = replaced_at i r.heads [];
  caught = head_binds place (head_at i r.heads) ++ r.caught;
}

-- so each of the rows
abbrev pub all_left_out : {T : Type 0} → List MStep → (i : ℕ) → List (MRow T) → List (MRow T)
all_left_out place i rows = map (left_out place i) rows

-- each row has a wildcard or a name in column `i`
abbrev pub AreWildAt : {T : Type 0} → (i : ℕ) → List (MRow T) → Type 0
AreWildAt i rows = Every (λ r. is_wild (head_at i r.heads) ≡ true) rows

-- each row has a head for each column
abbrev pub AreAsLong : {T : Type 0} → List (MColumn T) → List (MRow T) → Type 0
AreAsLong columns rows = Every (λ r. length r.heads ≡ length columns) rows

-- those of a list that are not marked; behind the marks all stay
abbrev pub unmarked : {A : Type 0} → List Bool → List A → List A
unmarked [] xs = xs
unmarked (mark ∷ marks) [] = []
unmarked (true ∷ marks) (x ∷ xs) = unmarked marks xs
unmarked (false ∷ marks) (x ∷ xs) = x ∷ unmarked marks xs

-- the names that heads bind in marked columns, in the order of these
abbrev pub marked_binds : {T : Type 0} → List Bool → List (MColumn T) → List (Head T) → List MBind
marked_binds [] columns heads = []
marked_binds (mark ∷ marks) [] heads = []
marked_binds (mark ∷ marks) (c ∷ columns) [] = []
marked_binds (true ∷ marks) (c ∷ columns) (h ∷ heads) = head_binds c.place h ++ marked_binds marks columns heads
marked_binds (false ∷ marks) (c ∷ columns) (h ∷ heads) = marked_binds marks columns heads

-- the row without its heads in marked columns; the names that it bound there are caught before all others
abbrev pub unmarked_row : {T : Type 0} → List Bool → List (MColumn T) → MRow T → MRow T
unmarked_row marks columns r = record r {
  heads = unmarked marks r.heads;
  caught = marked_binds marks columns r.heads ++ r.caught;
}

-- such columns are left out, one after the other
pub data LeavesOut {T : Type 0} (columns : List (MColumn T)) (rows : List (MRow T)) :
    List (MColumn T) → List (MRow T) → Type 0 where
  none_out : LeavesOut columns rows columns rows
  one_out : (i : ℕ) (c : MColumn T) (cs : List (MColumn T)) (rs : List (MRow T)) → slice_get cs i ≡ Some c →
      all_wild_at i rs ≡ true → LeavesOut columns rows cs rs →
      LeavesOut columns rows (replaced_at i cs []) (all_left_out c.place i rs)

-- all of them are: no column is left in which every row is wild
pub record AreLeftOut {T : Type 0} (columns : List (MColumn T)) (rows : List (MRow T)) (cs : List (MColumn T))
    (rs : List (MRow T)) : Type 0 where
  pub leaves : LeavesOut columns rows cs rs
  pub none_left : (i : ℕ) → i < length cs → all_wild_at i rs ≡ false

-- a mark stays where the head in its column is a wildcard or a name, and else is taken off; the first head stands in column `at`
pub record StayWhereWild {T : Type 0} (at : ℕ) (heads : List (Head T)) (old new : List Bool) : Type 0 where
  pub long : length new ≡ length old
  pub marks : (i : ℕ) (mark : Bool) → slice_get old i ≡ Some mark →
      slice_get new i ≡ Some (mark && starts_wild (drop i (wildcards at ++ heads)))

-- of each of so many columns whether every row is wild there
pub record AreWildMarks {T : Type 0} (count : ℕ) (rows : List (MRow T)) (marks : List Bool) : Type 0 where
  pub long : length marks ≡ count
  pub are : (i : ℕ) → i < count → slice_get marks i ≡ Some (all_wild_at i rows)
