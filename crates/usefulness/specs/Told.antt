-- Submatrices that were looked at, the words that tell them, and what stands beside these.
use Rattle.std.specs.Prelude.{◌≡◌, ◌<◌, ℕ, Bool, true, nat_eq, List, [], ◌∷◌, ◌++◌, Some, slice_get}
use Rattle.std.specs.List.{All, Contains, list_any}
use Rattle.match_model.specs.Values.{MValue}
use Rattle.match_model.specs.ArenaPatterns.{MDePat, uid_of}
use Rattle.match_model.specs.Contexts.{Context, Open}
use Rattle.pattern_matrix.specs.Counting.{Question}
use Rattle.pattern_matrix.specs.Searching.{Submatrix, weight_of, IsFit, IsSearch}
use Rattle.usefulness.specs.declared.told.ToldChosen.{ToldChosen}
use Rattle.usefulness.specs.Frames.{SparseAsked, numbers, sub_view, IsRowIn}
use Rattle.usefulness.specs.Memo.{Memo}
use Rattle.usefulness.specs.Scope.{Scope, patterns_of}
use Rattle.usefulness.specs.Words.{AreNumbered, words}

-- the words tell a submatrix that was looked at
pub record IsTold {T : Type 0} (IsType : T → Type 0) (IsValue : T → Bool → MValue → Type 0) (cx : Context T) (scope : Scope T) (seen : List (Submatrix T)) (w : List ℕ) : Type 0 where
  pub at : ℕ → ℕ
  pub shown : List (ℕ × Open T)
  pub rows : List (SparseAsked T)
  pub known : All (IsRowIn scope (numbers shown)) rows
  pub numbered : AreNumbered at 0 (numbers shown)
  pub fit : IsFit IsType IsValue cx (sub_view shown rows)
  pub one : Contains seen (sub_view shown rows)
  pub are : w ≡ words at shown rows

-- the list beside which the alternative stands tells a submatrix that was looked at, and there the row has chosen it
pub record IsToldBeside {T : Type 0} (IsType : T → Type 0) (IsValue : T → Bool → MValue → Type 0) (cx : Context T) (scope : Scope T) (seen : List (Submatrix T)) (lists : List (List ℕ)) (c : ToldChosen) : Type 0 where
  pub key : List ℕ
  pub listed : slice_get lists c.list ≡ Some key
  pub told : IsTold IsType IsValue cx scope seen key
  pub row : SparseAsked T
  pub found : slice_get told.rows c.row ≡ Some row
  pub has : list_any (nat_eq c.uid) row.row.chosen ≡ true

-- so do all words that were noted, and all alternatives beside them
pub record AreTold {T : Type 0} (IsType : T → Type 0) (IsValue : T → Bool → MValue → Type 0) (cx : Context T) (scope : Scope T) (seen : List (Submatrix T)) (memo : Memo) : Type 0 where
  pub lists : (w : List ℕ) → Contains memo.lists w → IsTold IsType IsValue cx scope seen w
  pub chosen : (c : ToldChosen) → Contains memo.chosen c → IsToldBeside IsType IsValue cx scope seen memo.lists c

-- from a search in which the one is to be looked at last comes one in which these are to be in its place
abbrev pub IsStep : {T : Type 0} → (T → Type 0) → (T → Bool → MValue → Type 0) → Context T → Scope T → (old now : Question → Bool) → (s : Submatrix T) → (new : List (Submatrix T)) → (memo after : Memo) → Type 0
IsStep {T} IsType IsValue cx scope old now s new memo after =
    (first : Submatrix T) (todo seen : List (Submatrix T)) → IsSearch IsType IsValue cx first old (todo ++ s ∷ []) seen → AreTold IsType IsValue cx scope seen memo →
    (more : List (Submatrix T)) × IsSearch IsType IsValue cx first now (todo ++ new) more × AreTold IsType IsValue cx scope more after

-- a uid tells the pattern
abbrev pub IsPinned : {T : Type 0} → Scope T → Type 0
IsPinned {T} scope = (p q : MDePat T) → Contains (patterns_of scope.written) p → Contains (patterns_of scope.written) q → uid_of p ≡ uid_of q → p ≡ q

-- the new ones weigh less
abbrev pub AreLighter : {T : Type 0} → List (Submatrix T) → Submatrix T → Type 0
AreLighter {T} new s = (n : Submatrix T) → Contains new n → weight_of n < weight_of s
