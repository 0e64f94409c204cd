-- Rows over open columns, of which it is asked whether they cover all values, and what is known of such rows.
use Rattle.std.specs.Prelude.{◌≡◌, ℕ, Bool, true, false, List, [], ◌∷◌, ◌++◌, map}
use Rattle.std.specs.List.{All, Contains}
use Rattle.match_model.specs.Values.{MValue}
use Rattle.match_model.specs.ArenaPatterns.{MDePat, MDeArm}
use Rattle.match_model.specs.Contexts.{Context, Open}
use Rattle.match_model.specs.Rows.{Head}
use Rattle.pat_context.specs.Parts.{AreValues}
use Rattle.pattern_arena.specs.Trees.{plain_arm}
use Rattle.pattern_matrix.specs.Covering.{some_takes}
use Rattle.pattern_matrix.specs.HeadLists.{kept_heads}
use Rattle.pattern_matrix.specs.HeadRows.{cols, AreTypes, AllTyped, AreMadeRows}
use Rattle.pattern_matrix.specs.Sparse.{heads_at}
use Rattle.pattern_matrix.specs.Views.{plain_heads}
use Rattle.pattern_matrix.specs.Counting.{Question, to_arm}
use Rattle.pattern_matrix.specs.Searching.{Submatrix, IsFit, Comes}
use Rattle.usefulness.specs.declared.asking.Asking.{Asking}
use Rattle.usefulness.specs.declared.covered.Covered.{Covered}
use Rattle.usefulness.specs.Compact.{AreAllUsed}
use Rattle.usefulness.specs.Frames.{SparseAsked, numbers, places, sub_view, IsHeadIn, IsRowIn, AreOpen}
use Rattle.usefulness.specs.Keys.{told_keys}
use Rattle.usefulness.specs.Scope.{Scope}
use Rattle.usefulness.specs.Starting.{behind_row}
use Rattle.usefulness.specs.States.{plain_opens}
use Rattle.usefulness.specs.Told.{IsPinned}
use Rattle.usefulness.specs.Words.{AreNumbered, words}

-- ---- rows over open columns

-- the open columns, each with its number
abbrev pub asking_columns : {T : Type 0} → Asking T → List (ℕ × Open T)
asking_columns a = plain_opens a.columns.items

-- of each row the heads that it lists
abbrev pub asking_rows : {T : Type 0} → Asking T → List (List (ℕ × MDePat T))
asking_rows a = map (λ h. plain_heads (kept_heads h)) a.rows.items

-- the heads of the rows over the columns: a wildcard where a row lists none
abbrev pub heads_over : {T : Type 0} → (shown : List (ℕ × Open T)) → (rows : List (List (ℕ × MDePat T))) → List (List (Head T))
heads_over shown rows = map (λ heads. heads_at heads (numbers shown)) rows

-- the rows that are looked at are of the arm 0, and the one behind them of the arm 1
abbrev pub scope_asked : {T : Type 0} → List (MDeArm T) → Scope T
scope_asked arms = record { arms = 2; written = arms }

-- columns are open whose numbers differ and are below the next one, with types of the context, and with values; the rows list
-- heads at these columns that are no wildcards and patterns of the arms; over the columns they are well typed, and their ranges
-- can be held
pub record IsAsking {T : Type 0} (IsType : T → Type 0) (IsValue : T → Bool → MValue → Type 0) (cx : Context T) (arms : List (MDeArm T)) (next : ℕ) (shown : List (ℕ × Open T)) (rows : List (List (ℕ × MDePat T))) : Type 0 where
  pub columns : AreOpen next (numbers shown)
  pub heads : All (λ heads. All (IsHeadIn (scope_asked arms) (numbers shown)) heads) rows
  pub types : AreTypes IsType (cols (places shown))
  pub typed : AllTyped cx (cols (places shown)) (heads_over shown rows)
  pub made : AreMadeRows (heads_over shown rows)
  pub some : (vs : List MValue) × AreValues IsValue (places shown) vs

-- some row takes each list of values of the columns
abbrev pub AreAllTaken : {T : Type 0} → (T → Bool → MValue → Type 0) → (shown : List (ℕ × Open T)) → (rows : List (List (ℕ × MDePat T))) → Type 0
AreAllTaken IsValue shown rows = (vs : List MValue) → AreValues IsValue (places shown) vs → some_takes (heads_over shown rows) vs ≡ true

-- no row takes some list of values of the columns
abbrev pub AreSomeLeft : {T : Type 0} → (T → Bool → MValue → Type 0) → (shown : List (ℕ × Open T)) → (rows : List (List (ℕ × MDePat T))) → Type 0
AreSomeLeft IsValue shown rows = (vs : List MValue) × AreValues IsValue (places shown) vs × (some_takes (heads_over shown rows) vs ≡ false)

-- ---- what is known

-- whether some value comes to the row behind all others
abbrev pub behind : Question
behind = to_arm 1

-- the words tell a submatrix of which this holds, and each of whose columns has a head
pub record IsKnown {T : Type 0} (IsType : T → Type 0) (IsValue : T → Bool → MValue → Type 0) (cx : Context T) (arms : List (MDeArm T)) (Holds : Submatrix T → Type 0) (w : List ℕ) : Type 0 where
  pub at : ℕ → ℕ
  pub shown : List (ℕ × Open T)
  pub rows : List (SparseAsked T)
  pub known : All (IsRowIn (scope_asked arms) (numbers shown)) rows
  pub numbered : AreNumbered at 0 (numbers shown)
  pub fit : IsFit IsType IsValue cx (sub_view shown rows)
  pub used : AreAllUsed (numbers shown) rows
  pub are : w ≡ words at shown rows
  pub holds : Holds (sub_view shown rows)

-- the arms of the match whose rows are asked for
abbrev pub covered_arms : {T : Type 0} → Covered T → List (MDeArm T)
covered_arms c = map plain_arm c.arms.now

-- nothing is known yet
abbrev pub IsNew : {T : Type 0} → Covered T → Type 0
IsNew c = (told_keys c.full ≡ []) × (told_keys c.left ≡ [])

-- what is known is right: where words are known to be of rows that cover all values, no value comes to the row behind these, and
-- where they are known to be of rows that do not, some value does. A uid tells the pattern
pub record AreCovered {T : Type 0} (IsType : T → Type 0) (IsValue : T → Bool → MValue → Type 0) (cx : Context T) (c : Covered T) : Type 0 where
  pub pinned : IsPinned (scope_asked (covered_arms c))
  pub full : (w : List ℕ) → Contains (told_keys c.full) w → IsKnown IsType IsValue cx (covered_arms c) (λ s. Comes IsValue behind s → ⊥) w
  pub left : (w : List ℕ) → Contains (told_keys c.left) w → IsKnown IsType IsValue cx (covered_arms c) (λ s. Comes IsValue behind s) w
