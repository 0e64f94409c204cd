-- What is kept of rows over open places.
use Rattle.std.specs.Prelude.{◌≡◌, ◌≢◌, ◌<◌, ℕ, false, List, [], ◌∷◌, ⊤, length}
use Rattle.std.specs.List.{All, flat_map}
use Rattle.match_model.specs.Constructors.{MCtor}
use Rattle.match_model.specs.Contexts.{Context, Open}
use Rattle.match_model.specs.Rows.{Head, column_of, expand_row, starts_or}
use Rattle.pattern_matrix.specs.HeadRows.{cols, AreTypes, AllTyped, all_heads}
use Rattle.pattern_matrix.specs.Columns.{plain_column}
use Rattle.pattern_matrix.specs.Halving.{leaf_ctors}
use Rattle.pattern_matrix.specs.Sparse.{SparseRow, SparseLeaf, row_views, leaf_views, AreBelow, AreOthers}
use Rattle.pattern_matrix.specs.Views.{plain_rows, plain_leaves}
use Rattle.witness_search.specs.Bares.{bares}
use Rattle.witness_search.specs.Opened.{places_of, numbers_of}
use Rattle.witness_search.specs.declared.opened.Opened.{Opened}
use Rattle.witness_search.specs.declared.apart.Apart.{Apart}

-- the heads of the rows at these columns
abbrev pub heads_over : {T : Type 0} → (numbers : List ℕ) → List (SparseRow T) → List (List (Head T))
heads_over numbers rows = all_heads (row_views numbers rows)

-- the heads of the leaves' rows, the leaves' column in front of these
abbrev pub leaf_heads : {T : Type 0} → (numbers : List ℕ) → List (SparseRow T) → List (SparseLeaf T) → List (List (Head T))
leaf_heads numbers rows leaves = all_heads (leaf_views numbers rows leaves)

-- no first head is an or-pattern
abbrev pub NoneOr : {T : Type 0} → List (List (Head T)) → Type 0
NoneOr [] = ⊤
NoneOr (hs ∷ rows) = (starts_or hs ≡ false) × NoneOr rows

-- no number stands twice
abbrev pub AreApart : List ℕ → Type 0
AreApart [] = ⊤
AreApart (c ∷ cs) = All (λ d. d ≢ c) cs × AreApart cs

-- the places have types of the context and numbers of their own, below the next one, as have the heads of the rows; each row
-- has a well-typed head for each place
pub record IsWell {T : Type 0} (IsType : T → Type 0) (cx : Context T) (next : ℕ) (numbers : List ℕ) (places : List (Open T)) (rows : List (SparseRow T)) : Type 0 where
  pub types : AreTypes IsType (cols places)
  pub typed : AllTyped cx (cols places) (heads_over numbers rows)
  pub below : AreBelow next rows
  pub numbers_below : All (λ c. c < next) numbers
  pub apart : AreApart numbers
  pub as_many : length numbers ≡ length places

-- rows that were taken apart at their first place: what stands there, by the rows' numbers, and the constructors of that. The
-- other places have numbers of their own, none of which is that of the first; heads are well typed, and no or-pattern stands at
-- the first place; what stands there is what the definitions' expanded rows have, but for names
pub record IsApart {T : Type 0} (IsType : T → Type 0) (cx : Context T) (next number : ℕ) (o : Open T) (numbers : List ℕ) (places : List (Open T)) (rows : List (SparseRow T)) (leaves : List (SparseLeaf T)) (heads : List MCtor) : Type 0 where
  pub type : IsType o.type
  pub types : AreTypes IsType (cols places)
  pub typed : AllTyped cx (cols (o ∷ places)) (leaf_heads numbers rows leaves)
  pub none_or : NoneOr (leaf_heads numbers rows leaves)
  pub column : heads ≡ column_of (leaf_heads numbers rows leaves)
  pub within : All (λ l. l.row < length rows) leaves
  pub below : AreBelow next rows
  pub others : AreOthers number next numbers
  pub apart : AreApart numbers
  pub as_many : length numbers ≡ length places
  pub alike : bares (leaf_heads numbers rows leaves) ≡ bares (flat_map expand_row (heads_over (number ∷ numbers) rows))

-- the same of code, over these other places
abbrev pub IsTakenApart : {T : Type 0} → (T → Type 0) → Context T → List (Opened T) → Apart T → Type 0
IsTakenApart IsType cx opened e =
    IsApart IsType cx e.next e.place.number (plain_column e.place.column) (numbers_of opened) (places_of opened) (plain_rows e.rows.items) (plain_leaves e.leaves.items) (leaf_ctors (plain_leaves e.leaves.items))

-- the heads of what was taken apart, over these other places
abbrev pub apart_heads : {T : Type 0} → List (Opened T) → Apart T → List (List (Head T))
apart_heads opened e = leaf_heads (numbers_of opened) (plain_rows e.rows.items) (plain_leaves e.leaves.items)
