-- What is kept of rows over open places so that it may be asked whether they leave something.
use Rattle.std.specs.Prelude.{ℕ, Bool, false, List, ◌∷◌, map}
use Rattle.std.specs.List.{All}
use Rattle.match_model.specs.Values.{MValue}
use Rattle.match_model.specs.Constructors.{MCtor}
use Rattle.match_model.specs.Contexts.{Open}
use Rattle.match_model.specs.ArenaPatterns.{MDeArm}
use Rattle.match_model.specs.PieceStates.{HasValue}
use Rattle.pat_context.specs.Parts.{AreValues}
use Rattle.pattern_matrix.specs.Sparse.{SparseRow, SparseLeaf}
use Rattle.pattern_matrix.specs.Views.{plain_rows, plain_leaves}
use Rattle.usefulness.specs.Frames.{SparseAsked, IsRowIn}
use Rattle.usefulness.specs.Covering.{scope_asked}
use Rattle.usefulness.specs.Scope.{IsKnown}
use Rattle.witness_search.specs.Opened.{places_of, numbers_of}
use Rattle.witness_search.specs.declared.apart.Apart.{Apart}
use Rattle.witness_search.specs.declared.opened.Opened.{Opened}

-- the rows, in none of which something new is looked for
abbrev pub unwanted_all : {T : Type 0} → List (SparseRow T) → List (SparseAsked T)
unwanted_all rows = map (λ r. record { row = r; wanted = false }) rows

-- the rows list heads at these columns that are patterns of the arms and no wildcards
abbrev pub AreRowsOf : {T : Type 0} → List (MDeArm T) → (numbers : List ℕ) → List (SparseRow T) → Type 0
AreRowsOf arms numbers rows = All (IsRowIn (scope_asked arms) numbers) (unwanted_all rows)

-- the places have values, and the rows are of the arms
pub record AreAskable {T : Type 0} (IsValue : T → Bool → MValue → Type 0) (arms : List (MDeArm T)) (numbers : List ℕ) (places : List (Open T)) (rows : List (SparseRow T)) : Type 0 where
  pub some : (vs : List MValue) × AreValues IsValue places vs
  pub known : AreRowsOf arms numbers rows

-- rows that were taken apart at their first place: the other places have values, the rows are of the arms, and so is what stands
-- at the first place
pub record AreApartAskable {T : Type 0} (IsValue : T → Bool → MValue → Type 0) (arms : List (MDeArm T)) (number : ℕ) (numbers : List ℕ) (places : List (Open T)) (rows : List (SparseRow T)) (leaves : List (SparseLeaf T)) : Type 0 where
  pub some : (vs : List MValue) × AreValues IsValue places vs
  pub known : AreRowsOf arms (number ∷ numbers) rows
  pub stand : All (λ l. IsKnown (scope_asked arms) l.head) leaves

-- the same of code, over these other places
abbrev pub IsAskable : {T : Type 0} → (T → Bool → MValue → Type 0) → List (MDeArm T) → List (Opened T) → Apart T → Type 0
IsAskable IsValue arms opened e =
    AreApartAskable IsValue arms e.place.number (numbers_of opened) (places_of opened) (plain_rows e.rows.items) (plain_leaves e.leaves.items)

-- the piece has a value at the place, for some texts that the column names
abbrev pub IsValued : {T : Type 0} → (T → Bool → MValue → Type 0) → Open T → MCtor → Type 0
IsValued IsValue o piece = (named : List (List ℕ)) × HasValue IsValue o named piece
