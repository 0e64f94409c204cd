-- What is found of the pieces of the first open place.
use Rattle.std.specs.Prelude.{◌≡◌, ◌<◌, ℕ, Bool, true, List, [], ◌∷◌, ◌++◌, map, filter, length, Some, slice_get, IsTrue, ⊤}
use Rattle.std.specs.List.{All}
use Rattle.match_model.specs.Values.{MValue}
use Rattle.match_model.specs.Constructors.{MCtor, belongs}
use Rattle.match_model.specs.Contexts.{Context, Open}
use Rattle.match_model.specs.Pieces.{ArePieces}
use Rattle.match_model.specs.Rows.{Head, column_of, all_specialised, parts_open}
use Rattle.match_model.specs.Witness.{MWitness}
use Rattle.match_model.specs.WitnessList.{Witnesses, PieceWitnesses, wrapped, named_in}
use Rattle.pat_context.specs.Laws.{HasFewItems}
use Rattle.constructor_sets.specs.declared.piece.PieceState.{PieceState}
use Rattle.constructor_sets.specs.declared.piece.PieceState.TheVariants.{Present, Missing, Empty}
use Rattle.pattern_matrix.specs.Sparse.{SparseLeaf, leaves_listed, head_has}

-- the stacks are those of the rows of the piece, wrapped in it, where the column names these texts
abbrev pub AreWrapped : {T : Type 0} → Context T → (T → Bool → MValue → Type 0) → (named : List (List ℕ)) → Open T → List (Open T) → List (List (Head T)) → MCtor → List (List MWitness) → Type 0
AreWrapped cx IsValue named o places rows piece stacks =
    (ws : List (List MWitness)) × Witnesses cx IsValue (parts_open cx o piece ++ places) (all_specialised piece (cx.arity piece o.type) rows) ws
    × (stacks ≡ map (wrapped piece named (cx.arity piece o.type)) ws)

-- the stacks are those of a piece; without a value it has none
abbrev pub AreOfPiece : {T : Type 0} → Context T → (T → Bool → MValue → Type 0) → (named : List (List ℕ)) → Open T → List (Open T) → List (List (Head T)) → MCtor × PieceState → List (List MWitness) → Type 0
AreOfPiece cx IsValue named o places rows (c, Empty) stacks = stacks ≡ []
AreOfPiece cx IsValue named o places rows (c, Present) stacks = AreWrapped cx IsValue named o places rows c stacks
AreOfPiece cx IsValue named o places rows (c, Missing) stacks = AreWrapped cx IsValue named o places rows c stacks

-- the stacks are those of the pieces, one piece after the other
abbrev pub AreOfPieces : {T : Type 0} → Context T → (T → Bool → MValue → Type 0) → (named : List (List ℕ)) → Open T → List (Open T) → List (List (Head T)) → List (MCtor × PieceState) → List (List MWitness) → Type 0
AreOfPieces cx IsValue named o places rows [] stacks = stacks ≡ []
AreOfPieces cx IsValue named o places rows (p ∷ pieces) stacks =
    (us ts : List (List MWitness)) × AreOfPiece cx IsValue named o places rows p us × AreOfPieces cx IsValue named o places rows pieces ts × (stacks ≡ us ++ ts)

-- the stacks are those of all pieces of the first place, or-patterns being taken apart there
abbrev pub AreSplitWitnesses : {T : Type 0} → Context T → (T → Bool → MValue → Type 0) → Open T → List (Open T) → List (List (Head T)) → List (List MWitness) → Type 0
AreSplitWitnesses cx IsValue o places rows stacks =
    (pieces : List MCtor) × ArePieces (cx.set_of o.type) (column_of rows) pieces × PieceWitnesses cx IsValue (named_in pieces) o places rows pieces stacks

-- the constructor belongs to the set of the place's type, and its number of items can be held
abbrev pub IsEnterable : {T : Type 0} → Context T → Open T → MCtor → Type 0
IsEnterable cx o c = IsTrue (belongs (cx.set_of o.type) c) × HasFewItems c

-- the numbers are those of these constructors in the list
abbrev pub AreNumbered : (ctors : List MCtor) → (numbers : List ℕ) → List MCtor → Type 0
AreNumbered ctors [] [] = ⊤
AreNumbered ctors [] (c ∷ cs) = ⊥
AreNumbered ctors (k ∷ ks) [] = ⊥
AreNumbered ctors (k ∷ ks) (c ∷ cs) = (slice_get ctors k ≡ Some c) × AreNumbered ctors ks cs

-- the constructors as pieces that heads have
abbrev pub as_present : List MCtor → List (MCtor × PieceState)
as_present ctors = map (λ c. (c, Present)) ctors

-- the stacks are the witnesses of the rows of the piece
abbrev pub IsOfPiece : {T : Type 0} → Context T → (T → Bool → MValue → Type 0) → Open T → List (Open T) → List (List (Head T)) → MCtor → List (List MWitness) → Type 0
IsOfPiece cx IsValue o places rows piece ws =
    Witnesses cx IsValue (parts_open cx o piece ++ places) (all_specialised piece (cx.arity piece o.type) rows) ws

-- the leaf with the number has the piece
abbrev pub HasAt : {T : Type 0} → (piece : MCtor) → List (SparseLeaf T) → ℕ → Type 0
HasAt {T} piece leaves k = (l : SparseLeaf T) → slice_get leaves k ≡ Some l → head_has piece l.head ≡ true

-- the numbers are those of the leaves that have the piece
pub record ArePieceLeaves {T : Type 0} (piece : MCtor) (leaves : List (SparseLeaf T)) (numbers : List ℕ) : Type 0 where
  pub within : All (λ k. k < length leaves) numbers
  pub listed : leaves_listed leaves numbers ≡ filter (λ l. head_has piece l.head) leaves
  pub each : All (HasAt piece leaves) numbers
