-- What the pieces that are gone through tell.
use Rattle.std.specs.Prelude.{◌≡◌, ℕ, Bool, List, ◌∷◌, ◌++◌, map, filter_map, replicate, length, Some, slice_get}
use Rattle.std.specs.List.{All}
use Rattle.match_model.specs.Values.{MValue}
use Rattle.match_model.specs.Constructors.{MCtor}
use Rattle.match_model.specs.Contexts.{Context, Open}
use Rattle.match_model.specs.Rows.{Head}
use Rattle.match_model.specs.Witness.{MWitness, AnyOf}
use Rattle.match_model.specs.WitnessList.{wrapped}
use Rattle.constructor_sets.specs.Columns.{plain_ctors, plain_piece}
use Rattle.constructor_sets.specs.declared.piece.PieceState.{PieceState}
use Rattle.constructor_sets.specs.declared.piece.PieceState.TheVariants.{Present, Missing, Empty}
use Rattle.constructor_sets.specs.Present.{present_piece}
use Rattle.pattern_matrix.specs.Columns.{plain_column}
use Rattle.pattern_matrix.specs.Halving.{AreLeafSpans}
use Rattle.pattern_matrix.specs.Parts.{plain_spans}
use Rattle.pattern_matrix.specs.Sparse.{SparseLeaf, columns_from}
use Rattle.pattern_matrix.specs.Views.{plain_leaves}
use Rattle.witnesses.specs.Views.{plain_stack, plain_names}
use Rattle.witness_search.specs.Askable.{IsValued}
use Rattle.witness_search.specs.Found.{AreWrapped, AreOfPieces, AreSplitWitnesses, IsEnterable, AreNumbered}
use Rattle.witness_search.specs.Opened.{places_of}
use Rattle.witness_search.specs.Wells.{apart_heads}
use Rattle.witness_search.specs.declared.apart.Apart.{Apart}
use Rattle.witness_search.specs.declared.cut.Cut.{Cut}
use Rattle.witness_search.specs.declared.opened.Opened.{Opened}

-- stacks for the other places, with anything at the parts of the piece, wrapped in it
abbrev pub wrapped_behind : {T : Type 0} → Context T → (named : List (List ℕ)) → Open T → List (List MWitness) → MCtor → List (List MWitness)
wrapped_behind cx named o behind c =
    map (wrapped c named (cx.arity c o.type)) (map (λ w. replicate (cx.arity c o.type) AnyOf ++ w) behind)

-- what is found of these pieces, one after the other, is found of all pieces of the place; each can be entered; those that are
-- present have values and are these constructors, in order, and it is known which leaf has which; of one that is missing the
-- stacks are known
pub record IsCutOf {T : Type 0} (cx : Context T) (IsValue : T → Bool → MValue → Type 0) (o : Open T) (places : List (Open T)) (rows : List (List (Head T)))
    (leaves : List (SparseLeaf T)) (ctors : List MCtor) (spans : List (ℕ × ℕ)) (pieces : List (MCtor × PieceState)) (named : List (List ℕ)) (behind : List (List MWitness)) : Type 0 where
  pub back : (ws : List (List MWitness)) → AreOfPieces cx IsValue named o places rows pieces ws → AreSplitWitnesses cx IsValue o places rows ws
  pub enterable : All (λ p. IsEnterable cx o p.0) pieces
  pub valued : All (λ p. p.1 ≡ Present → IsValued IsValue o p.0) pieces
  pub spans_are : AreLeafSpans ctors leaves spans
  pub numbered : AreNumbered ctors (columns_from 0 (length ctors)) (filter_map present_piece pieces)
  pub missing : All (λ p. p.1 ≡ Missing → AreWrapped cx IsValue named o places rows p.0 (wrapped_behind cx named o behind p.0)) pieces

-- the same of code, over these other places
abbrev pub IsCut : {T : Type 0} → Context T → (T → Bool → MValue → Type 0) → List (Opened T) → Apart T → Cut → Type 0
IsCut cx IsValue others e c =
    IsCutOf cx IsValue (plain_column e.place.column) (places_of others) (apart_heads others e) (plain_leaves e.leaves.items)
    (plain_ctors c.ctors.items) (plain_spans c.spans.items) (map plain_piece c.pieces.items) (plain_names c.names.items) (map plain_stack c.behind.items)

-- the first of the numbers is that of the constructor in the list
abbrev pub IsNext : (ctors : List MCtor) → (numbers : List ℕ) → MCtor → Type 0
IsNext ctors numbers c = (k : ℕ) × (rest : List ℕ) × (numbers ≡ k ∷ rest) × (slice_get ctors k ≡ Some c)

-- the same, where the piece is present
abbrev pub IsNextOf : (ctors : List MCtor) → (numbers : List ℕ) → MCtor × PieceState → Type 0
IsNextOf ctors numbers (c, Present) = IsNext ctors numbers c
IsNextOf ctors numbers (c, Missing) = Unit {0}
IsNextOf ctors numbers (c, Empty) = Unit {0}

-- the numbers without the first
abbrev pub IsLeft : (old new : List ℕ) → Type 0
IsLeft old new = (k : ℕ) × (old ≡ k ∷ new)

-- what is left of the numbers behind a piece
abbrev pub IsLeftBehind : MCtor × PieceState → (old new : List ℕ) → Type 0
IsLeftBehind (c, Present) old new = IsLeft old new
IsLeftBehind (c, Missing) old new = old ≡ new
IsLeftBehind (c, Empty) old new = old ≡ new
