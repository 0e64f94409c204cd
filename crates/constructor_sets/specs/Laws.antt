-- What the pieces of a column are, whatever code finds them.
use Rattle.std.specs.Prelude.{◌≡◌, ◌≢◌, ℕ, Bool, true, false, ◌||◌, List, [], IsTrue}
use Rattle.std.specs.List.{All, Contains, list_any}
use Rattle.match_model.specs.Values.{MValue, Unseen, Thing}
use Rattle.match_model.specs.Constructors.{MCtor, MSet, Elementary, is_of_set, builds, builds_one}
use Rattle.match_model.specs.Contexts.{Context, Open}
use Rattle.match_model.specs.ContextLaws.{RangesAscend}
use Rattle.match_model.specs.Made.{IsMade, IsMadeSet}
use Rattle.match_model.specs.Pieces.{ArePieces}
use Rattle.match_model.specs.PieceStates.{HasValue, named_in}
use Rattle.match_model.specs.Rows.{is_wild_ctor}
use Rattle.pat_context.specs.Parts.{ctor_has_value, Tells}
use Rattle.constructor_sets.specs.Columns.{is_head, hits, AreColumnPieces}
use Rattle.constructor_sets.specs.InOrder.{AreInOrder}
use Rattle.constructor_sets.specs.Present.{AreFound}

-- the ranges of the set ascend and can be held, and so can those of the heads, each of which a column of the set can have
pub record IsColumn (set : MSet) (heads : List MCtor) : Type 0 where
  pub ascend : RangesAscend set
  pub ranges : IsMadeSet set
  pub allowed : All (λ c. IsTrue (is_head set c)) heads
  pub made : All IsMade heads

-- a value that an elementary constructor of the set builds is built by exactly one of the pieces
abbrev pub EachByOnePiece : Type 0
EachByOnePiece =
    (set : MSet) (heads pieces : List MCtor) (e : Elementary) (v : MValue) → RangesAscend set → ArePieces set heads pieces →
    IsTrue (is_of_set set e) → IsTrue (builds_one e v) → hits (named_in pieces) pieces v ≡ 1

-- the pieces are of the set, and each head has all of a piece or nothing of it
abbrev pub PiecesFitColumns : Type 0
PiecesFitColumns =
    (set : MSet) (heads pieces : List MCtor) → IsColumn set heads → ArePieces set heads pieces → AreColumnPieces set heads pieces

-- the pieces stand in the order of constructors, so none stands twice
abbrev pub PiecesStandInOrder : Type 0
PiecesStandInOrder =
    (set : MSet) (heads pieces : List MCtor) → RangesAscend set → IsMadeSet set → ArePieces set heads pieces → AreInOrder pieces

-- which pieces of a column have values is told by emptiness
abbrev pub PieceValuesAreTold : {T : Type 0} → (T → Type 0) → (T → Bool → MValue → Type 0) → Context T → (is_empty : T → Bool) → (variant_empty : T → ℕ → Bool) → Type 0
PieceValuesAreTold {T} IsType IsValue cx is_empty variant_empty =
    (o : Open T) (heads pieces : List MCtor) (p : MCtor) → IsType o.type → IsColumn (cx.set_of o.type) heads →
    ArePieces (cx.set_of o.type) heads pieces → Contains pieces p →
    Tells (ctor_has_value cx is_empty variant_empty o.type o.sure p) (HasValue IsValue o (named_in pieces) p)

-- the head matches values like this one, as far as its constructor says
abbrev pub head_has : (head : MCtor) → MValue → Bool
head_has c v = is_wild_ctor c || builds [] c v

-- whether `missing` tells of values at the open place that no head has
pub record TellsWhatIsMissing {T : Type 0} (IsValue : T → Bool → MValue → Type 0) (o : Open T) (heads : List MCtor) (missing : Bool) : Type 0 where
  -- where it is true some value is in no head
  pub some : missing ≡ true → (v : MValue) × IsValue o.type o.sure v × (list_any (λ c. head_has c v) heads ≡ false)
  -- where it is false each value but a bare unseen and an opaque thing is in some head
  pub none : missing ≡ false → (v : MValue) → IsValue o.type o.sure v → v ≢ Unseen → v ≢ Thing → list_any (λ c. head_has c v) heads ≡ true

-- what is found of a column tells which values no head has
abbrev pub MissingIsOfValues : {T : Type 0} → (T → Bool → MValue → Type 0) → Context T → Type 0
MissingIsOfValues {T} IsValue cx =
    (o : Open T) (heads ctors gaps : List MCtor) (missing : Bool) → AreFound IsValue cx o heads ctors missing gaps → TellsWhatIsMissing IsValue o heads missing
