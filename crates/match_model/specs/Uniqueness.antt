-- The relations of these definitions allow one answer alone (our own choice of laws).
use Rattle.std.specs.Prelude.{◌≡◌, ℕ, Bool, List}
use Rattle.match_model.specs.Values.{MValue}
use Rattle.match_model.specs.Match.{ArmWays}
use Rattle.match_model.specs.Select.{Outcome, Selected}
use Rattle.match_model.specs.Unreachable.{Entry, IsUnreachableList}
use Rattle.match_model.specs.Trees.{MNode, EndsIn, Means}
use Rattle.match_model.specs.Witness.{MWitness}
use Rattle.match_model.specs.Constructors.{MCtor, MSet}
use Rattle.match_model.specs.Contexts.{Context}
pub use Rattle.match_model.specs.ContextViews.{Passing, ValuesPassing}
use Rattle.match_model.specs.ArenaPatterns.{MDeMatch}
use Rattle.match_model.specs.Pieces.{ArePieces}
use Rattle.match_model.specs.Overlaps.{MOverlap, IsOverlapList}
use Rattle.match_model.specs.WitnessList.{IsWitnessList}

-- a tree asks one list of nodes alone for a value and answers, and ends in one way
abbrev pub WalkIsOne : Type 0
WalkIsOne =
    (nodes : List MNode) (v : MValue) (answers : List Bool) (ns ms : List ℕ) (o p : Outcome) →
    EndsIn nodes v answers ns o → EndsIn nodes v answers ms p → (ns ≡ ms) × (o ≡ p)

-- a tree means one thing alone for a value and answers
abbrev pub MeaningIsOne : Type 0
MeaningIsOne =
    (nodes : List MNode) (v : MValue) (answers : List Bool) (s t : Selected) →
    Means nodes v answers s → Means nodes v answers t → s ≡ t

-- a match has one list of what is unreachable, over any domain that a test tells
abbrev pub UnreachableListIsOne : Type 0
UnreachableListIsOne =
    (domain : MValue → Bool) (arms : List ArmWays) (es fs : List Entry) →
    IsUnreachableList (Passing domain) arms es → IsUnreachableList (Passing domain) arms fs → es ≡ fs

-- a match has one list of overlaps, over any domain that a test tells
abbrev pub OverlapListIsOne : Type 0
OverlapListIsOne =
    (domain : MValue → Bool) (arms : List ArmWays) (os ps : List MOverlap) →
    IsOverlapList (Passing domain) arms os → IsOverlapList (Passing domain) arms ps → os ≡ ps

-- a column has one list of pieces
abbrev pub PiecesAreOne : Type 0
PiecesAreOne = (set : MSet) (heads ps qs : List MCtor) → ArePieces set heads ps → ArePieces set heads qs → ps ≡ qs

-- a match has one witness list, in any context whose values a test tells
abbrev pub WitnessListIsOne : (T : Type 0) → Type 0
WitnessListIsOne T =
    (cx : Context T) (is_value : T → Bool → MValue → Bool) (m : MDeMatch T) (ws us : List MWitness) →
    IsWitnessList cx (ValuesPassing is_value) m ws → IsWitnessList cx (ValuesPassing is_value) m us → ws ≡ us
