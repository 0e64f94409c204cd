-- The laws on what the arms for the witnesses of a match take.
use Rattle.std.specs.Prelude.{◌≡◌, Bool, true, not, List}
use Rattle.match_model.specs.declared.Mode.TheVariants.{Move}
use Rattle.match_model.specs.Types.{MType}
use Rattle.match_model.specs.Declarations.{MProgram}
use Rattle.match_model.specs.Values.{MValue}
use Rattle.match_model.specs.ArenaPatterns.{MDeMatch}
use Rattle.match_model.specs.Lists.{Ordered}
use Rattle.match_model.specs.Match.{is_empty_list}
use Rattle.match_model.specs.Matching.{ways}
use Rattle.match_model.specs.OfType.{witness_is_of}
use Rattle.match_model.specs.RustTypes.{rust_context, IsSoundProgram, RustValue}
use Rattle.match_model.specs.Witness.{MWitness, fits}
use Rattle.arm_maker.specs.Order.{AreInArmOrder}
use Rattle.arm_laws.specs.Meant.{meant, is_referred}
use Rattle.arm_laws.specs.Near.{IsNearList}
use Rattle.arm_laws.specs.Takes.{takes}

-- law: the arm for a witness of the type takes each value that fits the witness
abbrev pub FittingIsTaken : Type 0
FittingIsTaken = (program : MProgram) (t : MType) (w : MWitness) (v : MValue) →
    witness_is_of (rust_context program) t w ≡ true → fits w v ≡ true → takes program t w v ≡ true

-- the arm for the first takes nothing that fits the second
abbrev pub TakesNone : MProgram → MType → MWitness → MWitness → Type 0
TakesNone program t w u = (v : MValue) → takes program t w v ≡ true → fits u v ≡ true → ⊥

-- law: in the order of arms the arm for a witness of a match takes nothing that fits a later one, though it may
-- take more than the witness shows
abbrev pub EarlierTakesNone : Type 0
EarlierTakesNone = (program : MProgram) (m : MDeMatch MType) (witnesses sorted : List MWitness) →
    IsSoundProgram program → IsNearList program m witnesses → AreInArmOrder program m.type witnesses sorted →
    Ordered (TakesNone program m.type) sorted

-- law: the pattern for a witness of the type, in which texts stand only behind shared references, matches just the
-- values of the type that the arm takes
abbrev pub MeantIsTaken : Type 0
MeantIsTaken = (program : MProgram) (sure : Bool) (t : MType) (w : MWitness) (v : MValue) →
    witness_is_of (rust_context program) t w ≡ true → is_referred program t w ≡ true → RustValue program t sure v →
    not (is_empty_list (ways (meant program t w) Move v)) ≡ takes program t w v
