-- The texts of the arms that witnesses of a type ask for (our own choice).
use Rattle.std.specs.Prelude.{◌≡◌, ℕ, Bool, true, false, List, map}
use Rattle.std.specs.List.{list_all}
use Rattle.match_model.specs.Types.{MType}
use Rattle.match_model.specs.Declarations.{MProgram}
use Rattle.match_model.specs.Witness.{MWitness}
use Rattle.witness_text.specs.Trees.{WitnessTree}
use Rattle.witness_text.specs.Texts.{arm_text}
use Rattle.witness_names.specs.declared.paths.Paths.TheVariants.{Whole}
use Rattle.witness_names.specs.Named.{named_by}
use Rattle.arm_maker.specs.declared.arms.ArmFault.{ArmFault}
use Rattle.arm_maker.specs.declared.arms.ArmFault.TheVariants as faults
use Rattle.arm_maker.specs.Order.{AreInArmOrder}
use Rattle.arm_maker.specs.Sizes.{arm_fits, most_levels}

-- the witness with the names that an arm has
abbrev pub arm_tree : MProgram → MType → MWitness → WitnessTree
arm_tree = named_by Whole

-- each witness has a pattern within the limits of the grammar
abbrev pub are_small : MProgram → MType → List MWitness → Bool
are_small program t ws = list_all (λ w. arm_fits most_levels (arm_tree program t w)) ws

-- the patterns of witnesses
abbrev pub patterns_of : MProgram → MType → List MWitness → List (List ℕ)
patterns_of program t ws = map (λ w. arm_text (arm_tree program t w)) ws

-- these are the patterns of the witnesses, in the order of arms, each within the limits
pub record AreArms (program : MProgram) (t : MType) (witnesses : List MWitness) (texts : List (List ℕ)) : Type 0 where
  pub sorted : List MWitness
  pub in_order : AreInArmOrder program t witnesses sorted
  pub small : are_small program t witnesses ≡ true
  pub texts_are : texts ≡ patterns_of program t sorted

-- memory ran out, or by rule 50 a witness has no pattern within the limits
abbrev pub IsArmFault : MProgram → MType → List MWitness → ArmFault → Type 0
IsArmFault program t witnesses faults.NoMemory = Unit {0}
IsArmFault program t witnesses (faults.Rule rule) = (rule ≡ 50) × (are_small program t witnesses ≡ false)
