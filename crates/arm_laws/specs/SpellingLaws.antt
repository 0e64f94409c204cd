-- The laws on the texts of arms.
use Rattle.std.specs.Prelude.{◌≡◌, true, IsTrue}
use Rattle.decl_syntax.specs.Patterns.{PatternTree}
use Rattle.match_model.specs.Declarations.{MProgram}
use Rattle.match_model.specs.OfType.{witness_is_of}
use Rattle.match_model.specs.RustTypes.{rust_context}
use Rattle.match_model.specs.Types.{MType}
use Rattle.match_model.specs.Witness.{MWitness}
use Rattle.witness_text.specs.Trees.{WitnessTree}
use Rattle.witness_text.specs.Texts.{arm_text}
use Rattle.arm_maker.specs.Arms.{arm_tree}
use Rattle.arm_maker.specs.Sizes.{arm_fits, most_levels}
use Rattle.arm_laws.specs.LiteralEnds.{literal_ends}
use Rattle.file_names.specs.Named.{AreNames}
use Rattle.arm_laws.specs.Patterns.{arm_shape, unplaced, without_places}
use Rattle.arm_laws.specs.Spellable.{IsSpellable, is_referred}
use Rattle.arm_laws.specs.Spelled.{SpellsAlone}

-- the text of the arm spells one pattern, which is the arm's
abbrev pub SpellsItsPattern : WitnessTree → Type 0
SpellsItsPattern w =
    (p : PatternTree) × SpellsAlone (arm_text w) p × (without_places p ≡ unplaced (arm_shape w))

-- so it is for each arm within the limits
abbrev pub ArmTextSpells : Type 0
ArmTextSpells =
    (w : WitnessTree) → IsSpellable w → arm_fits most_levels w ≡ true → is_referred w ≡ true → SpellsItsPattern w

-- so it is for each witness of a type that is within the limits with its names, where the names of the program are
-- identifiers
abbrev pub ArmOfWitnessSpells : Type 0
ArmOfWitnessSpells =
    (program : MProgram) (t : MType) (w : MWitness) → AreNames program →
    IsTrue (witness_is_of (rust_context program) t w) → literal_ends program t w ≡ true →
    arm_fits most_levels (arm_tree program t w) ≡ true → is_referred (arm_tree program t w) ≡ true →
    SpellsItsPattern (arm_tree program t w)
