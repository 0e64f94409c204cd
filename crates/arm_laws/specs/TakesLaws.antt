-- The laws on what the pattern that a text spells matches.
use Rattle.std.specs.Prelude.{◌≡◌, ℕ, true, not, slice_get, Some}
use Rattle.match_model.specs.declared.Mode.{Mode}
use Rattle.match_model.specs.Types.{MType, MOwner, NamedType, MTypes}
use Rattle.match_model.specs.Declarations.{MVariant, variants_of}
use Rattle.match_model.specs.Constructors.{NumbersCtor, belongs}
use Rattle.match_model.specs.Numbers.{MRange}
use Rattle.match_model.specs.RustTypes.{rust_context, rust_set}
use Rattle.match_model.specs.OfType.{witness_is_of}
use Rattle.match_model.specs.Witness.{MWitness, SpanOf}
use Rattle.match_model.specs.Values.{MValue}
use Rattle.match_model.specs.Match.{is_empty_list}
use Rattle.match_model.specs.Matching.{ways}
use Rattle.decl_syntax.specs.Functions.{FunctionTree}
use Rattle.decl_syntax.specs.Patterns.{PatternTree}
use Rattle.type_names.specs.Finding.{path_finds}
use Rattle.type_table.specs.Faults.{BreaksNone}
use Rattle.pattern_rules.specs.Settings.{Setting, program}
use Rattle.pattern_rules.specs.Faults.{scrutinee_type}
use Rattle.pattern_rules.specs.Resolved.{resolved}
use Rattle.witness_names.specs.Named.{name_by}
use Rattle.witness_names.specs.declared.paths.Paths.TheVariants.{Whole}
use Rattle.arm_maker.specs.Arms.{arm_tree}
use Rattle.arm_laws.specs.Completed.{IsPatternFor}
use Rattle.arm_laws.specs.LiteralEnds.{literal_ends}
use Rattle.arm_laws.specs.Meant.{meant, is_referred}
use Rattle.arm_laws.specs.MeantTypes.{IsMeantType}
use Rattle.arm_laws.specs.NamedOnce.{IsNamedOnce, IsMeant, found_as}
use Rattle.arm_laws.specs.Patterns.{path_of, arm_shape, unplaced, without_places}

-- law: two written patterns that differ only in where they and their parts stand match the same values
abbrev pub OffsetsAreAlone : Type 0
OffsetsAreAlone = (s : Setting) (t : MType) (p q : PatternTree) (m : Mode) (v : MValue) →
    without_places p ≡ without_places q →
    not (is_empty_list (ways (resolved s t p) m v)) ≡ not (is_empty_list (ways (resolved s t q) m v))

-- law: in a file of which no item breaks a rule on declarations no name stands twice
abbrev pub NamesStandOnce : Type 0
NamesStandOnce = (s : Setting) → BreaksNone s.items s.width → IsNamedOnce s

-- law: the path by which an arm names a variant of a type finds it, where no name of the file stands twice
abbrev pub NamesAreFound : Type 0
NamesAreFound = (s : Setting) → IsNamedOnce s →
    (owner : MOwner) (arguments : MTypes) (k : ℕ) (v : MVariant) → IsMeant s owner →
    slice_get (variants_of (program s) (NamedType owner arguments)) k ≡ Some v →
    path_finds s.items (path_of (name_by Whole (program s) (NamedType owner arguments) v.name))
    ≡ found_as (program s) owner k

-- law: the pattern that an arm has for numbers of a type is the one that is meant
abbrev pub NumbersAreMeant : Type 0
NumbersAreMeant = (s : Setting) (t : MType) (r : MRange) → belongs (rust_set (program s) t) (NumbersCtor r) ≡ true →
    literal_ends (program s) t (SpanOf r) ≡ true →
    resolved s t (unplaced (arm_shape (arm_tree (program s) t (SpanOf r)))) ≡ meant (program s) t (SpanOf r)

-- law: so is that of each witness of a type, where no name of the file stands twice and its ranges end at literals
abbrev pub SpelledIsMeant : Type 0
SpelledIsMeant = (s : Setting) → IsNamedOnce s → (t : MType) (w : MWitness) → IsMeantType s t →
    witness_is_of (rust_context (program s)) t w ≡ true → literal_ends (program s) t w ≡ true →
    resolved s t (unplaced (arm_shape (arm_tree (program s) t w))) ≡ meant (program s) t w

-- law: the pattern that an arm has for a witness of the scrutinee's type matches just the values that the arm takes,
-- wherever it and its parts stand
abbrev pub ArmPatternTakes : Type 0
ArmPatternTakes = (s : Setting) (f : FunctionTree) (w : MWitness) (p : PatternTree) → IsNamedOnce s →
    witness_is_of (rust_context (program s)) (scrutinee_type s f) w ≡ true →
    literal_ends (program s) (scrutinee_type s f) w ≡ true → is_referred (program s) (scrutinee_type s f) w ≡ true →
    without_places p ≡ unplaced (arm_shape (arm_tree (program s) (scrutinee_type s f) w)) → IsPatternFor s f w p
