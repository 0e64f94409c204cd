-- Patterns that are placed already, as what stands at the parts of a further one.
use Rattle.std.specs.Prelude.{ℕ, List, [], ◌∷◌, map, set}
use Rattle.match_model.specs.Types.{MType}
use Rattle.match_model.specs.Constructors.{MCtor, SingleCtor, VariantCtor}
use Rattle.type_table.specs.declared.kinds.TyKind.{TyKind}
use Rattle.type_table.specs.declared.kinds.TyKind.TheVariants as kinds
use Rattle.match_model.specs.ArenaPatterns.{MDePat}
use Rattle.pattern_arena.specs.declared.pattern.DePat.{DePat}
use Rattle.pattern_arena.specs.Trees.{tree}
use Rattle.pattern_rules.specs.Builders.{Built}
use Rattle.pattern_rules.specs.Shown.{settled}
use Rattle.pattern_elaboration.specs.Written.{BuiltField}

-- the trees of patterns
abbrev pub trees : {T : Type 0} → List (DePat T) → List (MDePat T)
trees ps = map tree ps

-- the patterns without their uids
abbrev pub given : {T : Type 0} → (T → MType) → List (DePat T) → List Built
given type ps = map (λ p. settled type 0 (tree p)) ps

-- the trees of the patterns of fields
abbrev pub field_trees : {T : Type 0} → List (ℕ × DePat T) → List (MDePat T)
field_trees fs = map (λ f. tree f.1) fs

-- the fields without the uids of their patterns
abbrev pub given_fields : {T : Type 0} → (T → MType) → List (ℕ × DePat T) → List BuiltField
given_fields type fs = map (λ f. (f.0, settled type 0 (tree f.1))) fs

-- No meaning: the patterns, with each field's in the place of its number; the first field of a number goes before
-- others.
abbrev pub filled : {A : Type 0} → List (ℕ × A) → List A → List A
filled [] ps = ps
filled (f ∷ fs) ps = set (filled fs ps) f.0 f.1

-- No meaning: the constructor of a node of a type of this kind.
abbrev pub kind_ctor : TyKind → ℕ → MCtor
kind_ctor (kinds.Tuple n) k = SingleCtor
kind_ctor (kinds.Struct n) k = SingleCtor
kind_ctor _ k = VariantCtor k
