-- What the written fields and items of patterns become, with their numbers.
use Rattle.std.specs.Prelude.{ℕ, suc, ◌-◌, nat_eq, List, [], ◌∷◌, if◌then◌else◌}
use Rattle.match_model.specs.declared.Mode.{Mode}
use Rattle.match_model.specs.Types.{MType}
use Rattle.match_model.specs.Constructors.{WildCtor}
use Rattle.match_model.specs.Declarations.{MProgram, node_types}
use Rattle.match_model.specs.RustTypes.{part_type}
use Rattle.decl_syntax.specs.Patterns.{PatternTrees, FieldTrees, no_field, and_field}
use Rattle.decl_syntax.specs.Patterns as patterns
use Rattle.decl_syntax.specs.Widths.{pattern_count}
use Rattle.pattern_rules.specs.Settings.{Setting, program}
use Rattle.pattern_rules.specs.Namings.{field_number}
use Rattle.pattern_rules.specs.Nodes.{offset_of, is_rest, part_behind}
use Rattle.pattern_rules.specs.Resolved.{resolved}
use Rattle.pattern_rules.specs.Builders.{Built, leaf}
use Rattle.pattern_rules.specs.Elaborated.{elaborated, standing_at}

-- the types of the parts of a tuple, or of a variant of a type
abbrev pub types_of_parts : MProgram → MType → (variant : ℕ) → ℕ → MType
types_of_parts p t k i = part_type t (node_types p t k) i

-- what a written pattern becomes
abbrev pub built : Setting → MType → Mode → patterns.PatternTree → Built
built s t m p = elaborated (program s) (resolved s t p) t m

-- a field or part by its number, and what stands there
abbrev pub BuiltField : Type 0
BuiltField = ℕ × Built

-- the written one with this number; a wildcard where none is written
abbrev pub built_there : List BuiltField → ℕ → MType → Built
built_there [] i t = leaf WildCtor t
built_there (f ∷ fs) i t = if nat_eq i f.0 then f.1 else built_there fs i t

-- the written fields of a tuple form, the first of which is this part of so many
abbrev pub built_parts : Setting → (types : ℕ → MType) → (parts i : ℕ) → Mode → PatternTrees → List BuiltField
built_parts s types parts i m patterns.none = []
built_parts s types parts i m (patterns.more p ps) =
    if is_rest p then built_parts s types parts (part_behind parts i p ps) m ps
    else (i, built s (types i) m p) ∷ built_parts s types parts (part_behind parts i p ps) m ps

-- the written fields of a brace form, whose fields have these names
abbrev pub built_fields : Setting → (types : ℕ → MType) → (names : List (List ℕ)) → Mode → FieldTrees → List BuiltField
built_fields s types names m no_field = []
built_fields s types names m (and_field name short attrs p fs) =
    (field_number names name, built s (types (field_number names name)) m p) ∷ built_fields s types names m fs

-- the items up to a rest, the first of which is this part
abbrev pub built_front : Setting → (types : ℕ → MType) → (i : ℕ) → Mode → PatternTrees → List Built
built_front s types i m patterns.none = []
built_front s types i m (patterns.more p ps) =
    if is_rest p then [] else built s (types i) m p ∷ built_front s types (suc i) m ps

-- the items behind the first rest, the last of which is the last of so many parts
abbrev pub built_back : Setting → (types : ℕ → MType) → (parts : ℕ) → Mode → PatternTrees → List Built
built_back s types parts m patterns.none = []
built_back s types parts m (patterns.more p ps) =
    if is_rest p then built_front s types (parts - pattern_count ps) m ps else built_back s types parts m ps

-- the alternatives, each at its offset
abbrev pub built_choices : Setting → MType → Mode → PatternTrees → List Built
built_choices s t m patterns.none = []
built_choices s t m (patterns.more p ps) = standing_at (offset_of p) (built s t m p) ∷ built_choices s t m ps
