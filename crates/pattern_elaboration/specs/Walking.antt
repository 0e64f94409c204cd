-- What a walk over written patterns makes of each of them.
use Rattle.std.specs.Prelude.{◌≡◌, ℕ, false, List, map}
use Rattle.match_model.specs.declared.Mode.{Mode}
use Rattle.match_model.specs.Types.{MType, SliceType, ArrayType}
use Rattle.match_model.specs.Declarations.{MProgram}
use Rattle.match_model.specs.ArenaPatterns.{WholePart}
use Rattle.decl_syntax.specs.Patterns.{PatternTree, Shape, PatternTrees, FieldTrees}
use Rattle.decl_syntax.specs.Widths.{pattern_count}
use Rattle.type_table.specs.Lookups.{field_names as names_of_variant}
use Rattle.pattern_arena.specs.declared.pattern.DePat.{DePat}
use Rattle.pattern_arena.specs.Trees.{tree}
use Rattle.type_table.specs.declared.table.TyId.{TyId}
use Rattle.type_table.specs.declared.table.TypeTable.{TypeTable}
use Rattle.type_table.specs.Tables.{IsOf, table_program, table_type, fields_of_type, type_variant}
use Rattle.pattern_rules.specs.Settings.{Setting, program}
use Rattle.pattern_rules.specs.Builders.{Built}
use Rattle.pattern_rules.specs.Elaborated.{elaborated, with_bound}
use Rattle.pattern_rules.specs.NodeRules.{is_tuple, has_rests}
use Rattle.pattern_rules.specs.Resolved.{resolved_shape}
use Rattle.pattern_rules.specs.Shown.{settled, shown}
use Rattle.pattern_elaboration.specs.Checking.{IsSettingOf}
use Rattle.pattern_elaboration.specs.Fitting.{Fits, ShapeFits, PartsFit, FieldsFit, AllFit}
use Rattle.pattern_elaboration.specs.Given.{given, given_fields}
use Rattle.pattern_elaboration.specs.Numbered.{IsMade}
use Rattle.pattern_elaboration.specs.Written.{types_of_parts, built, built_parts, built_fields, built_front, built_back, built_choices}

-- the pattern without its uids
abbrev pub plain : TypeTable → DePat TyId → Built
plain table p = settled (table_type table) 0 (tree p)

-- in each setting of the table, a pattern that fits has become what the written one is to become
abbrev pub PatternShown : TypeTable → MType → Mode → PatternTree → DePat TyId → Type 0
PatternShown table t m p made = (s : Setting) → IsSettingOf table s → Fits s t p → plain table made ≡ built s t m p

-- the same of a form at this offset
abbrev pub ShapeShown : TypeTable → MType → Mode → (from : ℕ) → Shape → DePat TyId → Type 0
ShapeShown table t m from shape made =
    (s : Setting) → IsSettingOf table s → ShapeFits s t shape → plain table made ≡ elaborated (program s)
    (resolved_shape s t from shape) t m

-- the pattern's uids are the next ones, and its types are of the table
abbrev pub MadeHere : TypeTable → (from to : ℕ) → DePat TyId → Type 0
MadeHere table from to made = IsMade (IsOf table) from to (tree made)

-- the type of an item of a slice or array, or of a part of a tuple
abbrev pub item_types : MProgram → MType → ℕ → MType
item_types p (SliceType t) i = t
item_types p (ArrayType t n) i = t
item_types p t i = types_of_parts p t 0 i

-- how many parts the items of a list are counted from behind
abbrev pub item_count : MProgram → MType → (items : ℕ) → ℕ
item_count p (SliceType t) items = items
item_count p (ArrayType t n) items = items
item_count p t items = fields_of_type p t 0

-- the same of a name, in this mode, for what the pattern matches
abbrev pub BoundShown : TypeTable → MType → Mode → (name : List ℕ) → (own : Mode) → PatternTree → DePat TyId → Type 0
BoundShown table t m name own p made =
    (s : Setting) → IsSettingOf table s → Fits s t p → plain table made ≡ with_bound
    (record { name = name; mode = own; part = WholePart }) (built s t m p)

-- the same of the written fields of a tuple form of the variant, with their numbers; the types of the parts are these
abbrev pub PartsShown : TypeTable → MType → Mode → (variant : ℕ) → PatternTrees → List (ℕ × DePat TyId) → Type 0
PartsShown table t m k ps made =
    (s : Setting) (types : ℕ → MType) (parts : ℕ) → IsSettingOf table s →
    ((i : ℕ) → types_of_parts (table_program table) t k i ≡ types i) →
    fields_of_type (table_program table) t k ≡ parts → PartsFit s types parts 0 ps →
    given_fields (table_type table) made ≡ built_parts s types parts 0 m ps

-- the same of the written fields of a brace form of the variant, whose fields have these names
abbrev pub FieldsShown : TypeTable → MType → Mode → (variant : ℕ) → FieldTrees → List (ℕ × DePat TyId) → Type 0
FieldsShown table t m k fs made =
    (s : Setting) (types : ℕ → MType) (names : List (List ℕ)) → IsSettingOf table s →
    ((i : ℕ) → types_of_parts (table_program table) t k i ≡ types i) →
    is_tuple t ≡ false → names_of_variant (type_variant (table_program table) t k) ≡ names → FieldsFit s types names
    fs →
    given_fields (table_type table) made ≡ built_fields s types names m fs

-- the same of the items of a tuple, slice or array, up to the rest and behind it
abbrev pub ItemsShown : TypeTable → MType → Mode → PatternTrees → (front back : List (DePat TyId)) → Type 0
ItemsShown table t m ps front back =
    (s : Setting) (types : ℕ → MType) (parts : ℕ) → IsSettingOf table s →
    ((i : ℕ) → item_types (table_program table) t i ≡ types i) →
    item_count (table_program table) t (pattern_count ps) ≡ parts → has_rests ps ≡ false → PartsFit s types parts 0 ps →
    (given (table_type table) front ≡ built_front s types 0 m ps) × (given (table_type table) back ≡ built_back s
    types parts m ps)

-- the same of alternatives, each with its offset for its uid
abbrev pub ChoicesShown : TypeTable → MType → Mode → PatternTrees → List (DePat TyId) → Type 0
ChoicesShown table t m ps made =
    (s : Setting) → IsSettingOf table s → AllFit s t ps → map (λ p. shown (table_type table) (tree p)) made ≡
    built_choices s t m ps
