-- Which items of a file break a rule, and the first that does.
use Rattle.std.specs.Prelude.{◌≡◌, ℕ, ◌<◌, true, false, List, slice_get, Option, Some, None}
use Rattle.std.specs.List.{Contains}
use Rattle.match_model.specs.declared.Width.{Width}
use Rattle.match_model.specs.Types.{DeclaredItem, MType, ArrayType, NamedType, MTypes, no_types, types_list}
use Rattle.match_model.specs.Values.{MValue}
use Rattle.match_model.specs.Declarations.{MProgram, node_types}
use Rattle.match_model.specs.Typing.{is_value}
use Rattle.match_model.specs.RustTypes.{is_declared}
use Rattle.decl_syntax.specs.Items.{ItemTree}
use Rattle.type_names.specs.declared.item_rules.ItemRule.TheVariants as item_rules
use Rattle.type_names.specs.declared.type_rules.TypeRule.TheVariants as type_rules
use Rattle.type_names.specs.Written.{program_of}
use Rattle.type_names.specs.Rules.{named_twice_at, breaks_at}
use Rattle.type_table.specs.declared.faults.DeclFault.{DeclFault}
use Rattle.type_table.specs.declared.faults.DeclFault.TheVariants as faults

-- a type has another by value: as a field, a part of a tuple, an argument of `Option` or `Result`, or as the item of an
-- array, also of length 0
pub data HasByValue (program : MProgram) : MType → MType → Type 0 where
  as_part : (t u : MType) (k : ℕ) (ts : MTypes) → node_types program t k ≡ Some ts → Contains (types_list ts) u → HasByValue program t u
  as_item : (t : MType) (n : ℕ) → HasByValue program (ArrayType t n) t

-- a type reaches another in one step or more
pub data Reaches (program : MProgram) : MType → MType → Type 0 where
  in_one : (t u : MType) → HasByValue program t u → Reaches program t u
  in_more : (t u v : MType) → HasByValue program t u → Reaches program u v → Reaches program t v

-- rule 15: the type that the item declares reaches itself
abbrev pub ContainsItself : MProgram → ℕ → Type 0
ContainsItself program i = Reaches program (NamedType (DeclaredItem i) no_types) (NamedType (DeclaredItem i) no_types)

-- rule 36: the type that the item declares has no finite value where a place is not sure to hold a valid one
pub record IsEndless (program : MProgram) (i : ℕ) : Type 0 where
  pub declared : is_declared (slice_get program.items i) ≡ true
  pub endless : (v : MValue) → is_value program false (NamedType (DeclaredItem i) no_types) v ≡ false

-- the item with this number breaks the rule; for rules 15 and 36 a written type that breaks 13, 14, 16 or 17 is opaque
pub data Breaks (items : List ItemTree) (width : Width) (i rule : ℕ) : Type 0 where
  name_twice : rule ≡ 10 → named_twice_at items i ≡ true → Breaks items width i rule
  variant_twice : rule ≡ 11 → breaks_at item_rules.VariantTwice items i ≡ true → Breaks items width i rule
  field_twice : rule ≡ 12 → breaks_at item_rules.FieldTwice items i ≡ true → Breaks items width i rule
  unknown_type : rule ≡ 13 → breaks_at (item_rules.Written type_rules.UnknownType) items i ≡ true → Breaks items width i rule
  sizeless_place : rule ≡ 14 → breaks_at (item_rules.Written type_rules.SizelessPlace) items i ≡ true → Breaks items width i rule
  contains_itself : rule ≡ 15 → ContainsItself (program_of items width) i → Breaks items width i rule
  array_length : rule ≡ 16 → breaks_at (item_rules.Written type_rules.ArrayLength) items i ≡ true → Breaks items width i rule
  argument_count : rule ≡ 17 → breaks_at (item_rules.Written type_rules.ArgumentCount) items i ≡ true → Breaks items width i rule
  bad_use : rule ≡ 18 → breaks_at item_rules.BadUse items i ≡ true → Breaks items width i rule
  unsupported_attribute : rule ≡ 19 → breaks_at item_rules.UnsupportedAttribute items i ≡ true → Breaks items width i rule
  endless_type : rule ≡ 36 → IsEndless (program_of items width) i → Breaks items width i rule

-- no item breaks a rule
abbrev pub BreaksNone : List ItemTree → Width → Type 0
BreaksNone items width = (i rule : ℕ) → Breaks items width i rule → ⊥

-- the first item that breaks a rule, with the least rule that it breaks and the place where it begins
pub record IsFirstFault (items : List ItemTree) (width : Width) (rule i at : ℕ) : Type 0 where
  pub item : ItemTree
  pub there : slice_get items i ≡ Some item
  pub place : item.from ≡ at
  pub broken : Breaks items width i rule
  pub first : (j other : ℕ) → j < i → Breaks items width j other → ⊥
  pub least : (other : ℕ) → other < rule → Breaks items width i other → ⊥

-- a fault is the first one; want of memory says nothing of the file
abbrev pub IsFaultOf : List ItemTree → Width → DeclFault → Type 0
IsFaultOf items width (faults.Rule rule item at) = IsFirstFault items width rule item at
IsFaultOf items width faults.NoMemory = Unit {0}

-- No meaning: the first number of which it holds, or none.
abbrev pub FirstThat : (ℕ → Type 0) → Option ℕ → Type 0
FirstThat P None = (j : ℕ) → P j → ⊥
FirstThat P (Some i) = P i × ((j : ℕ) → j < i → P j → ⊥)

-- No meaning: a rule and an item, where no earlier item breaks a rule and this one breaks no lesser rule; or none, where none breaks
-- one.
abbrev pub LeastFault : (broken : ℕ → ℕ → Type 0) → Option (ℕ × ℕ) → Type 0
LeastFault broken None = (i rule : ℕ) → broken i rule → ⊥
LeastFault broken (Some f) = broken f.1 f.0 × ((j other : ℕ) → j < f.1 → broken j other → ⊥) × ((other : ℕ) → other < f.0 → broken f.1 other → ⊥)
