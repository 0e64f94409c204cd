-- No meaning: what the names of a file must keep to, so that the path of a variant finds it.
use Rattle.std.specs.Prelude.{◌≡◌, ⊤, ℕ, false, Option, Some, codes, slice_get}
use Rattle.match_model.specs.Types.{MOwner, DeclaredItem, OptionOwner, ResultOwner}
use Rattle.match_model.specs.Declarations.{MItem, StructItem, MProgram}
use Rattle.type_names.specs.Imports.{enum_of}
use Rattle.type_names.specs.Finding.{FoundTree, FoundStruct, FoundVariant}
use Rattle.type_names.specs.Rules.{named_twice_at, breaks_at}
use Rattle.type_names.specs.declared.item_rules.ItemRule.TheVariants as rules
use Rattle.pattern_rules.specs.Settings.{Setting}

-- no item breaks a rule on names that stand twice: 10, 11 or 12
pub record IsNamedOnce (s : Setting) : Type 0 where
  pub items : (i : ℕ) → named_twice_at s.items i ≡ false
  pub variants : (i : ℕ) → breaks_at rules.VariantTwice s.items i ≡ false
  pub fields : (i : ℕ) → breaks_at rules.FieldTwice s.items i ≡ false

-- `Option` and `Result` mean the enums of these names; a file that declares such a name has none of its types
abbrev pub IsMeant : Setting → MOwner → Type 0
IsMeant s (DeclaredItem i) = ⊤
IsMeant s OptionOwner = enum_of s.items (codes "Option") ≡ Some OptionOwner
IsMeant s ResultOwner = enum_of s.items (codes "Result") ≡ Some ResultOwner

-- what the variant with this number of the item is found as
abbrev pub declared_as : Option MItem → (i k : ℕ) → FoundTree
declared_as (Some (StructItem v)) i k = FoundStruct i
declared_as _ i k = FoundVariant (DeclaredItem i) k

-- the same of the owner
abbrev pub found_as : MProgram → MOwner → (k : ℕ) → FoundTree
found_as program (DeclaredItem i) k = declared_as (slice_get program.items i) i k
found_as program owner k = FoundVariant owner k
