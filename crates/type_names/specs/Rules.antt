-- The first item that breaks a rule.
use Rattle.std.specs.Prelude.{◌≡◌, ℕ, ◌<◌, Bool, true, false, List, take, slice_get, Option, Some, None}
use Rattle.decl_syntax.specs.Items.{ItemTree}
use Rattle.type_names.specs.declared.item_rules.ItemRule.{ItemRule}
use Rattle.type_names.specs.declared.item_rules.ItemRule.TheVariants as rules
use Rattle.type_names.specs.Meanings.{means}
use Rattle.type_names.specs.TypeRules.{type_test, some_type}
use Rattle.type_names.specs.NameRules.{is_named_twice, has_variant_twice, has_field_twice, is_bad_use}
use Rattle.type_names.specs.Attributes.{has_unsupported}

-- the item is there and passes the test
abbrev pub passes : (ItemTree → Bool) → Option ItemTree → Bool
passes test None = false
passes test (Some i) = test i

-- rule 10 at the item with this number
abbrev pub named_twice_at : List ItemTree → ℕ → Bool
named_twice_at items i = passes (λ item. is_named_twice items (take i items) item.kind) (slice_get items i)

-- one of the other rules on names, attributes and written types
abbrev pub item_test : ItemRule → List ItemTree → ItemTree → Bool
item_test (rules.Written rule) items i = some_type (means items) (type_test rule (means items)) i.kind
item_test rules.VariantTwice items i = has_variant_twice i.kind
item_test rules.FieldTwice items i = has_field_twice i.kind
item_test rules.BadUse items i = is_bad_use items i.kind
item_test rules.UnsupportedAttribute items i = has_unsupported i

-- the item with this number breaks the rule
abbrev pub breaks_at : ItemRule → List ItemTree → ℕ → Bool
breaks_at rule items i = passes (item_test rule items) (slice_get items i)

-- the first of so many numbers that passes the test, or that none does
abbrev pub FirstOf : (test : ℕ → Bool) → (count : ℕ) → Option ℕ → Type 0
FirstOf test count None = (j : ℕ) → j < count → test j ≡ false
FirstOf test count (Some i) = (i < count) × (test i ≡ true) × ((j : ℕ) → j < i → test j ≡ false)
