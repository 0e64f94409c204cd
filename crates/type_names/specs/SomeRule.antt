-- An item breaks some of the rules that an item breaks by itself.
use Rattle.std.specs.Prelude.{ℕ, Bool, ◌&&◌, ◌||◌, List, Option, Some, None}
use Rattle.decl_syntax.specs.Items.{ItemTree}
use Rattle.type_names.specs.declared.item_rules.ItemRule.TheVariants as rules
use Rattle.type_names.specs.declared.type_rules.TypeRule.{TypeRule}
use Rattle.type_names.specs.declared.type_rules.TypeRule.TheVariants as type_rules
use Rattle.type_names.specs.Meanings.{Meaning, Means}
use Rattle.type_names.specs.TypeRules.{TypeTest, means_nothing, means_str, counts_differ, is_unknown, is_sizeless, is_long, is_miscounted, type_test}
use Rattle.type_names.specs.Rules.{item_test}

-- a name of this meaning with so many arguments breaks rule 13, 14 or 17
abbrev pub is_misnamed : Option Meaning → (sized : Bool) → (count : ℕ) → Bool
is_misnamed meaning sized count = means_nothing meaning || ((sized && means_str meaning) || counts_differ count meaning)

-- the test of one of the rules on written types
abbrev pub some_test : Means → TypeTest
some_test names sized t =
    is_unknown names sized t || (is_sizeless names sized t || (is_long names sized t || is_miscounted names sized t))

-- the rule's test; with none, that of one of them
abbrev pub rule_test : Option TypeRule → Means → TypeTest
rule_test (Some rule) = type_test rule
rule_test None = some_test

-- rule 13, 14, 16 or 17
abbrev pub breaks_some_written : List ItemTree → ItemTree → Bool
breaks_some_written items i =
    item_test (rules.Written type_rules.UnknownType) items i || (item_test (rules.Written type_rules.SizelessPlace) items i
    || (item_test (rules.Written type_rules.ArrayLength) items i || item_test (rules.Written type_rules.ArgumentCount) items i))

-- rule 18 or 19
abbrev pub breaks_other : List ItemTree → ItemTree → Bool
breaks_other items i = item_test rules.BadUse items i || item_test rules.UnsupportedAttribute items i

-- one of these rules, or 11 or 12
abbrev pub breaks_some : List ItemTree → ItemTree → Bool
breaks_some items i =
    breaks_some_written items i || (breaks_other items i || (item_test rules.VariantTwice items i || item_test rules.FieldTwice items i))
