-- Where no item breaks one of the rules, none of them has a first item that breaks it.
use Rattle.std.proofs.Common.{◌≡◌, ℕ, Bool, false, ◌||◌, List, [], ◌∷◌, length, None, refl, suc, zero}
use Rattle.std.specs.Prelude.{slice_get}
use Rattle.std.specs.List.{list_any}
use Rattle.std.proofs.lemmas.Bool.{or_parts}
use Rattle.decl_syntax.specs.Items.{ItemTree}
use Rattle.type_names.specs.declared.item_rules.ItemRule.{ItemRule}
use Rattle.type_names.specs.declared.item_rules.ItemRule.TheVariants as rules
use Rattle.type_names.specs.declared.type_rules.TypeRule.{TypeRule}
use Rattle.type_names.specs.declared.type_rules.TypeRule.TheVariants as type_rules
use Rattle.type_names.specs.Rules.{passes, item_test, breaks_at, FirstOf}
use Rattle.type_names.specs.SomeRule.{breaks_some_written, breaks_other, breaks_some}

-- each of the rules on written types is kept where none is broken
module _ (all : List ItemTree) (i : ItemTree) (h : breaks_some_written all i ≡ false) where
  abbrev test : TypeRule → Bool
  test rule = item_test (rules.Written rule) all i

  behind_unknown : (test type_rules.SizelessPlace || (test type_rules.ArrayLength || test type_rules.ArgumentCount)) ≡ false
  behind_unknown = (or_parts (test type_rules.UnknownType) (test type_rules.SizelessPlace || (test type_rules.ArrayLength || test type_rules.ArgumentCount)) h).1

  behind_sizeless : (test type_rules.ArrayLength || test type_rules.ArgumentCount) ≡ false
  behind_sizeless = (or_parts (test type_rules.SizelessPlace) (test type_rules.ArrayLength || test type_rules.ArgumentCount) behind_unknown).1

  written_kept : (rule : TypeRule) → item_test (rules.Written rule) all i ≡ false
  written_kept type_rules.UnknownType = (or_parts (test type_rules.UnknownType) (test type_rules.SizelessPlace || (test type_rules.ArrayLength || test type_rules.ArgumentCount)) h).0
  written_kept type_rules.SizelessPlace = (or_parts (test type_rules.SizelessPlace) (test type_rules.ArrayLength || test type_rules.ArgumentCount) behind_unknown).0
  written_kept type_rules.ArrayLength = (or_parts (test type_rules.ArrayLength) (test type_rules.ArgumentCount) behind_sizeless).0
  written_kept type_rules.ArgumentCount = (or_parts (test type_rules.ArrayLength) (test type_rules.ArgumentCount) behind_sizeless).1

-- each of the rules is kept where none is broken
module _ (all : List ItemTree) (i : ItemTree) (h : breaks_some all i ≡ false) where
  abbrev twice : Bool
  twice = item_test rules.VariantTwice all i || item_test rules.FieldTwice all i

  behind_written : (breaks_other all i || twice) ≡ false
  behind_written = (or_parts (breaks_some_written all i) (breaks_other all i || twice) h).1

  other : breaks_other all i ≡ false
  other = (or_parts (breaks_other all i) twice behind_written).0

  not_twice : twice ≡ false
  not_twice = (or_parts (breaks_other all i) twice behind_written).1

  kept : (rule : ItemRule) → item_test rule all i ≡ false
  kept (rules.Written rule) = written_kept all i (or_parts (breaks_some_written all i) (breaks_other all i || twice) h).0 rule
  kept rules.VariantTwice = (or_parts (item_test rules.VariantTwice all i) (item_test rules.FieldTwice all i) not_twice).0
  kept rules.FieldTwice = (or_parts (item_test rules.VariantTwice all i) (item_test rules.FieldTwice all i) not_twice).1
  kept rules.BadUse = (or_parts (item_test rules.BadUse all i) (item_test rules.UnsupportedAttribute all i) other).0
  kept rules.UnsupportedAttribute = (or_parts (item_test rules.BadUse all i) (item_test rules.UnsupportedAttribute all i) other).1

all_kept : (all xs : List ItemTree) → list_any (breaks_some all) xs ≡ false → (rule : ItemRule) (j : ℕ) → passes (item_test rule all) (slice_get xs j) ≡ false
all_kept all [] h rule j = refl
all_kept all (x ∷ xs) h rule zero = kept all x (or_parts (breaks_some all x) (list_any (breaks_some all) xs) h).0 rule
all_kept all (x ∷ xs) h rule (suc j) = all_kept all xs (or_parts (breaks_some all x) (list_any (breaks_some all) xs) h).1 rule j

pub none_first : (all : List ItemTree) → list_any (breaks_some all) all ≡ false → (rule : ItemRule) → FirstOf (breaks_at rule all) (length all) None
none_first all h rule = λ j below. all_kept all all h rule j
