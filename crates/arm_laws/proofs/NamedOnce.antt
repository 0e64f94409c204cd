-- In a file of which no item breaks a rule on declarations no name stands twice.
use Rattle.std.proofs.Common.{◌≡◌, Bool, true, false, refl}
use Rattle.type_names.specs.Rules.{named_twice_at, breaks_at}
use Rattle.type_names.specs.declared.item_rules.ItemRule.TheVariants as rules
use Rattle.type_table.specs.Faults.{name_twice, variant_twice, field_twice}
use Rattle.arm_laws.specs.TakesLaws.{NamesStandOnce}

-- a test that must not pass does not pass
fails : (b : Bool) → (b ≡ true → ⊥) → b ≡ false
fails true h = absurd (h refl)
fails false h = refl

pub names_stand_once : NamesStandOnce
names_stand_once s none = record {
  items = λ i. fails (named_twice_at s.items i) (λ e. none i 10 (name_twice refl e));
  variants = λ i. fails (breaks_at rules.VariantTwice s.items i) (λ e. none i 11 (variant_twice refl e));
  fields = λ i. fails (breaks_at rules.FieldTwice s.items i) (λ e. none i 12 (field_twice refl e));
}
