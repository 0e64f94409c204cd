use Rattle.std.proofs.Common.{sym, ◌∙◌}
use Rattle.decl_syntax.specs.Items.{variant_view}
use Rattle.type_names.specs.NameRules.{form_has_field_twice}
use Rattle.type_names.proofs.ItemTests.{any_found}
use Rattle.type_names.proofs.name_rules.some_variant_repeats.Goals as goal

pub returns-then-branch : goal.returns-then-branch
returns-then-branch c =
    any_found variant_view (λ v. form_has_field_twice v.form) c.args.variants.now c.loop-variant.variant-index c.variant-item.result c.loop-variant-test.true c.variant-item.is (sym c.in_ok-form_repeats.ensures ∙ c.if-branch.true)
