use Rattle.std.proofs.Common.{sym, ◌∙◌}
use Rattle.decl_syntax.specs.Items.{variant_view}
use Rattle.type_names.proofs.ItemTests.{any_found}
use Rattle.type_names.proofs.type_rules.breaks_in_variants.Goals as goal

pub returns-then-breaks_in_form : goal.returns-then-breaks_in_form
returns-then-breaks_in_form c =
    any_found variant_view _ c.args.variants.now c.loop-variant.variant-index c.variant-item.result c.loop-variant-test.true c.variant-item.is (sym c.breaks_in_form.ensures ∙ c.if-breaks_in_form.true)
