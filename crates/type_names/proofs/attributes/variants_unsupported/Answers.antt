use Rattle.std.proofs.Common.{sym, ◌∙◌}
use Rattle.decl_syntax.specs.Items.{variant_view}
use Rattle.type_names.proofs.ItemTests.{any_found}
use Rattle.type_names.proofs.attributes.variants_unsupported.Goals as goal

pub returns-then-variant_unsupported : goal.returns-then-variant_unsupported
returns-then-variant_unsupported c =
    any_found variant_view _ c.args.variants.now c.loop-variant.variant-index c.variant-item.result c.loop-variant-test.true c.variant-item.is (sym c.variant_unsupported.ensures ∙ c.if-variant_unsupported.true)
