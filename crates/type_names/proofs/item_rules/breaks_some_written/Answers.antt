use Rattle.std.proofs.Common.{None, map, ap, ◌∙◌}
use Rattle.decl_syntax.specs.Items.{item_view, kind_view}
use Rattle.type_names.specs.Meanings.{Means, means}
use Rattle.type_names.specs.TypeRules.{some_type}
use Rattle.type_names.specs.SomeRule.{rule_test}
use Rattle.type_names.proofs.SplitTests.{some_test_split}
use Rattle.type_names.proofs.Variants.{means_are}
use Rattle.type_names.proofs.item_rules.breaks_some_written.Goals as goal

pub returns : goal.returns
returns c =
    let kind = kind_view c.args.item.now.kind in
    c.breaks_in_item.ensures
    ∙ (ap (λ (m : Means). some_type m (rule_test None m) kind) (means_are (map item_view c.args.items.now) c.args.names.now c.requires)
    ∙ some_test_split (means (map item_view c.args.items.now)) kind)
