use Rattle.std.proofs.Common.{sym, ◌∙◌}
use Rattle.decl_syntax.specs.Patterns.{attr_view}
use Rattle.type_names.proofs.ItemTests.{any_found}
use Rattle.type_names.proofs.attributes.is_marked.Goals as goal

pub returns-then-is_mark : goal.returns-then-is_mark
returns-then-is_mark c =
    any_found attr_view _ c.args.attrs.now c.loop-attr.attr-index c.attr-item.result c.loop-attr-test.true c.attr-item.is (sym c.is_mark.ensures ∙ c.if-is_mark.true)
