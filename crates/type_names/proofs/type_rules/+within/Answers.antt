use Rattle.std.proofs.Common.{map, sym, ◌∙◌, arith}
use Rattle.decl_syntax.specs.Types.{type_view}
use Rattle.type_names.specs.SomeRule.{rule_test}
use Rattle.type_names.specs.Views.{means_in}
use Rattle.type_names.proofs.ItemTests.{any_found, any_none}
use Rattle.type_names.proofs.WrittenLemmas.{some_from}
use Rattle.type_names.proofs.type_rules.+within.Goals as goal

pub some_breaks-returns-then-breaks_within : goal.some_breaks-returns-then-breaks_within
some_breaks-returns-then-breaks_within t c =
    any_found type_view _ c.args.types.now c.loop-ty.ty-index c.ty-item.result c.loop-ty-test.true c.ty-item.is (sym c.breaks_within.ensures ∙ c.if-breaks_within.true)
    ∙ sym (some_from (means_in c.args.names.now) (rule_test c.args.rule (means_in c.args.names.now)) c.args.sized (map type_view c.args.types.now))

pub some_breaks-returns : goal.some_breaks-returns
some_breaks-returns t c =
    any_none type_view _ c.args.types.now c.loop-ty.ty-index (omega arith) c.loop-ty.invariant
    ∙ sym (some_from (means_in c.args.names.now) (rule_test c.args.rule (means_in c.args.names.now)) c.args.sized (map type_view c.args.types.now))
