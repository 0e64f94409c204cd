use Rattle.std.proofs.Common.{sym, ◌∙◌}
use Rattle.std.specs.List.{list_any}
use Rattle.keyed_matrix.specs.Views.{plain_heads}
use Rattle.decision_tree.specs.Thin.{is_blank_head}
use Rattle.decision_tree.proofs.RunTests.{any-on, any-found, any-end}
use Rattle.decision_tree.proofs.thin.have_blank.Goals as goal

pub returns-then-has_blank : goal.returns-then-has_blank
returns-then-has_blank g c =
    any-found c.args.heads.now c.loop-one.one-index c.one-item.result c.loop-one-test.true c.one-item.is is_blank_head
    (list_any is_blank_head (plain_heads c.args.heads.now)) c.loop-one.invariant
    (sym c.has_blank.ensures ∙ c.if-has_blank.true)

pub loop-one-preserved : goal.loop-one-preserved
loop-one-preserved g c =
    any-on c.args.heads.now c.loop-one.one-index c.one-item.result c.loop-one-test.true c.one-item.is is_blank_head
    (list_any is_blank_head (plain_heads c.args.heads.now)) c.loop-one.invariant
    (sym c.has_blank.ensures ∙ c.if-has_blank.false)

pub returns : goal.returns
returns g c =
    any-end is_blank_head c.args.heads.now c.loop-one.one-index
    (list_any is_blank_head (plain_heads c.args.heads.now)) c.loop-one-test.false c.loop-one.invariant
