use Rattle.std.proofs.Common.{◌∙◌, map, arith}
use Rattle.std.proofs.lemmas.List.{length-map}
use Rattle.explain_text.specs.Diagnostics.{diagnostic_view}
use Rattle.explain_text.proofs.Inside.{no_text}
use Rattle.explain_text.proofs.Whole.{whole_added}
use Rattle.explain_text.proofs.texts.whole_text.Goals as goal

pub returns-then-count-eq0 : goal.returns-then-count-eq0
returns-then-count-eq0 c =
    c.new-text.ensures.bytes
    ∙ no_text c.args.source.now.paint c.args.source.now.name.now c.args.source.now.text.now c.args.source.now.mark (map diagnostic_view c.args.all.now)
    (length-map c.args.all.now diagnostic_view ∙ c.if-count-eq0.true)

pub returns : goal.returns
returns c =
    whole_added c.args.source.now.paint c.args.source.now.name.now c.args.source.now.text.now c.args.source.now.mark c.args.all.now _ _ _
    c.error_count-errors.result (omega arith)
    c.new-text.ensures.bytes c.in_ok-push_diagnostics.ensures c.in_ok-push_counts.ensures c.error_count-errors.ensures.exact
