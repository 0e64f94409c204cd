use Rattle.std.proofs.Common.{◌∙◌, get_or, ap, sym}
use Rattle.constructor_sets.specs.declared.piece.Span.{Span}
use Rattle.constructor_sets.specs.Spans.{plain_span}
use Rattle.pattern_matrix.specs.Halving.{span_has}
use Rattle.pattern_matrix.specs.Parts.{plain_spans}
use Rattle.pattern_matrix.proofs.Getting.{got-read}
use Rattle.usefulness.proofs.LoneRows.{one_lacking}
use Rattle.usefulness.proofs.lone.first_with.Goals as goal

pub returns-then-has-clause-first : goal.returns-then-has-clause-first
returns-then-has-clause-first c =
    let spans = c.args.spans.now in
    let i = c.loop-i.i in
    let none : Span = record { first = 0; end = 0 } in
    record {
      before = c.loop-i.invariant;
      has = ap (span_has c.args.piece) (got-read plain_span spans i none c.loop-i-test.true) ∙ sym c.has.ensures ∙ c.if-has.true;
    }

pub loop-i-preserved : goal.loop-i-preserved
loop-i-preserved c =
    let spans = c.args.spans.now in
    let i = c.loop-i.i in
    let none : Span = record { first = 0; end = 0 } in
    one_lacking (plain_spans spans) c.args.piece i (plain_span (get_or spans i none)) (got-read plain_span spans i none c.loop-i-test.true) (sym c.has.ensures ∙ c.if-has.false) c.loop-i.invariant
