use Rattle.std.proofs.Common.{◌++◌, ◌∙◌, ap, sym, get_or}
use Rattle.constructor_sets.specs.declared.piece.Span.{Span}
use Rattle.constructor_sets.specs.Spans.{plain_span}
use Rattle.pattern_matrix.specs.Halving.{one_meeting}
use Rattle.pattern_matrix.specs.Parts.{plain_spans}
use Rattle.pattern_matrix.proofs.Getting.{got-read}
use Rattle.pattern_matrix.proofs.Halves.{meeting-more}
use Rattle.pattern_matrix.proofs.halving.meeting.Goals as goal

pub loop-k-preserved : goal.loop-k-preserved
loop-k-preserved c =
    let i = c.loop-k.k-index in
    let numbers = c.args.numbers.now in
    let spans = c.args.spans.now in
    let n = get_or numbers i 0 in
    let none : Span = record { first = 0; end = 0 } in
    let s = plain_span (get_or spans n none) in
    c.in_ok-add_meeting.ensures
    ∙ ap (λ xs. xs ++ one_meeting c.args.first c.args.end n s) c.loop-k.invariant
    ∙ sym (meeting-more (plain_spans spans) c.args.first c.args.end numbers i s c.loop-k-test.true (got-read plain_span spans n none (c.requires i 0 c.loop-k-test.true)))
