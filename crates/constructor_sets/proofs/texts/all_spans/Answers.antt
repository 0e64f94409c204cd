use Rattle.std.proofs.Common.{arith, subst, sym, get_or}
use Rattle.pat_context.specs.Views.{plain_ctor}
use Rattle.pat_context.specs.declared.ctor.Ctor.{Ctor}
use Rattle.constructor_sets.specs.Columns.{plain_ctors}
use Rattle.constructor_sets.specs.Spans.{IsSpan, plain_span}
use Rattle.constructor_sets.proofs.Spanning.{more_spans}
use Rattle.constructor_sets.proofs.texts.all_spans.Goals as goal

pub loop-place-preserved : goal.loop-place-preserved
loop-place-preserved c =
    more_spans (plain_ctors c.args.pieces.now) c.args.heads.now c.loop-place.place c.index-heads-place.result c.loop-place.spans.items c.push.new.self.items c.known_or_searched-span.result
    (omega (arith, c.loop-place-test.true)) c.index-heads-place.is c.in_ok-push.ensures.items c.loop-place.invariant c.known_or_searched-span.ensures

pub known_or_searched-span-requires-clause-known : goal.known_or_searched-span-requires-clause-known
known_or_searched-span-requires-clause-known c = λ k.
    subst (λ (x : Ctor). IsSpan (plain_ctors c.args.pieces.now) (plain_ctor x) (plain_span (get_or c.args.known.now c.loop-place.place (record { first = 0; end = 0 })))) (sym c.index-heads-place.is)
    (c.requires.known c.loop-place.place c.index-heads-place.result (record { first = 0; end = 0 }) (omega (arith, c.requires.len, c.loop-place-test.true)) k)
