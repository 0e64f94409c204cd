use Rattle.std.proofs.Common.{◌≡◌, arith, IsTrue, List, length, sym, ap, subst, ◌∙◌}
use Rattle.constructor_sets.specs.Columns.{plain_ctors}
use Rattle.constructor_sets.specs.Spans.{AreKnownSpans}
use Rattle.constructor_sets.specs.Texts.{entry_texts, is_each_text}
use Rattle.constructor_sets.specs.declared.piece.Span.{Span}
use Rattle.constructor_sets.proofs.TextSpans.{numbered_spans}
use Rattle.constructor_sets.proofs.texts.text_spans.Goals as goal

pub all_spans-requires-clause-len : goal.all_spans-requires-clause-len
all_spans-requires-clause-len c = ap length c.deref.ensures.value ∙ c.requires.known.len

pub all_spans-requires-clause-known : goal.all_spans-requires-clause-known
all_spans-requires-clause-known c =
    let named = c.args.told.now.named in
    let count : c.len.result ≡ length named.items = (let read = c.len.ensures in omega (arith, read, named.ok.0)) in
    subst (λ (xs : List Span). AreKnownSpans (plain_ctors c.args.pieces.now) c.args.heads.now xs) (sym c.deref.ensures.value)
    (numbered_spans (plain_ctors c.args.pieces.now) c.args.heads.now (entry_texts c.args.told.now.named.items) c.args.told.now.known.items
    (c.requires.pieces (subst (λ n. IsTrue (is_each_text n c.args.pieces.now)) count (sym c.if-is_each_found.ensures))) c.requires.rising c.requires.known)
