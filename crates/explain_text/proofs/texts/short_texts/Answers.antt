use Rattle.std.proofs.Common.{length, arith}
use Rattle.explain_text.specs.Diagnostics.{IsInside, diagnostic_view}
use Rattle.explain_text.proofs.Inside.{mapped_at}
use Rattle.explain_text.proofs.texts.short_texts.Goals as goal

pub push_short-requires-clause-within : goal.push_short-requires-clause-within
push_short-requires-clause-within c =
    mapped_at (IsInside (length c.args.source.now.text.now) c.args.source.now.mark) diagnostic_view c.args.all.now c.loop-one.one-index c.one-item.result (omega arith) c.one-item.is
    c.requires.within
