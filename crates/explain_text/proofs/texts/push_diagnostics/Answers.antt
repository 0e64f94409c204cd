use Rattle.std.proofs.Common.{length, arith}
use Rattle.explain_text.specs.Diagnostics.{IsInside, diagnostic_view}
use Rattle.explain_text.proofs.Inside.{mapped_at}
use Rattle.explain_text.proofs.texts.push_diagnostics.Goals as goal

pub push_diagnostic-requires-clause-within : goal.push_diagnostic-requires-clause-within
push_diagnostic-requires-clause-within c =
    mapped_at (IsInside (length c.args.source.now.text.now) c.args.source.now.mark) diagnostic_view c.args.all.now c.loop-one.one-index c.one-item.result (omega arith) c.one-item.is
    c.requires.within
