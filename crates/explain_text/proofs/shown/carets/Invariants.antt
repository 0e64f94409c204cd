use Rattle.std.proofs.Common.{◌≡◌, replicate, string_bytes}
use Rattle.explain_text.proofs.shown.carets.Given as goal

abbrev pub invariant-loop-step : goal.invariant-loop-step
invariant-loop-step l = string_bytes l.text ≡ replicate l.step 94
