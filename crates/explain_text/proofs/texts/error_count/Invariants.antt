use Rattle.std.proofs.Common.{◌≡◌, ◌≤◌, take, map}
use Rattle.explain_text.specs.Diagnostics.{diagnostic_view}
use Rattle.explain_text.specs.Texts.{error_count}
use Rattle.explain_text.proofs.texts.error_count.Given as goal

abbrev pub invariant-loop-one : goal.invariant-loop-one
invariant-loop-one l =
    record { exact : l.errors ≡ error_count (take l.one-index (map diagnostic_view l.all)); few : l.errors ≤ l.one-index }
