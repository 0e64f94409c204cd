use Rattle.std.proofs.Common.{◌≡◌, drop, map}
use Rattle.explain_text.specs.Diagnostics.{diagnostic_view}
use Rattle.explain_json.specs.Texts.{any_breaks}
use Rattle.explain_json.proofs.explaining.any_breaks.Given as goal

abbrev pub invariant-loop-one : goal.invariant-loop-one
invariant-loop-one l = any_breaks (map diagnostic_view (drop l.one-index l.found)) ≡ any_breaks (map diagnostic_view l.found)
