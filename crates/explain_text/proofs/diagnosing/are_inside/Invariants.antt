use Rattle.std.proofs.Common.{◌≡◌, drop, map}
use Rattle.std.specs.List.{list_all}
use Rattle.explain_text.specs.Diagnosing.{is_inside}
use Rattle.explain_text.specs.Diagnostics.{diagnostic_view}
use Rattle.explain_text.proofs.diagnosing.are_inside.Given as goal

abbrev pub invariant-loop-one : goal.invariant-loop-one
invariant-loop-one l =
    list_all (is_inside l.file) (map diagnostic_view (drop l.one-index l.all)) ≡ list_all (is_inside l.file) (map diagnostic_view l.all)
