use Rattle.std.proofs.Common.{◌≡◌, ◌++◌, drop, map, string_bytes}
use Rattle.std.specs.Prelude.{flat_map}
use Rattle.explain_text.specs.Diagnostics.{diagnostic_view}
use Rattle.explain_text.specs.Texts.{diagnostic_text}
use Rattle.explain_text.proofs.texts.push_diagnostics.Given as goal

abbrev pub invariant-loop-one : goal.invariant-loop-one
invariant-loop-one l =
    string_bytes l.text
    ++ flat_map (diagnostic_text l.source.paint l.source.name.now l.source.text.now l.source.mark) (map diagnostic_view (drop l.one-index l.all))
    ≡ string_bytes l.initial.text
    ++ flat_map (diagnostic_text l.source.paint l.source.name.now l.source.text.now l.source.mark) (map diagnostic_view l.all)
