use Rattle.std.proofs.Common.{◌≡◌, ◌++◌, drop, map, string_bytes}
use Rattle.std.specs.Prelude.{flat_map}
use Rattle.explain_text.specs.Diagnostics.{diagnostic_view}
use Rattle.explain_text.specs.Texts.{short_text}
use Rattle.explain_text.proofs.texts.short_texts.Given as goal

abbrev pub invariant-loop-one : goal.invariant-loop-one
invariant-loop-one l =
    string_bytes l.text
    ++ flat_map (short_text l.source.paint l.source.name.now l.source.text.now l.source.mark) (map diagnostic_view (drop l.one-index l.all))
    ≡ flat_map (short_text l.source.paint l.source.name.now l.source.text.now l.source.mark) (map diagnostic_view l.all)
