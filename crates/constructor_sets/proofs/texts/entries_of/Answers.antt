use Rattle.std.proofs.Common.{arith}
use Rattle.std.proofs.lemmas.Grind.{common_steps}
use Rattle.std.proofs.lemmas.List.Elements.{All-push}
use Rattle.constructor_sets.specs.Texts.{IsEntry}
use Rattle.constructor_sets.proofs.TextSpans.{text_entry}
use Rattle.constructor_sets.proofs.texts.entries_of.Goals as goal
use Rattle.constructor_sets.proofs.texts.entries_of.Goals.{in-Text+in_ok-push, in_default}

pub loop-place-preserved : goal.loop-place-preserved
loop-place-preserved c =
    elim c.match-head.branch [
      | in-Text+in_ok-push w ↦ rw (w.entries-is, w.in_ok-push.ensures.items) (
        grind (arith, common_steps),
        All-push (IsEntry c.args.heads.now) c.loop-place.entries.items w.entry_of.result c.loop-place.invariant.1
            (text_entry c.args.heads.now w.entry_of.result c.loop-place.place c.index-heads-place.result w.in-Text.text (w.entry_of.ensures.text) w.entry_of.ensures.utf8 w.entry_of.ensures.begin w.entry_of.ensures.bytes
            w.entry_of.ensures.place (omega (arith, c.loop-place-test.true)) c.index-heads-place.is w.in-Text.is),
      )
      | in_default w ↦ rw w.entries-is (grind (arith, common_steps), c.loop-place.invariant.1)
    ]
