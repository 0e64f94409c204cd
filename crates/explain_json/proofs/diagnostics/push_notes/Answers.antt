use Rattle.std.proofs.Common.{length, arith}
use Rattle.explain_json.proofs.Told.{note_inside}
use Rattle.explain_json.proofs.diagnostics.push_notes.Goals as goal

pub push_note-requires-clause-within : goal.push_note-requires-clause-within
push_note-requires-clause-within c =
    note_inside (length c.args.source.now.text.now) c.args.source.now.mark c.args.notes.now c.loop-note.note-index c.note-item.result (omega arith) c.note-item.is
    c.requires.within
