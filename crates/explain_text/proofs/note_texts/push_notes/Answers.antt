use Rattle.std.proofs.Common.{length, arith}
use Rattle.explain_text.specs.Diagnostics.{IsNoteInside, note_view}
use Rattle.explain_text.proofs.Inside.{mapped_at}
use Rattle.explain_text.proofs.note_texts.push_notes.Goals as goal

pub push_note-requires-clause-within : goal.push_note-requires-clause-within
push_note-requires-clause-within c =
    mapped_at (IsNoteInside (length c.args.source.now.text.now) c.args.source.now.mark) note_view c.args.notes.now c.loop-note.note-index c.note-item.result (omega arith) c.note-item.is
    c.requires.within
