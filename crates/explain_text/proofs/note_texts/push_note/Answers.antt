use Rattle.std.proofs.Common.{◌∙◌, ap, ◌++◌, List, String, map, string_bytes}
use Rattle.std.specs.Global.{Global}
use Rattle.explain_text.specs.Diagnostics.{note_view}
use Rattle.explain_text.specs.Texts.{lined_text}
use Rattle.explain_text.proofs.note_texts.push_note.Goals as goal

pub returns : goal.returns
returns c =
    c.in_ok-push_with.ensures
    ∙ ap (λ (l : List (String Global)). string_bytes c.args.text.now
    ++ lined_text c.args.source.now.paint c.args.source.now.name.now c.args.source.now.text.now c.args.source.now.mark (note_view c.args.note.now) (map string_bytes l))
    c.as_slice.ensures.value
