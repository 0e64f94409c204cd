use Rattle.std.proofs.Common.{◌∙◌, ap, sym, ◌++◌, string_bytes}
use Rattle.serde_json.specs.Data.{string}
use Rattle.serde_json.specs.Written.{compact_text}
use Rattle.explain_lines.proofs.Adding.{seven_added}
use Rattle.explain_text.specs.Diagnostics.{note_view}
use Rattle.explain_json.proofs.Written.{note_written}
use Rattle.explain_json.proofs.diagnostics.push_note.Goals as goal

pub returns : goal.returns
returns c =
    seven_added _ _ _ _ _ _ _ _ _ _ _ _ _ _ _ c.in_ok-push_str.ensures.bytes
    (c.in_ok-push_quoted.ensures ∙ ap (λ z. string_bytes c.push_str.new.self ++ compact_text (string z)) c.note_level.ensures)
    c.in_ok-push_str-2.ensures.bytes
    (c.in_ok-push_quoted-2.ensures ∙ ap (λ z. string_bytes c.push_str-2.new.self ++ compact_text (string z)) c.as_str.ensures.value)
    c.in_ok-push_str-3.ensures.bytes c.in_ok-push_note_place.ensures c.in_ok-push_str-4.ensures.bytes
    ∙ ap (λ z. string_bytes c.args.text.now ++ z)
    (sym (note_written c.args.source.now.name.now c.args.source.now.text.now c.args.source.now.mark (note_view c.args.note.now)))
