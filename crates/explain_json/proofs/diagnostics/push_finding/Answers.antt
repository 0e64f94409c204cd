use Rattle.std.proofs.Common.{◌∙◌, ap, sym, ◌++◌, map, false, string_bytes}
use Rattle.std.specs.Prelude.{Some, None}
use Rattle.serde_json.specs.Data.{string}
use Rattle.serde_json.specs.View.{items_of}
use Rattle.serde_json.specs.Written.{compact_text, items_text}
use Rattle.explain_lines.proofs.Adding.{seven_added}
use Rattle.explain_text.specs.Diagnostics.{diagnostic_view, note_view}
use Rattle.explain_json.specs.Diagnostics.{note_data}
use Rattle.explain_json.specs.Spans.{place_items}
use Rattle.explain_json.proofs.Written.{finding_written}
use Rattle.explain_json.proofs.diagnostics.push_finding.Goals as goal

pub returns : goal.returns
returns c =
    seven_added _ _ _ _ _ _ _ _ _ _ _ _ _ _ _ c.in_ok-push_str.ensures.bytes
    (c.in_ok-push_notes.ensures ∙ ap (λ ns. string_bytes c.push_str.new.self
    ++ items_text false (items_of (map (note_data c.args.source.now.name.now c.args.source.now.text.now c.args.source.now.mark) (map note_view ns)))) c.as_slice.ensures.value)
    c.in_ok-push_str-2.ensures.bytes c.in_ok-push_code.ensures c.in_ok-push_str-3.ensures.bytes
    (c.in_ok-push_quoted.ensures ∙ ap (λ z. string_bytes c.push_str-3.new.self ++ compact_text (string z)) c.finding_level.ensures)
    (seven_added _ _ _ _ _ _ _ _ _ _ _ _ _ _ _ c.in_ok-push_str-4.ensures.bytes
    (c.in_ok-push_quoted-2.ensures ∙ ap (λ z. string_bytes c.push_str-4.new.self ++ compact_text (string z)) c.as_str.ensures.value)
    c.in_ok-push_str-5.ensures.bytes
    (c.in_ok-push_quoted-3.ensures ∙ ap (λ z. string_bytes c.push_str-5.new.self ++ compact_text (string z)) (c.as_str-2.ensures.value ∙ c.in_ok-shown.ensures))
    c.in_ok-push_str-6.ensures.bytes
    (c.in_ok-push_place.ensures ∙ ap (λ l. string_bytes c.push_str-6.new.self
    ++ items_text false (place_items c.args.source.now.name.now c.args.source.now.text.now c.args.source.now.mark c.args.found.now.place (Some l) None)) c.as_str-3.ensures.value)
    c.in_ok-push_str-7.ensures.bytes)
    ∙ ap (λ z. string_bytes c.args.text.now ++ z)
    (sym (finding_written c.args.source.now.paint c.args.source.now.name.now c.args.source.now.text.now c.args.source.now.mark (diagnostic_view c.args.found.now)))
