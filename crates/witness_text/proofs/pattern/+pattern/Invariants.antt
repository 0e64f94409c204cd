use Rattle.std.proofs.Common.{◌≡◌, ◌++◌, drop, false, string_bytes}
use Rattle.witness_text.specs.Trees.{witnesses_view, fields_view}
use Rattle.witness_text.specs.Texts.{parts_by, fields_by}
use Rattle.witness_text.specs.Writing.{listed, is_behind}
use Rattle.witness_text.proofs.pattern.+pattern.Given as goal

abbrev pub invariant-push_parts-loop-part : goal.invariant-push_parts-loop-part
invariant-push_parts-loop-part l =
    (string_bytes l.text ++ listed l.later (parts_by l.style (witnesses_view (drop l.part-index l.parts)))
    ≡ string_bytes l.initial.text ++ listed l.before (parts_by l.style (witnesses_view l.parts)))
    × (is_behind l.later (parts_by l.style (witnesses_view (drop l.part-index l.parts))) ≡ is_behind l.before (parts_by l.style (witnesses_view l.parts)))

abbrev pub invariant-push_fields-loop-field : goal.invariant-push_fields-loop-field
invariant-push_fields-loop-field l =
    string_bytes l.text ++ listed l.later (fields_by l.style (fields_view (drop l.field-index l.fields)))
    ≡ string_bytes l.initial.text ++ listed false (fields_by l.style (fields_view l.fields))
