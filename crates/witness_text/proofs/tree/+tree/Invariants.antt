use Rattle.std.proofs.Common.{◌≡◌, ◌++◌, drop, false, string_bytes}
use Rattle.serde_json.specs.Written.{items_text}
use Rattle.witness_text.specs.Trees.{witnesses_view, fields_view}
use Rattle.witness_text.specs.Reported.{parts_data, fields_data}
use Rattle.witness_text.proofs.tree.+tree.Given as goal

abbrev pub invariant-push_parts-loop-part : goal.invariant-push_parts-loop-part
invariant-push_parts-loop-part l =
    string_bytes l.text ++ items_text l.later (parts_data (witnesses_view (drop l.part-index l.parts)))
    ≡ string_bytes l.initial.text ++ items_text false (parts_data (witnesses_view l.parts))

abbrev pub invariant-push_fields-loop-field : goal.invariant-push_fields-loop-field
invariant-push_fields-loop-field l =
    string_bytes l.text ++ items_text l.later (fields_data (fields_view (drop l.field-index l.fields)))
    ≡ string_bytes l.initial.text ++ items_text false (fields_data (fields_view l.fields))
