use Rattle.std.proofs.Common.{◌≡◌, ◌++◌, drop, false, string_bytes}
use Rattle.witness_text.specs.Writing.{listed}
use Rattle.value_syntax.specs.Trees.{values_view, fields_view}
use Rattle.value_syntax.specs.Texts.{value_texts, field_texts}
use Rattle.value_syntax.proofs.writing.+writing.Given as goal

abbrev pub invariant-push_values-loop-value : goal.invariant-push_values-loop-value
invariant-push_values-loop-value l =
    string_bytes l.text ++ listed l.later (value_texts (values_view (drop l.value-index l.values)))
    ≡ string_bytes l.initial.text ++ listed false (value_texts (values_view l.values))

abbrev pub invariant-push_fields-loop-field : goal.invariant-push_fields-loop-field
invariant-push_fields-loop-field l =
    string_bytes l.text ++ listed l.later (field_texts (fields_view (drop l.field-index l.fields)))
    ≡ string_bytes l.initial.text ++ listed false (field_texts (fields_view l.fields))
