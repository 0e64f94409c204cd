use Rattle.std.proofs.Common.{◌≡◌, ◌∙◌, ap, sym, ◌++◌, string_bytes, rules}
use Rattle.witness_text.specs.Texts.{field_text}
use Rattle.witness_text.proofs.Adding.{three_added, four_added}
use Rattle.witness_text.proofs.Lists.{joined_listed}
use Rattle.value_syntax.specs.declared.value.WrittenValue.TheFolds.{the_lemmas}
use Rattle.value_syntax.specs.Trees.{written_view, values_view, field_view}
use Rattle.value_syntax.specs.Texts.{value_texts}
use Rattle.value_syntax.proofs.Lists.{some_braced}
use Rattle.value_syntax.proofs.writing.+writing.Goals as goal

pub push_braces-returns : goal.push_braces-returns
push_braces-returns t c =
    three_added _ _ _ _ _ _ _ c.in_ok-push_str.ensures.bytes c.in_ok-push_fields.ensures
    c.in_ok-push_str-2.ensures.bytes
    ∙ ap (λ z. string_bytes c.args.text.now ++ z)
    (sym (some_braced c.args.fields.now c.is_empty.result c.is_empty.ensures c.if-is_empty.false))

pub push_tuple-returns : goal.push_tuple-returns
unfolding lib.Utf8.encode
push_tuple-returns t c =
    let parts = value_texts (values_view c.args.parts.now) in
    three_added _ _ _ _ _ _ _ c.in_ok-push.ensures.bytes (c.in_ok-push_values.ensures
    ∙ ap (λ z. string_bytes c.push.new.self ++ z) (sym (joined_listed parts)))
    (c.in_ok-push_str.ensures.bytes ∙ ap (λ z. string_bytes c.push_values.new.text ++ z) c.tuple_end.ensures)

pub push_row-returns : goal.push_row-returns
unfolding lib.Utf8.encode
push_row-returns t c =
    let items = value_texts (values_view c.args.items.now) in
    three_added _ _ _ _ _ _ _ c.in_ok-push.ensures.bytes (c.in_ok-push_values.ensures
    ∙ ap (λ z. string_bytes c.push.new.self ++ z) (sym (joined_listed items))) c.in_ok-push-2.ensures.bytes

pub push_tuple_form-returns : goal.push_tuple_form-returns
unfolding lib.Utf8.encode
push_tuple_form-returns t c =
    let parts = value_texts (values_view c.args.parts.now) in
    four_added _ _ _ _ _ _ _ _ _ c.in_ok-push_path.ensures c.in_ok-push.ensures.bytes
    (c.in_ok-push_values.ensures ∙ ap (λ z. string_bytes c.push.new.self ++ z) (sym (joined_listed parts)))
    c.in_ok-push-2.ensures.bytes

pub push_field-returns : goal.push_field-returns
unfolding field_text
push_field-returns t c =
    let seen : field_view c.args.field.now ≡ record {
      name = string_bytes c.args.field.now.name;
      value = written_view c.args.field.now.value;
    } = search (rules, the_lemmas) in
    let name : c.as_str.result.now ≡ string_bytes c.args.field.now.name = search rules in
    rw (seen, ← name) (three_added _ _ _ _ _ _ _ c.in_ok-push_name.ensures c.in_ok-push_str.ensures.bytes
    c.in_ok-push_written.ensures)
