use Rattle.std.proofs.Common.{◌≡◌, ◌∙◌, ap, sym, ◌++◌, false, string_bytes, rules}
use Rattle.witness_text.specs.declared.named.NamedWitness.TheFolds.{the_lemmas}
use Rattle.witness_text.specs.Trees.{OfRow, OfPoint, witness_view, witnesses_view, field_view}
use Rattle.witness_text.specs.Texts.{rest_texts, text_by, parts_by, field_text}
use Rattle.witness_text.specs.Points.{is_literal, behind_marks, marks_text}
use Rattle.witness_text.proofs.Adding.{two_added, three_added, four_added}
use Rattle.witness_text.proofs.Lists.{joined_listed, some_braced, row_added}
use Rattle.witness_text.proofs.Points.{behind_marked, marks_behind}
use Rattle.witness_text.proofs.pattern.+pattern.Goals as goal

pub push_braces-returns : goal.push_braces-returns
push_braces-returns t c =
    three_added _ _ _ _ _ _ _ c.in_ok-push_str.ensures.bytes c.in_ok-push_fields.ensures c.in_ok-push_str-2.ensures.bytes
    ∙ ap (λ z. string_bytes c.args.text.now ++ z) (sym (some_braced c.args.style c.args.fields.now c.is_empty.result c.is_empty.ensures c.if-is_empty.false))

pub push_points-returns-in_ok-push_pattern : goal.push_points-returns-in_ok-push_pattern
push_points-returns-in_ok-push_pattern t c =
    let first = witness_view c.deref.result.now in
    let inner = witness_view c.deref-else-is_literal.result.now in
    let seen : witness_view c.args.witness.now ≡ OfPoint c.in-Point.mutable first = search (rules, the_lemmas) in
    let again : witness_view c.args.witness.now ≡ OfPoint c.in-Point.mutable inner = search (rules, the_lemmas) in
    let same : inner ≡ first = cc in
    let plain : is_literal c.in-Point.mutable first ≡ false = sym c.is_literal.ensures ∙ c.if-is_literal.false in
    two_added _ _ _ _ _ c.in_ok-push_marks.ensures c.in_ok-push_pattern.ensures
    ∙ ap (λ w. string_bytes c.args.text.now ++ (marks_text (witness_view c.args.witness.now) ++ text_by c.args.style w))
    (c.behind_marks.ensures.behind ∙ ap behind_marks same ∙ sym (ap behind_marks seen ∙ behind_marked c.in-Point.mutable first plain))
    ∙ ap (λ z. string_bytes c.args.text.now ++ z) (sym (marks_behind c.args.style (witness_view c.args.witness.now)))

pub push_tuple-returns : goal.push_tuple-returns
unfolding lib.Utf8.encode
push_tuple-returns t c =
    let parts = parts_by c.args.style (witnesses_view c.args.parts.now) in
    three_added _ _ _ _ _ _ _ c.in_ok-push.ensures.bytes (c.in_ok-push_parts.ensures.text ∙ ap (λ z. string_bytes c.push.new.self ++ z) (sym (joined_listed parts)))
    (c.in_ok-push_str.ensures.bytes ∙ ap (λ z. string_bytes c.push_parts.new.text ++ z) (c.tuple_end.ensures c.args.style))

pub push_tuple_form-returns : goal.push_tuple_form-returns
unfolding lib.Utf8.encode
push_tuple_form-returns t c =
    let parts = parts_by c.args.style (witnesses_view c.args.parts.now) in
    four_added _ _ _ _ _ _ _ _ _ c.in_ok-push_form_name.ensures c.in_ok-push.ensures.bytes
    (c.in_ok-push_parts.ensures.text ∙ ap (λ z. string_bytes c.push.new.self ++ z) (sym (joined_listed parts))) c.in_ok-push-2.ensures.bytes

pub push_field-returns : goal.push_field-returns
unfolding field_text
push_field-returns t c =
    let seen : field_view c.args.field.now ≡ record { name = c.args.field.now.name.now; witness = witness_view c.args.field.now.witness } = search (rules, the_lemmas) in
    rw seen (three_added _ _ _ _ _ _ _ c.in_ok-push_name.ensures c.in_ok-push_str.ensures.bytes c.in_ok-push_pattern.ensures)

pub push_pattern-returns-in_ok-push-in-Row-2 : goal.push_pattern-returns-in_ok-push-in-Row-2
unfolding lib.Utf8.encode
push_pattern-returns-in_ok-push-in-Row-2 t c =
    let front = c.deref-in-Row.result.now in
    let back = c.deref-in-Row-2.result.now in
    let seen : witness_view c.args.witness.now ≡ OfRow (witnesses_view front) c.in-Row.longer (witnesses_view back) = search (rules, the_lemmas) in
    rw seen
    (row_added _ _ _ _ _ _ (parts_by c.args.style (witnesses_view front)) (rest_texts c.in-Row.longer) (parts_by c.args.style (witnesses_view back)) _ _
    c.in_ok-later-in-Row.ensures.later c.in_ok-later-in-Row-2.ensures.later c.in_ok-push-in-Row.ensures.bytes c.in_ok-later-in-Row.ensures.text
    c.in_ok-later-in-Row-2.ensures.text c.in_ok-push_parts-in-Row.ensures.text c.in_ok-push-in-Row-2.ensures.bytes)
