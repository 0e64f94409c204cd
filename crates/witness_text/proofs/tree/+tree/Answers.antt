use Rattle.std.proofs.Common.{◌≡◌, ◌∙◌, ap, sym, ◌++◌, string_bytes, rules}
use Rattle.witness_text.specs.declared.named.NamedWitness.TheFolds.{the_lemmas}
use Rattle.witness_text.specs.Trees.{OfRow, OfPoint, name_view, witness_view, witnesses_view, fields_view}
use Rattle.serde_json.specs.Written.{compact_text}
use Rattle.witness_text.specs.Texts.{name_text}
use Rattle.witness_text.specs.Reported.{tree_data, parts_data, fields_data}
use Rattle.witness_text.proofs.Adding.{three_added, five_added}
use Rattle.witness_text.specs.Points.{behind_points, starts_text, ends_text}
use Rattle.witness_text.proofs.Written.{tuple_written, node_written, row_written}
use Rattle.witness_text.proofs.Points.{tree_around}
use Rattle.witness_text.proofs.tree.+tree.Goals as goal

pub push_tuple_node-returns : goal.push_tuple_node-returns
unfolding lib.Utf8.encode
push_tuple_node-returns t c =
    three_added _ _ _ _ _ _ _ c.in_ok-push_str.ensures.bytes c.in_ok-push_parts.ensures c.in_ok-push.ensures.bytes
    ∙ ap (λ z. string_bytes c.args.text.now ++ z) (sym (tuple_written (parts_data (witnesses_view c.args.parts.now))))

pub push_tuple_form_node-returns : goal.push_tuple_form_node-returns
unfolding lib.Utf8.encode
push_tuple_form_node-returns t c =
    three_added _ _ _ _ _ _ _ c.in_ok-push_node_start.ensures c.in_ok-push_parts.ensures c.in_ok-push.ensures.bytes
    ∙ ap (λ z. string_bytes c.args.text.now ++ z) (sym (node_written (name_text (name_view c.args.name.now)) (parts_data (witnesses_view c.args.parts.now))))

pub push_brace_node-returns : goal.push_brace_node-returns
unfolding lib.Utf8.encode
push_brace_node-returns t c =
    three_added _ _ _ _ _ _ _ c.in_ok-push_node_start.ensures c.in_ok-push_fields.ensures c.in_ok-push.ensures.bytes
    ∙ ap (λ z. string_bytes c.args.text.now ++ z) (sym (node_written (name_text (name_view c.args.name.now)) (fields_data (fields_view c.args.fields.now))))

pub push_points-returns : goal.push_points-returns
push_points-returns t c =
    let inner = witness_view c.deref.result.now in
    let seen : witness_view c.args.witness.now ≡ OfPoint c.in-Point.mutable inner = search (rules, the_lemmas) in
    three_added _ _ _ _ _ _ _ c.in_ok-push_starts.ensures c.in_ok-push_tree.ensures c.in_ok-push_ends.ensures
    ∙ ap (λ w. string_bytes c.args.text.now ++ (starts_text (witness_view c.args.witness.now) ++ (compact_text (tree_data w) ++ ends_text (witness_view c.args.witness.now))))
    (c.behind_points.ensures.behind ∙ sym (ap behind_points seen))
    ∙ ap (λ z. string_bytes c.args.text.now ++ z) (sym (tree_around (witness_view c.args.witness.now)))

pub push_tree-returns-in_ok-push-in-Row : goal.push_tree-returns-in_ok-push-in-Row
unfolding lib.Utf8.encode
push_tree-returns-in_ok-push-in-Row t c =
    let front = c.deref-in-Row.result.now in
    let back = c.deref-in-Row-2.result.now in
    let seen : witness_view c.args.witness.now ≡ OfRow (witnesses_view front) c.in-Row.longer (witnesses_view back) = search (rules, the_lemmas) in
    rw seen
    (five_added _ _ _ _ _ _ _ _ _ _ _ c.in_ok-push_str-in-Row.ensures.bytes c.in_ok-push_parts-in-Row.ensures
    (c.in_ok-push_str-in-Row-2.ensures.bytes ∙ ap (λ z. string_bytes c.push_parts.new.text ++ z) c.row_middle.ensures) c.in_ok-push_parts-in-Row-2.ensures
    c.in_ok-push-in-Row.ensures.bytes
    ∙ ap (λ z. string_bytes c.args.text.now ++ z) (sym (row_written (parts_data (witnesses_view front)) c.in-Row.longer (parts_data (witnesses_view back)))))
