use Rattle.std.proofs.Common.{◌≡◌, Some, chars, string_bytes, rules, ap, ◌∙◌}
use Rattle.std.proofs.lemmas.Str.{scalars-chars}
use Rattle.match_model.specs.Values.{MValue, Text}
use Rattle.tree_eval.specs.declared.value.Value.{the_lemmas}
use Rattle.tree_eval.specs.declared.value.Value.TheVariants as v
use Rattle.tree_eval.specs.Views.{plain_value}
use Rattle.type_table.specs.Tables.{table_program, table_type}
use Rattle.value_text.proofs.LeafLemmas.{text_there}
use Rattle.value_text.proofs.leaves.text.Goals as goal

pub returns-in_ok-from_str : goal.returns-in_ok-from_str
returns-in_ok-from_str c = λ sure.
    let table = c.args.table.now in
    let seen : plain_value (v.Text c.in_ok-from_str.field-0) ≡ Text (chars (string_bytes c.in_ok-from_str.field-0)) = search (rules, the_lemmas) in
    ap Some (seen ∙ ap (λ bs. Text (chars bs)) c.in_ok-from_str.ensures.ok)
    ∙ text_there (table_program table) sure (table_type table c.args.ty) (chars c.args.text.now) c.if-is_str.ensures (scalars-chars c.args.text.now c.utf8.text)
