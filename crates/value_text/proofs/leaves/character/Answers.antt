use Rattle.std.proofs.Common.{ℕ, ◌∙◌}
use Rattle.std.specs.Prelude.{option_map, pos}
use Rattle.match_model.specs.Values.{Num}
use Rattle.pattern_rules.specs.Literals.{is_char}
use Rattle.tree_eval.specs.Views.{plain_value}
use Rattle.type_table.specs.Tables.{table_program, table_type}
use Rattle.value_text.proofs.LeafLemmas.{same_value, char_kind}
use Rattle.value_text.proofs.leaves.character.Goals as goal

pub returns-in-Some-Char : goal.returns-in-Some-Char
returns-in-Some-Char c = λ sure.
    let table = c.args.table.now in
    let t = table_type table c.args.ty in
    let told = rw c.in-Some-Char.field-0-is at c.in-Some-Char.ensures in
    same_value (is_char t) (table_program table) sure t (λ (n : ℕ). Num (pos n)) c.from.result c.args.c (option_map plain_value c.number.result)
    (char_kind t told) (c.from.ensures ∙ c.from-code.ensures) (c.number.ensures sure)
