use Rattle.std.proofs.Common.{◌≡◌, Bool, Option, Some, None, ap, sym, ◌∙◌}
use Rattle.std.specs.Prelude.{option_map}
use Rattle.match_model.specs.Values.{MValue}
use Rattle.pat_context.specs.Views.{is_sure}
use Rattle.tree_eval.specs.declared.value.Value.{Value}
use Rattle.tree_eval.specs.Views.{plain_value}
use Rattle.type_table.specs.Tables.{table_program, table_type}
use Rattle.value_syntax.specs.Trees.{written_view}
use Rattle.value_text.specs.Meanings.{meant}
use Rattle.value_text.specs.Reading.{is_unwritten, is_no_value}
use Rattle.value_text.proofs.MeantValues.{values_are}
use Rattle.value_text.proofs.reading.read_value.Goals as goal

pub returns-in-Err-Syntax-clause-fault : goal.returns-in-Err-Syntax-clause-fault
returns-in-Err-Syntax-clause-fault c = is_unwritten (rw c.in-Err-Syntax.field-0-is at c.in-Err-Syntax.ensures.none)

pub returns-in-Ok-Some-clause-value : goal.returns-in-Ok-Some-clause-value
returns-in-Ok-Some-clause-value c =
    let program = table_program c.args.table.now in
    let t = table_type c.args.table.now c.args.ty in
    let w = written_view c.in-Ok.written in
    let told : option_map plain_value c.in-Ok-Some.field-0 ≡ meant program c.is_sure.result t w = c.in-Ok-Some.ensures in
    let means : meant program (is_sure c.args.validity) t w ≡ Some (plain_value c.in-Ok-Some.value)
    = ap (λ (s : Bool). meant program s t w) (sym c.is_sure.ensures) ∙ (sym told ∙ ap (λ (o : Option Value). option_map plain_value o) c.in-Ok-Some.field-0-is) in
    values_are program (is_sure c.args.validity) t w (plain_value c.in-Ok-Some.value) means

pub returns-in-Ok-None-clause-fault : goal.returns-in-Ok-None-clause-fault
returns-in-Ok-None-clause-fault c =
    let program = table_program c.args.table.now in
    let t = table_type c.args.table.now c.args.ty in
    let w = written_view c.in-Ok.written in
    let told : option_map plain_value c.in-Ok-None.field-0 ≡ meant program c.is_sure.result t w = c.in-Ok-None.ensures in
    let means : meant program (is_sure c.args.validity) t w ≡ None
    = ap (λ (s : Bool). meant program s t w) (sym c.is_sure.ensures) ∙ (sym told ∙ ap (λ (o : Option Value). option_map plain_value o) c.in-Ok-None.field-0-is) in
    is_no_value w c.in-Ok.ensures.written means
