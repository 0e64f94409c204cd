use Rattle.std.proofs.Common.{◌∙◌, ap, chars}
use Rattle.std.specs.Prelude.{option_map, false}
use Rattle.match_model.specs.Values.{MValue, Text, Point}
use Rattle.type_table.specs.Tables.{table_program, table_type}
use Rattle.value_text.proofs.LeafLemmas.{referred}
use Rattle.value_text.proofs.leaves.text_behind.Goals as goal

pub returns : goal.returns
returns c = λ sure.
    let table = c.args.table.now in
    let inner = c.in-Some.inner in
    c.in_ok-new.ensures ∙ (ap (option_map (Point false)) (c.in_ok-value.ensures false)
    ∙ referred (table_program table) sure (table_type table c.args.ty) (table_type table inner) false (Text (chars c.args.text.now)) c.in-Some.ensures.is)
