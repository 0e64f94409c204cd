use Rattle.std.specs.Prelude.{option_map}
use Rattle.match_model.specs.Values.{Num}
use Rattle.range_split.specs.Numbers.{signed}
use Rattle.pattern_rules.specs.Literals.{has_suffix_type}
use Rattle.tree_eval.specs.Views.{plain_value}
use Rattle.type_table.specs.Tables.{table_program, table_type}
use Rattle.value_text.proofs.LeafLemmas.{literal_there, int_kind}
use Rattle.value_text.proofs.leaves.integer.Goals as goal

pub returns-then-suffix_fits : goal.returns-then-suffix_fits
returns-then-suffix_fits c = λ sure.
    let table = c.args.table.now in
    let t = table_type table c.args.ty in
    let told = rw c.in-Some-Int.field-0-is at c.in-Some-Int.ensures in
    literal_there (has_suffix_type c.args.suffix.now t) (table_program table) sure t (Num (signed c.args.negative c.args.size)) (option_map plain_value c.number.result)
    (int_kind t c.in-Some-Int.kind c.args.suffix.now told c.if-suffix_fits.ensures) (c.number.ensures sure)
