use Rattle.std.proofs.Common.{ℕ}
use Rattle.std.specs.Prelude.{option_map, pos}
use Rattle.match_model.specs.declared.IntKind.TheVariants.{U8}
use Rattle.match_model.specs.Values.{Num}
use Rattle.pattern_rules.specs.Literals.{is_kind}
use Rattle.tree_eval.specs.Views.{plain_value}
use Rattle.type_table.specs.Tables.{table_program, table_type}
use Rattle.value_text.proofs.LeafLemmas.{same_value, byte_kind}
use Rattle.value_text.proofs.leaves.byte.Goals as goal

pub returns-then-eq : goal.returns-then-eq
returns-then-eq c = λ sure.
    let table = c.args.table.now in
    let t = table_type table c.args.ty in
    let told = rw c.in-Some-Int.field-0-is at c.in-Some-Int.ensures in
    same_value (is_kind U8 t) (table_program table) sure t (λ (n : ℕ). Num (pos n)) c.from.result c.args.byte (option_map plain_value c.number.result)
    (byte_kind t c.in-Some-Int.kind told c.if-eq.ensures) c.from.ensures (c.number.ensures sure)
