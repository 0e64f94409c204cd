use Rattle.std.proofs.Common.{◌≡◌, ◌<◌, ℕ, sym, ap, ◌∙◌, arith}
use Rattle.type_table.specs.Marks.{lacks_field}
use Rattle.type_table.specs.Tables.{table_program, table_type, fields_of_type}
use Rattle.type_table.proofs.EmptyTypes.{some_lacks, none_more, none_past}
use Rattle.type_table.proofs.table.TypeTable.has_empty_field.Goals as goal

pub returns-then-is_empty_field : goal.returns-then-is_empty_field
returns-then-is_empty_field c =
    let table = c.args.self.now in
    let below : c.loop-i.i < fields_of_type (table_program table) (table_type table c.args.ty) c.args.k = omega (arith, c.loop-i-test.true, c.fields_there-i-end.ensures) in
    sym (some_lacks table c.args.ty c.args.k (fields_of_type (table_program table) (table_type table c.args.ty) c.args.k) c.loop-i.i below (sym c.is_empty_field.ensures ∙ c.if-is_empty_field.true))

pub loop-i-preserved : goal.loop-i-preserved
loop-i-preserved c = none_more c.args.self.now c.args.ty c.args.k c.loop-i.i c.loop-i.invariant (sym c.is_empty_field.ensures ∙ c.if-is_empty_field.false)

pub returns : goal.returns
returns c =
    let table = c.args.self.now in
    sym (none_past table c.args.ty c.args.k (fields_of_type (table_program table) (table_type table c.args.ty) c.args.k) c.loop-i.i (omega (arith, c.loop-i-test.false, c.fields_there-i-end.ensures)) c.loop-i.invariant)
