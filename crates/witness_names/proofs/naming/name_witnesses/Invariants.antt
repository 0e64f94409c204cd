use Rattle.std.proofs.Common.{◌≡◌, map, take}
use Rattle.type_table.specs.Tables.{table_program, table_type}
use Rattle.witnesses.specs.Views.{plain_witness}
use Rattle.witness_text.specs.Trees.{witness_view}
use Rattle.witness_names.specs.Named.{named_by}
use Rattle.witness_names.proofs.naming.name_witnesses.Given as goal

abbrev pub invariant-loop-witness : goal.invariant-loop-witness
invariant-loop-witness l =
    map witness_view l.all.items
    ≡ map (λ w. named_by l.paths (table_program l.table) (table_type l.table l.ty) (plain_witness w)) (take
    l.witness-index l.witnesses)
