use Rattle.match_model.specs.Declarations.{variants_of}
use Rattle.type_table.specs.Tables.{table_program, table_type}
use Rattle.type_table.proofs.LookupLemmas.{NoneNamed}
use Rattle.type_table.proofs.table.TypeTable.variant_named.Given as goal

abbrev pub invariant-loop-k : goal.invariant-loop-k
invariant-loop-k l = NoneNamed (variants_of (table_program l.self) (table_type l.self l.ty)) l.name l.k
