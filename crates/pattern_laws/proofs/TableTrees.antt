-- The tree of a match over a table is that of the function.
use Rattle.std.proofs.Common.{subst}
use Rattle.match_model.specs.ContextViews.{Seen}
use Rattle.match_model.specs.MatchTree.{IsMatchTree}
use Rattle.match_model.specs.RustTypes.{RustValue}
use Rattle.type_table.specs.declared.table.TyId.{TyId}
use Rattle.type_table.specs.TableContext.{table_context}
use Rattle.type_table.specs.Tables.{table_type}
use Rattle.pattern_laws.specs.TableLaws.{is_number_of}
use Rattle.pattern_laws.specs.TreeLaws.{TreeOfTableMatch}
use Rattle.pattern_laws.proofs.TableSeen.{engine_match}
use Rattle.pattern_laws.proofs.EngineTrees.{tree_of_shown}

pub tree_of_table : TreeOfTableMatch
tree_of_table table s f m nodes k h =
    tree_of_shown TyId (table_type table) (is_number_of table) (table_context table) s f m nodes
    (engine_match table s f m k)
    (subst (λ p. IsMatchTree (table_context table) (Seen (table_type table) (RustValue p)) m nodes)
    k.table_is.program h)
