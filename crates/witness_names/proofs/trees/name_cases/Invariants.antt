use Rattle.std.proofs.Common.{◌≡◌, map, take}
use Rattle.std.specs.Prelude.{option_map}
use Rattle.type_table.specs.Tables.{table_program, table_type}
use Rattle.tree_eval.specs.Nodes.{plain_branch}
use Rattle.tree_text.specs.Trees.{branch_view}
use Rattle.witness_names.specs.NamedTrees.{named_branch}
use Rattle.witness_names.proofs.trees.name_cases.Given as goal

abbrev pub invariant-loop-case : goal.invariant-loop-case
invariant-loop-case l =
    map branch_view l.named.items
    ≡ map (named_branch (table_program l.table) (option_map (table_type l.table) l.at)) (map plain_branch (take l.case-index l.cases))
