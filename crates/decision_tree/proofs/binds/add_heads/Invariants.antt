use Rattle.std.proofs.Common.{◌≡◌, ◌++◌, length, map, take}
use Rattle.match_model.specs.DecisionTrees.{all_head_binds}
use Rattle.keyed_matrix.specs.Views.{plain_columns, plain_heads}
use Rattle.tree_eval.specs.Nodes.{plain_bind}
use Rattle.decision_tree.proofs.binds.add_heads.Given as goal

abbrev pub invariant-loop-one : goal.invariant-loop-one
invariant-loop-one g l =
    record {
      passed : l.at ≡ length (plain_heads (take l.one-index l.heads));
      names :
          map plain_bind l.all.items ≡ map plain_bind l.initial.all.items
          ++ all_head_binds (plain_columns l.columns) (plain_heads (take l.one-index l.heads));
    }
