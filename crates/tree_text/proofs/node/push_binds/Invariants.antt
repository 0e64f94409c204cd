use Rattle.std.proofs.Common.{◌≡◌, ◌++◌, map, drop, false, string_bytes}
use Rattle.serde_json.specs.View.{items_of}
use Rattle.serde_json.specs.Written.{items_text}
use Rattle.tree_eval.specs.Nodes.{plain_bind}
use Rattle.tree_text.specs.Reported.{bind_data}
use Rattle.tree_text.proofs.node.push_binds.Given as goal

abbrev pub invariant-loop-bind : goal.invariant-loop-bind
invariant-loop-bind l =
    string_bytes l.text ++ items_text l.later (items_of (map bind_data (map plain_bind (drop l.bind-index l.binds))))
    ≡ string_bytes l.initial.text ++ items_text false (items_of (map bind_data (map plain_bind l.binds)))
