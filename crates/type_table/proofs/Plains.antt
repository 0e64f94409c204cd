-- Nodes that are equal by their derived test.
use Rattle.std.proofs.Common.{◌≡◌, true, rules}
use Rattle.std.proofs.lemmas.Slice.Eq.{bytes_eq-Decides}
use Rattle.type_table.specs.declared.nodes.Node.{Node}
use Rattle.type_table.specs.contracts.nodes.NodePartialEq.TheImpl as node_eq
use Rattle.type_table.specs.Nodes.{plain}

pub same_plain : (a b : Node) → node_eq.ghosts.eq a b ≡ true → plain a ≡ plain b
same_plain a b h = search (rules, h, bytes_eq-Decides)
