-- A decision tree in Graphviz's language (its documentation: "The DOT Language").
use Rattle.std.specs.Prelude.{ℕ, ◌+◌, List, [], ◌∷◌, ◌++◌, flat_map, codes, decimal}
use Rattle.explain_tree.specs.Nodes.{BranchTree, NodeTree, OfSwitch, OfAsk, OfTake, OfMiss, OfVoid}
use Rattle.explain_tree.specs.Labels.{plain_text, case_text, arm_text, guard_text}

-- what ends the statement of a place, of a guard, of what has no way on, and of an edge
abbrev pub box_end : List ℕ
box_end = codes "\"];\n"

abbrev pub guard_end : List ℕ
guard_end = codes "\", shape=diamond];\n"

abbrev pub leaf_end : List ℕ
leaf_end = codes "\", shape=ellipse];\n"

-- a node of the graph: its mark and number, which are its name, what it shows, and the end
unfoldable pub node_statement : List ℕ → ℕ → List ℕ → List ℕ → List ℕ
node_statement mark number label end = mark ++ (decimal number ++ (codes " [label=\"" ++ (label ++ end)))

-- an edge of the graph from a node of the tree
unfoldable pub edge_statement : ℕ → List ℕ → ℕ → List ℕ → List ℕ
edge_statement from mark to label =
    codes "  n" ++ (decimal from ++ (mark ++ (decimal to ++ (codes " [label=\"" ++ (label ++ codes "\"];\n")))))

-- the marks of nodes of the tree, of arms that are taken where a guard holds, and of these where an edge goes there
abbrev pub tree_mark : List ℕ
tree_mark = codes "  n"

abbrev pub taken_mark : List ℕ
taken_mark = codes "  t"

abbrev pub to_tree : List ℕ
to_tree = codes " -> n"

abbrev pub to_taken : List ℕ
to_taken = codes " -> t"

-- the edge of a branch of this node
abbrev pub branch_edge : ℕ → BranchTree → List ℕ
branch_edge number b = edge_statement number to_tree b.next (case_text b.case)

-- a node without edges
abbrev pub leaf_statement : ℕ → List ℕ → List ℕ
leaf_statement number label = node_statement tree_mark number label leaf_end

-- a guard that is asked, with both ways: to its arm, and to the node where it goes on
unfoldable pub ask_statements : List ℕ → ℕ → ℕ → ℕ → List ℕ
ask_statements lines number arm refused =
    node_statement tree_mark number (guard_text lines arm) guard_end
    ++ (edge_statement number to_taken number (codes "holds")
    ++ (node_statement taken_mark number (arm_text lines arm) leaf_end
    ++ edge_statement number to_tree refused (codes "refuses")))

-- a place that is looked at, with the edges of its branches
unfoldable pub switch_statements : ℕ → List ℕ → List BranchTree → List ℕ
switch_statements number place branches = node_statement tree_mark number (plain_text place) box_end ++ flat_map (branch_edge number) branches

-- an arm that is taken
abbrev pub take_statement : List ℕ → ℕ → ℕ → List ℕ
take_statement lines number arm = leaf_statement number (arm_text lines arm)

-- the statements of a node of this number: its own, and those of its edges
abbrev pub node_statements : List ℕ → ℕ → NodeTree → List ℕ
node_statements lines number (OfSwitch place branches) = switch_statements number place branches
node_statements lines number (OfAsk arm refused) = ask_statements lines number arm refused
node_statements lines number (OfTake arm) = take_statement lines number arm
node_statements lines number OfMiss = leaf_statement number (codes "no arm")
node_statements lines number OfVoid = leaf_statement number (codes "no value")

-- those of nodes of which the first has this number
abbrev pub tree_statements : List ℕ → ℕ → List NodeTree → List ℕ
tree_statements lines number [] = []
tree_statements lines number (n ∷ ns) = node_statements lines number n ++ tree_statements lines (number + 1) ns

-- the graph of the nodes of a tree, below the name of its function; the lines of the arms are these
unfoldable pub graph_text : List ℕ → List ℕ → List NodeTree → List ℕ
graph_text name lines nodes =
    codes "digraph tree {\n  labelloc=t;\n  label=\""
    ++ (plain_text name ++ (codes "\";\n  node [shape=box];\n" ++ (tree_statements lines 0 nodes ++ codes "}\n")))
