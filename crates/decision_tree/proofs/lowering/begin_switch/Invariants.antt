use Rattle.decision_tree.proofs.lowering.begin_switch.Given as goal

abbrev pub ghost-next_case : goal.ghost-next_case
ghost-next_case g a = g.root

abbrev pub ghost-else_first : goal.ghost-else_first
ghost-else_first g a = g.root
