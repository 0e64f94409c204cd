use Rattle.decision_tree.proofs.lowering.next_case.Given as goal

abbrev pub ghost-lower_thin : goal.ghost-lower_thin
ghost-lower_thin g a = g.root

abbrev pub ghost-last_case : goal.ghost-last_case
ghost-last_case g a = g.root

abbrev pub ghost-finish_switch : goal.ghost-finish_switch
ghost-finish_switch g a = g.root

abbrev pub ghost-take_case : goal.ghost-take_case
ghost-take_case g a = g.root
