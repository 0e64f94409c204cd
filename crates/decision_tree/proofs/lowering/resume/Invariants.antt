use Rattle.decision_tree.proofs.lowering.resume.Given as goal

abbrev pub ghost-next_case : goal.ghost-next_case
ghost-next_case g a = g.root

abbrev pub ghost-finish_switch : goal.ghost-finish_switch
ghost-finish_switch g a = g.root

abbrev pub ghost-lower_thin : goal.ghost-lower_thin
ghost-lower_thin g a = g.root
