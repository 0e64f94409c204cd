use Rattle.decision_tree.proofs.lowering.last_case.Given as goal

abbrev pub ghost-lower_thin : goal.ghost-lower_thin
ghost-lower_thin g a = g.root
