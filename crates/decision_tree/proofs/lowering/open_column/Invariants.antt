use Rattle.decision_tree.proofs.lowering.open_column.Given as goal

abbrev pub ghost-lower_thin : goal.ghost-lower_thin
ghost-lower_thin g a = g.root
