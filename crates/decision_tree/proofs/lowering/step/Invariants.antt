use Rattle.decision_tree.proofs.lowering.step.Given as goal

abbrev pub ghost-lower_one : goal.ghost-lower_one
ghost-lower_one g a = g.root

abbrev pub ghost-resume : goal.ghost-resume
ghost-resume g a = g.root
