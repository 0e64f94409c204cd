use Rattle.decision_tree.proofs.lowering.look_up.Given as goal

abbrev pub ghost-look_next : goal.ghost-look_next
ghost-look_next g a = g.root
