use Rattle.decision_tree.proofs.lowering.look_next.Given as goal

abbrev pub ghost-look_at : goal.ghost-look_at
ghost-look_at g a = g.root
