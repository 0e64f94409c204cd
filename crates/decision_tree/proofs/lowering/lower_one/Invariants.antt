use Rattle.decision_tree.proofs.lowering.lower_one.Given as goal

abbrev pub ghost-finish_none : goal.ghost-finish_none
ghost-finish_none g a = g.root

abbrev pub ghost-finish_row : goal.ghost-finish_row
ghost-finish_row g a = g.root

abbrev pub ghost-look_up : goal.ghost-look_up
ghost-look_up g a = g.root

abbrev pub ghost-look_next : goal.ghost-look_next
ghost-look_next g a = g.root
