use Rattle.decision_tree.proofs.lowering.finish_row.Given as goal

abbrev pub ghost-ask_rows : goal.ghost-ask_rows
ghost-ask_rows g a = g.root
