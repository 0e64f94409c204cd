use Rattle.decision_tree.proofs.lowering.ask_rows.Given as goal

abbrev pub ghost-push_guards : goal.ghost-push_guards
ghost-push_guards g a = g.root
