use Rattle.decision_tree.proofs.lowering.look_at.Given as goal

abbrev pub ghost-open_column : goal.ghost-open_column
ghost-open_column g a = g.root

abbrev pub ghost-begin_switch : goal.ghost-begin_switch
ghost-begin_switch g a = g.root
