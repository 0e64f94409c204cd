use Rattle.match_top.proofs.reporting.add_item.Given as goal

abbrev pub ghost-add_function : goal.ghost-add_function
ghost-add_function g a = g.whole
