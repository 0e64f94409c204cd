use Rattle.match_top.proofs.reporting.add_function.Given as goal

abbrev pub ghost-add_fine : goal.ghost-add_fine
ghost-add_fine g a = g.whole
