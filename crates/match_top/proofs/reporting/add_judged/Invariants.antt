use Rattle.match_top.proofs.reporting.add_judged.Given as goal

abbrev pub ghost-add_found : goal.ghost-add_found
ghost-add_found g a = g.whole
