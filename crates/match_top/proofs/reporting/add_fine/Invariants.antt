use Rattle.match_top.proofs.reporting.add_fine.Given as goal

abbrev pub ghost-add_judged : goal.ghost-add_judged
ghost-add_judged g a = g.whole

abbrev pub ghost-add_armed : goal.ghost-add_armed
ghost-add_armed g a = g.whole
