use Rattle.witness_search.proofs.search.step.Given as goal

abbrev pub ghost-look : goal.ghost-look
ghost-look g a = g.root

abbrev pub ghost-go_on : goal.ghost-go_on
ghost-go_on g a = g.root

abbrev pub ghost-resume : goal.ghost-resume
ghost-resume g a = g.root

abbrev pub ghost-leave_none : goal.ghost-leave_none
ghost-leave_none g a = g.root.arms
