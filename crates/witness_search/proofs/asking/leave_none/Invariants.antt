use Rattle.witness_search.proofs.asking.leave_none.Given as goal

abbrev pub ghost-ask : goal.ghost-ask
ghost-ask g a = g.arms
