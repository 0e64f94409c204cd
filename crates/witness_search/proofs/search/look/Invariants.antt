use Rattle.witness_search.proofs.search.look.Given as goal

abbrev pub ghost-open_place : goal.ghost-open_place
ghost-open_place g a = g.root
