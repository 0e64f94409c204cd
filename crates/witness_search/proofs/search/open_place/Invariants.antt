use Rattle.witness_search.proofs.search.open_place.Given as goal

abbrev pub ghost-split_place : goal.ghost-split_place
ghost-split_place g a = g.root
