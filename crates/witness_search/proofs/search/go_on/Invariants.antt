use Rattle.witness_search.proofs.search.go_on.Given as goal

abbrev pub ghost-open_piece : goal.ghost-open_piece
ghost-open_piece g a = g.root
