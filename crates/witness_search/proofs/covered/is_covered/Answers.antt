use Rattle.pattern_matrix.specs.Views.{plain_leaves, plain_rows}
use Rattle.witness_search.proofs.CoveredPieces.{some_bare}
use Rattle.witness_search.proofs.covered.is_covered.Goals as goal

pub is_bare_at-requires-clause-within : goal.is_bare_at-requires-clause-within
is_bare_at-requires-clause-within g c = c.requires.within c.loop-k.k-index 0 c.loop-k-test.true

pub returns-then-is_bare_at : goal.returns-then-is_bare_at
returns-then-is_bare_at g c = λ h first count.
    let e = c.args.e.now in
    some_bare e.place.number first count (plain_rows e.rows.items) (plain_leaves e.leaves.items) c.args.leaves.now c.loop-k.k-index c.loop-k-test.true
    (c.is_bare_at.ensures c.if-is_bare_at.true first count)
