use Rattle.std.proofs.Common.{◌≡◌, [], length, sym, subst, eqb, arith}
use Rattle.std.proofs.lemmas.Bool.Decides.{nat_tests}
use Rattle.pattern_arena.specs.Trees.{placed_subs}
use Rattle.pattern_matrix.specs.Sparse.{leaf_parts, listed}
use Rattle.pattern_matrix.specs.Views.{plain_pattern}
use Rattle.pattern_matrix.proofs.Listing.{listed-wildcards}
use Rattle.witness_search.proofs.CoveredPieces.{none_written, none_long}
use Rattle.witness_search.proofs.covered.writes_none.Goals as goal

pub returns-in-None : goal.returns-in-None
returns-in-None g c = λ e first count. subst (λ h. listed first (leaf_parts count (plain_pattern h)) ≡ []) (sym c.in-None.is) (listed-wildcards first count)

pub returns-in-Some : goal.returns-in-Some
returns-in-Some g c = λ e first count.
    subst (λ h. listed first (leaf_parts count (plain_pattern h)) ≡ []) (sym c.in-Some.is)
    (none_written c.in-Some.p.now first count (none_long (placed_subs c.in-Some.p.now) c.is_empty.result c.is_empty.ensures e))
