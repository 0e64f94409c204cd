-- Leaves, of which one is no wildcard.
use Rattle.std.proofs.Common.{◌≡◌, ◌<◌, false, List, [], ◌∷◌, length, refl, sym, ◌∙◌, arith}
use Rattle.std.specs.List.{list_all}
use Rattle.match_model.specs.Constructors.{MCtor}
use Rattle.match_model.specs.Rows.{is_wild}
use Rattle.match_model.proofs.Basics.{untrue}
use Rattle.pattern_matrix.specs.Halving.{leaf_ctors}
use Rattle.pattern_matrix.specs.Sparse.{SparseLeaf}
use Rattle.pattern_matrix.proofs.WantedHeads.{none_listed}

pub some_listed : {T : Type 0} (leaves : List (SparseLeaf T)) → list_all (λ l. is_wild l.head) leaves ≡ false → 0 < length (leaf_ctors leaves)
some_listed leaves e = go (leaf_ctors leaves) refl
  where
    go : (cs : List MCtor) → leaf_ctors leaves ≡ cs → 0 < length cs
    go [] k = untrue (sym e ∙ (none_listed leaves).0 k)
    go (c ∷ cs) k = omega arith
