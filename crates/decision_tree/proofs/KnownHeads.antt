-- Heads side by side.
use Rattle.std.proofs.Common.{◌≡◌, ℕ, zero, suc, ◌+◌, List, [], ◌∷◌, ◌++◌, map, replicate, Some, None, ap, sym, ◌∙◌, arith, append-nil}
use Rattle.std.specs.List.{flat_map}
use Rattle.std.proofs.lemmas.Grind.{flat_map-append}
use Rattle.keyed_matrix.specs.declared.rows.HeadRun.{HeadRun}
use Rattle.keyed_matrix.specs.declared.rows.HeadRun.TheVariants.{Wilds}
use Rattle.keyed_matrix.specs.Views.{plain_run}
use Rattle.decision_tree.specs.declared.known.KnownHeads.{KnownHeads}
use Rattle.decision_tree.specs.Known.{head_uid}
use Rattle.decision_tree.specs.KnownViews.{uids_from, uids_of, plain_known_heads}
use Rattle.decision_tree.proofs.RunTests.{wild-uids}

from-more : (first n next : ℕ) → first + n ≡ next → uids_from first (suc n) ≡ uids_from first n ++ Some next ∷ []
from-more first zero next e = let same : first ≡ next = omega (arith, e) in ap (λ k. Some k ∷ []) same
from-more first (suc n) next e = ap (λ xs. Some first ∷ xs) (from-more (suc first) n next (omega (arith, e)))

-- one pattern more
pub more-some : (first n next : ℕ) → first + n ≡ next → uids_of (Some first) (n + 1) ≡ uids_of (Some first) n ++ Some next ∷ []
more-some first n next e =
    let more : n + 1 ≡ suc n = omega arith in
    ap (uids_of (Some first)) more ∙ from-more first n next e

-- wildcards, as known heads
pub known-wilds : {T : Type 0} (all new : List KnownHeads) (n : ℕ) (one : HeadRun T) → one ≡ Wilds n →
    new ≡ all ++ record { first = None; count = n } ∷ [] →
    flat_map plain_known_heads new ≡ flat_map plain_known_heads all ++ map head_uid (plain_run one)
known-wilds {T} all new n one o e =
    ap (flat_map plain_known_heads) e ∙ flat_map-append plain_known_heads all (record { first = None; count = n } ∷ [])
    ∙ ap (λ us. flat_map plain_known_heads all ++ us)
    (append-nil (replicate n None) ∙ sym (wild-uids T n) ∙ ap (λ r. map head_uid (plain_run r)) (sym o))
