-- What is known of rows of one match.
use Rattle.std.proofs.Common.{◌≡◌, ℕ, Bool, List, [], nat_eq, subst, arith}
use Rattle.std.specs.List.{Contains, IsDistinct, flat_map}
use Rattle.match_model.specs.Values.{MValue}
use Rattle.match_model.specs.Contexts.{Context}
use Rattle.match_model.specs.WellTyped.{uids_in}
use Rattle.usefulness.specs.declared.covered.Covered.{Covered}
use Rattle.usefulness.specs.Covering.{covered_arms, AreCovered, IsNew}
use Rattle.usefulness.specs.Keys.{told_keys}
use Rattle.usefulness.proofs.Pinned.{pinned_by}

no_word : {A : Type 0} (P : A → Type 0) (keys : List A) → keys ≡ [] → (w : A) → Contains keys w → P w
no_word P keys e w i = let (k, l, g) = subst (λ zs. Contains zs w) e i in absurd (omega (arith, l))

-- where nothing is known yet all that is known is right, for arms no two patterns of which have one uid
pub new_are_covered : {T : Type 0} (IsType : T → Type 0) (IsValue : T → Bool → MValue → Type 0) (cx : Context T) (c : Covered T) → IsNew c →
    IsDistinct nat_eq (flat_map (λ a. uids_in a.pat) (covered_arms c)) → AreCovered IsType IsValue cx c
new_are_covered IsType IsValue cx c new distinct = record {
  pinned = pinned_by (covered_arms c) distinct;
  full = no_word _ (told_keys c.full) new.0;
  left = no_word _ (told_keys c.left) new.1;
}
