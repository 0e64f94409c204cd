-- A uid tells the pattern.
use Rattle.std.proofs.Common.{◌≡◌, ℕ, zero, suc, false, List, [], ◌∷◌, ◌++◌, map, nat_eq, refl, ap, sym, subst, ◌∙◌, arith}
use Rattle.std.proofs.lemmas.List.{map-append}
use Rattle.std.specs.List.{Contains, IsDistinct, AllByRecursion, flat_map}
use Rattle.match_model.specs.ArenaPatterns.{MDePat, de_pat, MDePats, no_de_pats, more_de_pats, uid_of, MDeArm}
use Rattle.match_model.specs.WellTyped.{uids_in, uids_in_all}
use Rattle.match_model.proofs.Basics.{untrue, nat_itself}
use Rattle.usefulness.specs.Scope.{patterns_in, patterns_in_all, patterns_of}

mutual
  uids_are : {T : Type 0} (p : MDePat T) → uids_in p ≡ map uid_of (patterns_in p)
  uids_are (de_pat c t uid at subs binds) = ap (λ us. uid ∷ us) (all_uids_are subs)

  all_uids_are : {T : Type 0} (ps : MDePats T) → uids_in_all ps ≡ map uid_of (patterns_in_all ps)
  all_uids_are no_de_pats = refl
  all_uids_are (more_de_pats p ps) =
      ap (λ us. us ++ uids_in_all ps) (uids_are p) ∙ ap (λ us. map uid_of (patterns_in p) ++ us) (all_uids_are ps) ∙ sym (map-append uid_of (patterns_in p) (patterns_in_all ps))

arms_uids : {T : Type 0} (arms : List (MDeArm T)) → flat_map (λ a. uids_in a.pat) arms ≡ map uid_of (patterns_of arms)
arms_uids [] = refl
arms_uids (a ∷ arms) =
    ap (λ us. us ++ flat_map (λ a. uids_in a.pat) arms) (uids_are a.pat) ∙ ap (λ us. map uid_of (patterns_in a.pat) ++ us) (arms_uids arms) ∙ sym (map-append uid_of (patterns_in a.pat) (patterns_of arms))

-- no later one has the uid of the first
other_uid : {T : Type 0} (uid : ℕ) (ps : List (MDePat T)) (p : MDePat T) → AllByRecursion (λ u. nat_eq uid u ≡ false) (map uid_of ps) → Contains ps p → nat_eq uid (uid_of p) ≡ false
other_uid uid [] p a (k, l, e) = absurd (omega (arith, l))
other_uid uid (q ∷ ps) p a (zero, l, e) = subst (λ r. nat_eq uid (uid_of r) ≡ false) e a.0
other_uid uid (q ∷ ps) p a (suc k, l, e) = other_uid uid ps p a.1 (k, omega (arith, l), e)

one_of_uid : {T : Type 0} (ps : List (MDePat T)) (p q : MDePat T) → IsDistinct nat_eq (map uid_of ps) → Contains ps p → Contains ps q → uid_of p ≡ uid_of q → p ≡ q
unfolding IsDistinct
one_of_uid [] p q d (k, l, e) j f = absurd (omega (arith, l))
one_of_uid (r ∷ ps) p q d (zero, l, e) (zero, m, g) f = sym e ∙ g
one_of_uid (r ∷ ps) p q d (zero, l, e) (suc j, m, g) f =
    untrue (sym (other_uid (uid_of r) ps q d.0 (j, omega (arith, m), g)) ∙ ap (nat_eq (uid_of r)) (sym f ∙ ap uid_of (sym e)) ∙ nat_itself (uid_of r))
one_of_uid (r ∷ ps) p q d (suc k, l, e) (zero, m, g) f =
    untrue (sym (other_uid (uid_of r) ps p d.0 (k, omega (arith, l), e)) ∙ ap (nat_eq (uid_of r)) (f ∙ ap uid_of (sym g)) ∙ nat_itself (uid_of r))
one_of_uid (r ∷ ps) p q d (suc k, l, e) (suc j, m, g) f = one_of_uid ps p q d.1 (k, omega (arith, l), e) (j, omega (arith, m), g) f

-- where no two patterns of the arms have one uid
pub pinned_by : {T : Type 0} (arms : List (MDeArm T)) → IsDistinct nat_eq (flat_map (λ a. uids_in a.pat) arms) → (p q : MDePat T) → Contains (patterns_of arms) p → Contains (patterns_of arms) q → uid_of p ≡ uid_of q → p ≡ q
pinned_by arms d p q i j e = one_of_uid (patterns_of arms) p q (subst (IsDistinct nat_eq) (arms_uids arms) d) i j e
