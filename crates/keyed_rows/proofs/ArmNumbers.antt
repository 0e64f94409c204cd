-- Where no two patterns of a match have one uid, each alternative decides what the numbering says.
use Rattle.std.proofs.Common.{◌≡◌, ℕ, suc, ◌+◌, Bool, true, false, List, [], ◌∷◌, ◌++◌, map, nat_eq, cond, refl, sym, ap, subst, ◌∙◌}
use Rattle.std.specs.List.{AllByRecursion, flat_map, IsDistinct}
use Rattle.std.proofs.lemmas.Map.Keys.{IsDistinct-head, IsDistinct-tail}
use Rattle.match_model.specs.Constructors.{MCtor, OrCtor}
use Rattle.match_model.specs.ArenaPatterns.{MDePat, de_pat, MDePats, no_de_pats, more_de_pats, uid_of, MDeArm, MDeMatch}
use Rattle.match_model.specs.WellTyped.{uids_in, uids_in_all}
use Rattle.match_model.specs.Lists.{Every, Ordered}
use Rattle.match_model.specs.Keys.{Decision}
use Rattle.match_model.specs.Numbering.{own_count, or_count, AreAlternatives, IsDecided, IsNumbered, AreNumbered, AreArmsNumbered, Decided, is_choice, own_decision, decisions_in, decisions_below, decision_of, match_decisions}
use Rattle.match_model.proofs.Basics.{nat_itself}

-- some of a list, in its order
data IsPartOf : List ℕ → List ℕ → Type 0 where
  none_left : IsPartOf [] []
  kept : (x : ℕ) (xs ys : List ℕ) → IsPartOf xs ys → IsPartOf (x ∷ xs) (x ∷ ys)
  left_out : (y : ℕ) (xs ys : List ℕ) → IsPartOf xs ys → IsPartOf xs (y ∷ ys)

part-append : (xs ys zs ws : List ℕ) → IsPartOf xs ys → IsPartOf zs ws → IsPartOf (xs ++ zs) (ys ++ ws)
part-append _ _ zs ws none_left q = q
part-append _ _ zs ws (kept x xs ys p) q = kept x (xs ++ zs) (ys ++ ws) (part-append xs ys zs ws p q)
part-append _ _ zs ws (left_out y xs ys p) q = left_out y (xs ++ zs) (ys ++ ws) (part-append xs ys zs ws p q)

part-every : (P : ℕ → Type 0) (xs ys : List ℕ) → IsPartOf xs ys → Every P ys → Every P xs
part-every P _ _ none_left e = tt
part-every P _ _ (kept x xs ys p) e = (e.0, part-every P xs ys p e.1)
part-every P _ _ (left_out y xs ys p) e = part-every P xs ys p e.1

abbrev Apart : List ℕ → Type 0
Apart xs = Ordered (λ a b. nat_eq a b ≡ false) xs

part-apart : (xs ys : List ℕ) → IsPartOf xs ys → Apart ys → Apart xs
part-apart _ _ none_left e = tt
part-apart _ _ (kept x xs ys p) e = (part-every (λ b. nat_eq x b ≡ false) xs ys p e.0, part-apart xs ys p e.1)
part-apart _ _ (left_out y xs ys p) e = part-apart xs ys p e.1

all-every : (P : ℕ → Type 0) (xs : List ℕ) → AllByRecursion P xs → Every P xs
all-every P [] a = tt
all-every P (x ∷ xs) a = (a.0, all-every P xs a.1)

distinct-apart : (xs : List ℕ) → IsDistinct nat_eq xs → Apart xs
distinct-apart [] d = tt
distinct-apart (x ∷ xs) d = (
  all-every (λ b. nat_eq x b ≡ false) xs (IsDistinct-head nat_eq x xs d),
  distinct-apart xs
      (IsDistinct-tail nat_eq x xs d),
)

-- the uids of decisions
abbrev uids : List Decided → List ℕ
uids ds = map (λ d. d.uid) ds

uids-append : (ds es : List Decided) (xs ys : List ℕ) → IsPartOf (uids ds) xs → IsPartOf (uids es) ys →
    IsPartOf (uids (ds ++ es)) (xs ++ ys)
uids-append ds es xs ys p q =
    subst (λ l. IsPartOf l (xs ++ ys)) (sym (both ds es)) (part-append (uids ds) xs (uids es) ys p q)
  where
    both : (ds es : List Decided) → uids (ds ++ es) ≡ uids ds ++ uids es
    both [] es = refl
    both (d ∷ ds) es = ap (λ l. d.uid ∷ l) (both ds es)

-- what is to be found
abbrev Finds : (decides : ℕ → Decision) → List Decided → Type 0
Finds decides ds = Every (λ d. decides d.uid ≡ d.decision) ds

every-both : {A : Type 0} (P : A → Type 0) (xs ys : List A) → Every P (xs ++ ys) → Every P xs × Every P ys
every-both P [] ys e = (tt, e)
every-both P (x ∷ xs) ys e = let r : Every P xs × Every P ys = every-both P xs ys e.1 in ((e.0, r.0), r.1)

later : (d : Decided) (ds es : List Decided) → Every (λ b. nat_eq d.uid b ≡ false) (uids es) →
    Finds (decision_of ds) es → Finds (decision_of (d ∷ ds)) es
later d ds [] n f = tt
later d ds (e ∷ es) n f = (ap (λ b. cond b d.decision (decision_of ds e.uid)) n.0 ∙ f.0, later d ds es n.1 f.1)

finds-own : (ds : List Decided) → Apart (uids ds) → Finds (decision_of ds) ds
finds-own [] a = tt
finds-own (d ∷ ds) a =
    (ap (λ b. cond b d.decision (decision_of ds d.uid)) (nat_itself d.uid), later d ds ds a.0 (finds-own ds a.1))

module _ {T : Type 0} where
  mutual
    uids-with : (choice : Bool) (n k m : ℕ) (p : MDePat T) → IsPartOf (uids
        (own_decision choice (uid_of p) n k ++ decisions_in m p)) (uids_in p)
    uids-with true n k m (de_pat c t u at subs binds) =
        kept u _ _ (uids-below (is_choice c subs) m 0 (own_count c subs + m) subs)
    uids-with false n k m (de_pat c t u at subs binds) =
        left_out u _ _ (uids-below (is_choice c subs) m 0 (own_count c subs + m) subs)

    uids-below : (choice : Bool) (n k m : ℕ) (ps : MDePats T) →
        IsPartOf (uids (decisions_below choice n k m ps)) (uids_in_all ps)
    uids-below choice n k m no_de_pats = none_left
    uids-below choice n k m (more_de_pats p ps) =
        uids-append (own_decision choice (uid_of p) n k ++ decisions_in m p)
        (decisions_below choice n (suc k) (or_count p + m) ps) (uids_in p) (uids_in_all ps)
        (uids-with choice n k m p) (uids-below choice n (suc k) (or_count p + m) ps)

  uids-arms : (arms : List (MDeArm T)) → IsPartOf (uids (flat_map (λ a. decisions_in 0 a.pat) arms)) (flat_map
      (λ a. uids_in a.pat) arms)
  uids-arms [] = none_left
  uids-arms (a ∷ arms) =
      uids-append (decisions_in 0 a.pat) (flat_map (λ a. decisions_in 0 a.pat) arms) (uids_in a.pat)
      (flat_map (λ a. uids_in a.pat) arms) (uids-with false 0 0 0 a.pat) (uids-arms arms)

  module _ (decides : ℕ → Decision) where
    own : (n k m : ℕ) (p : MDePat T) (ps : MDePats T) → Finds decides (decisions_below true n k m
        (more_de_pats p ps)) → decides (uid_of p) ≡ record { number = n; alternative = k }
    own n k m p ps f = f.0

    alternatives : (n k m : ℕ) (ps : MDePats T) → Finds decides (decisions_below true n k m ps) →
        AreAlternatives decides n k ps
    alternatives n k m no_de_pats f = tt
    alternatives n k m (more_de_pats p ps) f = (
      own n k m p ps f,
      alternatives n (suc k) (or_count p + m) ps
          (every-both (λ d. decides d.uid ≡ d.decision) (own_decision true (uid_of p) n k ++ decisions_in m p)
          (decisions_below true n (suc k) (or_count p + m) ps) f).1,
    )

    decided : (n m : ℕ) (c : MCtor) (subs : MDePats T) → Finds decides (decisions_below
        (is_choice c subs) n 0 m subs) → IsDecided decides n c subs
    decided n m OrCtor no_de_pats f = tt
    decided n m OrCtor (more_de_pats p no_de_pats) f = tt
    decided n m OrCtor (more_de_pats p (more_de_pats q qs)) f =
        alternatives n 0 m (more_de_pats p (more_de_pats q qs)) f
    decided n m _ subs f = tt

    mutual
      numbered : (n : ℕ) (p : MDePat T) → Finds decides (decisions_in n p) → IsNumbered decides n p
      numbered n (de_pat c t u at subs binds) f = (
        decided n (own_count c subs + n) c subs f,
        numbered-below (is_choice c subs) n 0
            (own_count c subs + n) subs f,
      )

      numbered-below : (choice : Bool) (n k m : ℕ) (ps : MDePats T) → Finds decides (decisions_below choice n k m ps) →
          AreNumbered decides m ps
      numbered-below choice n k m no_de_pats f = tt
      numbered-below choice n k m (more_de_pats p ps) f =
          let r = every-both (λ d. decides d.uid ≡ d.decision) (own_decision choice (uid_of p) n k ++ decisions_in m p)
          (decisions_below choice n (suc k) (or_count p + m) ps) f in (
            numbered m p (every-both (λ d. decides d.uid ≡ d.decision) (own_decision choice (uid_of p) n k)
                (decisions_in m p) r.0).1,
            numbered-below choice n (suc k) (or_count p + m) ps r.1,
          )

    arms-found : (arms : List (MDeArm T)) → Finds decides (flat_map (λ a. decisions_in 0 a.pat) arms) →
        AreArmsNumbered decides arms
    arms-found [] f = tt
    arms-found (a ∷ arms) f =
        let r = every-both (λ d. decides d.uid ≡ d.decision) (decisions_in 0 a.pat)
        (flat_map (λ a. decisions_in 0 a.pat) arms) f in
        ((0, numbered 0 a.pat r.0), arms-found arms r.1)

  -- the decisions of a match number the or-patterns of each arm
  pub arms-numbered : (m : MDeMatch T) → IsDistinct nat_eq (flat_map (λ a. uids_in a.pat) m.arms) →
      AreArmsNumbered (match_decisions m) m.arms
  arms-numbered m d =
      arms-found (match_decisions m) m.arms
      (finds-own (flat_map (λ a. decisions_in 0 a.pat) m.arms) (part-apart _ _ (uids-arms m.arms)
      (distinct-apart (flat_map (λ a. uids_in a.pat) m.arms) d)))
