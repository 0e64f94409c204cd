-- A pattern whose uids differ, in place of one whose uids may be equal.
use Rattle.std.proofs.Common.{◌≡◌, ℕ, suc, ◌+◌, ◌<◌, false, List, [], ◌∷◌, ◌++◌, nat_eq, refl, ap, subst, ◌∙◌, arith}
use Rattle.std.specs.List.{AllByRecursion, IsDistinct, flat_map}
use Rattle.std.proofs.lemmas.Bool.Decides.{nat_tests}
use Rattle.std.proofs.lemmas.Map.Keys.{IsDistinct-cons}
use Rattle.match_model.specs.Types.{MType}
use Rattle.match_model.specs.Constructors.{MCtor, OrCtor}
use Rattle.match_model.specs.Lists.{Every}
use Rattle.match_model.specs.ArenaPatterns.{MDePat, de_pat, MDePats, no_de_pats, more_de_pats, MDeArm, type_of, at_of}
use Rattle.match_model.specs.Made.{IsMadePat, AreMadePats, AreArmsMade}
use Rattle.match_model.specs.WellTyped.{uids_in, uids_in_all}
use Rattle.pattern_rules.specs.ArenaForms.{all_within, all_below}
use Rattle.pattern_rules.specs.Shown.{uid_under, settled, settled_all}
use Rattle.pattern_laws.specs.NumberedMatch.{size, sizes, renumbered, all_renumbered, arms_renumbered}
use Rattle.pattern_laws.proofs.TokenStanding.{Between, between_both}

abbrev arms_size : {T : Type 0} → List (MDeArm T) → ℕ
arms_size [] = 0
arms_size (a ∷ rest) = size a.pat + arms_size rest

-- ---- uids

mutual
  pub uids_between : {T : Type 0} (n : ℕ) (p : MDePat T) → Between n (n + size p) (uids_in (renumbered n p))
  uids_between {T} n (de_pat c t uid at subs binds) = (
    omega arith,
    subst (λ m. Between (suc n) m (uids_in_all (all_renumbered (suc n) subs))) (shift n (sizes subs))
        (all_between (suc n) subs),
  )
    where
      shift : (a b : ℕ) → suc a + b ≡ a + suc b
      shift a b = omega arith

  all_between : {T : Type 0} (n : ℕ) (ps : MDePats T) → Between n (n + sizes ps) (uids_in_all (all_renumbered n ps))
  all_between {T} n no_de_pats = omega arith
  all_between {T} n (more_de_pats p ps) =
      between_both n (n + size p) (n + (size p + sizes ps)) (uids_in (renumbered n p))
      (uids_in_all (all_renumbered (n + size p) ps)) (uids_between n p)
      (subst (λ m. Between (n + size p) m (uids_in_all (all_renumbered (n + size p) ps))) (three n (size p) (sizes ps))
      (all_between (n + size p) ps))
    where
      three : (a b c : ℕ) → (a + b) + c ≡ a + (b + c)
      three a b c = omega arith

arms_between : {T : Type 0} (n : ℕ) (arms : List (MDeArm T)) →
    Between n (n + arms_size arms) (flat_map (λ a. uids_in a.pat) (arms_renumbered n arms))
arms_between n [] = omega arith
arms_between n (a ∷ rest) =
    between_both n (n + size a.pat) (n + (size a.pat + arms_size rest)) (uids_in (renumbered n a.pat))
    (flat_map (λ b. uids_in b.pat) (arms_renumbered (n + size a.pat) rest)) (uids_between n a.pat)
    (subst (λ m. Between (n + size a.pat) m (flat_map (λ b. uids_in b.pat) (arms_renumbered (n + size a.pat) rest)))
    (three n (size a.pat) (arms_size rest)) (arms_between (n + size a.pat) rest))
  where
    three : (a b c : ℕ) → (a + b) + c ≡ a + (b + c)
    three a b c = omega arith

-- numbers that ascend differ
above : (o lo hi : ℕ) (os : List ℕ) → o < lo → Between lo hi os → AllByRecursion (λ p. nat_eq o p ≡ false) os
above o lo hi [] l h = tt
above o lo hi (p ∷ os) l h = (
  let less : o < p = omega (arith, l, h.0) in grind (arith, nat_tests, less),
  above o (suc p) hi os
      (omega (arith, l, h.0)) h.1,
)

pub between_distinct : (lo hi : ℕ) (os : List ℕ) → Between lo hi os → IsDistinct nat_eq os
unfolding IsDistinct
between_distinct lo hi [] h = tt
between_distinct lo hi (o ∷ os) h = IsDistinct-cons nat_eq o os (above o (suc o) hi os (omega arith) h.1)
    (between_distinct (suc o) hi os h.1)

pub uids_differ : {T : Type 0} (n : ℕ) (p : MDePat T) → IsDistinct nat_eq (uids_in (renumbered n p))
uids_differ n p = between_distinct n (n + size p) (uids_in (renumbered n p)) (uids_between n p)

pub arms_differ : {T : Type 0} (n : ℕ) (arms : List (MDeArm T)) →
    IsDistinct nat_eq (flat_map (λ a. uids_in a.pat) (arms_renumbered n arms))
arms_differ n arms = between_distinct n (n + arms_size arms) (flat_map (λ a. uids_in a.pat) (arms_renumbered n arms))
    (arms_between n arms)

-- ---- what does not look at uids

under_same : {T : Type 0} (c : MCtor) (n : ℕ) (p : MDePat T) → uid_under c (renumbered n p) ≡ uid_under c p
under_same OrCtor n (de_pat c t uid at subs binds) = refl
under_same c n (de_pat d t uid at subs binds) = refl

mutual
  pub settled_same : {T : Type 0} (type : T → MType) (u n : ℕ) (p : MDePat T) → settled type u (renumbered n p)
      ≡ settled type u p
  settled_same {T} type u n (de_pat c t uid at subs binds) = ap (λ ps. de_pat c (type t) u at ps binds)
      (all_settled_same type c (suc n) subs)

  all_settled_same : {T : Type 0} (type : T → MType) (c : MCtor) (n : ℕ) (ps : MDePats T) →
      settled_all type c (all_renumbered n ps) ≡ settled_all type c ps
  all_settled_same {T} type c n no_de_pats = refl
  all_settled_same {T} type c n (more_de_pats p ps) =
      ap (λ q. more_de_pats q (settled_all type c (all_renumbered (n + size p) ps)))
      (ap (λ u. settled type u (renumbered n p)) (under_same c n p) ∙ settled_same type (uid_under c p) n p)
      ∙ ap (more_de_pats (settled type (uid_under c p) p)) (all_settled_same type c (n + size p) ps)

pub at_same : {T : Type 0} (n : ℕ) (p : MDePat T) → at_of (renumbered n p) ≡ at_of p
at_same n (de_pat c t uid at subs binds) = refl

mutual
  pub made_same : {T : Type 0} (n : ℕ) (p : MDePat T) → IsMadePat p → IsMadePat (renumbered n p)
  made_same {T} n (de_pat c t uid at subs binds) h = (h.0, all_made_same (suc n) subs h.1)

  all_made_same : {T : Type 0} (n : ℕ) (ps : MDePats T) → AreMadePats ps → AreMadePats (all_renumbered n ps)
  all_made_same {T} n no_de_pats h = tt
  all_made_same {T} n (more_de_pats p ps) h = (made_same n p h.0, all_made_same (n + size p) ps h.1)

pub arms_made : {T : Type 0} (n : ℕ) (arms : List (MDeArm T)) → AreArmsMade arms → AreArmsMade (arms_renumbered n arms)
arms_made n [] h = tt
arms_made n (a ∷ rest) h = (made_same n a.pat h.0, arms_made (n + size a.pat) rest h.1)

-- ---- types of all patterns within

module _ {T : Type 0} (P : T → Type 0) where
  abbrev pub Everywhere : List (MDePat T) → Type 0
  Everywhere qs = Every (λ q. P (type_of q)) qs

  pub every_both : (xs ys : List (MDePat T)) → Everywhere xs → Everywhere ys → Everywhere (xs ++ ys)
  every_both [] ys h k = k
  every_both (x ∷ xs) ys h k = (h.0, every_both xs ys h.1 k)

  every_first : (xs ys : List (MDePat T)) → Everywhere (xs ++ ys) → Everywhere xs
  every_first [] ys h = tt
  every_first (x ∷ xs) ys h = (h.0, every_first xs ys h.1)

  every_second : (xs ys : List (MDePat T)) → Everywhere (xs ++ ys) → Everywhere ys
  every_second [] ys h = h
  every_second (x ∷ xs) ys h = every_second xs ys h.1

  mutual
    pub types_same : (n : ℕ) (p : MDePat T) → Everywhere (all_within p) → Everywhere (all_within (renumbered n p))
    types_same n (de_pat c t uid at subs binds) h = (h.0, all_types_same (suc n) subs h.1)

    all_types_same : (n : ℕ) (ps : MDePats T) → Everywhere (all_below ps) → Everywhere (all_below (all_renumbered n ps))
    all_types_same n no_de_pats h = tt
    all_types_same n (more_de_pats p ps) h =
        every_both (all_within (renumbered n p)) (all_below (all_renumbered (n + size p) ps))
        (types_same n p (every_first (all_within p) (all_below ps) h))
        (all_types_same (n + size p) ps (every_second (all_within p) (all_below ps) h))
