-- Numbers of patterns that are made one after another.
use Rattle.std.proofs.Common.{◌≡◌, ℕ, ◌+◌, ◌≤◌, Bool, true, false, nat_eq, List, [], ◌∷◌, ◌++◌, map, refl, sym, ap, subst, ◌∙◌, arith, if◌then◌else◌, append_assoc}
use Rattle.std.proofs.lemmas.Bool.Decides.{nat_tests}
use Rattle.std.proofs.lemmas.List.{append-nil}
use Rattle.std.specs.List.{IsDistinct, AllByRecursion, flat_map}
use Rattle.match_model.specs.Lists.{Every}
use Rattle.match_model.specs.Constructors.{MCtor}
use Rattle.match_model.specs.ArenaPatterns.{MBound, MDePat, de_pat, MDePats, no_de_pats, de_pats_of, MDeArm, type_of}
use Rattle.match_model.specs.WellTyped.{uids_in, uids_in_all}
use Rattle.pattern_rules.specs.ArenaForms.{all_within, all_below}
use Rattle.pattern_elaboration.specs.Numbered.{times, once_within, AreNumbered, IsMade, AreMade}
use Rattle.pattern_elaboration.specs.Placed.{bound_on}

pub times_both : (n : ℕ) (xs ys : List ℕ) → times n (xs ++ ys) ≡ times n xs + times n ys
times_both n [] ys = omega arith
times_both n (x ∷ xs) ys = omega (arith, times_both n xs ys)

once_step : (n m : ℕ) → (if nat_eq n m then 1 else 0) ≤ once_within m (m + 1) n
once_step n m = grind (arith, nat_tests)

once_both : (a b c n : ℕ) → a ≤ b → b ≤ c → once_within a b n + once_within b c n ≤ once_within a c n
once_both a b c n h k = grind (arith, nat_tests)

pub numbered_none : (n : ℕ) → AreNumbered n n []
numbered_none n = record { ordered = omega arith; once = λ m. omega arith }

pub numbered_both : (a b c : ℕ) (xs ys : List ℕ) → AreNumbered a b xs → AreNumbered b c ys → AreNumbered a c (xs ++ ys)
numbered_both a b c xs ys h k = record {
  ordered = omega arith;
  once = λ n. omega (arith, times_both n xs ys, h.once n, k.once n, once_both a b c n h.ordered k.ordered);
}

numbered_one : (n : ℕ) → AreNumbered n (n + 1) (n ∷ [])
numbered_one n = record { ordered = omega arith; once = λ m. omega (arith, once_step m n) }

-- the number in front instead of behind
numbered_front : (a b n : ℕ) (xs : List ℕ) → AreNumbered a b (xs ++ n ∷ []) → AreNumbered a b (n ∷ xs)
numbered_front a b n xs h = record {
  ordered = h.ordered;
  once = λ m. omega (arith, times_both m xs (n ∷ []), h.once m);
}

pub numbered_wider : (a b c : ℕ) (xs : List ℕ) → AreNumbered a b xs → b ≤ c → AreNumbered a c xs
numbered_wider a b c xs h le = record {
  ordered = omega (arith, h.ordered);
  once = λ n. omega (arith, h.once n, once_both a b c n h.ordered le);
}

counted : (x y : ℕ) → nat_eq x y ≡ true → 1 ≤ (if nat_eq x y then 1 else 0)
counted x y e = rw e (omega arith)

same : (x : ℕ) → nat_eq x x ≡ true
same x = grind (arith, nat_tests)

-- a number that stands once stands nowhere else
apart : (x : ℕ) (ys : List ℕ) → (if nat_eq x x then 1 else 0) + times x ys ≤ 1 → AllByRecursion
    (λ y. nat_eq x y ≡ false) ys
apart x [] k = tt
apart x (y ∷ ys) k = (by (nat_eq x y) refl, apart x ys (omega arith))
  where
    by : (b : Bool) → nat_eq x y ≡ b → nat_eq x y ≡ false
    by false e = e
    by true e = absurd (omega (arith, counted x x (same x), counted x y e))

-- numbers of which none stands twice are distinct
pub numbered_distinct : (xs : List ℕ) → ((n : ℕ) → times n xs ≤ 1) → IsDistinct nat_eq xs
unfolding IsDistinct
numbered_distinct [] h = tt
numbered_distinct (x ∷ xs) h = (apart x xs (h x), numbered_distinct xs (λ n. omega (arith, h n)))

pub every_both : {A : Type 0} (P : A → Type 0) (xs ys : List A) → Every P xs → Every P ys → Every P (xs ++ ys)
every_both P [] ys h k = k
every_both P (x ∷ xs) ys h k = (h.0, every_both P xs ys h.1 k)

module _ {T : Type 0} (IsType : T → Type 0) where
  pub uids_both : (ps qs : List (MDePat T)) → uids_in_all (de_pats_of (ps ++ qs)) ≡ uids_in_all (de_pats_of ps) ++
      uids_in_all (de_pats_of qs)
  uids_both [] qs = refl
  uids_both (p ∷ ps) qs = ap (λ us. uids_in p ++ us) (uids_both ps qs)
      ∙ sym (append_assoc (uids_in p) (uids_in_all (de_pats_of ps)) (uids_in_all (de_pats_of qs)))

  pub below_both : (ps qs : List (MDePat T)) → all_below (de_pats_of (ps ++ qs)) ≡ all_below (de_pats_of ps) ++
      all_below (de_pats_of qs)
  below_both [] qs = refl
  below_both (p ∷ ps) qs = ap (λ us. all_within p ++ us) (below_both ps qs)
      ∙ sym (append_assoc (all_within p) (all_below (de_pats_of ps)) (all_below (de_pats_of qs)))

  pub made_none : (n : ℕ) → AreMade IsType n n []
  made_none n = record { uids = numbered_none n; types = tt }

  pub made_both : (a b c : ℕ) (ps qs : List (MDePat T)) → AreMade IsType a b ps → AreMade IsType b c qs →
      AreMade IsType a c (ps ++ qs)
  made_both a b c ps qs h k = record {
    uids = subst (λ us. AreNumbered a c us) (sym (uids_both ps qs)) (numbered_both a b c (uids_in_all (de_pats_of ps))
        (uids_in_all (de_pats_of qs)) h.uids k.uids);
    types = subst (λ xs. Every (λ q. IsType (type_of q)) xs) (sym (below_both ps qs))
        (every_both (λ q. IsType (type_of q)) (all_below (de_pats_of ps)) (all_below (de_pats_of qs)) h.types k.types);
  }

  pub made_one : (a b : ℕ) (p : MDePat T) → IsMade IsType a b p → AreMade IsType a b (p ∷ [])
  made_one a b p h = record {
    uids = subst (λ us. AreNumbered a b us) (sym (append-nil (uids_in p))) h.uids;
    types = subst (λ xs. Every (λ q. IsType (type_of q)) xs) (sym (append-nil (all_within p))) h.types;
  }

  pub made_more : (a b c : ℕ) (ps : List (MDePat T)) (p : MDePat T) → AreMade IsType a b ps → IsMade IsType b c p →
      AreMade IsType a c (ps ++ p ∷ [])
  made_more a b c ps p h k = made_both a b c ps (p ∷ []) h (made_one b c p k)

  pub made_node : (a n : ℕ) (c : MCtor) (t : T) (at : ℕ) (ps : List (MDePat T)) (binds : List MBound) →
      AreMade IsType a n ps → IsType t →
      IsMade IsType a (n + 1) (de_pat c t n at (de_pats_of ps) binds)
  made_node a n c t at ps binds h k = record {
    uids = numbered_front a (n + 1) n (uids_in_all (de_pats_of ps)) (numbered_both a n (n + 1)
        (uids_in_all (de_pats_of ps)) (n ∷ []) h.uids (numbered_one n));
    types = (k, h.types);
  }

  pub made_leaf : (n : ℕ) (c : MCtor) (t : T) (at : ℕ) → IsType t → IsMade IsType n (n + 1)
      (de_pat c t n at no_de_pats [])
  made_leaf n c t at k = made_node n n c t at [] [] (made_none n) k

  pub made_bound : (a b : ℕ) (x : MBound) (p : MDePat T) → IsMade IsType a b p → IsMade IsType a b (bound_on x p)
  made_bound a b x (de_pat c t uid at subs binds) h = record { uids = h.uids; types = h.types }

  pub made_wider : (a b c : ℕ) (p : MDePat T) → IsMade IsType a b p → b ≤ c → IsMade IsType a c p
  made_wider a b c p h le = record { uids = numbered_wider a b c (uids_in p) h.uids le; types = h.types }

  pub made_type : (a b : ℕ) (p : MDePat T) → IsMade IsType a b p → IsType (type_of p)
  made_type a b (de_pat c t uid at subs binds) h = h.types.0

  pub made_at : (a b here : ℕ) (c : MCtor) (t : T) (uid at : ℕ) (subs : MDePats T) (binds : List MBound) →
      IsMade IsType a b (de_pat c t uid at subs binds) →
      IsMade IsType a b (de_pat c t uid here subs binds)
  made_at a b here c t uid at subs binds h = record { uids = h.uids; types = (h.types.0, h.types.1) }

  -- the uids of arms, one behind another
  pub arms_uids : (arms : List (MDeArm T)) → flat_map (λ a. uids_in a.pat) arms ≡ uids_in_all
      (de_pats_of (map (λ a. a.pat) arms))
  arms_uids [] = refl
  arms_uids (a ∷ arms) = ap (λ us. uids_in a.pat ++ us) (arms_uids arms)
