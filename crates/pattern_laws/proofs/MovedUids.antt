-- Patterns whose uids differ, with their numbers in place of these.
use Rattle.std.proofs.Common.{◌≡◌, ℕ, suc, ◌+◌, ◌≤◌, Bool, true, false, cond, List, [], ◌∷◌, ◌++◌, length, nat_eq, refl, sym, ap, subst, ◌∙◌, arith}
use Rattle.std.specs.List.{AllByRecursion, IsDistinct}
use Rattle.std.proofs.lemmas.List.{length-append}
use Rattle.std.proofs.lemmas.Bool.Decides.{nat_tests}
use Rattle.std.proofs.lemmas.Map.Keys.{IsDistinct-head, IsDistinct-tail}
use Rattle.match_model.specs.Types.{MType}
use Rattle.match_model.specs.Constructors.{MCtor}
use Rattle.match_model.specs.ArenaPatterns.{MDePat, de_pat, MDePats, no_de_pats, more_de_pats}
use Rattle.match_model.specs.WellTyped.{uids_in, uids_in_all}
use Rattle.pattern_rules.specs.Shown.{uid_under, settled, settled_all}
use Rattle.pattern_laws.specs.NumberedMatch.{size, sizes, renumbered, all_renumbered}
use Rattle.pattern_laws.proofs.MovedRows.{moved, all_moved}

-- the number of the uid in the list, the first being number `n`; a uid that is not there stands behind all that are
abbrev pub number_in : (n : ℕ) → List ℕ → ℕ → ℕ
number_in n [] u = n + u
number_in n (x ∷ xs) u = cond (nat_eq x u) n (number_in (suc n) xs u)

number_least : (n : ℕ) (xs : List ℕ) (u : ℕ) → n ≤ number_in n xs u
number_least n [] u = omega arith
number_least n (x ∷ xs) u = go (nat_eq x u) (number_least (suc n) xs u)
  where
    go : (b : Bool) → suc n ≤ number_in (suc n) xs u → n ≤ cond b n (number_in (suc n) xs u)
    go true h = omega arith
    go false h = omega (arith, h)

-- no two have one number
pub numbers_apart : (n : ℕ) (xs : List ℕ) (u v : ℕ) → number_in n xs u ≡ number_in n xs v → u ≡ v
numbers_apart n [] u v e = omega (arith, e)
numbers_apart n (x ∷ xs) u v e = go (nat_eq x u) (nat_eq x v) refl refl e (numbers_apart (suc n) xs u v)
  where
    go : (a b : Bool) → nat_eq x u ≡ a → nat_eq x v ≡ b →
        cond a n (number_in (suc n) xs u) ≡ cond b n (number_in (suc n) xs v) →
        (number_in (suc n) xs u ≡ number_in (suc n) xs v → u ≡ v) → u ≡ v
    go true true p q h k =
        let here : x ≡ u = grind (arith, nat_tests, p) in
        let there : x ≡ v = grind (arith, nat_tests, q) in
        sym here ∙ there
    go true false p q h k = absurd (omega (arith, h, number_least (suc n) xs v))
    go false true p q h k = absurd (omega (arith, h, number_least (suc n) xs u))
    go false false p q h k = k h

-- these have the numbers from `n` on
abbrev pub Counts : (ℕ → ℕ) → ℕ → List ℕ → Type 0
Counts g n [] = Unit {0}
Counts g n (x ∷ xs) = (g x ≡ n) × Counts g (suc n) xs

counts_same : (g h : ℕ → ℕ) (n : ℕ) (xs : List ℕ) → AllByRecursion (λ u. h u ≡ g u) xs → Counts g n xs → Counts h n xs
counts_same g h n [] e c = tt
counts_same g h n (x ∷ xs) e c = (e.0 ∙ c.0, counts_same g h (suc n) xs e.1 c.1)

equal_self : (x : ℕ) → nat_eq x x ≡ true
equal_self x = grind (arith, nat_tests)

skips : (n x : ℕ) (xs us : List ℕ) → AllByRecursion (λ u. nat_eq x u ≡ false) us →
    AllByRecursion (λ u. number_in n (x ∷ xs) u ≡ number_in (suc n) xs u) us
skips n x xs [] h = tt
skips n x xs (u ∷ us) h = (ap (λ b. cond b n (number_in (suc n) xs u)) h.0, skips n x xs us h.1)

-- the numbers of different things count them
pub numbers_count : (n : ℕ) (xs : List ℕ) → IsDistinct nat_eq xs → Counts (number_in n xs) n xs
numbers_count n [] h = tt
numbers_count n (x ∷ xs) h = (
  ap (λ b. cond b n (number_in (suc n) xs x)) (equal_self x),
  counts_same (number_in (suc n) xs) (number_in n (x ∷ xs)) (suc n) xs (skips n x xs xs (IsDistinct-head nat_eq x xs h))
      (numbers_count (suc n) xs (IsDistinct-tail nat_eq x xs h)),
)

pub counts_first : (g : ℕ → ℕ) (n : ℕ) (xs ys : List ℕ) → Counts g n (xs ++ ys) → Counts g n xs
counts_first g n [] ys c = tt
counts_first g n (x ∷ xs) ys c = (c.0, counts_first g (suc n) xs ys c.1)

pub counts_second : (g : ℕ → ℕ) (n : ℕ) (xs ys : List ℕ) → Counts g n (xs ++ ys) → Counts g (n + length xs) ys
counts_second g n [] ys c = subst (λ k. Counts g k ys) (sym same) c
  where
    same : n + 0 ≡ n
    same = omega arith
counts_second g n (x ∷ xs) ys c = subst (λ k. Counts g k ys) same (counts_second g (suc n) xs ys c.1)
  where
    same : suc n + length xs ≡ n + suc (length xs)
    same = omega arith

-- ---- patterns

mutual
  pub uids_count : {T : Type 0} (p : MDePat T) → length (uids_in p) ≡ size p
  uids_count {T} (de_pat c t uid at subs binds) = ap suc (all_uids_count subs)

  all_uids_count : {T : Type 0} (ps : MDePats T) → length (uids_in_all ps) ≡ sizes ps
  all_uids_count {T} no_de_pats = refl
  all_uids_count {T} (more_de_pats p ps) =
      length-append (uids_in p) (uids_in_all ps)
      ∙ (ap (λ n. n + length (uids_in_all ps)) (uids_count p) ∙ ap (λ n. size p + n) (all_uids_count ps))

module _ {T : Type 0} (type : T → MType) (g : ℕ → ℕ) where
  mutual
    pub size_settled : (u : ℕ) (p : MDePat T) → size (settled type u p) ≡ size p
    size_settled u (de_pat c t uid at subs binds) = ap suc (sizes_settled c subs)

    sizes_settled : (c : MCtor) (ps : MDePats T) → sizes (settled_all type c ps) ≡ sizes ps
    sizes_settled c no_de_pats = refl
    sizes_settled c (more_de_pats p ps) =
        ap (λ n. n + sizes (settled_all type c ps)) (size_settled (uid_under c p) p)
        ∙ ap (λ n. size p + n) (sizes_settled c ps)

  mutual
    pub renumbered_moved : (u n : ℕ) (p : MDePat T) → Counts g n (uids_in p) →
        renumbered n (settled type u p) ≡ moved type g p
    renumbered_moved u n (de_pat c t uid at subs binds) h =
        ap (λ k. de_pat c (type t) k at (all_renumbered (suc n) (settled_all type c subs)) binds) (sym h.0)
        ∙ ap (λ ps. de_pat c (type t) (g uid) at ps binds) (all_moved_so c (suc n) subs h.1)

    all_moved_so : (c : MCtor) (n : ℕ) (ps : MDePats T) → Counts g n (uids_in_all ps) →
        all_renumbered n (settled_all type c ps) ≡ all_moved type g ps
    all_moved_so c n no_de_pats h = refl
    all_moved_so c n (more_de_pats p ps) h =
        ap (λ k. more_de_pats (renumbered n (settled type (uid_under c p) p))
        (all_renumbered (n + k) (settled_all type c ps))) (size_settled (uid_under c p) p)
        ∙ (ap (λ q. more_de_pats q (all_renumbered (n + size p) (settled_all type c ps)))
        (renumbered_moved (uid_under c p) n p (counts_first g n (uids_in p) (uids_in_all ps) h))
        ∙ ap (more_de_pats (moved type g p)) (all_moved_so c (n + size p) ps
        (subst (λ k. Counts g (n + k) (uids_in_all ps)) (uids_count p)
        (counts_second g n (uids_in p) (uids_in_all ps) h))))
