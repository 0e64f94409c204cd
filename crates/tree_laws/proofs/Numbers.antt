-- Which case of a switch a value takes, by the cases before it.
use Rattle.std.proofs.Common.{◌≡◌, ◌<◌, ℕ, suc, ◌+◌, Bool, true, false, not, List, [], ◌∷◌, ◌++◌, length, Option, Some, None, refl, ap, ◌∙◌, arith, cond, nat_lt, position, count_by}
use Rattle.std.specs.List.{prefix_len, fold}
use Rattle.std.proofs.lemmas.Bool.Decides.{nat_tests}
use Rattle.match_model.specs.Values.{MValue}
use Rattle.match_model.specs.Trees.{case_has, is_else, MBranch, number_for, one_has}
use Rattle.match_model.specs.Lists.{Every}

below : (n m : ℕ) → n < m → nat_lt n m ≡ true
below n m h = grind (arith, nat_tests)

not-below : (n : ℕ) → nat_lt n n ≡ false
not-below n = grind (arith, nat_tests)

module _ {A : Type 0} (p : A → Bool) where
  prefix-past : (done rest : List A) (b : A) → Every (λ x. p x ≡ false) done → p b ≡ true →
      prefix_len (λ x. not (p x)) (done ++ b ∷ rest) ≡ length done
  prefix-past [] rest b d h = rw h refl
  prefix-past (x ∷ done) rest b d h = rw (d.0, prefix-past done rest b d.1 h) (plus (length done))
    where
      plus : (n : ℕ) → 1 + n ≡ suc n
      plus n = omega arith

  prefix-all : (xs : List A) → Every (λ x. p x ≡ false) xs → prefix_len (λ x. not (p x)) xs ≡ length xs
  prefix-all [] d = refl
  prefix-all (x ∷ xs) d = rw (d.0, prefix-all xs d.1) (plus (length xs))
    where
      plus : (n : ℕ) → 1 + n ≡ suc n
      plus n = omega arith

  longer : (done rest : List A) (b : A) → length done < length (done ++ b ∷ rest)
  longer [] rest b = omega arith
  longer (x ∷ done) rest b = let h : length done < length (done ++ b ∷ rest) = longer done rest b in omega (arith, h)

  -- the first that passes stands behind those that do not
  pub position-past : (done rest : List A) (b : A) → Every (λ x. p x ≡ false) done → p b ≡ true →
      position p (done ++ b ∷ rest) ≡ Some (length done)
  position-past done rest b d h =
      let e : prefix_len (λ x. not (p x)) (done ++ b ∷ rest) ≡ length done = prefix-past done rest b d h in
      rw (e, below (length done) (length (done ++ b ∷ rest)) (longer done rest b)) refl

  pub position-none : (xs : List A) → Every (λ x. p x ≡ false) xs → position p xs ≡ None
  position-none xs d = rw (prefix-all xs d, not-below (length xs)) refl

  count-none-from : (n : ℕ) (xs : List A) → Every (λ x. p x ≡ false) xs → fold (λ a x. a + cond (p x) 1 0) n xs ≡ n
  count-none-from n [] d = refl
  count-none-from n (x ∷ xs) d = rw d.0 (count-none-from (n + 0) xs d.1 ∙ plus n)
    where
      plus : (n : ℕ) → n + 0 ≡ n
      plus n = omega arith

  pub count-none : (xs : List A) → Every (λ x. p x ≡ false) xs → count_by p xs ≡ 0
  count-none xs d = count-none-from 0 xs d

  count-past-from : (n : ℕ) (done rest : List A) (b : A) → Every (λ x. p x ≡ false) done → p b ≡ true →
      Every (λ x. p x ≡ false) rest → fold (λ a x. a + cond (p x) 1 0) n (done ++ b ∷ rest) ≡ n + 1
  count-past-from n [] rest b d h r =
      ap (λ c. fold (λ a x. a + cond (p x) 1 0) (n + cond c 1 0) rest) h ∙ count-none-from (n + 1) rest r
  count-past-from n (x ∷ done) rest b d h r =
      ap (λ c. fold (λ a x. a + cond (p x) 1 0) (n + cond c 1 0) (done ++ b ∷ rest)) d.0
      ∙ (count-past-from (n + 0) done rest b d.1 h r ∙ plus n)
    where
      plus : (n : ℕ) → n + 0 + 1 ≡ n + 1
      plus n = omega arith

  pub count-one : (done rest : List A) (b : A) → Every (λ x. p x ≡ false) done → p b ≡ true →
      Every (λ x. p x ≡ false) rest → count_by p (done ++ b ∷ rest) ≡ 1
  count-one done rest b d h r = count-past-from 0 done rest b d h r

abbrev pub Lacks : MValue → List MBranch → Type 0
Lacks u bs = Every (λ b. case_has b.case u ≡ false) bs

abbrev pub NoElse : List MBranch → Type 0
NoElse bs = Every (λ b. is_else b.case ≡ false) bs

-- the case that has the value
pub case-number : (u : MValue) (done rest : List MBranch) (b : MBranch) → Lacks u done →
    case_has b.case u ≡ true → number_for u (done ++ b ∷ rest) ≡ Some (length done)
case-number u done rest b d h =
    ap (λ x. select_keyed x (position (λ b. is_else b.case) (done ++ b ∷ rest)))
    (position-past (λ b. case_has b.case u) done rest b d h)
  where
    select_keyed : Option ℕ → Option ℕ → Option ℕ
    select_keyed x y = elim x [ Some i ↦ Some i | None ↦ y ]

-- the else, where no case has it
pub else-number : (u : MValue) (done : List MBranch) (b : MBranch) → Lacks u done →
    case_has b.case u ≡ false → NoElse done → is_else b.case ≡ true → number_for u (done ++ b ∷ []) ≡ Some (length done)
else-number u done b d h n e =
    ap (λ x. select_keyed x (position (λ b. is_else b.case) (done ++ b ∷ [])))
    (position-none (λ b. case_has b.case u) (done ++ b ∷ []) (all done d))
    ∙ position-past (λ b. is_else b.case) done [] b n e
  where
    select_keyed : Option ℕ → Option ℕ → Option ℕ
    select_keyed x y = elim x [ Some i ↦ Some i | None ↦ y ]

    all : (xs : List MBranch) → Lacks u xs → Lacks u (xs ++ b ∷ [])
    all [] l = (h, tt)
    all (x ∷ xs) l = (l.0, all xs l.1)

pub one-case : (u : MValue) (done rest : List MBranch) (b : MBranch) → Lacks u done →
    case_has b.case u ≡ true → Lacks u rest → one_has u (done ++ b ∷ rest) ≡ true
one-case u done rest b d h r = rw (count-one (λ b. case_has b.case u) done rest b d h r) refl

pub one-else : (u : MValue) (done : List MBranch) (b : MBranch) → Lacks u done →
    case_has b.case u ≡ false → NoElse done → is_else b.case ≡ true → one_has u (done ++ b ∷ []) ≡ true
one-else u done b d h n e =
    rw (
      count-none (λ b. case_has b.case u) (done ++ b ∷ []) (all done d),
      count-one
          (λ b. is_else b.case) done [] b n e tt,
    ) refl
  where
    all : (xs : List MBranch) → Lacks u xs → Lacks u (xs ++ b ∷ [])
    all [] l = (h, tt)
    all (x ∷ xs) l = (l.0, all xs l.1)
