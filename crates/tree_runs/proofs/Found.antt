-- The first thing in a list that passes a test, by its number and by itself.
use Rattle.std.proofs.Common.{◌≡◌, ◌⊎◌, inl, inr, ℕ, ◌+◌, ◌<◌, ◌≤◌, Bool, true, false, List, [], ◌∷◌, length, cond, Option, Some, None, slice_get, get_or, position, count_by, refl, sym, ap, ◌∙◌, arith}
use Rattle.std.specs.Prelude.{nat_lt}
use Rattle.std.specs.List.{find, fold, position_or_len}
use Rattle.std.proofs.lemmas.Bool.Decides.{nat_tests}
use Rattle.std.proofs.lemmas.List.Folds.{find_at}
use Rattle.std.proofs.lemmas.Option.{slice_get_cases, slice_get_within}

module _ {A : Type 0} (p : A → Bool) where
  -- the first one has a number
  pub record IsFirst (xs : List A) (x : A) : Type 0 where
    pub number : ℕ
    pub first : position p xs ≡ Some number
    pub there : slice_get xs number ≡ Some x

  pub found_numbered : (xs : List A) (x : A) → find p xs ≡ Some x → IsFirst xs x
  found_numbered xs x e =
      let there : slice_get xs (position_or_len p xs) ≡ Some x = sym (find_at p xs) ∙ e in
      let within : position_or_len p xs < length xs = slice_get_within xs (position_or_len p xs) x there in
      let is_below : nat_lt (position_or_len p xs) (length xs) ≡ true = grind (arith, nat_tests) in
      record {
        number = position_or_len p xs;
        first = ap (λ b. cond b (Some (position_or_len p xs)) None) is_below;
        there = there;
      }

  pub none_numbered : (xs : List A) → find p xs ≡ None → position p xs ≡ None
  none_numbered xs e = go (slice_get_cases xs (position_or_len p xs)).1
    where
      past : length xs ≤ position_or_len p xs → position p xs ≡ None
      past h =
          let is_past : nat_lt (position_or_len p xs) (length xs) ≡ false = grind (arith, nat_tests) in
          ap (λ b. cond b (Some (position_or_len p xs)) None) is_past

      clash : (x : A) → slice_get xs (position_or_len p xs) ≡ Some x → position p xs ≡ None
      clash x h = let k : None ≡ Some x = sym e ∙ find_at p xs ∙ h in cc

      go : ((x : A) × (position_or_len p xs < length xs) × (slice_get xs (position_or_len p xs) ≡ Some x) ×
          (get_or xs (position_or_len p xs) x ≡ x))
          ⊎ ((length xs ≤ position_or_len p xs) × (slice_get xs (position_or_len p xs) ≡ None)) → position p xs ≡ None
      go (inl h) = clash h.0 h.2
      go (inr h) = past h.0

  -- none that passes counts as none
  pub none_counted : (n : ℕ) (xs : List A) → find p xs ≡ None → fold (λ a x. a + cond (p x) 1 0) n xs ≡ n
  none_counted n [] e = refl
  none_counted n (x ∷ xs) e = go (p x) refl e (λ k. none_counted n xs k)
    where
      go : (b : Bool) → p x ≡ b → cond b (Some x) (find p xs) ≡ None →
          (find p xs ≡ None → fold (λ a y. a + cond (p y) 1 0) n xs ≡ n) →
          fold (λ a y. a + cond (p y) 1 0) (n + cond (p x) 1 0) xs ≡ n
      go true h k rest = cc
      go false h k rest =
          let same : n + cond (p x) 1 0 ≡ n = ap (λ b. n + cond b 1 0) h ∙ omega arith in
          ap (λ m. fold (λ a y. a + cond (p y) 1 0) m xs) same ∙ rest k

  -- where some are counted, there is a first
  pub some_found : (n : ℕ) (xs : List A) → count_by p xs ≡ n → 0 < n → (x : A) × (find p xs ≡ Some x)
  some_found n xs e h = go (find p xs) refl
    where
      go : (o : Option A) → find p xs ≡ o → (x : A) × (find p xs ≡ Some x)
      go (Some x) k = (x, k)
      go None k = let c : count_by p xs ≡ 0 = none_counted 0 xs k in absurd (omega arith)
