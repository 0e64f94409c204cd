-- Rows that were sorted are in order.
use Rattle.std.proofs.Common.{◌≡◌, ◌<◌, ◌⊎◌, inl, inr, ℕ, zero, suc, Bool, true, false, List, [], ◌∷◌, map, length, get_or, nat_eq, refl, sym, ap, subst, ◌∙◌, arith, true≢false}
use Rattle.std.proofs.lemmas.Bool.Decides.{nat_tests}
use Rattle.std.proofs.lemmas.List.Sorted.{ranks_by, sorted_far, IsPermutation-keeps, IsPermutation-map, IsPermutation-sym, Contains-permutation, All-permutation}
use Rattle.std.proofs.lemmas.List.Edits.{swapped_from_swap, length-swap}
use Rattle.std.specs.List.{All, swap}
use Rattle.std.specs.List.Sorted.{IsPermutation, IsSortedBy}
use Rattle.std.specs.Ordering.{is_lt}
use Rattle.match_model.specs.Lists.{Every, Ordered}
use Rattle.match_model.specs.Keys.{Decision}
use Rattle.match_model.specs.RowOrder.{RowFirst, AreInOrder}
use Rattle.keyed_rows.proofs.Members.{among-contains, contains-among}
use Rattle.keyed_matrix.specs.declared.order.Turn.{Turn}
use Rattle.keyed_matrix.specs.Turns.{turn_cmp, turn_rows, HasKey, IsOneFirst}
use Rattle.keyed_matrix.specs.Views.{plain_row}
use Rattle.keyed_matrix.proofs.Comparing.{first-less, turns-total}

-- each two at different numbers stand so to each other
abbrev AreApart : {A : Type 0} → (A → A → Type 0) → List A → Type 0
AreApart {A} R xs = (i j : ℕ) (d : A) → i < length xs → j < length xs → ¬ (i ≡ j) → R (get_or xs i d) (get_or xs j d)

every-at : {A : Type 0} (P : A → Type 0) (xs : List A) (i : ℕ) (d : A) → Every P xs → i < length xs → P (get_or xs i d)
every-at P [] i d p l = absurd (omega (arith, l))
every-at P (x ∷ xs) zero d p l = p.0
every-at P (x ∷ xs) (suc i) d p l = every-at P xs i d p.1 (omega (arith, l))

at-every : {A : Type 0} (P : A → Type 0) (xs : List A) → ((i : ℕ) (d : A) → i < length xs → P (get_or xs i d)) → Every P xs
at-every P [] h = tt
at-every P (x ∷ xs) h = (h zero x (omega arith), at-every P xs (λ i d l. h (suc i) d (omega (arith, l))))

ordered-apart : {A : Type 0} (R : A → A → Type 0) → ((x y : A) → R x y → R y x) → (xs : List A) → Ordered R xs →
    AreApart R xs
ordered-apart R turn [] o i j d l m n = absurd (omega (arith, l))
ordered-apart R turn (x ∷ xs) o zero zero d l m n = absurd (n refl)
ordered-apart R turn (x ∷ xs) o zero (suc j) d l m n = every-at (R x) xs j d o.0 (omega (arith, m))
ordered-apart R turn (x ∷ xs) o (suc i) zero d l m n =
    turn x (get_or xs i d) (every-at (R x) xs i d o.0 (omega (arith, l)))
ordered-apart R turn (x ∷ xs) o (suc i) (suc j) d l m n =
    ordered-apart R turn xs o.1 i j d (omega (arith, l)) (omega (arith, m)) (λ e. n (ap suc e))

-- in a list in which each stands so to every later one
pairs-ordered : {A : Type 0} (R : A → A → Type 0) (xs : List A) →
    ((i j : ℕ) (d : A) → i < j → j < length xs → R (get_or xs i d) (get_or xs j d)) → Ordered R xs
pairs-ordered R [] h = tt
pairs-ordered R (x ∷ xs) h = (
  at-every (R x) xs (λ j d l. h zero (suc j) d (omega arith) (omega (arith, l))),
  pairs-ordered R xs (λ i j d l m. h (suc i) (suc j) d (omega (arith, l)) (omega (arith, m))),
)

three : (a b : ℕ) → (a ≡ b) ⊎ (¬ (a ≡ b))
three a b = go (nat_eq a b) refl
  where
    go : (t : Bool) → nat_eq a b ≡ t → (a ≡ b) ⊎ (¬ (a ≡ b))
    go true e = inl (grind (arith, nat_tests))
    go false e = inr (λ f. true≢false (sym (grind (arith, nat_tests)) ∙ e))

-- an exchange keeps them apart
exchanged : {A : Type 0} (R : A → A → Type 0) (xs : List A) (a b : ℕ) → a < length xs → b < length xs →
    AreApart R xs → AreApart R (swap xs a b)
exchanged {A} R xs a b la lb p i j d l m n = go (three i a) (three i b) (three j a) (three j b)
  where
    f : ℕ → A
    f k = get_or xs k d

    g : ℕ → A
    g k = get_or (swap xs a b) k d

    s : (g a ≡ f b) × (g b ≡ f a) × ((k : ℕ) → ¬ (k ≡ a) → ¬ (k ≡ b) → g k ≡ f k)
    s = swapped_from_swap xs (swap xs a b) a b d la lb refl

    li : i < length xs
    li = omega (arith, l, length-swap xs a b)

    lj : j < length xs
    lj = omega (arith, m, length-swap xs a b)

    at : (k h : ℕ) → k < length xs → h < length xs → ¬ (k ≡ h) → g i ≡ f k → g j ≡ f h → R (g i) (g j)
    at k h u v w e o = subst (λ x. R x (g j)) (sym e) (subst (λ x. R (f k) x) (sym o) (p k h d u v w))

    go : (i ≡ a) ⊎ (¬ (i ≡ a)) → (i ≡ b) ⊎ (¬ (i ≡ b)) → (j ≡ a) ⊎ (¬ (j ≡ a)) → (j ≡ b) ⊎ (¬ (j ≡ b)) →
        R (g i) (g j)
    go (inl e) q (inl o) r = absurd (n (e ∙ sym o))
    go (inl e) q (inr o) (inl r) = at b a lb la (λ h. n (e ∙ sym h ∙ sym r)) (ap g e ∙ s.0) (ap g r ∙ s.1)
    go (inl e) q (inr o) (inr r) = at b j lb lj (λ h. r (sym h)) (ap g e ∙ s.0) (s.2 j o r)
    go (inr e) (inl q) (inl o) r = at a b la lb (λ h. n (q ∙ sym h ∙ sym o)) (ap g q ∙ s.1) (ap g o ∙ s.0)
    go (inr e) (inl q) (inr o) (inl r) = absurd (n (q ∙ sym r))
    go (inr e) (inl q) (inr o) (inr r) = at a j la lj (λ h. o (sym h)) (ap g q ∙ s.1) (s.2 j o r)
    go (inr e) (inr q) (inl o) r = at i b li lb q (s.2 i e q) (ap g o ∙ s.0)
    go (inr e) (inr q) (inr o) (inl r) = at i a li la e (s.2 i e q) (ap g r ∙ s.1)
    go (inr e) (inr q) (inr o) (inr r) = at i j li lj n (s.2 i e q) (s.2 j o r)

module _ {T : Type 0} (decides : ℕ → Decision) where
  -- one of two comes first, in either order
  either : (x y : Turn T) → IsOneFirst decides (plain_row x.row) (plain_row y.row) →
      IsOneFirst decides (plain_row y.row) (plain_row x.row)
  either x y (inl a) = inr a
  either x y (inr a) = inl a

  apart-kept : (old new : List (Turn T)) → IsPermutation old new →
      AreApart (λ x y. IsOneFirst decides (plain_row x.row) (plain_row y.row)) old →
      AreApart (λ x y. IsOneFirst decides (plain_row x.row) (plain_row y.row)) new
  apart-kept old new moved p =
      IsPermutation-keeps old (AreApart (λ x y. IsOneFirst decides (plain_row x.row) (plain_row y.row))) p
      (λ l i j u v q. exchanged (λ x y. IsOneFirst decides (plain_row x.row) (plain_row y.row)) l i j u v q) new moved

  ordered-turns : (xs : List (Turn T)) → Ordered (IsOneFirst decides) (map plain_row (turn_rows xs)) →
      Ordered (λ x y. IsOneFirst decides (plain_row x.row) (plain_row y.row)) xs
  ordered-turns [] o = tt
  ordered-turns (x ∷ xs) o = (each xs o.0, ordered-turns xs o.1)
    where
      each : (ys : List (Turn T)) → Every (IsOneFirst decides (plain_row x.row)) (map plain_row (turn_rows ys)) →
          Every (λ y. IsOneFirst decides (plain_row x.row) (plain_row y.row)) ys
      each [] h = tt
      each (y ∷ ys) h = (h.0, each ys h.1)

  ordered-rows : (xs : List (Turn T)) → Ordered (λ x y. RowFirst decides (plain_row x.row) (plain_row y.row)) xs →
      Ordered (RowFirst decides) (map plain_row (turn_rows xs))
  ordered-rows [] o = tt
  ordered-rows (x ∷ xs) o = (each xs o.0, ordered-rows xs o.1)
    where
      each : (ys : List (Turn T)) → Every (λ y. RowFirst decides (plain_row x.row) (plain_row y.row)) ys →
          Every (RowFirst decides (plain_row x.row)) (map plain_row (turn_rows ys))
      each [] h = tt
      each (y ∷ ys) h = (h.0, each ys h.1)

  -- of two sorted rows the first comes first, where one does
  first-of : (x y : Turn T) → HasKey decides x → HasKey decides y → is_lt (turn_cmp y x) ≡ false →
      IsOneFirst decides (plain_row x.row) (plain_row y.row) → RowFirst decides (plain_row x.row) (plain_row y.row)
  first-of x y h k e (inl a) = a
  first-of x y h k e (inr a) = absurd (true≢false (sym (ap is_lt (first-less decides y x k h a)) ∙ e))

  pub rows-sorted : (old new : List (Turn T)) → All (HasKey decides) old →
      Ordered (IsOneFirst decides) (map plain_row (turn_rows old)) → IsPermutation old new →
      IsSortedBy (λ x y. is_lt (turn_cmp x y)) new →
      AreInOrder decides (map plain_row (turn_rows old)) (map plain_row (turn_rows new))
  rows-sorted old new keys parted moved up = record {
    same = record {
      forth = λ r a. contains-among (map plain_row (turn_rows new)) r
          (Contains-permutation (map plain_row (turn_rows old)) (map plain_row (turn_rows new)) r rows-moved
          (among-contains (map plain_row (turn_rows old)) r a));
      back = λ r a. contains-among (map plain_row (turn_rows old)) r
          (Contains-permutation (map plain_row (turn_rows new)) (map plain_row (turn_rows old)) r
          (IsPermutation-sym (map plain_row (turn_rows old)) (map plain_row (turn_rows new)) rows-moved)
          (among-contains (map plain_row (turn_rows new)) r a));
    };
    ordered = ordered-rows new (pairs-ordered (λ x y. RowFirst decides (plain_row x.row) (plain_row y.row)) new
        (λ i j d l m. first-of (get_or new i d) (get_or new j d)
        (kept i d (omega (arith, l, m))) (kept j d m)
        (sorted_far (λ x y. is_lt (turn_cmp x y)) (ranks_by turns-total (λ x. x)) new up i j d (omega (arith, l)) m)
        (apart i j d (omega (arith, l, m)) m (λ e. absurd (omega (arith, l, e))))));
  }
    where
      rows-moved : IsPermutation (map plain_row (turn_rows old)) (map plain_row (turn_rows new))
      rows-moved =
          IsPermutation-map plain_row (turn_rows old) (turn_rows new) (IsPermutation-map (λ x. x.row) old new moved)

      kept : All (HasKey decides) new
      kept = All-permutation (HasKey decides) old new moved keys

      apart : AreApart (λ x y. IsOneFirst decides (plain_row x.row) (plain_row y.row)) new
      apart =
          apart-kept old new moved
          (ordered-apart (λ x y. IsOneFirst decides (plain_row x.row) (plain_row y.row)) either old (ordered-turns old parted))
