-- The parts of a row with a rest: its front, and its back, each by its step; no two have one position.
use Rattle.std.proofs.Common.{◌≡◌, ◌<◌, ◌≤◌, inl, inr, ℕ, zero, suc, ◌+◌, ◌-◌, Bool, true, false, ◌&&◌, List, [], ◌∷◌, ◌++◌, length, take, drop, Some, slice_get, nat_lt, nat_le, cond, refl, sym, ap, ◌∙◌, arith, length-append}
use Rattle.std.proofs.lemmas.Bool.{cases_lt}
use Rattle.std.proofs.lemmas.Bool.Decides.{nat_tests}
use Rattle.match_model.specs.Values.{MValue, Row, MValues, values_list}
use Rattle.match_model.specs.Constructors.{LongerShape, RowCtor}
use Rattle.match_model.specs.Contexts.{Context}
use Rattle.match_model.specs.Places.{FrontStep, BackStep, step_into, step_number, found_if}
use Rattle.match_model.specs.Matrices.{MColumn, part_step}
use Rattle.keyed_steps.proofs.Opening.{HasParts}

below : (i f : ℕ) → i < f → nat_lt i f ≡ true
below i f h = grind (arith, nat_tests)

not-below : (i f : ℕ) → f ≤ i → nat_lt i f ≡ false
not-below i f h = grind (arith, nat_tests)

at-most : (i f : ℕ) → i ≤ f → nat_le i f ≡ true
at-most i f h = grind (arith, nat_tests)

get-within : {A : Type 0} (xs : List A) (i : ℕ) (x : A) → slice_get xs i ≡ Some x → i < length xs
get-within [] i x e = cc
get-within (y ∷ xs) zero x e = omega arith
get-within (y ∷ xs) (suc i) x e = let h : i < length xs = get-within xs i x e in omega (arith, h)

get-front : {A : Type 0} (n : ℕ) (xs ys : List A) (i : ℕ) → i < n → n ≤ length xs →
    slice_get (take n xs ++ ys) i ≡ slice_get xs i
get-front zero xs ys i h l = absurd (omega (arith, h))
get-front (suc n) [] ys i h l = absurd (omega (arith, l))
get-front (suc n) (x ∷ xs) ys zero h l = refl
get-front (suc n) (x ∷ xs) ys (suc i) h l = get-front n xs ys i (omega (arith, h)) (omega (arith, l))

get-back : {A : Type 0} (n : ℕ) (xs ys : List A) (i : ℕ) → n ≤ length xs →
    slice_get (take n xs ++ ys) (n + i) ≡ slice_get ys i
get-back zero xs ys i l = ap (slice_get ys) (plus i)
  where
    plus : (i : ℕ) → 0 + i ≡ i
    plus i = omega arith
get-back (suc n) [] ys i l = absurd (omega (arith, l))
get-back (suc n) (x ∷ xs) ys i l =
    ap (slice_get (x ∷ (take n xs ++ ys))) (plus n i) ∙ get-back n xs ys i (omega (arith, l))
  where
    plus : (n i : ℕ) → suc n + i ≡ suc (n + i)
    plus n i = omega arith

get-drop : {A : Type 0} (d : ℕ) (xs : List A) (i : ℕ) → slice_get (drop d xs) i ≡ slice_get xs (d + i)
get-drop zero xs i = ap (slice_get xs) (plus i)
  where
    plus : (i : ℕ) → i ≡ 0 + i
    plus i = omega arith
get-drop (suc d) [] i = refl
get-drop (suc d) (x ∷ xs) i = get-drop d xs i ∙ ap (slice_get (x ∷ xs)) (plus d i)
  where
    plus : (d i : ℕ) → suc (d + i) ≡ suc d + i
    plus d i = omega arith

take-length : {A : Type 0} (n : ℕ) (xs : List A) → n ≤ length xs → length (take n xs) ≡ n
take-length zero xs h = refl
take-length (suc n) [] h = absurd (omega (arith, h))
take-length (suc n) (x ∷ xs) h = ap suc (take-length n xs (omega (arith, h)))

drop-length : {A : Type 0} (n : ℕ) (xs : List A) → n ≤ length xs → length (drop n xs) + n ≡ length xs
drop-length zero xs h = omega arith
drop-length (suc n) [] h = absurd (omega (arith, h))
drop-length (suc n) (x ∷ xs) h =
    let r : length (drop n xs) + n ≡ length xs = drop-length n xs (omega (arith, h)) in omega (arith, r)

module _ {T : Type 0} (cx : Context T) (V : T → Bool → MValue → Type 0) (c : MColumn T) (named : List (List ℕ))
    (f b : ℕ) (items : MValues) (few : f + b ≤ length (values_list items))
    (arity : cx.arity (RowCtor (LongerShape f b)) c.type ≡ f + b)
    (each : (i : ℕ) (x : MValue) → slice_get (values_list items) i ≡ Some x → (j : ℕ) →
    V (cx.sub (RowCtor (LongerShape f b)) c.type j) c.sure x) where
  abbrev items_of : List MValue
  items_of = values_list items

  abbrev ends : List MValue
  ends = take f items_of ++ drop (length items_of - b) items_of

  -- the item that part `i` is
  abbrev item_of : ℕ → ℕ
  item_of i = cond (nat_lt i f) i (length items_of - (f + b - i))

  front-item : (i : ℕ) → i < f → item_of i ≡ i
  front-item i h = rw (below i f h) refl

  back-item : (i : ℕ) → f ≤ i → item_of i ≡ length items_of - (f + b - i)
  back-item i h = rw (not-below i f h) refl

  ends-length : length ends ≡ f + b
  ends-length =
      let t : length (take f items_of) ≡ f = take-length f items_of (omega (arith, few)) in
      let d : length (drop (length items_of - b) items_of) + (length items_of - b) ≡ length items_of = drop-length
      (length items_of - b) items_of (omega arith) in
      let w : length ends ≡ length (take f items_of) + length (drop (length items_of - b) items_of) = length-append
      {A = MValue} (take f items_of) (drop (length items_of - b) items_of) in
      omega (arith, few, t, d, w)

  ends-get : (i : ℕ) → i < f + b → slice_get ends i ≡ slice_get items_of (item_of i)
  ends-get i h = elim (cases_lt i f) [
    | inl l ↦ get-front f items_of (drop (length items_of - b) items_of) i l (omega (arith, few))
        ∙ ap (slice_get items_of) (sym (front-item i l))
    | inr l ↦ back i l h
  ]
    where
      back : (i : ℕ) → f ≤ i → i < f + b → slice_get ends i ≡ slice_get items_of (item_of i)
      back i l h =
          let split : i ≡ f + (i - f) = omega (arith, l) in
          let number : length items_of - b + (i - f) ≡ length items_of - (f + b - i) = omega (arith, l, h, few) in
          ap (slice_get ends) split
          ∙ (get-back f items_of (drop (length items_of - b) items_of) (i - f) (omega (arith, few))
          ∙ (get-drop (length items_of - b) items_of (i - f) ∙ ap (slice_get items_of) (number ∙ sym (back-item i l))))

  step-item : (i : ℕ) → i < f + b → step_into (part_step (RowCtor (LongerShape f b)) i)
      (Row items) ≡ slice_get items_of (item_of i)
  step-item i h = elim (cases_lt i f) [
    | inl l ↦ ap (λ t. step_into (cond t (FrontStep i) (BackStep (f + b - i))) (Row items)) (below i f l)
        ∙ ap (slice_get items_of) (sym (front-item i l))
    | inr l ↦ back i l h
  ]
    where
      back : (i : ℕ) → f ≤ i → i < f + b → step_into (part_step (RowCtor (LongerShape f b)) i)
          (Row items) ≡ slice_get items_of (item_of i)
      back i l h =
          let some : nat_lt 0 (f + b - i) ≡ true = below 0 (f + b - i) (omega (arith, h)) in
          let most : nat_le (f + b - i) (length items_of) ≡ true = at-most (f + b - i) (length items_of)
          (omega (arith, few)) in
          ap (λ t. step_into (cond t (FrontStep i) (BackStep (f + b - i))) (Row items)) (not-below i f l)
          ∙ (ap (λ t. found_if (t && nat_le (f + b - i) (length items_of))
          (slice_get items_of (length items_of - (f + b - i)))) some
          ∙ (ap (λ t. found_if t (slice_get items_of (length items_of - (f + b - i)))) most
          ∙ ap (slice_get items_of) (sym (back-item i l))))

  number-item : (i : ℕ) → i < f + b → step_number (part_step (RowCtor (LongerShape f b)) i) (Row items) ≡ Some
      (item_of i)
  number-item i h = elim (cases_lt i f) [
    | inl l ↦ ap (λ t. step_number (cond t (FrontStep i) (BackStep (f + b - i))) (Row items)) (below i f l)
        ∙ ap Some (sym (front-item i l))
    | inr l ↦ ap (λ t. step_number (cond t (FrontStep i) (BackStep (f + b - i))) (Row items)) (not-below i f l)
        ∙ ap Some (sym (back-item i l))
  ]

  apart-items : (i j : ℕ) → i < j → j < f + b → ¬ (item_of i ≡ item_of j)
  apart-items i j h k e = elim (cases_lt i f) [
    | inl l ↦ (elim (cases_lt j f) [
      | inl m ↦ (let p = front-item i l in let q = front-item j m in omega (arith, h, e, p, q))
      | inr m ↦ (let p = front-item i l in let q = back-item j m in omega (arith, h, k, e, p, q, l, m, few))
    ])
    | inr l ↦ (let p = back-item i l in let q = back-item j (omega (arith, l, h)) in
        omega (arith, h, k, e, p, q, l, few))
  ]

  -- the ends of a row are the parts of its piece
  pub longer-parts : HasParts cx V c named (RowCtor (LongerShape f b)) (Row items) ends
  longer-parts = record {
    count = ends-length ∙ sym arity;
    steps =
        λ i x a. (let h : i < length ends = get-within ends i x a in step-item i (omega (arith, h, ends-length))
        ∙ (sym (ends-get i (omega (arith, h, ends-length))) ∙ a));
    values =
        λ i x a. (let h : i < length ends = get-within ends i x a in
        each (item_of i) x (sym (ends-get i (omega (arith, h, ends-length))) ∙ a) i);
    num = item_of;
    numbers = λ i h. number-item i (omega (arith, h, arity));
    apart = λ i j h k. apart-items i j h (omega (arith, k, arity));
  }
