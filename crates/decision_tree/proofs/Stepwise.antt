-- Lists that are changed one thing after the other.
use Rattle.std.proofs.Common.{◌≡◌, ◌<◌, ℕ, zero, suc, ◌+◌, List, [], ◌∷◌, map, take, drop, set, get_or, length, refl, sym, ap, ◌∙◌, arith, subst, add-one}

-- the first are changed, and the others as they were
pub record AreChanged {A B : Type 0} (view : A → B) (h : B → B) (j : ℕ) (old now : List A) : Type 0 where
  pub made : map view (take j now) ≡ map h (map view (take j old))
  pub left : drop j now ≡ drop j old

first-of : {A : Type 0} (x y : A) (xs ys : List A) → x ∷ xs ≡ y ∷ ys → x ≡ y
first-of x y xs ys e = cc

rest-of : {A : Type 0} (x y : A) (xs ys : List A) → x ∷ xs ≡ y ∷ ys → xs ≡ ys
rest-of x y xs ys e = cc

whole : {A : Type 0} (xs : List A) (n : ℕ) → length xs ≡ n → take n xs ≡ xs
whole [] zero e = refl
whole [] (suc n) e = refl
whole (x ∷ xs) zero e = absurd (omega (arith, e))
whole (x ∷ xs) (suc n) e = ap (λ l. x ∷ l) (whole xs n (omega (arith, e)))

module _ {A B : Type 0} (view : A → B) (h : B → B) where
  go : (old now : List A) (j : ℕ) (d y : A) → map view (take j now) ≡ map h (map view (take j old)) →
      drop j now ≡ drop j old → j < length now → view y ≡ h (view (get_or now j d)) →
      (map view (take (suc j) (set now j y)) ≡ map h (map view (take (suc j) old)))
      × (drop (suc j) (set now j y) ≡ drop (suc j) old)
  go old [] j d y m e l v = absurd (omega (arith, l))
  go old (x ∷ now) zero d y m e l v =
      subst (λ (zs : List A). (view y ∷ [] ≡ map h (map view (take (suc zero) zs))) × (now ≡ drop (suc zero) zs)) e
      (ap (λ z. z ∷ []) v, refl)
  go [] (x ∷ now) (suc j) d y m e l v = cc
  go (o ∷ old) (x ∷ now) (suc j) d y m e l v =
      let first : view x ≡ h (view o) = first-of (view x) (h (view o)) (map view (take j now))
      (map h (map view (take j old))) m in
      let r = go old now j d y
      (rest-of (view x) (h (view o)) (map view (take j now)) (map h (map view (take j old))) m) e (omega (arith, l)) v in
      ((λ k. first k ∷ r.0 k), r.1)

  -- one more
  pub changed-more : (old now : List A) (j : ℕ) (d y : A) → AreChanged view h j old now → j < length now →
      view y ≡ h (view (get_or now j d)) → AreChanged view h (j + 1) old (set now j y)
  changed-more old now j d y c l v =
      let r = go old now j d y c.made c.left l v in
      subst (λ n. AreChanged view h n old (set now j y)) (sym (add-one j)) (record { made = r.0; left = r.1 })

  -- all of them
  pub changed-all : (old now : List A) (j : ℕ) → AreChanged view h j old now → length now ≡ j → length old ≡ j →
      map view now ≡ map h (map view old)
  changed-all old now j c l m =
      ap (map view) (sym (whole now j l)) ∙ c.made ∙ ap (λ xs. map h (map view xs)) (whole old j m)
