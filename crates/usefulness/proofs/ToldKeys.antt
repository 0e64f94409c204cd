-- Lists of words that are noted.
use Rattle.std.proofs.Common.{◌≡◌, ◌⊎◌, inl, inr, ℕ, zero, suc, Bool, true, false, if◌then◌else◌, List, [], ◌∷◌, ◌++◌, map, nat_eq, get_or, position, slice_get, Some, refl, ap, sym, subst, ◌∙◌, arith}
use Rattle.std.proofs.lemmas.List.{map-append}
use Rattle.std.proofs.lemmas.List.Quantifiers.{position-Some}
use Rattle.std.proofs.lemmas.Option.{slice_get-get_or}
use Rattle.std.specs.Cmp.Lexicographic.{pointwise, same_text}
use Rattle.std.specs.List.{Contains, list_any}
use Rattle.indexmap.specs.IndexSet.{insert_key}
use Rattle.match_model.proofs.Basics.{untrue, either, nothing}
use Rattle.pattern_matrix.proofs.HandingOn.{here, there, in_cons}
use Rattle.usefulness.proofs.Looking.{in_either}

-- a key that passes a test is among the keys as they are read
told_there : {A B : Type 0} (f : A → B) (test : A → Bool) (ks : List A) (v : B) → ((k : A) → test k ≡ true → f k ≡ v) → list_any test ks ≡ true → Contains (map f ks) v
told_there f test [] v same e = untrue e
told_there f test (k ∷ ks) v same e = elim (either (test k) (list_any test ks) e) [
  | inl h ↦ subst (Contains (f k ∷ map f ks)) (same k h) (here (f k) (map f ks))
  | inr h ↦ there (f k) v (map f ks) (told_there f test ks v same h)
]

-- so are words where equal ones are
pub words_there : {V : Type 0} (ks : List V) (items : V → List ℕ) (w : List ℕ) → list_any (λ k. pointwise nat_eq w (items k)) ks ≡ true → Contains (map items ks) w
words_there ks items w e = told_there items (λ k. pointwise nat_eq w (items k)) ks w (λ k h. sym (same_text w (items k) (sym h))) e

-- what is among them after one was put in was there before, or is that one
pub told_more : {A B : Type 0} (ks after : List A) (f : A → B) (eq : A → A → Bool) (k : A) → after ≡ insert_key eq ks k → (v : B) → Contains (map f after) v → Contains (map f ks) v ⊎ (v ≡ f k)
told_more {A} ks after f eq k e v i = go (list_any (eq k) ks) (subst (λ (zs : List A). Contains (map f zs) v) e i)
  where
    go : (b : Bool) → Contains (map f (if b then ks else ks ++ k ∷ [])) v → Contains (map f ks) v ⊎ (v ≡ f k)
    go true j = inl j
    go false j = elim (in_either (map f ks) (f k ∷ []) v (subst (λ zs. Contains zs v) (map-append f ks (k ∷ [])) j)) [
      | inl l ↦ inl l
      | inr l ↦ in_cons (f k) v [] (λ z. Contains (map f ks) z ⊎ (z ≡ f k)) (inr refl) (λ z (n, m, g). absurd (omega (arith, m))) l
    ]

-- what stands at a number is there
pub got_there : {A : Type 0} (xs : List A) (i : ℕ) (x : A) → slice_get xs i ≡ Some x → Contains xs x
got_there [] i x e = absurd (nothing x e)
got_there (y ∷ xs) zero x e = let same : y ≡ x = cc in subst (Contains (y ∷ xs)) same (here y xs)
got_there (y ∷ xs) (suc i) x e = there y x xs (got_there xs i x e)

-- a value is there where one that passes a test is, if the test tells the value
pub one_there : {A : Type 0} (test : A → Bool) (ks : List A) (v : A) → ((k : A) → test k ≡ true → k ≡ v) → list_any test ks ≡ true → Contains ks v
one_there test [] v same e = untrue e
one_there test (k ∷ ks) v same e = elim (either (test k) (list_any test ks) e) [
  | inl h ↦ subst (Contains (k ∷ ks)) (same k h) (here k ks)
  | inr h ↦ there k v ks (one_there test ks v same h)
]

-- what is there after one was put in was there before, or is that one
pub one_more : {A : Type 0} (ks after : List A) (eq : A → A → Bool) (k : A) → after ≡ insert_key eq ks k → (v : A) → Contains after v → Contains ks v ⊎ (v ≡ k)
one_more {A} ks after eq k e v i = go (list_any (eq k) ks) (subst (λ (zs : List A). Contains zs v) e i)
  where
    go : (b : Bool) → Contains (if b then ks else ks ++ k ∷ []) v → Contains ks v ⊎ (v ≡ k)
    go true j = inl j
    go false j = elim (in_either ks (k ∷ []) v j) [
      | inl l ↦ inl l
      | inr l ↦ in_cons k v [] (λ z. Contains ks z ⊎ (z ≡ k)) (inr refl) (λ z (n, m, g). absurd (omega (arith, m))) l
    ]

-- what stood at a number still does
pub more_stay : {A B : Type 0} (ks after : List A) (f : A → B) (eq : A → A → Bool) (k : A) → after ≡ insert_key eq ks k → (i : ℕ) (v : B) → slice_get (map f ks) i ≡ Some v → slice_get (map f after) i ≡ Some v
more_stay {A} ks after f eq k e i v s = subst (λ (zs : List A). slice_get (map f zs) i ≡ Some v) (sym e) (go (list_any (eq k) ks))
  where
    longer : (xs : List A) (i : ℕ) → slice_get (map f xs) i ≡ Some v → slice_get (map f (xs ++ k ∷ [])) i ≡ Some v
    longer [] i s = absurd (nothing v s)
    longer (x ∷ xs) zero s = s
    longer (x ∷ xs) (suc i) s = longer xs i s

    go : (b : Bool) → slice_get (map f (if b then ks else ks ++ k ∷ [])) i ≡ Some v
    go true = s
    go false = longer ks i s

-- words stand where equal ones do
pub words_at : {V : Type 0} (ks : List V) (items : V → List ℕ) (w : List ℕ) (i : ℕ) (k : V) → slice_get ks i ≡ Some k → pointwise nat_eq w (items k) ≡ true → slice_get (map items ks) i ≡ Some w
words_at [] items w i k s e = absurd (nothing k s)
words_at (x ∷ ks) items w zero k s e = let same : x ≡ k = cc in ap (λ z. Some (items z)) same ∙ ap (λ n. Some n) (sym (same_text w (items k) (sym e)))
words_at (x ∷ ks) items w (suc i) k s e = words_at ks items w i k s e

-- words stand where equal ones are found
pub words_found : {V : Type 0} (ks : List V) (items : V → List ℕ) (w : List ℕ) (i : ℕ) → position (λ k. pointwise nat_eq w (items k)) ks ≡ Some i → slice_get (map items ks) i ≡ Some w
words_found [] items w i p = absurd (nothing i p)
words_found (x ∷ ks) items w i p =
    let (l, h, m) = position-Some (λ k. pointwise nat_eq w (items k)) (x ∷ ks) i x p in
    words_at (x ∷ ks) items w i (get_or (x ∷ ks) i x) (slice_get-get_or (x ∷ ks) i x l) h
