-- Lists with the same members.
use Rattle.std.proofs.Common.{◌≡◌, ◌⊎◌, inl, inr, Bool, true, false, ◌||◌, List, [], ◌∷◌, ◌++◌, Option, Some, None, refl, ap, sym, ◌∙◌, subst}
use Rattle.std.specs.List.{All, list_any, filter_map}
use Rattle.std.proofs.lemmas.List.Elements.{All-nil, All-cons, All-head, All-tail}
use Rattle.match_model.specs.Lists.{Among, SameMembers}
use Rattle.match_model.proofs.Basics.{or_left, or_right, either, untrue}

-- ---- members of two lists in a row

pub among_front : {A : Type 0} (x : A) (xs ys : List A) → Among x xs → Among x (xs ++ ys)
among_front x [] ys a = absurd a
among_front x (z ∷ xs) ys (inl e) = inl e
among_front x (z ∷ xs) ys (inr a) = inr (among_front x xs ys a)

pub among_back : {A : Type 0} (x : A) (xs ys : List A) → Among x ys → Among x (xs ++ ys)
among_back x [] ys a = a
among_back x (z ∷ xs) ys a = inr (among_back x xs ys a)

pub among_either : {A : Type 0} (x : A) (xs ys : List A) → Among x (xs ++ ys) → Among x xs ⊎ Among x ys
among_either x [] ys a = inr a
among_either x (z ∷ xs) ys (inl e) = inl (inl e)
among_either x (z ∷ xs) ys (inr a) = elim (among_either x xs ys a) [ inl b ↦ inl (inr b) | inr b ↦ inr b ]

-- ---- what holds of all

pub all_among : {A : Type 0} (P : A → Type 0) (x : A) (xs : List A) → All P xs → Among x xs → P x
all_among P x [] h a = absurd a
all_among P x (y ∷ xs) h (inl e) = subst P (sym e) (All-head P y xs h)
all_among P x (y ∷ xs) h (inr a) = all_among P x xs (All-tail P y xs h) a

pub all_of : {A : Type 0} (P : A → Type 0) (xs : List A) → ((x : A) → Among x xs → P x) → All P xs
all_of P [] h = All-nil P
all_of P (x ∷ xs) h = All-cons P x xs (h x (inl refl)) (all_of P xs (λ y a. h y (inr a)))

pub all_same : {A : Type 0} (P : A → Type 0) (xs ys : List A) → SameMembers xs ys → All P xs → All P ys
all_same P xs ys s h = all_of P ys (λ y a. all_among P y xs h (s.back y a))

-- ---- a test of some member

any_among : {A : Type 0} (f : A → Bool) (x : A) (xs : List A) → Among x xs → f x ≡ true → list_any f xs ≡ true
any_among f x [] a h = absurd a
any_among f x (y ∷ xs) (inl e) h = or_left (f y) (list_any f xs) (ap f (sym e) ∙ h)
any_among f x (y ∷ xs) (inr a) h = or_right (f y) (list_any f xs) (any_among f x xs a h)

any_found : {A : Type 0} (f : A → Bool) (xs : List A) → list_any f xs ≡ true → (x : A) × Among x xs × (f x ≡ true)
any_found f [] h = untrue h
any_found f (y ∷ xs) h = elim (either (f y) (list_any f xs) h) [
  | inl e ↦ (y, inl refl, e)
  | inr e ↦ (let r = any_found f xs e in (r.0, inr r.1, r.2))
]

any_forth : {A : Type 0} (f : A → Bool) (xs ys : List A) → ((x : A) → Among x xs → Among x ys) → list_any f xs ≡ true → list_any f ys ≡ true
any_forth f xs ys g h = let r = any_found f xs h in any_among f r.0 ys (g r.0 r.1) r.2

same_tests : (a b : Bool) → (a ≡ true → b ≡ true) → (b ≡ true → a ≡ true) → a ≡ b
same_tests true b f g = sym (f refl)
same_tests false true f g = g refl
same_tests false false f g = refl

pub any_same : {A : Type 0} (f : A → Bool) (xs ys : List A) → SameMembers xs ys → list_any f xs ≡ list_any f ys
any_same f xs ys s = same_tests (list_any f xs) (list_any f ys) (any_forth f xs ys s.forth) (any_forth f ys xs s.back)

-- the same of what a function gives of them, where it gives something
abbrev of_some : {B : Type 0} → (B → Bool) → Option B → Bool
of_some f None = false
of_some f (Some y) = f y

any_mapped : {A B : Type 0} (f : B → Bool) (g : A → Option B) (xs : List A) → list_any f (filter_map g xs) ≡ list_any (λ x. of_some f (g x)) xs
any_mapped f g [] = refl
any_mapped {B = B} f g (x ∷ xs) = go (g x) refl (any_mapped f g xs)
  where
    go : (o : Option B) → g x ≡ o → list_any f (filter_map g xs) ≡ list_any (λ y. of_some f (g y)) xs →
        list_any f (filter_map g (x ∷ xs)) ≡ list_any (λ y. of_some f (g y)) (x ∷ xs)
    go None e h = rw e h
    go (Some y) e h = rw e (ap (λ b. f y || b) h)

pub any_mapped_same : {A B : Type 0} (f : B → Bool) (g : A → Option B) (xs ys : List A) → SameMembers xs ys →
    list_any f (filter_map g xs) ≡ list_any f (filter_map g ys)
any_mapped_same f g xs ys s = any_mapped f g xs ∙ any_same (λ x. of_some f (g x)) xs ys s ∙ sym (any_mapped f g ys)
