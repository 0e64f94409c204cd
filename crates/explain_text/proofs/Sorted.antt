-- Findings that are sorted by their places stand in the order of the file: a stable sort has one outcome.
use Rattle.std.proofs.Common.{◌≡◌, ◌<◌, ℕ, zero, suc, arith, length, get_or, add-one, Bool, true, false, not, ◌&&◌, ◌||◌, List, [], ◌∷◌, filter, map, cond, nat_lt, nat_le, nat_eq, refl, sym, ap, subst, ◌∙◌}
use Rattle.std.specs.List.{All}
use Rattle.std.specs.List.Sorted.{IsSortedByKey, IsStableByKey, ties}
use Rattle.std.specs.Ordering.{nat_cmp, is_lt}
use Rattle.std.specs.declared.cmp.Ordering.{Ordering}
use Rattle.std.proofs.lemmas.Bool.{le-leb, leb-true, leb-false}
use Rattle.std.proofs.lemmas.Bool.Decides.{nat_tests}
use Rattle.std.proofs.lemmas.List.Elements.{All-cons, All-nil, All-head, All-tail}
use Rattle.explain_text.specs.Findings.{finding_view}
use Rattle.explain_text.specs.Order.{place_of, put_in, in_file_order}
use Rattle.explain_text.specs.declared.findings.Finding.{Finding}

-- ---- the order of two findings

-- the place of a finding
abbrev pub key : Finding → ℕ
key x = place_of (finding_view x)

abbrev pub before : Finding → Finding → Bool
before x y = nat_le (key x) (key y)

before-refl : (x : Finding) → before x x ≡ true
before-refl x = go (key x)
  where
    go : (a : ℕ) → nat_le a a ≡ true
    go a = le-leb a a (omega arith)

before-trans : (x y z : Finding) → before x y ≡ true → before y z ≡ true → before x z ≡ true
before-trans x y z e f = go (key x) (key y) (key z) e f
  where
    go : (a b c : ℕ) → nat_le a b ≡ true → nat_le b c ≡ true → nat_le a c ≡ true
    go a b c e f = le-leb a c (omega (arith, leb-true a b e, leb-true b c f))

before-total : (x y : Finding) → before x y ≡ false → before y x ≡ true
before-total x y e = go (key x) (key y) e
  where
    go : (a b : ℕ) → nat_le a b ≡ false → nat_le b a ≡ true
    go a b e = le-leb b a (omega (arith, leb-false a b e))

-- neither stands before the other
abbrev tie : Finding → Finding → Bool
tie x y = before y x && before x y

both_true : (a b : Bool) → (a && b) ≡ true → (a ≡ true) × (b ≡ true)
both_true true true e = (refl, refl)
both_true true false e = cc
both_true false b e = cc

true_both : (a b : Bool) → a ≡ true → b ≡ true → (a && b) ≡ true
true_both true true e f = refl
true_both true false e f = cc
true_both false b e f = cc

tie-refl : (x : Finding) → tie x x ≡ true
tie-refl x = true_both (before x x) (before x x) (before-refl x) (before-refl x)

-- ---- lists in order

abbrev Rise : List Finding → Type 0
Rise [] = Unit {0}
Rise (x ∷ xs) = All (λ y. before x y ≡ true) xs × Rise xs

tail_is : {X : Type 0} (x y : X) (xs ys : List X) → x ∷ xs ≡ y ∷ ys → xs ≡ ys
tail_is x y xs ys e = cc

head_is : {X : Type 0} (x y : X) (xs ys : List X) → x ∷ xs ≡ y ∷ ys → x ≡ y
head_is x y xs ys e = cc

-- the first that passes a test passes it, and has what all have
first_of : {X : Type 0} (p : X → Bool) (Q : X → Type 0) (xs : List X) (y : X) (ys : List X) → filter p xs ≡ y ∷ ys → All Q xs → (p y ≡ true) × Q y
first_of p Q [] y ys e a = cc
first_of {X = X} p Q (x ∷ xs) y ys e a = go (p x) refl e (λ f. first_of p Q xs y ys f (All-tail Q x xs a))
  where
    go : (b : Bool) → p x ≡ b → cond b (x ∷ filter p xs) (filter p xs) ≡ y ∷ ys → (filter p xs ≡ y ∷ ys → (p y ≡ true) × Q y) → (p y ≡ true) × Q y
    go true h e f = let is = head_is x y (filter p xs) ys e in (subst (λ z. p z ≡ true) is h, subst Q is (All-head Q x xs a))
    go false h e f = f e

-- of two lists in order that have the same ties in the same order the first of the one stands at or before that of the other
first_before : (a b : Finding) (xs ys : List Finding) → Rise (b ∷ ys) → filter (tie a) (a ∷ xs) ≡ filter (tie a) (b ∷ ys) → before b a ≡ true
first_before a b xs ys r e =
    let shown : filter (tie a) (a ∷ xs) ≡ a ∷ filter (tie a) xs = ap (λ t. cond t (a ∷ filter (tie a) xs) (filter (tie a) xs)) (tie-refl a) in
    (first_of (tie a) (λ y. before b y ≡ true) (b ∷ ys) a (filter (tie a) xs) (sym e ∙ shown) (All-cons (λ y. before b y ≡ true) b ys (before-refl b) r.0)).1

rest_same : (x a b : Finding) (xs ys : List Finding) → a ≡ b → filter (tie x) (a ∷ xs) ≡ filter (tie x) (b ∷ ys) → filter (tie x) xs ≡ filter (tie x) ys
rest_same x a b xs ys is e = go (tie x a) refl (e ∙ ap (λ y. filter (tie x) (y ∷ ys)) (sym is))
  where
    go : (t : Bool) → tie x a ≡ t → cond t (a ∷ filter (tie x) xs) (filter (tie x) xs) ≡ cond t (a ∷ filter (tie x) ys) (filter (tie x) ys) → filter (tie x) xs ≡ filter (tie x) ys
    go true h e = tail_is a a (filter (tie x) xs) (filter (tie x) ys) e
    go false h e = e

one_outcome : (xs ys : List Finding) → Rise xs → Rise ys → ((x : Finding) → filter (tie x) xs ≡ filter (tie x) ys) → xs ≡ ys
one_outcome [] [] r s f = refl
one_outcome [] (b ∷ ys) r s f =
    let shown : filter (tie b) (b ∷ ys) ≡ b ∷ filter (tie b) ys = ap (λ t. cond t (b ∷ filter (tie b) ys) (filter (tie b) ys)) (tie-refl b) in
    let none : [] ≡ b ∷ filter (tie b) ys = f b ∙ shown in cc
one_outcome (a ∷ xs) [] r s f =
    let shown : filter (tie a) (a ∷ xs) ≡ a ∷ filter (tie a) xs = ap (λ t. cond t (a ∷ filter (tie a) xs) (filter (tie a) xs)) (tie-refl a) in
    let none : a ∷ filter (tie a) xs ≡ [] = sym shown ∙ f a in cc
one_outcome (a ∷ xs) (b ∷ ys) r s f =
    let low = first_before a b xs ys s (f a) in
    let high = first_before b a ys xs r (sym (f b)) in
    let tied = true_both (before b a) (before a b) low high in
    let here : filter (tie a) (a ∷ xs) ≡ a ∷ filter (tie a) xs = ap (λ t. cond t (a ∷ filter (tie a) xs) (filter (tie a) xs)) (tie-refl a) in
    let there : filter (tie a) (b ∷ ys) ≡ b ∷ filter (tie a) ys = ap (λ t. cond t (b ∷ filter (tie a) ys) (filter (tie a) ys)) tied in
    let is = head_is a b (filter (tie a) xs) (filter (tie a) ys) (sym here ∙ f a ∙ there) in
    let rest = one_outcome xs ys r.1 s.1 (λ x. rest_same x a b xs ys is (f x)) in
    ap (λ y. y ∷ xs) is ∙ ap (λ ys. b ∷ ys) rest

-- ---- the order of the file

abbrev put : Finding → List Finding → List Finding
put e [] = e ∷ []
put e (f ∷ rest) = cond (before e f) (e ∷ f ∷ rest) (f ∷ put e rest)

abbrev sorted : List Finding → List Finding
sorted [] = []
sorted (e ∷ rest) = put e (sorted rest)

put_plain : (e : Finding) (fs : List Finding) → map finding_view (put e fs) ≡ put_in (finding_view e) (map finding_view fs)
put_plain e [] = refl
put_plain e (f ∷ rest) = go (before e f) (put_plain e rest)
  where
    go : (b : Bool) → map finding_view (put e rest) ≡ put_in (finding_view e) (map finding_view rest) →
        map finding_view (cond b (e ∷ f ∷ rest) (f ∷ put e rest)) ≡ cond b (finding_view e ∷ finding_view f ∷ map finding_view rest) (finding_view f ∷ put_in (finding_view e) (map finding_view rest))
    go true h = refl
    go false h = ap (λ xs. finding_view f ∷ xs) h

sorted_plain : (es : List Finding) → map finding_view (sorted es) ≡ in_file_order (map finding_view es)
sorted_plain [] = refl
sorted_plain (e ∷ rest) = put_plain e (sorted rest) ∙ ap (put_in (finding_view e)) (sorted_plain rest)

put_all : (P : Finding → Type 0) (e : Finding) (fs : List Finding) → P e → All P fs → All P (put e fs)
put_all P e [] p a = All-cons P e [] p (All-nil P)
put_all P e (f ∷ rest) p a = go (before e f) (put_all P e rest p (All-tail P f rest a))
  where
    go : (b : Bool) → All P (put e rest) → All P (cond b (e ∷ f ∷ rest) (f ∷ put e rest))
    go true h = All-cons P e (f ∷ rest) p a
    go false h = All-cons P f (put e rest) (All-head P f rest a) h

put_rises : (e : Finding) (fs : List Finding) → Rise fs → Rise (put e fs)
put_rises e [] r = (All-nil (λ y. before e y ≡ true), tt)
put_rises e (f ∷ rest) r = go (before e f) refl (put_rises e rest r.1)
  where
    go : (b : Bool) → before e f ≡ b → Rise (put e rest) → Rise (cond b (e ∷ f ∷ rest) (f ∷ put e rest))
    go true h more = (All-cons (λ y. before e y ≡ true) f rest h (λ k d l. before-trans e f (get_or rest k d) h (r.0 k d l)), r)
    go false h more = (put_all (λ y. before f y ≡ true) e rest (before-total e f h) r.0, more)

sorted_rises : (es : List Finding) → Rise (sorted es)
sorted_rises [] = tt
sorted_rises (e ∷ rest) = put_rises e (sorted rest) (sorted_rises rest)

-- two that do not tie may change places
changed : (x e f : Finding) (fs : List Finding) → before e f ≡ false → filter (tie x) (f ∷ e ∷ fs) ≡ filter (tie x) (e ∷ f ∷ fs)
changed x e f fs h = go (tie x e) (tie x f) refl refl
  where
    go : (s t : Bool) → tie x e ≡ s → tie x f ≡ t →
        cond t (f ∷ cond s (e ∷ filter (tie x) fs) (filter (tie x) fs)) (cond s (e ∷ filter (tie x) fs) (filter (tie x) fs))
        ≡ cond s (e ∷ cond t (f ∷ filter (tie x) fs) (filter (tie x) fs)) (cond t (f ∷ filter (tie x) fs) (filter (tie x) fs))
    go true true a b =
        let low = (both_true (before e x) (before x e) a).0 in
        let high = (both_true (before f x) (before x f) b).1 in
        let met : before e f ≡ true = before-trans e x f low high in cc
    go true false a b = refl
    go false true a b = refl
    go false false a b = refl

put_keeps : (x e : Finding) (fs : List Finding) → filter (tie x) (put e fs) ≡ filter (tie x) (e ∷ fs)
put_keeps x e [] = refl
put_keeps x e (f ∷ rest) = go (before e f) refl (put_keeps x e rest)
  where
    go : (b : Bool) → before e f ≡ b → filter (tie x) (put e rest) ≡ filter (tie x) (e ∷ rest) →
        filter (tie x) (cond b (e ∷ f ∷ rest) (f ∷ put e rest)) ≡ filter (tie x) (e ∷ f ∷ rest)
    go true h k = refl
    go false h k = ap (λ ys. cond (tie x f) (f ∷ ys) ys) k ∙ changed x e f rest h

sorted_keeps : (x : Finding) (es : List Finding) → filter (tie x) (sorted es) ≡ filter (tie x) es
sorted_keeps x [] = refl
sorted_keeps x (e ∷ rest) = put_keeps x e (sorted rest) ∙ ap (λ ys. cond (tie x e) (e ∷ ys) ys) (sorted_keeps x rest)

-- ---- what the library's sort says

abbrev less : Finding → Finding → Bool
less x y = is_lt (nat_cmp (key x) (key y))

less_not : (x y : Finding) → not (less y x) ≡ before x y
less_not x y = go (key x) (key y)
  where
    go : (a b : ℕ) → not (is_lt (nat_cmp b a)) ≡ nat_le a b
    go a b = grind (arith, nat_tests)

ties_same : (x y : Finding) → ties less x y ≡ tie x y
ties_same x y = ap (λ b. b && not (less y x)) (less_not y x) ∙ ap (λ b. before y x && b) (less_not x y)

filter_same : {X : Type 0} (p q : X → Bool) (xs : List X) → ((x : X) → p x ≡ q x) → filter p xs ≡ filter q xs
filter_same p q [] f = refl
filter_same p q (x ∷ xs) f = ap (λ b. cond b (x ∷ filter p xs) (filter p xs)) (f x) ∙ ap (λ ys. cond (q x) (x ∷ ys) ys) (filter_same p q xs f)

not_false : (b : Bool) → b ≡ false → not b ≡ true
not_false true e = cc
not_false false e = refl

rises : (xs : List Finding) → ((k : ℕ) (d : Finding) → suc k < length xs → less (get_or xs (suc k) d) (get_or xs k d) ≡ false) → Rise xs
rises [] h = tt
rises (x ∷ []) h = (All-nil (λ y. before x y ≡ true), tt)
rises (x ∷ y ∷ xs) h =
    let more = rises (y ∷ xs) (λ k d l. h (suc k) d (omega (arith, l))) in
    let next : before x y ≡ true = sym (less_not x y) ∙ not_false (less y x) (h zero x (omega arith)) in
    (All-cons (λ z. before x z ≡ true) y xs next (λ k d l. before-trans x y (get_or xs k d) next (more.0 k d l)), more)

-- a stable sort by places gives the order of the file
pub sort_orders : (xs ys : List Finding) → IsSortedByKey key nat_cmp ys → IsStableByKey key nat_cmp xs ys → map finding_view ys ≡ in_file_order (map finding_view xs)
sort_orders xs ys s t =
    let up = rises ys (λ k d l. subst (λ j. less (get_or ys j d) (get_or ys k d) ≡ false) (add-one k) (s k d (omega arith) (omega (arith, l)))) in
    ap (λ (zs : List Finding). map finding_view zs) (one_outcome ys (sorted xs) up (sorted_rises xs)
    (λ x. filter_same (tie x) (ties less x) ys (λ y. sym (ties_same x y)) ∙ t x ∙ filter_same (ties less x) (tie x) xs (ties_same x) ∙ sym (sorted_keeps x xs)))
    ∙ sorted_plain xs
