-- Names that are sorted stand in the order in which bindings do: a stable sort has one outcome.
use Rattle.std.proofs.Common.{◌≡◌, ◌<◌, ℕ, zero, suc, arith, length, get_or, add-one, Bool, true, false, not, ◌&&◌, List, [], ◌∷◌, filter, map, reverse, cond, refl, sym, ap, subst, ◌∙◌}
use Rattle.std.specs.Cmp.{IsTotalOrder}
use Rattle.std.specs.List.{All}
use Rattle.std.specs.List.Sorted.{IsSortedBy, IsStableBy, ties}
use Rattle.std.specs.Ordering.{is_lt, is_gt, match_ordering, ordering_reverse}
use Rattle.std.specs.declared.cmp.Ordering.{Ordering}
use Rattle.std.specs.declared.cmp.Ordering.TheVariants.{Less, Equal, Greater}
use Rattle.std.proofs.lemmas.Cmp.{nat_list_cmp_total, on_total, tied_itself, upto}
use Rattle.std.proofs.lemmas.List.Elements.{All-cons, All-nil, All-head, All-tail}
use Rattle.match_model.specs.Texts.{compare_texts}
use Rattle.match_model.specs.Ways.{Binding, bind_into}
use Rattle.first_match.specs.declared.names.Seen.{Seen}
use Rattle.first_match.specs.Names.{plain_seen, put_all, names_held}
use Rattle.first_match.proofs.Joined.{map_reversed}

-- ---- the order of two names

abbrev name_of : Seen → List ℕ
name_of x = (plain_seen x).name

abbrev pub cmp_seen : Seen → Seen → Ordering
cmp_seen x y = compare_texts (name_of x) (name_of y)

pub seen_total : IsTotalOrder cmp_seen
seen_total = on_total name_of nat_list_cmp_total

-- the one stands before the other, or may
abbrev before : Seen → Seen → Bool
before x y = not (is_lt (cmp_seen y x))

turned : (x y : Seen) → is_lt (cmp_seen y x) ≡ is_gt (cmp_seen x y)
turned x y = ap is_lt (seen_total.antisymm y x) ∙ go (cmp_seen x y)
  where
    go : (o : Ordering) → is_lt (ordering_reverse o) ≡ is_gt o
    go Less = refl
    go Equal = refl
    go Greater = refl

not_false : (b : Bool) → b ≡ false → not b ≡ true
not_false true e = cc
not_false false e = refl

false_not : (b : Bool) → not b ≡ true → b ≡ false
false_not true e = cc
false_not false e = refl

before-refl : (x : Seen) → before x x ≡ true
before-refl x = ap (λ o. not (is_lt o)) (tied_itself seen_total x)

before-trans : (x y z : Seen) → before x y ≡ true → before y z ≡ true → before x z ≡ true
before-trans x y z e f =
    let low : is_gt (cmp_seen x y) ≡ false = sym (turned x y) ∙ false_not (is_lt (cmp_seen y x)) e in
    let high : is_gt (cmp_seen y z) ≡ false = sym (turned y z) ∙ false_not (is_lt (cmp_seen z y)) f in
    not_false (is_lt (cmp_seen z x)) (turned x z ∙ upto seen_total x y z low high)

before-total : (x y : Seen) → before x y ≡ false → before y x ≡ true
before-total x y e = go (cmp_seen y x) (cmp_seen x y) (seen_total.antisymm x y) e
  where
    go : (o p : Ordering) → p ≡ ordering_reverse o → not (is_lt o) ≡ false → not (is_lt p) ≡ true
    go Less p d h = ap (λ q. not (is_lt q)) d
    go Equal p d h = cc
    go Greater p d h = cc

-- neither stands before the other
abbrev tie : Seen → Seen → Bool
tie x y = before y x && before x y

both_true : (a b : Bool) → (a && b) ≡ true → (a ≡ true) × (b ≡ true)
both_true true true e = (refl, refl)
both_true true false e = cc
both_true false b e = cc

true_both : (a b : Bool) → a ≡ true → b ≡ true → (a && b) ≡ true
true_both true true e f = refl
true_both true false e f = cc
true_both false b e f = cc

tie-refl : (x : Seen) → tie x x ≡ true
tie-refl x = true_both (before x x) (before x x) (before-refl x) (before-refl x)

-- ---- lists in order

abbrev Rise : List Seen → Type 0
Rise [] = Unit {0}
Rise (x ∷ xs) = All (λ y. before x y ≡ true) xs × Rise xs

tail_is : {X : Type 0} (x y : X) (xs ys : List X) → x ∷ xs ≡ y ∷ ys → xs ≡ ys
tail_is x y xs ys e = cc

head_is : {X : Type 0} (x y : X) (xs ys : List X) → x ∷ xs ≡ y ∷ ys → x ≡ y
head_is x y xs ys e = cc

-- the first that passes a test passes it, and has what all have
first_of : {X : Type 0} (p : X → Bool) (Q : X → Type 0) (xs : List X) (y : X) (ys : List X) → filter p xs ≡ y ∷ ys →
    All Q xs → (p y ≡ true) × Q y
first_of p Q [] y ys e a = cc
first_of {X = X} p Q (x ∷ xs) y ys e a = go (p x) refl e (λ f. first_of p Q xs y ys f (All-tail Q x xs a))
  where
    go : (b : Bool) → p x ≡ b → cond b (x ∷ filter p xs) (filter p xs) ≡ y ∷ ys →
        (filter p xs ≡ y ∷ ys → (p y ≡ true) × Q y) → (p y ≡ true) × Q y
    go true h e f = let is = head_is x y (filter p xs) ys e in (subst (λ z. p z ≡ true) is h, subst Q is (All-head Q x xs a))
    go false h e f = f e

-- the first of a list ties with itself
shown : (a : Seen) (xs : List Seen) → filter (tie a) (a ∷ xs) ≡ a ∷ filter (tie a) xs
shown a xs = ap (λ t. cond t (a ∷ filter (tie a) xs) (filter (tie a) xs)) (tie-refl a)

-- of two lists in order that have the same ties in the same order the first of the one stands at or before that of the other
first_before : (a b : Seen) (xs ys : List Seen) → Rise (b ∷ ys) → filter (tie a) (a ∷ xs) ≡ filter (tie a) (b ∷ ys) →
    before b a ≡ true
first_before a b xs ys r e =
    (first_of (tie a) (λ y. before b y ≡ true) (b ∷ ys) a (filter (tie a) xs) (sym e ∙ shown a xs)
    (All-cons (λ y. before b y ≡ true) b ys (before-refl b) r.0)).1

rest_same : (x a b : Seen) (xs ys : List Seen) → a ≡ b → filter (tie x) (a ∷ xs) ≡ filter (tie x) (b ∷ ys) →
    filter (tie x) xs ≡ filter (tie x) ys
rest_same x a b xs ys is e = go (tie x a) refl (e ∙ ap (λ y. filter (tie x) (y ∷ ys)) (sym is))
  where
    go : (t : Bool) → tie x a ≡ t →
        cond t (a ∷ filter (tie x) xs) (filter (tie x) xs) ≡ cond t (a ∷ filter (tie x) ys) (filter (tie x) ys) →
        filter (tie x) xs ≡ filter (tie x) ys
    go true h e = tail_is a a (filter (tie x) xs) (filter (tie x) ys) e
    go false h e = e

one_outcome : (xs ys : List Seen) → Rise xs → Rise ys → ((x : Seen) → filter (tie x) xs ≡ filter (tie x) ys) → xs ≡ ys
one_outcome [] [] r s f = refl
one_outcome [] (b ∷ ys) r s f = let none : [] ≡ b ∷ filter (tie b) ys = f b ∙ shown b ys in cc
one_outcome (a ∷ xs) [] r s f = let none : a ∷ filter (tie a) xs ≡ [] = sym (shown a xs) ∙ f a in cc
one_outcome (a ∷ xs) (b ∷ ys) r s f =
    let low = first_before a b xs ys s (f a) in
    let high = first_before b a ys xs r (sym (f b)) in
    let tied = true_both (before b a) (before a b) low high in
    let there : filter (tie a) (b ∷ ys) ≡ b ∷ filter (tie a) ys =
    ap (λ t. cond t (b ∷ filter (tie a) ys) (filter (tie a) ys)) tied in
    let is = head_is a b (filter (tie a) xs) (filter (tie a) ys) (sym (shown a xs) ∙ f a ∙ there) in
    let rest = one_outcome xs ys r.1 s.1 (λ x. rest_same x a b xs ys is (f x)) in
    ap (λ y. y ∷ xs) is ∙ ap (λ ys. b ∷ ys) rest

-- ---- the order of bindings

abbrev put : Seen → List Seen → List Seen
put e [] = e ∷ []
put e (f ∷ rest) = cond (before e f) (e ∷ f ∷ rest) (f ∷ put e rest)

abbrev sorted : List Seen → List Seen
sorted [] = []
sorted (e ∷ rest) = put e (sorted rest)

put_plain : (e : Seen) (fs : List Seen) → map plain_seen (put e fs) ≡ bind_into (plain_seen e) (map plain_seen fs)
put_plain e [] = refl
put_plain e (f ∷ rest) = go (cmp_seen f e) (put_plain e rest)
  where
    go : (o : Ordering) → map plain_seen (put e rest) ≡ bind_into (plain_seen e) (map plain_seen rest) →
        map plain_seen (cond (not (is_lt o)) (e ∷ f ∷ rest) (f ∷ put e rest))
        ≡ match_ordering o (plain_seen f ∷ bind_into (plain_seen e) (map plain_seen rest))
        (plain_seen e ∷ plain_seen f ∷ map plain_seen rest) (plain_seen e ∷ plain_seen f ∷ map plain_seen rest)
    go Less h = ap (λ (xs : List Binding). plain_seen f ∷ xs) h
    go Equal h = refl
    go Greater h = refl

sorted_plain : (es : List Seen) → map plain_seen (sorted es) ≡ put_all (map plain_seen es) []
sorted_plain [] = refl
sorted_plain (e ∷ rest) = put_plain e (sorted rest) ∙ ap (bind_into (plain_seen e)) (sorted_plain rest)

put_each : (P : Seen → Type 0) (e : Seen) (fs : List Seen) → P e → All P fs → All P (put e fs)
put_each P e [] p a = All-cons P e [] p (All-nil P)
put_each P e (f ∷ rest) p a = go (before e f) (put_each P e rest p (All-tail P f rest a))
  where
    go : (b : Bool) → All P (put e rest) → All P (cond b (e ∷ f ∷ rest) (f ∷ put e rest))
    go true h = All-cons P e (f ∷ rest) p a
    go false h = All-cons P f (put e rest) (All-head P f rest a) h

put_rises : (e : Seen) (fs : List Seen) → Rise fs → Rise (put e fs)
put_rises e [] r = (All-nil (λ y. before e y ≡ true), tt)
put_rises e (f ∷ rest) r = go (before e f) refl (put_rises e rest r.1)
  where
    go : (b : Bool) → before e f ≡ b → Rise (put e rest) → Rise (cond b (e ∷ f ∷ rest) (f ∷ put e rest))
    go true h more = (
      All-cons (λ y. before e y ≡ true) f rest h (λ k d l. before-trans e f (get_or rest k d) h (r.0 k d l)),
      r,
    )
    go false h more = (put_each (λ y. before f y ≡ true) e rest (before-total e f h) r.0, more)

sorted_rises : (es : List Seen) → Rise (sorted es)
sorted_rises [] = tt
sorted_rises (e ∷ rest) = put_rises e (sorted rest) (sorted_rises rest)

-- two that do not tie may change places
changed : (x e f : Seen) (fs : List Seen) → before e f ≡ false →
    filter (tie x) (f ∷ e ∷ fs) ≡ filter (tie x) (e ∷ f ∷ fs)
changed x e f fs h = go (tie x e) (tie x f) refl refl
  where
    go : (s t : Bool) → tie x e ≡ s → tie x f ≡ t →
        cond t (f ∷ cond s (e ∷ filter (tie x) fs) (filter (tie x) fs)) (cond s (e ∷ filter (tie x) fs) (filter (tie x) fs))
        ≡ cond s (e ∷ cond t (f ∷ filter (tie x) fs) (filter (tie x) fs)) (cond t (f ∷ filter (tie x) fs) (filter (tie x) fs))
    go true true a b =
        let low = (both_true (before e x) (before x e) a).0 in
        let high = (both_true (before f x) (before x f) b).1 in
        let met : before e f ≡ true = before-trans e x f low high in cc
    go true false a b = refl
    go false true a b = refl
    go false false a b = refl

put_keeps : (x e : Seen) (fs : List Seen) → filter (tie x) (put e fs) ≡ filter (tie x) (e ∷ fs)
put_keeps x e [] = refl
put_keeps x e (f ∷ rest) = go (before e f) refl (put_keeps x e rest)
  where
    go : (b : Bool) → before e f ≡ b → filter (tie x) (put e rest) ≡ filter (tie x) (e ∷ rest) →
        filter (tie x) (cond b (e ∷ f ∷ rest) (f ∷ put e rest)) ≡ filter (tie x) (e ∷ f ∷ rest)
    go true h k = refl
    go false h k = ap (λ ys. cond (tie x f) (f ∷ ys) ys) k ∙ changed x e f rest h

sorted_keeps : (x : Seen) (es : List Seen) → filter (tie x) (sorted es) ≡ filter (tie x) es
sorted_keeps x [] = refl
sorted_keeps x (e ∷ rest) = put_keeps x e (sorted rest) ∙ ap (λ ys. cond (tie x e) (e ∷ ys) ys) (sorted_keeps x rest)

-- ---- what the library's sort says

abbrev pub less : Seen → Seen → Bool
less x y = is_lt (cmp_seen x y)

rises : (xs : List Seen) →
    ((k : ℕ) (d : Seen) → suc k < length xs → less (get_or xs (suc k) d) (get_or xs k d) ≡ false) → Rise xs
rises [] h = tt
rises (x ∷ []) h = (All-nil (λ y. before x y ≡ true), tt)
rises (x ∷ y ∷ xs) h =
    let more = rises (y ∷ xs) (λ k d l. h (suc k) d (omega (arith, l))) in
    let next : before x y ≡ true = not_false (less y x) (h zero x (omega arith)) in
    (All-cons (λ z. before x z ≡ true) y xs next (λ k d l. before-trans x y (get_or xs k d) next (more.0 k d l)), more)

-- names that were turned round and sorted stand in the order of bindings
pub sort_orders : (seen turned_round ys : List Seen) → turned_round ≡ reverse seen → IsSortedBy less ys →
    IsStableBy less turned_round ys → map plain_seen ys ≡ names_held seen
sort_orders seen xs ys e s t =
    let up = rises ys (λ k d l. subst (λ j. less (get_or ys j d) (get_or ys k d) ≡ false) (add-one k)
    (s k d (omega arith) (omega (arith, l)))) in
    ap (λ (zs : List Seen). map plain_seen zs)
    (one_outcome ys (sorted xs) up (sorted_rises xs) (λ x. t x ∙ sym (sorted_keeps x xs)))
    ∙ sorted_plain xs
    ∙ ap (λ (zs : List Seen). put_all (map plain_seen zs) []) e
    ∙ ap (λ (bs : List Binding). put_all bs []) (map_reversed plain_seen seen)
