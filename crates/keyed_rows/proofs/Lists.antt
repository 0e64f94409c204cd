-- Lists in an order, and keys.
use Rattle.std.proofs.Common.{◌≡◌, ◌<◌, ℕ, Bool, true, false, List, [], ◌∷◌, ◌++◌, map, Option, Some, None, refl, cond, nat_eq}
use Rattle.match_model.specs.Keys.{Decision, or_else, Key, key_of, both_keys, IsBefore}
use Rattle.match_model.specs.Lists.{Every, Ordered}

pub every-append : {A : Type 0} (P : A → Type 0) (xs ys : List A) → Every P xs → Every P ys → Every P (xs ++ ys)
every-append P [] ys p q = q
every-append P (x ∷ xs) ys p q = (p.0, every-append P xs ys p.1 q)

pub every-map : {A B : Type 0} (P : A → Type 0) (Q : B → Type 0) (f : A → B) (xs : List A) →
    ((x : A) → P x → Q (f x)) → Every P xs → Every Q (map f xs)
every-map P Q f [] h p = tt
every-map P Q f (x ∷ xs) h p = (h x p.0, every-map P Q f xs h p.1)

pub every-to : {A : Type 0} (P Q : A → Type 0) (xs : List A) → ((x : A) → P x → Q x) → Every P xs → Every Q xs
every-to P Q [] h p = tt
every-to P Q (x ∷ xs) h p = (h x p.0, every-to P Q xs h p.1)

pub every-all : {A : Type 0} (P : A → Type 0) (xs : List A) → ((x : A) → P x) → Every P xs
every-all P [] h = tt
every-all P (x ∷ xs) h = (h x, every-all P xs h)

pub ordered-append : {A : Type 0} (R : A → A → Type 0) (xs ys : List A) → Ordered R xs → Ordered R ys →
    Every (λ x. Every (R x) ys) xs → Ordered R (xs ++ ys)
ordered-append R [] ys p q h = q
ordered-append R (x ∷ xs) ys p q h = (every-append (R x) xs ys p.0 h.0, ordered-append R xs ys p.1 q h.1)

pub ordered-map : {A B : Type 0} (R : A → A → Type 0) (S : B → B → Type 0) (f : A → B) (xs : List A) →
    ((x y : A) → R x y → S (f x) (f y)) → Ordered R xs → Ordered S (map f xs)
ordered-map R S f [] h p = tt
ordered-map R S f (x ∷ xs) h p = (every-map (R x) (S (f x)) f xs (h x) p.0, ordered-map R S f xs h p.1)

pub key_of-append : (ds es : List Decision) (o : ℕ) → key_of (ds ++ es) o ≡ or_else (key_of ds o) (key_of es o)
key_of-append [] es o = refl
key_of-append (d ∷ ds) es o = go (nat_eq d.number o) (key_of-append ds es o)
  where
    go : (b : Bool) → key_of (ds ++ es) o ≡ or_else (key_of ds o) (key_of es o) →
        cond b (Some d.alternative) (key_of (ds ++ es) o) ≡ or_else (cond b (Some d.alternative) (key_of ds o))
        (key_of es o)
    go true ih = refl
    go false ih = ih

pub or_else-none : (a : Option ℕ) → or_else a None ≡ a
or_else-none None = refl
or_else-none (Some x) = refl

-- the first difference of two rows stays the first
abbrev pub before-keep : (k l y z : Key) (b : IsBefore k l) → ((o : ℕ) → o < b.at → y o ≡ z o) →
    IsBefore (both_keys k y) (both_keys l z)
before-keep k l y z b h = record {
  at = b.at;
  one = b.one;
  other = b.other;
  first = rw b.first refl;
  second = rw b.second refl;
  less = b.less;
  same = λ o p. rw (b.same o p, h o p) refl;
}

-- a difference that was decided earlier is the first from now on
abbrev pub before-new : (k l y z : Key) (e : IsBefore y z) → k e.at ≡ None → l e.at ≡ None →
    ((o : ℕ) → o < e.at → k o ≡ l o) → IsBefore (both_keys k y) (both_keys l z)
before-new k l y z e n m h = record {
  at = e.at;
  one = e.one;
  other = e.other;
  first = rw n e.first;
  second = rw m e.second;
  less = e.less;
  same = λ o p. rw (h o p, e.same o p) refl;
}

pub none-is-not : {A : Type 0} (f : Key) (o x : ℕ) → f o ≡ None → f o ≡ Some x → A
none-is-not f o x e h = cc
