-- Names of patterns: which lists of names are apart.
use Rattle.std.proofs.Common.{◌≡◌, ◌⊎◌, inl, inr, ℕ, zero, suc, Bool, true, false, not, ◌&&◌, ◌||◌, List, [], ◌∷◌, ◌++◌, replicate, refl, sym, subst, ◌∙◌}
use Rattle.std.specs.List.{list_any}
use Rattle.std.specs.Str.{bytes_eq}
use Rattle.std.proofs.lemmas.Slice.Eq.{bytes_eq-Decides}
use Rattle.match_model.specs.Texts.{text_eq}
use Rattle.match_model.specs.WellTyped.{is_new, are_apart}
use Rattle.type_names.specs.NameRules.{is_among}
use Rattle.pattern_laws.proofs.FineNodes.{either_left, either_right}

-- the name is one of these
abbrev pub In : List ℕ → List (List ℕ) → Type 0
In x [] = ⊥
In x (y ∷ ys) = (x ≡ y) ⊎ In x ys

-- no name stands in both lists
abbrev pub Apart : List (List ℕ) → List (List ℕ) → Type 0
Apart xs ys = (x : List ℕ) → In x xs → In x ys → ⊥

-- each name of the first list stands in the second
abbrev pub Within : List (List ℕ) → List (List ℕ) → Type 0
Within xs ys = (x : List ℕ) → In x xs → In x ys

pub in_left : (x : List ℕ) (xs ys : List (List ℕ)) → In x xs → In x (xs ++ ys)
in_left x [] ys h = absurd h
in_left x (z ∷ xs) ys (inl e) = inl e
in_left x (z ∷ xs) ys (inr h) = inr (in_left x xs ys h)

pub in_right : (x : List ℕ) (xs ys : List (List ℕ)) → In x ys → In x (xs ++ ys)
in_right x [] ys h = h
in_right x (z ∷ xs) ys h = inr (in_right x xs ys h)

pub in_either : (x : List ℕ) (xs ys : List (List ℕ)) → In x (xs ++ ys) → In x xs ⊎ In x ys
in_either x [] ys h = inr h
in_either x (z ∷ xs) ys (inl e) = inl (inl e)
in_either x (z ∷ xs) ys (inr h) = either (in_either x xs ys h)
  where
    either : In x xs ⊎ In x ys → In x (z ∷ xs) ⊎ In x ys
    either (inl k) = inl (inr k)
    either (inr k) = inr k

-- the names of all lists
abbrev pub joined : List (List (List ℕ)) → List (List ℕ)
joined [] = []
joined (n ∷ ns) = n ++ joined ns

-- no two lists have a name in common
abbrev pub AllApart : List (List (List ℕ)) → Type 0
AllApart [] = Unit {0}
AllApart (n ∷ ns) = Apart n (joined ns) × AllApart ns

pub joined_left : (x : List ℕ) (ns ms : List (List (List ℕ))) → In x (joined ns) → In x (joined (ns ++ ms))
joined_left x [] ms h = absurd h
joined_left x (n ∷ ns) ms h = go (in_either x n (joined ns) h) (λ k. joined_left x ns ms k)
  where
    go : In x n ⊎ In x (joined ns) → (In x (joined ns) → In x (joined (ns ++ ms))) → In x (n ++ joined (ns ++ ms))
    go (inl k) rest = in_left x n (joined (ns ++ ms)) k
    go (inr k) rest = in_right x n (joined (ns ++ ms)) (rest k)

pub joined_right : (x : List ℕ) (ns ms : List (List (List ℕ))) → In x (joined ms) → In x (joined (ns ++ ms))
joined_right x [] ms h = h
joined_right x (n ∷ ns) ms h = in_right x n (joined (ns ++ ms)) (joined_right x ns ms h)

pub joined_either : (x : List ℕ) (ns ms : List (List (List ℕ))) → In x (joined (ns ++ ms)) → In x (joined ns) ⊎ In x
    (joined ms)
joined_either x [] ms h = inr h
joined_either x (n ∷ ns) ms h = go (in_either x n (joined (ns ++ ms)) h) (λ k. joined_either x ns ms k)
  where
    later : In x (joined ns) ⊎ In x (joined ms) → In x (n ++ joined ns) ⊎ In x (joined ms)
    later (inl k) = inl (in_right x n (joined ns) k)
    later (inr k) = inr k

    go : In x n ⊎ In x (joined (ns ++ ms)) → (In x (joined (ns ++ ms)) → In x (joined ns) ⊎ In x (joined ms)) →
        In x (n ++ joined ns) ⊎ In x (joined ms)
    go (inl k) rest = inl (in_left x n (joined ns) k)
    go (inr k) rest = later (rest k)

-- one list left out
without_names : (x : List ℕ) (ns ms : List (List (List ℕ))) (r : List (List ℕ)) → In x (joined (ns ++ ms)) →
    In x (joined (ns ++ (r ∷ ms)))
without_names x ns ms r h = go (joined_either x ns ms h)
  where
    go : In x (joined ns) ⊎ In x (joined ms) → In x (joined (ns ++ (r ∷ ms)))
    go (inl k) = joined_left x ns (r ∷ ms) k
    go (inr k) = joined_right x ns (r ∷ ms) (in_right x r (joined ms) k)

pub without_apart : (ns ms : List (List (List ℕ))) (r : List (List ℕ)) → AllApart (ns ++ (r ∷ ms)) →
    AllApart (ns ++ ms)
without_apart [] ms r h = h.1
without_apart (n ∷ ns) ms r h = (λ x a b. h.0 x a (without_names x ns ms r b), without_apart ns ms r h.1)

-- that list has no name in common with the others
pub apart_within : (ns ms : List (List (List ℕ))) (r : List (List ℕ)) → AllApart (ns ++ (r ∷ ms)) →
    Apart r (joined (ns ++ ms))
apart_within [] ms r h = h.0
apart_within (n ∷ ns) ms r h = λ x a b. go x a (in_either x n (joined (ns ++ ms)) b) (apart_within ns ms r h.1)
  where
    go : (x : List ℕ) → In x r → In x n ⊎ In x (joined (ns ++ ms)) → Apart r (joined (ns ++ ms)) → ⊥
    go x a (inl k) rest = h.0 x k (joined_right x ns (r ∷ ms) (in_left x r (joined ms) a))
    go x a (inr k) rest = rest x a k

-- lists without names in between
joined_nones : (x : List ℕ) (k : ℕ) (ms : List (List (List ℕ))) → In x (joined (replicate k [] ++ ms)) →
    In x (joined ms)
joined_nones x zero ms h = h
joined_nones x (suc k) ms h = joined_nones x k ms h

nones_apart : (k : ℕ) (ms : List (List (List ℕ))) → AllApart ms → AllApart (replicate k [] ++ ms)
nones_apart zero ms h = h
nones_apart (suc k) ms h = (λ x a b. a, nones_apart k ms h)

pub filled_apart : (ns ms : List (List (List ℕ))) (k : ℕ) → AllApart (ns ++ ms) →
    AllApart (ns ++ (replicate k [] ++ ms))
filled_apart [] ms k h = nones_apart k ms h
filled_apart (n ∷ ns) ms k h = (
  λ x a b. h.0 x a (go x (joined_either x ns (replicate k [] ++ ms) b)),
  filled_apart ns ms k h.1,
)
  where
    go : (x : List ℕ) → In x (joined ns) ⊎ In x (joined (replicate k [] ++ ms)) → In x (joined (ns ++ ms))
    go x (inl q) = joined_left x ns ms q
    go x (inr q) = joined_right x ns ms (joined_nones x k ms q)

-- the tests of names by what they say
false_of : (b : Bool) → (b ≡ true → ⊥) → b ≡ false
false_of true h = absurd (h refl)
false_of false h = refl

pub none_any : (x : List ℕ) (ys : List (List ℕ)) → (In x ys → ⊥) → list_any (text_eq x) ys ≡ false
none_any x [] h = refl
none_any x (y ∷ ys) h =
    let first : text_eq x y ≡ false = false_of (text_eq x y) (λ e. h (inl ((bytes_eq-Decides x y).0 e))) in
    rw (first, none_any x ys (λ k. h (inr k))) refl

pub any_in : (x : List ℕ) (ys : List (List ℕ)) → list_any (text_eq x) ys ≡ true → In x ys
any_in x [] h = cc
any_in x (y ∷ ys) h = go (text_eq x y) refl h (λ k. any_in x ys k)
  where
    go : (b : Bool) → text_eq x y ≡ b → (b || list_any (text_eq x) ys) ≡ true →
        (list_any (text_eq x) ys ≡ true → In x ys) → In x (y ∷ ys)
    go true e k rest = inl ((bytes_eq-Decides x y).0 e)
    go false e k rest = inr (rest k)

pub new_name : (names : List (List ℕ)) (x : List ℕ) → (In x names → ⊥) → is_new names x ≡ true
new_name names x h = rw (none_any x names h) refl

pub apart_names : (names others : List (List ℕ)) → Apart names others → are_apart names others ≡ true
apart_names names [] h = refl
apart_names names (x ∷ others) h = rw (
  new_name names x (λ k. h x k (inl refl)),
  apart_names names others
      (λ y a b. h y a (inr b)),
) refl

new_not_in : (names : List (List ℕ)) (x : List ℕ) → is_new names x ≡ true → In x names → ⊥
new_not_in names x h k = go (list_any (text_eq x) names) refl h
  where
    there : (names : List (List ℕ)) → In x names → list_any (text_eq x) names ≡ true
    there [] k = absurd k
    there (y ∷ ys) (inl e) = let first : text_eq x y ≡ true = (bytes_eq-Decides x y).1 e in rw first refl
    there (y ∷ ys) (inr k) = or_true (text_eq x y) (list_any (text_eq x) ys) (there ys k)
      where
        or_true : (a b : Bool) → b ≡ true → (a || b) ≡ true
        or_true true b h = refl
        or_true false b h = h

    go : (b : Bool) → list_any (text_eq x) names ≡ b → not b ≡ true → ⊥
    go true e q = cc
    go false e q = let t : list_any (text_eq x) names ≡ true = there names k in clash (sym e ∙ t)
      where
        clash : false ≡ true → ⊥
        clash z = cc

pub names_apart : (names others : List (List ℕ)) → are_apart names others ≡ true → Apart names others
names_apart names [] h x a b = b
names_apart names (y ∷ others) h x a (inl e) = new_not_in names y (first (is_new names y) (are_apart names others) h)
    (subst (λ z. In z names) e a)
  where
    first : (a b : Bool) → (a && b) ≡ true → a ≡ true
    first true b h = refl
    first false b h = cc
names_apart names (y ∷ others) h x a (inr k) = names_apart names others
    (second (is_new names y) (are_apart names others) h) x a k
  where
    second : (a b : Bool) → (a && b) ≡ true → b ≡ true
    second true b h = h
    second false b h = cc

-- a name that rule 30 finds nowhere before
pub not_among : (x : List ℕ) (names : List (List ℕ)) → is_among x names ≡ false → In x names → ⊥
not_among x [] h k = k
not_among x (y ∷ ys) h (inl e) =
    let t : bytes_eq x y ≡ true = (bytes_eq-Decides x y).1 e in
    let f : bytes_eq x y ≡ false = either_left (bytes_eq x y) (is_among x ys) h in
    clash (sym f ∙ t)
  where
    clash : false ≡ true → ⊥
    clash z = cc
not_among x (y ∷ ys) h (inr k) = not_among x ys (either_right (bytes_eq x y) (is_among x ys) h) k
