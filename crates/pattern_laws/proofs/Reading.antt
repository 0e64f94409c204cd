-- Alternatives in reading order: put in one by one, in whatever order.
use Rattle.std.proofs.Common.{◌≡◌, inl, inr, ℕ, ◌<◌, Bool, true, false, List, [], ◌∷◌, ◌++◌, nat_le, nat_lt, refl, sym, ap, subst, ◌∙◌, arith}
use Rattle.std.proofs.lemmas.Bool.Decides.{nat_tests}
use Rattle.match_model.specs.Match.{Alternatives, no_alternative, alternative, and_others}
use Rattle.match_model.specs.Lists.{Among}
use Rattle.match_model.specs.SourcePatterns.{ascend, ids_in}
use Rattle.pattern_rules.specs.ArenaForms.{put_alternative, in_reading}
use Rattle.pattern_rules.proofs.SameTypes.{both_left, both_right}

-- the alternatives, those inside each in reading order
abbrev pub deep : Alternatives → Alternatives
deep no_alternative = no_alternative
deep (alternative id at inside others) = alternative at at (in_reading inside) (deep others)

-- the alternatives put in among others, the last one first
abbrev pub puts : Alternatives → Alternatives → Alternatives
puts no_alternative z = z
puts (alternative id at inside others) z = put_alternative at inside (puts others z)

-- the offsets of the alternatives that stand in no other
abbrev pub roots : Alternatives → List ℕ
roots no_alternative = []
roots (alternative id at inside others) = at ∷ roots others

pub reading_puts : (x : Alternatives) → in_reading x ≡ puts (deep x) no_alternative
reading_puts no_alternative = refl
reading_puts (alternative id at inside others) = ap (put_alternative at (in_reading inside)) (reading_puts others)

pub deep_others : (x y : Alternatives) → deep (and_others x y) ≡ and_others (deep x) (deep y)
deep_others no_alternative y = refl
deep_others (alternative id at inside others) y = ap (alternative at at (in_reading inside)) (deep_others others y)

pub puts_others : (x y z : Alternatives) → puts (and_others x y) z ≡ puts x (puts y z)
puts_others no_alternative y z = refl
puts_others (alternative id at inside others) y z = ap (put_alternative at inside) (puts_others others y z)

put_behind : (a id c : ℕ) (i k z : Alternatives) → nat_le a c ≡ false → put_alternative a i (alternative id c k z)
    ≡ alternative id c k (put_alternative a i z)
put_behind a id c i k z e = rw e refl

put_before : (a id c : ℕ) (i k z : Alternatives) → nat_le a c ≡ true → put_alternative a i (alternative id c k z)
    ≡ alternative a a i (alternative id c k z)
put_before a id c i k z e = rw e refl

-- both before the first that stands there
first_swap : (a b : ℕ) (i j : Alternatives) (id c : ℕ) (k z : Alternatives) → nat_le a c ≡ true → nat_le b c ≡ true →
    nat_le a b ≡ true → nat_le b a ≡ false →
    put_alternative a i (put_alternative b j (alternative id c k z)) ≡ put_alternative b j
    (put_alternative a i (alternative id c k z))
first_swap a b i j id c k z e f g back =
    ap (put_alternative a i) (put_before b id c j k z f)
    ∙ (put_before a b b i j (alternative id c k z) g
    ∙ (ap (alternative a a i) (sym (put_before b id c j k z f))
    ∙ (sym (put_behind b a a j i (alternative id c k z) back) ∙ ap (put_alternative b j)
    (sym (put_before a id c i k z e)))))

-- one before it, the other behind it
middle_swap : (a b : ℕ) (i j : Alternatives) (id c : ℕ) (k z : Alternatives) → nat_le a c ≡ true →
    nat_le b c ≡ false → nat_le b a ≡ false →
    put_alternative a i (put_alternative b j (alternative id c k z)) ≡ put_alternative b j
    (put_alternative a i (alternative id c k z))
middle_swap a b i j id c k z e f back =
    ap (put_alternative a i) (put_behind b id c j k z f)
    ∙ (put_before a id c i k (put_alternative b j z) e
    ∙ (ap (alternative a a i) (sym (put_behind b id c j k z f))
    ∙ (sym (put_behind b a a j i (alternative id c k z) back) ∙ ap (put_alternative b j)
    (sym (put_before a id c i k z e)))))

-- two alternatives at different offsets go in in either order
put_swap : (a b : ℕ) (i j z : Alternatives) → (a ≡ b → ⊥) → put_alternative a i (put_alternative b j z)
    ≡ put_alternative b j (put_alternative a i z)
put_swap a b i j no_alternative d = go (nat_le a b) refl
  where
    go : (w : Bool) → nat_le a b ≡ w → put_alternative a i (put_alternative b j no_alternative) ≡ put_alternative b j
        (put_alternative a i no_alternative)
    go true e = let back : nat_le b a ≡ false = grind (arith, nat_tests, e, d) in rw (e, back) refl
    go false e = let back : nat_le b a ≡ true = grind (arith, nat_tests, e) in rw (e, back) refl
put_swap a b i j (alternative id c k z) d = go (nat_le a c) (nat_le b c) (nat_le a b) refl refl refl
    (put_swap a b i j z d)
  where
    go : (x y w : Bool) → nat_le a c ≡ x → nat_le b c ≡ y → nat_le a b ≡ w →
        put_alternative a i (put_alternative b j z) ≡ put_alternative b j (put_alternative a i z) →
        put_alternative a i (put_alternative b j (alternative id c k z)) ≡ put_alternative b j
        (put_alternative a i (alternative id c k z))
    go true true true e f g rest =
        let back : nat_le b a ≡ false = grind (arith, nat_tests, g, d) in
        first_swap a b i j id c k z e f g back
    go true true false e f g rest =
        let back : nat_le b a ≡ true = grind (arith, nat_tests, g) in
        sym (first_swap b a j i id c k z f e back g)
    go true false w e f g rest =
        let back : nat_le b a ≡ false = grind (arith, nat_tests, e, f) in
        middle_swap a b i j id c k z e f back
    go false true w e f g rest =
        let forth : nat_le a b ≡ false = grind (arith, nat_tests, e, f) in
        sym (middle_swap b a j i id c k z f e forth)
    go false false w e f g rest =
        ap (put_alternative a i) (put_behind b id c j k z f)
        ∙ (put_behind a id c i k (put_alternative b j z) e
        ∙ (ap (alternative id c k) rest
        ∙ (sym (put_behind b id c j k (put_alternative a i z) f)
        ∙ sym (ap (put_alternative b j) (put_behind a id c i k z e)))))

-- one that has another offset than all of them
put_past : (a : ℕ) (i x z : Alternatives) → (Among a (roots x) → ⊥) → put_alternative a i (puts x z) ≡ puts x
    (put_alternative a i z)
put_past a i no_alternative z d = refl
put_past a i (alternative id at inside others) z d =
    put_swap a at i inside (puts others z) (λ e. d (inl e)) ∙ ap (put_alternative at inside)
    (put_past a i others z (λ h. d (inr h)))

-- no offset stands in both
abbrev pub RootsApart : Alternatives → Alternatives → Type 0
RootsApart x y = (a : ℕ) → Among a (roots x) → Among a (roots y) → ⊥

-- alternatives at different offsets go in in either order
pub puts_swap : (x y z : Alternatives) → RootsApart x y → puts x (puts y z) ≡ puts y (puts x z)
puts_swap no_alternative y z d = refl
puts_swap (alternative id at inside others) y z d =
    ap (put_alternative at inside) (puts_swap others y z (λ a h k. d a (inr h) k)) ∙ put_past at inside y
    (puts others z) (λ h. d at (inl refl) h)

-- the numbers rise
abbrev pub Rising : List ℕ → Type 0
Rising [] = Unit {0}
Rising (n ∷ ns) = ((m : ℕ) → Among m ns → n < m) × Rising ns

pub rising : (ns : List ℕ) → ascend ns ≡ true → Rising ns
rising [] h = tt
rising (n ∷ []) h = (λ m a. absurd a, tt)
rising (n ∷ m ∷ ns) h = go (rising (m ∷ ns) (both_right (nat_lt n m) (ascend (m ∷ ns)) h))
  where
    less : n < m
    less = let first : nat_lt n m ≡ true = both_left (nat_lt n m) (ascend (m ∷ ns)) h in grind
        (arith, nat_tests, first)

    go : Rising (m ∷ ns) → Rising (n ∷ m ∷ ns)
    go r = (later, r)
      where
        later : (k : ℕ) → Among k (m ∷ ns) → n < k
        later k (inl e) = subst (λ x. n < x) (sym e) less
        later k (inr a) = let more : m < k = r.0 k a in omega (arith, less, more)

pub among_left : (xs ys : List ℕ) (u : ℕ) → Among u xs → Among u (xs ++ ys)
among_left [] ys u h = absurd h
among_left (x ∷ xs) ys u (inl e) = inl e
among_left (x ∷ xs) ys u (inr h) = inr (among_left xs ys u h)

pub among_right : (xs ys : List ℕ) (u : ℕ) → Among u ys → Among u (xs ++ ys)
among_right [] ys u h = h
among_right (x ∷ xs) ys u h = inr (among_right xs ys u h)

pub rising_left : (xs ys : List ℕ) → Rising (xs ++ ys) → Rising xs
rising_left [] ys h = tt
rising_left (x ∷ xs) ys h = (λ m a. h.0 m (among_left xs ys m a), rising_left xs ys h.1)

pub rising_right : (xs ys : List ℕ) → Rising (xs ++ ys) → Rising ys
rising_right [] ys h = h
rising_right (x ∷ xs) ys h = rising_right xs ys h.1

pub rising_apart : (xs ys : List ℕ) (u : ℕ) → Rising (xs ++ ys) → Among u xs → Among u ys → ⊥
rising_apart [] ys u h a b = a
rising_apart (x ∷ xs) ys u h (inl e) b = let less : x < u = h.0 u (among_right xs ys u b) in absurd
    (omega (arith, e, less))
rising_apart (x ∷ xs) ys u h (inr a) b = rising_apart xs ys u h.1 a b

-- a trace names the alternatives by their offsets
abbrev pub Named : Alternatives → Type 0
Named no_alternative = Unit {0}
Named (alternative id at inside others) = (id ≡ at) × Named others

pub named_others : (x y : Alternatives) → Named x → Named y → Named (and_others x y)
named_others no_alternative y h k = k
named_others (alternative id at inside others) y h k = (h.0, named_others others y h.1 k)

pub ids_others : (x y : Alternatives) → ids_in (and_others x y) ≡ ids_in x ++ ids_in y
ids_others no_alternative y = refl
ids_others (alternative id at inside others) y =
    ap (λ ns. id ∷ (ids_in inside ++ ns)) (ids_others others y) ∙ ap (λ ns. id ∷ ns)
    (sym (three (ids_in inside) (ids_in others) (ids_in y)))
  where
    three : (xs ys zs : List ℕ) → (xs ++ ys) ++ zs ≡ xs ++ (ys ++ zs)
    three [] ys zs = refl
    three (x ∷ xs) ys zs = ap (λ ws. x ∷ ws) (three xs ys zs)

pub roots_within : (x : Alternatives) (u : ℕ) → Named x → Among u (roots x) → Among u (ids_in x)
roots_within no_alternative u h a = a
roots_within (alternative id at inside others) u h (inl e) = inl (e ∙ sym h.0)
roots_within (alternative id at inside others) u h (inr a) = inr
    (among_right (ids_in inside) (ids_in others) u (roots_within others u h.1 a))

-- alternatives whose offsets rise are in order as they stand
pub puts_rising : (x : Alternatives) → Named x → Rising (ids_in x) → puts x no_alternative ≡ x
puts_rising no_alternative h r = refl
puts_rising (alternative id at inside others) h r =
    ap (put_alternative at inside) (puts_rising others h.1 (rising_right (ids_in inside) (ids_in others) r.1))
    ∙ first others h.1 (λ m a. r.0 m (among_right (ids_in inside) (ids_in others) m a))
  where
    first : (y : Alternatives) → Named y → ((m : ℕ) → Among m (ids_in y) → id < m) →
        put_alternative at inside y ≡ alternative id at inside y
    first no_alternative k l = ap (λ n. alternative n at inside no_alternative) (sym h.0)
    first (alternative jd bt within rest) k l =
        let less : id < jd = l jd (inl refl) in
        let le : nat_le at bt ≡ true = grind (arith, nat_tests, less, h.0, k.0) in
        rw le (ap (λ n. alternative n at inside (alternative jd bt within rest)) (sym h.0))

-- however they stand, they go in as the others do
abbrev pub Same : Alternatives → Alternatives → Type 0
Same x y = (z : Alternatives) → puts (deep x) z ≡ puts y z

pub same_others : (x x' y y' : Alternatives) → Same x y → Same x' y' → Same (and_others x x') (and_others y y')
same_others x x' y y' h k z =
    ap (λ w. puts w z) (deep_others x x')
    ∙ (puts_others (deep x) (deep x') z ∙ (ap (puts (deep x)) (k z) ∙ (h (puts y' z) ∙ sym (puts_others y y' z))))

-- so they are the same in reading order, where those rise
pub same_reading : (x y : Alternatives) → Same x y → Named y → Rising (ids_in y) → in_reading x ≡ y
same_reading x y h n r = reading_puts x ∙ (h no_alternative ∙ puts_rising y n r)
