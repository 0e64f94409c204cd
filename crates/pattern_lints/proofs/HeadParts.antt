-- The patterns for the parts of a value, by the number of the part and by the number of the pattern.
use Rattle.std.proofs.Common.{◌≡◌, ◌<◌, ◌≤◌, ℕ, zero, suc, ◌+◌, ◌-◌, Bool, true, false, List, [], ◌∷◌, ◌++◌, length, take, drop, slice_get, cond, nat_lt, nat_le, Some, None, refl, sym, ap, ◌∙◌, subst, arith}
use Rattle.std.proofs.lemmas.Bool.Decides.{nat_tests}
use Rattle.std.proofs.lemmas.List.{length-append, length-drop, length-take-le}
use Rattle.std.proofs.lemmas.Option.{slice_get_within, slice_get_past}
use Rattle.match_model.specs.Values.{MValue}
use Rattle.match_model.specs.Constructors.{MCtor, SingleCtor, PointCtor, LaterCtor, OtherTextCtor, VariantCtor, FlagCtor, NumbersCtor, TextCtor, WildCtor, OrCtor, FixedShape, LongerShape, RowCtor, parts_met}
use Rattle.match_model.specs.ArenaPatterns.{MDePat, ctor_of, subs_of}
use Rattle.match_model.specs.ArenaWays.{NumberedPart, numbered_from}
use Rattle.match_model.specs.Rows.{Head}
use Rattle.pattern_lints.specs.Along.{matches}
use Rattle.pattern_lints.specs.Meeting.{head_matches, head_by, part_head, place_of, front_by, back_by, head_front, head_back, Fits, IsSharp}

pub some_same : {A : Type 0} (x y : A) → Some x ≡ Some y → x ≡ y
some_same x y e = cc

pub lt_true : (a b : ℕ) → nat_lt a b ≡ true → a < b
lt_true a b h = grind (arith, nat_tests)

pub lt_false : (a b : ℕ) → nat_lt a b ≡ false → b ≤ a
lt_false a b h = grind (arith, nat_tests)

pub is_lt : (a b : ℕ) → a < b → nat_lt a b ≡ true
is_lt a b h = grind (arith, nat_tests)

pub not_lt : (a b : ℕ) → b ≤ a → nat_lt a b ≡ false
not_lt a b h = grind (arith, nat_tests)

pub le_true : (a b : ℕ) → nat_le a b ≡ true → a ≤ b
le_true a b h = grind (arith, nat_tests)

pub is_le : (a b : ℕ) → a ≤ b → nat_le a b ≡ true
is_le a b h = grind (arith, nat_tests)

-- ---- elements by their number

pub got : {A : Type 0} (xs : List A) (k : ℕ) → k < length xs → (x : A) × (slice_get xs k ≡ Some x)
got [] k h = absurd (omega (arith, h))
got (x ∷ xs) zero h = (x, refl)
got (x ∷ xs) (suc k) h = got xs k (omega (arith, h))

get_left : {A : Type 0} (xs ys : List A) (i : ℕ) → i < length xs → slice_get (xs ++ ys) i ≡ slice_get xs i
get_left [] ys i h = absurd (omega (arith, h))
get_left (x ∷ xs) ys zero h = refl
get_left (x ∷ xs) ys (suc i) h = get_left xs ys i (omega (arith, h))

get_right : {A : Type 0} (xs ys : List A) (n i : ℕ) → n ≡ length xs + i → slice_get (xs ++ ys) n ≡ slice_get ys i
get_right [] ys n i h = ap (slice_get ys) (omega (arith, h))
get_right (x ∷ xs) ys zero i h = let e : 0 ≡ suc (length xs) + i = h in absurd (omega (arith, e))
get_right (x ∷ xs) ys (suc n) i h = let e : suc n ≡ suc (length xs) + i = h in get_right xs ys n i (omega (arith, e))

get_take : {A : Type 0} (n : ℕ) (xs : List A) (i : ℕ) → i < n → slice_get (take n xs) i ≡ slice_get xs i
get_take zero xs i h = absurd (omega (arith, h))
get_take (suc n) [] i h = refl
get_take (suc n) (x ∷ xs) zero h = refl
get_take (suc n) (x ∷ xs) (suc i) h = get_take n xs i (omega (arith, h))

get_drop : {A : Type 0} (n : ℕ) (xs : List A) (i m : ℕ) → m ≡ n + i → slice_get (drop n xs) i ≡ slice_get xs m
get_drop zero xs i m h = ap (slice_get xs) (omega (arith, h))
get_drop (suc n) [] i m h = refl
get_drop (suc n) (x ∷ xs) i zero h = absurd (omega (arith, h))
get_drop (suc n) (x ∷ xs) i (suc m) h = get_drop n xs i m (omega (arith, h))

abbrev at_number : ℕ → MValue → NumberedPart
at_number n u = record { number = n; part = u }

numbered_at : (a : ℕ) (us : List MValue) (k : ℕ) (u : MValue) (n : ℕ) → n ≡ a + k → slice_get us k ≡ Some u →
    slice_get (numbered_from a us) k ≡ Some (at_number n u)
numbered_at a [] k u n h e = cc
numbered_at a (v ∷ us) zero u n h e =
    ap (λ x. Some (at_number x v)) (omega (arith, h)) ∙ ap (λ x. Some (at_number n x)) (some_same v u e)
numbered_at a (v ∷ us) (suc k) u n h e = numbered_at (suc a) us k u n (omega (arith, h)) e

-- what stands in a numbered list
record IsNumbered (a : ℕ) (us : List MValue) (k : ℕ) (m : NumberedPart) : Type 0 where
  there : slice_get us k ≡ Some m.part
  number : m.number ≡ a + k

numbered_back : (a : ℕ) (us : List MValue) (k : ℕ) (m : NumberedPart) → slice_get (numbered_from a us) k ≡ Some m → IsNumbered a us k m
numbered_back a [] k m e = cc
numbered_back a (v ∷ us) zero m e =
    let f : at_number a v ≡ m = some_same (at_number a v) m e in record {
      there = ap (λ (x : NumberedPart). Some x.part) f;
      number = let g : a ≡ m.number = ap (λ (x : NumberedPart). x.number) f in omega (arith, g);
    }
numbered_back a (v ∷ us) (suc k) m e =
    let r = numbered_back (suc a) us k m e in
    let g : m.number ≡ suc a + k = r.number in
    record { there = r.there; number = omega (arith, g) }

pub numbered_length : (a : ℕ) (us : List MValue) → length (numbered_from a us) ≡ length us
numbered_length a [] = refl
numbered_length a (v ∷ us) = ap suc (numbered_length (suc a) us)

-- ---- the parts that are met

longer_met : {A : Type 0} (f b : ℕ) (xs : List A) (n i : ℕ) → length xs ≡ n → f + b ≤ n → i < f + b →
    slice_get (take f xs ++ drop (length xs - b) xs) i ≡ slice_get xs (cond (nat_lt i f) i (n - (f + b - i)))
longer_met {A} f b xs n i e l h = go (nat_lt i f) refl
  where
    front : length (take f xs) ≡ f
    front = length-take-le f xs (omega (arith, e, l))

    go : (t : Bool) → nat_lt i f ≡ t →
        slice_get (take f xs ++ drop (length xs - b) xs) i ≡ slice_get xs (cond t i (n - (f + b - i)))
    go true t =
        let below : i < f = lt_true i f t in
        get_left (take f xs) (drop (length xs - b) xs) i (omega (arith, front, below)) ∙ get_take f xs i below
    go false t =
        let past : f ≤ i = lt_false i f t in
        get_right (take f xs) (drop (length xs - b) xs) i (i - f) (omega (arith, front, past))
        ∙ get_drop (length xs - b) xs (i - f) (n - (f + b - i)) (omega (arith, past, e, l, h))

-- the parts that are met stand at the patterns' places
pub met_place : {A : Type 0} (c : MCtor) (xs : List A) (count n i : ℕ) → length xs ≡ n → Fits c count n → IsSharp c → i < count →
    slice_get (parts_met c xs) i ≡ slice_get xs (place_of c n i)
met_place (RowCtor (LongerShape f b)) xs count n i e h s l = longer_met f b xs n i e h.1 (let c : count ≡ f + b = h.0 in omega (arith, l, c))
met_place c xs count n i e h s l = refl

pub met_length : {A : Type 0} (c : MCtor) (xs : List A) (count n : ℕ) → length xs ≡ n → Fits c count n → IsSharp c → length (parts_met c xs) ≡ count
met_length (RowCtor (LongerShape f b)) xs count n e h s =
    let g : count ≡ f + b = h.0 in
    let l : f + b ≤ n = h.1 in
    let front : length (take f xs) ≡ f = length-take-le f xs (omega (arith, e, l)) in
    let back : length (drop (length xs - b) xs) ≡ length xs - (length xs - b) = length-drop (length xs - b) xs in
    length-append (take f xs) (drop (length xs - b) xs) ∙ omega (arith, e, l, g, front, back)
met_length WildCtor xs count n e h s = absurd s
met_length OrCtor xs count n e h s = absurd s
met_length SingleCtor xs count n e h s = e ∙ sym h
met_length PointCtor xs count n e h s = e ∙ sym h
met_length LaterCtor xs count n e h s = e ∙ sym h
met_length OtherTextCtor xs count n e h s = e ∙ sym h
met_length (VariantCtor k) xs count n e h s = e ∙ sym h
met_length (FlagCtor b) xs count n e h s = e ∙ sym h
met_length (NumbersCtor r) xs count n e h s = e ∙ sym h
met_length (TextCtor t) xs count n e h s = e ∙ sym h
met_length (RowCtor (FixedShape m)) xs count n e h s = e ∙ sym h

-- ---- patterns and places

pub place_head : {T : Type 0} (c : MCtor) (ps : List (MDePat T)) (n i : ℕ) → Fits c (length ps) n → i < length ps →
    head_by c ps n (place_of c n i) ≡ slice_get ps i
place_head {T} (RowCtor (LongerShape f b)) ps n i h l = go (nat_lt i f) refl
  where
    count : length ps ≡ f + b
    count = h.0

    below : f + b ≤ n
    below = h.1

    go : (t : Bool) → nat_lt i f ≡ t → head_by (RowCtor (LongerShape f b)) ps n (cond t i (n - (f + b - i))) ≡ slice_get ps i
    go true t = rw t refl
    go false t =
        let past : f ≤ i = lt_false i f t in
        let first : nat_lt (n - (f + b - i)) f ≡ false = not_lt (n - (f + b - i)) f (omega (arith, count, below, past, l)) in
        let second : nat_lt b (n - (n - (f + b - i))) ≡ false = not_lt b (n - (n - (f + b - i))) (omega (arith, count, below, past, l)) in
        let third : f + b - (n - (n - (f + b - i))) ≡ i = omega (arith, count, below, past, l) in
        rw (first, second, third) refl
place_head c ps n i h l = refl

-- the pattern at a place is one of the patterns
pub record IsAtPlace {T : Type 0} (c : MCtor) (ps : List (MDePat T)) (n k : ℕ) (q : MDePat T) : Type 0 where
  pub number : ℕ
  pub there : slice_get ps number ≡ Some q
  pub place : place_of c n number ≡ k

pub head_place : {T : Type 0} (c : MCtor) (ps : List (MDePat T)) (n k : ℕ) (q : MDePat T) → Fits c (length ps) n → k < n →
    head_by c ps n k ≡ Some q → IsAtPlace c ps n k q
head_place {T} (RowCtor (LongerShape f b)) ps n k q h l e = go (nat_lt k f) (nat_lt b (n - k)) refl refl e
  where
    count : length ps ≡ f + b
    count = h.0

    below : f + b ≤ n
    below = h.1

    go : (t u : Bool) → nat_lt k f ≡ t → nat_lt b (n - k) ≡ u →
        cond t (slice_get ps k) (cond u None (slice_get ps (f + b - (n - k)))) ≡ Some q → IsAtPlace (RowCtor (LongerShape f b)) ps n k q
    go true u t s e = record { number = k; there = e; place = rw t refl }
    go false true t s e = cc
    go false false t s e =
        let past : f ≤ k = lt_false k f t in
        let near : n - k ≤ b = lt_false b (n - k) s in
        let first : nat_lt (f + b - (n - k)) f ≡ false = not_lt (f + b - (n - k)) f (omega (arith, near)) in
        let second : n - (f + b - (f + b - (n - k))) ≡ k = omega (arith, near, below, l) in
        record { number = f + b - (n - k); there = e; place = rw first second }
head_place c ps n k q h l e = record { number = k; there = e; place = refl }

-- two patterns stand at two places
pub place_apart : (c : MCtor) (count n i j : ℕ) → Fits c count n → i < count → j < count → place_of c n i ≡ place_of c n j → i ≡ j
place_apart (RowCtor (LongerShape f b)) count n i j h l m e = go (nat_lt i f) (nat_lt j f) refl refl e
  where
    all : count ≡ f + b
    all = h.0

    below : f + b ≤ n
    below = h.1

    go : (t u : Bool) → nat_lt i f ≡ t → nat_lt j f ≡ u → cond t i (n - (f + b - i)) ≡ cond u j (n - (f + b - j)) → i ≡ j
    go true true t u e = e
    go true false t u e = let a : i < f = lt_true i f t in let z : i ≡ n - (f + b - j) = e in absurd (omega (arith, a, z, all, below, l, m, lt_false j f u))
    go false true t u e = let a : j < f = lt_true j f u in let z : n - (f + b - i) ≡ j = e in absurd (omega (arith, a, z, all, below, l, m, lt_false i f t))
    go false false t u e = let z : n - (f + b - i) ≡ n - (f + b - j) = e in omega (arith, z, all, below, l, m, lt_false i f t, lt_false j f u)
place_apart c count n i j h l m e = e

pub place_below : (c : MCtor) (count n i : ℕ) → Fits c count n → IsSharp c → i < count → place_of c n i < n
place_below (RowCtor (LongerShape f b)) count n i h s l = go (nat_lt i f) refl
  where
    all : count ≡ f + b
    all = h.0

    below : f + b ≤ n
    below = h.1

    go : (t : Bool) → nat_lt i f ≡ t → cond t i (n - (f + b - i)) < n
    go true t = omega (arith, all, below, l)
    go false t = omega (arith, all, below, l)
place_below WildCtor count n i h s l = absurd s
place_below OrCtor count n i h s l = absurd s
place_below SingleCtor count n i h s l = omega (arith, h, l)
place_below PointCtor count n i h s l = omega (arith, h, l)
place_below LaterCtor count n i h s l = omega (arith, h, l)
place_below OtherTextCtor count n i h s l = omega (arith, h, l)
place_below (VariantCtor k) count n i h s l = omega (arith, h, l)
place_below (FlagCtor b) count n i h s l = omega (arith, h, l)
place_below (NumbersCtor r) count n i h s l = omega (arith, h, l)
place_below (TextCtor t) count n i h s l = omega (arith, h, l)
place_below (RowCtor (FixedShape m)) count n i h s l = omega (arith, h, l)

-- ---- what stands in the middle

pub middle_by : {T : Type 0} (c : MCtor) (ps : List (MDePat T)) (n k : ℕ) → front_by c (length ps) ≤ k → back_by c < n - k → head_by c ps n k ≡ None
middle_by (RowCtor (LongerShape f b)) ps n k h l = rw (not_lt k f h, is_lt b (n - k) l) refl
middle_by c ps n k h l = slice_get_past ps k h

pub middle_head : {T : Type 0} (h : Head T) (n k : ℕ) → head_front h ≤ k → head_back h < n - k → part_head h n k ≡ None
middle_head None n k l m = refl
middle_head (Some p) n k l m = middle_by (ctor_of p) (subs_of p) n k l m

-- ---- matching the parts, by pattern and by place

-- each pattern that is not left out matches the part that it meets
abbrev pub EachMatched : {T : Type 0} → MCtor → List (MDePat T) → List MValue → ℕ → (Skip : ℕ → Type 0) → Type 0
EachMatched {T} c ps us n Skip =
    (j : ℕ) (q : MDePat T) (m : NumberedPart) → ¬ Skip (place_of c n j) → slice_get ps j ≡ Some q →
    slice_get (parts_met c (numbered_from 0 us)) j ≡ Some m → matches q m.part ≡ true

-- each part that is not left out is matched by the pattern for it
abbrev pub EachTaken : {T : Type 0} → MCtor → List (MDePat T) → List MValue → ℕ → (Skip : ℕ → Type 0) → Type 0
EachTaken c ps us n Skip =
    (k : ℕ) (u : MValue) → ¬ Skip k → slice_get us k ≡ Some u → head_matches (head_by c ps n k) u ≡ true

pub taken : {T : Type 0} (c : MCtor) (ps : List (MDePat T)) (us : List MValue) (n : ℕ) (Skip : ℕ → Type 0) → length us ≡ n → Fits c (length ps) n → IsSharp c →
    EachMatched c ps us n Skip → EachTaken c ps us n Skip
taken {T} c ps us n Skip e fits sharp each k u free there = go (head_by c ps n k) refl
  where
    within : k < n
    within = let l : k < length us = slice_get_within us k u there in omega (arith, l, e)

    go : (h : Head T) → head_by c ps n k ≡ h → head_matches h u ≡ true
    go None is = refl
    go (Some q) is =
        let at = head_place c ps n k q fits within is in
        each at.number q (at_number k u) (λ s. free (subst Skip at.place s)) at.there
        (met_place c (numbered_from 0 us) (length ps) n at.number (numbered_length 0 us ∙ e) fits sharp (slice_get_within ps at.number q at.there)
        ∙ ap (slice_get (numbered_from 0 us)) at.place
        ∙ numbered_at 0 us k u k (omega arith) there)

pub matched_by_places : {T : Type 0} (c : MCtor) (ps : List (MDePat T)) (us : List MValue) (n : ℕ) (Skip : ℕ → Type 0) → length us ≡ n → Fits c (length ps) n → IsSharp c →
    EachTaken c ps us n Skip → EachMatched c ps us n Skip
matched_by_places {T} c ps us n Skip e fits sharp each j q m free there met =
    let l = slice_get_within ps j q there in
    let at = numbered_back 0 us (place_of c n j) m (sym (met_place c (numbered_from 0 us) (length ps) n j (numbered_length 0 us ∙ e) fits sharp l) ∙ met) in
    subst (λ (h : Head T). head_matches h m.part ≡ true) (place_head c ps n j fits l ∙ there) (each (place_of c n j) m.part free at.there)

-- the part that a pattern meets
pub record IsPartMet (c : MCtor) (us : List MValue) (n i : ℕ) (m : NumberedPart) : Type 0 where
  pub there : slice_get us (place_of c n i) ≡ Some m.part
  pub number : m.number ≡ place_of c n i

pub part_met : (c : MCtor) (us : List MValue) (count n i : ℕ) (m : NumberedPart) → length us ≡ n → Fits c count n → IsSharp c → i < count →
    slice_get (parts_met c (numbered_from 0 us)) i ≡ Some m → IsPartMet c us n i m
part_met c us count n i m e fits sharp l met =
    let at = numbered_back 0 us (place_of c n i) m (sym (met_place c (numbered_from 0 us) count n i (numbered_length 0 us ∙ e) fits sharp l) ∙ met) in
    let z : m.number ≡ 0 + place_of c n i = at.number in
    record { there = at.there; number = omega (arith, z) }

pub meets_part : (c : MCtor) (us : List MValue) (count n i : ℕ) (u : MValue) → length us ≡ n → Fits c count n → IsSharp c → i < count →
    slice_get us (place_of c n i) ≡ Some u →
    slice_get (parts_met c (numbered_from 0 us)) i ≡ Some (record { number = place_of c n i; part = u })
meets_part c us count n i u e fits sharp l there =
    met_place c (numbered_from 0 us) count n i (numbered_length 0 us ∙ e) fits sharp l ∙ numbered_at 0 us (place_of c n i) u (place_of c n i) (omega arith) there
