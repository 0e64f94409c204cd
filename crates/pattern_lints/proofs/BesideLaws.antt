-- The number beside a range lies where the patterns of its row say.
use Rattle.std.proofs.Common.{◌≡◌, ◌≢◌, inl, inr, ℕ, zero, suc, ℤ, pos, Bool, true, false, ◌&&◌, ◌+◌, ◌-◌, ◌<◌, ◌≤◌, List, [], ◌∷◌, ◌++◌, take, drop, length, slice_get, Option, None, Some, refl, sym, ap, subst, ◌∙◌, arith, if◌then◌else◌}
use Rattle.std.specs.Prelude.{int_le}
use Rattle.std.proofs.lemmas.Int.{ints}
use Rattle.std.proofs.lemmas.Bool.Decides.{nat_tests}
use Rattle.match_model.specs.Values.{MValue, Flag, Num, Text, Node, Row, values_list, parts_of}
use Rattle.match_model.specs.Numbers.{Free, MRange, in_range, is_from, is_up_to, closed}
use Rattle.match_model.specs.Constructors.{MCtor, SingleCtor, PointCtor, OrCtor, VariantCtor, FlagCtor, NumbersCtor, TextCtor, RowCtor, FixedShape, LongerShape, builds, parts_met, least_held, greatest_held}
use Rattle.match_model.specs.ArenaPatterns.{MDePat, ctor_of, subs_of}
use Rattle.match_model.specs.Rows.{Head}
use Rattle.match_model.proofs.Basics.{text_equal}
use Rattle.match_model.specs.ArenaWays.{NumberedPart, numbered_from, parts_built}
use Rattle.range_split.specs.declared.range.EndKind.{EndKind}
use Rattle.range_split.specs.declared.range.EndKind.TheVariants as ends
use Rattle.range_split.specs.declared.range.Range.{Range}
use Rattle.range_split.specs.declared.size.Size.{Size}
use Rattle.range_split.specs.Numbers.{signed, whole_size}
use Rattle.range_split.specs.Ends.{kept_end}
use Rattle.range_split.specs.Ranges.{plain_range}
use Rattle.range_split.proofs.Held.{kept_held}
use Rattle.pattern_lints.specs.Along.{matches, MeetsAlong}
use Rattle.pattern_lints.specs.Meeting.{IsSharp}
use Rattle.pattern_lints.specs.Beside.{text_number, own_number, own_range, number_below, number_beside, stands_first, MatchesPart, LiesBelow, LiesBeside, held_of, low_held, high_held}
use Rattle.pattern_lints.proofs.HeadParts.{some_same}
use Rattle.pattern_lints.proofs.Matched.{sharp_forth}
use Rattle.pattern_lints.proofs.Numbered.{some-true, part-there}

-- ---- parts with their numbers

numbered-at : (k : ℕ) (vs : List MValue) (j : ℕ) (n : NumberedPart) → slice_get (numbered_from k vs) j ≡ Some n → slice_get vs j ≡ Some n.part
numbered-at k [] j n e = cc
numbered-at k (v ∷ vs) zero n e = let same : record { number = k; part = v } ≡ n = cc in ap (λ (m : NumberedPart). Some m.part) same
numbered-at k (v ∷ vs) (suc j) n e = numbered-at (suc k) vs j n e

length-numbered : (k : ℕ) (vs : List MValue) → length (numbered_from k vs) ≡ length vs
length-numbered k [] = refl
length-numbered k (v ∷ vs) = ap suc (length-numbered (suc k) vs)

-- the first items of a row are those in front of its patterns
front-at : {X : Type 0} (f : ℕ) (xs ys : List X) (j : ℕ) → j < f → f ≤ length xs → slice_get (take f xs ++ ys) j ≡ slice_get xs j
front-at zero xs ys j l h = absurd (omega (arith, l))
front-at (suc f) [] ys j l h = absurd (omega (arith, h))
front-at (suc f) (x ∷ xs) ys zero l h = refl
front-at (suc f) (x ∷ xs) ys (suc j) l h = front-at f xs ys j (omega (arith, l)) (omega (arith, h))

first-met : (c : MCtor) (v : MValue) (j : ℕ) → stands_first c j ≡ true → builds [] c v ≡ true →
    slice_get (parts_met c (numbered_from 0 (parts_of v))) j ≡ slice_get (numbered_from 0 (parts_of v)) j
first-met SingleCtor v j s b = refl
first-met PointCtor v j s b = refl
first-met (VariantCtor k) v j s b = refl
first-met (RowCtor (FixedShape n)) v j s b = refl
first-met (RowCtor (LongerShape f k)) (Row items) j s b =
    let parts = numbered_from 0 (values_list items) in
    let size = length-numbered 0 (values_list items) in
    let less : j < f = grind (arith, nat_tests) in
    let there : f + k ≤ length (values_list items) = grind (arith, nat_tests) in
    front-at f parts (drop (length parts - k) parts) j less (omega (arith, there, size))
first-met (RowCtor (LongerShape f k)) _ j s b = cc
first-met _ v j s b = cc

first-sharp : (c : MCtor) (j : ℕ) → stands_first c j ≡ true → IsSharp c
first-sharp SingleCtor j s = tt
first-sharp PointCtor j s = tt
first-sharp (VariantCtor k) j s = tt
first-sharp (RowCtor r) j s = tt
first-sharp _ j s = cc

-- the part that the pattern with the number meets
met-at : (c : MCtor) (v : MValue) (j : ℕ) (n : NumberedPart) → stands_first c j ≡ true → builds [] c v ≡ true → slice_get (parts_met c (numbered_from 0 (parts_of v))) j ≡ Some n →
    slice_get (parts_of v) j ≡ Some n.part
met-at c v j n s b e = numbered-at 0 (parts_of v) j n (sym (first-met c v j s b) ∙ e)

built-at : (c : MCtor) (v : MValue) (parts : List NumberedPart) (j : ℕ) (n : NumberedPart) → stands_first c j ≡ true → parts_built c v ≡ Some parts → slice_get parts j ≡ Some n →
    slice_get (parts_of v) j ≡ Some n.part
built-at c v parts j n s e g =
    let h = some-true (builds [] c v) (parts_met c (numbered_from 0 (parts_of v))) parts e in
    met-at c v j n s h.0 (ap (λ ns. slice_get ns j) h.1 ∙ g)

-- where one of two lists of one length has something, the other one has something too
beside-at : {X Y : Type 0} (xs : List X) (ys : List Y) (j : ℕ) (x : X) → length ys ≡ length xs → slice_get xs j ≡ Some x → (y : Y) × (slice_get ys j ≡ Some y)
beside-at [] ys j x l e = cc
beside-at (z ∷ xs) [] j x l e = let no : 0 ≡ suc (length xs) = l in absurd (omega (arith, no))
beside-at (z ∷ xs) (y ∷ ys) zero x l e = (y, refl)
beside-at (z ∷ xs) (y ∷ ys) (suc j) x l e = let less : suc (length ys) ≡ suc (length xs) = l in beside-at xs ys j x (omega (arith, less)) e

-- a pattern that stands at the part with its number
pub matches-part : {T : Type 0} (p : MDePat T) (j : ℕ) (q : MDePat T) → stands_first (ctor_of p) j ≡ true → slice_get (subs_of p) j ≡ Some q → MatchesPart p j (Some q)
matches-part p j q s e = λ v m.
    let h = sharp_forth p v (first-sharp (ctor_of p) j s) m in
    let n = beside-at (subs_of p) (parts_met (ctor_of p) (numbered_from 0 (parts_of v))) j q h.all.count e in
    (n.0.part, met-at (ctor_of p) v j n.0 s h.build n.1, h.all.each j q n.0 e n.1)

-- what stands there
pub head-part : {T : Type 0} (p : MDePat T) (j : ℕ) (h : Head T) → stands_first (ctor_of p) j ≡ true → h ≡ slice_get (subs_of p) j → MatchesPart p j h
head-part p j None s e = tt
head-part p j (Some q) s e = matches-part p j q s (sym e)

-- ---- the number of a value

int-itself : (x : ℤ) → int_le x x ≡ true
int-itself x = grind (arith, ints)

pub in-itself : (x : ℤ) → in_range (closed x x) x ≡ true
in-itself x = ap (λ b. b && int_le x x) (int-itself x) ∙ int-itself x

built-number : (c : MCtor) (v : MValue) → builds [] c v ≡ true → in_range (own_range c) (own_number v) ≡ true
built-number (NumbersCtor r) (Num x) b = b
built-number (NumbersCtor r) _ b = cc
built-number (VariantCtor j) (Node k parts) b =
    let same : k ≡ j = grind (arith, nat_tests) in
    subst (λ n. in_range (closed (pos n) (pos n)) (pos k) ≡ true) same (in-itself (pos k))
built-number (VariantCtor j) _ b = cc
built-number (FlagCtor true) (Flag true) b = refl
built-number (FlagCtor false) (Flag false) b = refl
built-number (FlagCtor f) _ b = cc
built-number (RowCtor (FixedShape n)) (Row items) b =
    let same : length (values_list items) ≡ n = grind (arith, nat_tests) in
    subst (λ m. in_range (closed (pos m) (pos m)) (pos (length (values_list items))) ≡ true) same (in-itself (pos (length (values_list items))))
built-number (RowCtor (FixedShape n)) _ b = cc
built-number (TextCtor t) (Text u) b =
    subst (λ s. in_range (closed (pos (text_number t)) (pos (text_number t))) (pos (text_number s)) ≡ true) (text_equal t u b) (in-itself (pos (text_number t)))
built-number (TextCtor t) _ b = cc
built-number _ v b = refl

pub own-lies : {T : Type 0} (p : MDePat T) → LiesBelow p [] (own_range (ctor_of p))
own-lies {T} p = λ v m. go v m (ctor_of p) refl
  where
    by : (v : MValue) → matches p v ≡ true → (c : MCtor) → ctor_of p ≡ c → IsSharp c → in_range (own_range c) (own_number v) ≡ true
    by v m c e s = built-number c v (subst (λ d. builds [] d v ≡ true) e (sharp_forth p v (subst IsSharp (sym e) s) m).build)

    go : (v : MValue) → matches p v ≡ true → (c : MCtor) → ctor_of p ≡ c → in_range (own_range c) (own_number v) ≡ true
    go v m (NumbersCtor r) e = by v m (NumbersCtor r) e tt
    go v m (VariantCtor j) e = by v m (VariantCtor j) e tt
    go v m (FlagCtor f) e = by v m (FlagCtor f) e tt
    go v m (RowCtor s) e = by v m (RowCtor s) e tt
    go v m (TextCtor t) e = by v m (TextCtor t) e tt
    go v m _ e = refl

-- ---- steps

pub all-below : {T : Type 0} (p : MDePat T) (steps : List ℕ) → LiesBelow p steps (record { low = Free; high = Free })
all-below p steps = λ v m. refl

pub step-below : {T : Type 0} (p : MDePat T) (i : ℕ) (rest : List ℕ) (q : MDePat T) (r : MRange) → MatchesPart p i (Some q) → LiesBelow q rest r → LiesBelow p (i ∷ rest) r
step-below p i rest q r part below = λ v m.
    let h = part v m in
    subst (λ (o : Option MValue). in_range r (elim o [ None ↦ pos 0 | Some u ↦ number_below rest u ]) ≡ true) (sym h.1) (below h.0 h.2)

pub all-beside : {T : Type 0} (p : MDePat T) (path : List ℕ) (depth : ℕ) (steps : List ℕ) → LiesBeside p path depth steps (record { low = Free; high = Free })
all-beside p path depth steps = λ v position at s m. refl

never-or : {T : Type 0} (p : MDePat T) (v : MValue) (parts : List NumberedPart) → ctor_of p ≡ OrCtor → parts_built (ctor_of p) v ≡ Some parts → ⊥
never-or p v parts or e =
    let h = some-true (builds [] (ctor_of p) v) (parts_met (ctor_of p) (numbered_from 0 (parts_of v))) parts e in
    let b : builds [] OrCtor v ≡ true = subst (λ c. builds [] c v ≡ true) or h.0 in
    cc

-- through an alternative
pub or-beside : {T : Type 0} (p : MDePat T) (i : ℕ) (rest : List ℕ) (q : MDePat T) (depth : ℕ) (steps : List ℕ) (r : MRange) → ctor_of p ≡ OrCtor → slice_get (subs_of p) i ≡ Some q →
    LiesBeside q rest depth steps r → LiesBeside p (i ∷ rest) depth steps r
or-beside p i rest q depth steps r or there beside = λ v position at s m. elim m [
  | inl a ↦
      let both : Some a.sub ≡ Some q = sym a.sub_there ∙ there in
      beside v position at s (subst (λ x. MeetsAlong x rest v position at s) (some_same a.sub q both) a.below)
  | inr x ↦ absurd (never-or p v x.parts or x.built)
]

-- through a part
pub part-beside : {T : Type 0} (p : MDePat T) (i : ℕ) (rest : List ℕ) (q : MDePat T) (depth : ℕ) (steps : List ℕ) (r : MRange) → ctor_of p ≢ OrCtor → slice_get (subs_of p) i ≡ Some q →
    LiesBeside q rest depth steps r → LiesBeside p (i ∷ rest) (suc depth) steps r
part-beside p i rest q depth steps r sharp there beside = λ v position at s m. elim m [
  | inl a ↦ absurd (sharp a.is_or)
  | inr x ↦
      let both : Some x.sub ≡ Some q = sym x.sub_there ∙ there in
      let inner = beside x.part.part x.inner at s (subst (λ y. MeetsAlong y rest x.part.part x.inner at s) (some_same x.sub q both) x.below) in
      let here = part-there (ctor_of p) v x.parts i x.part x.built x.part_there in
      subst (λ z. in_range r (number_beside (suc depth) steps z v) ≡ true) (sym x.position_is)
      (subst (λ (o : Option MValue). in_range r (elim o [ None ↦ pos 0 | Some u ↦ number_beside depth steps x.inner u ]) ≡ true) (sym here) inner)
]

-- beside the path
pub here-beside : {T : Type 0} (p : MDePat T) (i : ℕ) (rest : List ℕ) (j : ℕ) (behind : List ℕ) (q : MDePat T) (r : MRange) → stands_first (ctor_of p) j ≡ true → i ≢ j →
    slice_get (subs_of p) j ≡ Some q → LiesBelow q behind r → LiesBeside p (i ∷ rest) 0 (j ∷ behind) r
here-beside p i rest j behind q r first apart there below = λ v position at s m. elim m [
  | inl a ↦ let no : stands_first OrCtor j ≡ true = subst (λ c. stands_first c j ≡ true) a.is_or first in cc
  | inr x ↦
      let n = beside-at (subs_of p) x.parts j q x.count there in
      let here = built-at (ctor_of p) v x.parts j n.0 first x.built n.1 in
      let matched = x.others j q n.0 (λ e. apart (sym e)) there n.1 in
      subst (λ (o : Option MValue). in_range r (elim o [ None ↦ pos 0 | Some u ↦ number_below behind u ]) ≡ true) (sym here) (below n.0.part matched)
]

-- ---- held numbers

both-true : (a b : Bool) → (a && b) ≡ true → (a ≡ true) × (b ≡ true)
both-true true b h = (refl, h)
both-true false b h = cc

abbrev between : (l g x : ℤ) → ℤ
between l g x = if int_le x l then l else (if int_le g x then g else x)

from-between : (l g a x : ℤ) → int_le a g ≡ true → int_le a x ≡ true → int_le a (between l g x) ≡ true
from-between l g a x h k = go (int_le x l) (int_le g x) refl refl
  where
    chain : (x y z : ℤ) → int_le x y ≡ true → int_le y z ≡ true → int_le x z ≡ true
    chain x y z g h = grind (arith, ints)

    go : (s t : Bool) → int_le x l ≡ s → int_le g x ≡ t → int_le a (if int_le x l then l else (if int_le g x then g else x)) ≡ true
    go true t e f = subst (λ b. int_le a (if b then l else (if int_le g x then g else x)) ≡ true) (sym e) (chain a x l k e)
    go false true e f =
        subst (λ b. int_le a (if b then l else (if int_le g x then g else x)) ≡ true) (sym e) (subst (λ b. int_le a (if b then g else x) ≡ true) (sym f) h)
    go false false e f =
        subst (λ b. int_le a (if b then l else (if int_le g x then g else x)) ≡ true) (sym e) (subst (λ b. int_le a (if b then g else x) ≡ true) (sym f) k)

up-between : (l g b x : ℤ) → int_le l b ≡ true → int_le x b ≡ true → int_le (between l g x) b ≡ true
up-between l g b x h k = go (int_le x l) (int_le g x) refl refl
  where
    chain : (x y z : ℤ) → int_le x y ≡ true → int_le y z ≡ true → int_le x z ≡ true
    chain x y z g h = grind (arith, ints)

    go : (s t : Bool) → int_le x l ≡ s → int_le g x ≡ t → int_le (if int_le x l then l else (if int_le g x then g else x)) b ≡ true
    go true t e f = subst (λ c. int_le (if c then l else (if int_le g x then g else x)) b ≡ true) (sym e) h
    go false true e f =
        subst (λ c. int_le (if c then l else (if int_le g x then g else x)) b ≡ true) (sym e) (subst (λ c. int_le (if c then g else x) b ≡ true) (sym f) (chain g x b f k))
    go false false e f =
        subst (λ c. int_le (if c then l else (if int_le g x then g else x)) b ≡ true) (sym e) (subst (λ c. int_le (if c then g else x) b ≡ true) (sym f) k)

from-free : (l g x : ℤ) → int_le l g ≡ true → int_le l (between l g x) ≡ true
from-free l g x h = go (int_le x l) (int_le g x) refl refl
  where
    turn : (x y : ℤ) → int_le x y ≡ false → int_le y x ≡ true
    turn x y e = grind (arith, ints)

    go : (s t : Bool) → int_le x l ≡ s → int_le g x ≡ t → int_le l (if int_le x l then l else (if int_le g x then g else x)) ≡ true
    go true t e f = subst (λ b. int_le l (if b then l else (if int_le g x then g else x)) ≡ true) (sym e) (int-itself l)
    go false true e f =
        subst (λ b. int_le l (if b then l else (if int_le g x then g else x)) ≡ true) (sym e) (subst (λ b. int_le l (if b then g else x) ≡ true) (sym f) h)
    go false false e f =
        subst (λ b. int_le l (if b then l else (if int_le g x then g else x)) ≡ true) (sym e) (subst (λ b. int_le l (if b then g else x) ≡ true) (sym f) (turn x l e))

up-free : (l g x : ℤ) → int_le l g ≡ true → int_le (between l g x) g ≡ true
up-free l g x h = go (int_le x l) (int_le g x) refl refl
  where
    turn : (x y : ℤ) → int_le x y ≡ false → int_le y x ≡ true
    turn x y e = grind (arith, ints)

    go : (s t : Bool) → int_le x l ≡ s → int_le g x ≡ t → int_le (if int_le x l then l else (if int_le g x then g else x)) g ≡ true
    go true t e f = subst (λ c. int_le (if c then l else (if int_le g x then g else x)) g ≡ true) (sym e) h
    go false true e f =
        subst (λ c. int_le (if c then l else (if int_le g x then g else x)) g ≡ true) (sym e) (subst (λ c. int_le (if c then g else x) g ≡ true) (sym f) (int-itself g))
    go false false e f =
        subst (λ c. int_le (if c then l else (if int_le g x then g else x)) g ≡ true) (sym e) (subst (λ c. int_le (if c then g else x) g ≡ true) (sym f) (turn g x f))

low-bound : (k : EndKind) (s : Size) (x : ℤ) → is_from (kept_end k s) x ≡ true → int_le (low_held (kept_end k s)) (held_of x) ≡ true
low-bound ends.Free s x h = from-free least_held greatest_held x refl
low-bound ends.Negative s x h = from-between least_held greatest_held (signed true (whole_size s)) x (kept_held true s).1 h
low-bound ends.Positive s x h = from-between least_held greatest_held (signed false (whole_size s)) x (kept_held false s).1 h

high-bound : (k : EndKind) (s : Size) (x : ℤ) → is_up_to (kept_end k s) x ≡ true → int_le (held_of x) (high_held (kept_end k s)) ≡ true
high-bound ends.Free s x h = up-free least_held greatest_held x refl
high-bound ends.Negative s x h = up-between least_held greatest_held (signed true (whole_size s)) x (kept_held true s).0 h
high-bound ends.Positive s x h = up-between least_held greatest_held (signed false (whole_size s)) x (kept_held false s).0 h

-- the ends of a range bound the held numbers of what is in it
pub range-bounds : (r : Range) (x : ℤ) → in_range (plain_range r) x ≡ true →
    (int_le (low_held (plain_range r).low) (held_of x) ≡ true) × (int_le (held_of x) (high_held (plain_range r).high) ≡ true)
range-bounds r x h =
    let b = both-true (is_from (plain_range r).low x) (is_up_to (plain_range r).high x) h in
    (low-bound r.low_kind r.low_size x b.0, high-bound r.high_kind r.high_size x b.1)
