-- Entries of what is unreachable, put in reading order one by one.
use Rattle.std.proofs.Common.{◌≡◌, inl, ℕ, suc, ◌<◌, ◌≤◌, Bool, true, false, ◌&&◌, ◌||◌, List, [], ◌∷◌, ◌++◌, map, nat_eq, nat_le, nat_lt, refl, sym, ap, subst, ◌∙◌, arith, if◌then◌else◌}
use Rattle.std.proofs.lemmas.Bool.Decides.{nat_tests}
use Rattle.match_model.specs.Lists.{Among, Every}
use Rattle.match_model.specs.Unreachable.{Entry}
use Rattle.match_model.specs.ArenaUnreachable.{is_at_or_before, put_in, in_reading_order}
use Rattle.pattern_laws.specs.JudgedLaws.{by_offset}
use Rattle.pattern_laws.proofs.Reading.{Rising}

-- the entries put in among others, the last one first
abbrev pub all_in : List Entry → List Entry → List Entry
all_in [] z = z
all_in (e ∷ es) z = put_in e (all_in es z)

pub ordered_is : (es : List Entry) → in_reading_order es ≡ all_in es []
ordered_is [] = refl
ordered_is (e ∷ es) = ap (put_in e) (ordered_is es)

pub all_in_both : (es fs z : List Entry) → all_in (es ++ fs) z ≡ all_in es (all_in fs z)
all_in_both [] fs z = refl
all_in_both (e ∷ es) fs z = ap (put_in e) (all_in_both es fs z)

-- the order does not look at names
put_by_offset : (e : Entry) (z : List Entry) → map by_offset (put_in e z) ≡ put_in (by_offset e) (map by_offset z)
put_by_offset e [] = refl
put_by_offset e (f ∷ z) = go (is_at_or_before e f) (put_by_offset e z)
  where
    go : (b : Bool) → map by_offset (put_in e z) ≡ put_in (by_offset e) (map by_offset z) →
        map by_offset (if b then e ∷ f ∷ z else f ∷ put_in e z)
        ≡ (if b then by_offset e ∷ by_offset f ∷ map by_offset z else by_offset f
        ∷ put_in (by_offset e) (map by_offset z))
    go true h = refl
    go false h = ap (λ xs. by_offset f ∷ xs) h

pub order_by_offset : (es : List Entry) → map by_offset (in_reading_order es) ≡ in_reading_order (map by_offset es)
order_by_offset [] = refl
order_by_offset (e ∷ es) = put_by_offset e (in_reading_order es) ∙ ap (put_in (by_offset e)) (order_by_offset es)

-- ---- entries of one arm

-- the entries are of this arm and stand at some of these offsets
abbrev pub AreAt : (arm : ℕ) → List ℕ → List Entry → Type 0
AreAt j ns es = Every (λ e. (e.arm ≡ j) × Among e.at ns) es

pub at_more : (j : ℕ) (ns ms : List ℕ) (es : List Entry) → ((u : ℕ) → Among u ns → Among u ms) → AreAt j ns es →
    AreAt j ms es
at_more j ns ms [] f h = tt
at_more j ns ms (e ∷ es) f h = ((h.0.0, f e.at h.0.1), at_more j ns ms es f h.1)

pub at_both : (j : ℕ) (ns : List ℕ) (es fs : List Entry) → AreAt j ns es → AreAt j ns fs → AreAt j ns (es ++ fs)
at_both j ns [] fs h k = k
at_both j ns (e ∷ es) fs h k = (h.0, at_both j ns es fs h.1 k)

-- one that stands at this offset of this arm stands at or before the entry
abbrev stands : (arm at : ℕ) → Entry → Bool
stands j a c = nat_lt j c.arm || (nat_eq j c.arm && nat_le a c.at)

stands_is : (j : ℕ) (e c : Entry) → e.arm ≡ j → is_at_or_before e c ≡ stands j e.at c
stands_is j e c h = ap (λ n. nat_lt n c.arm || (nat_eq n c.arm && nat_le e.at c.at)) h

-- entries of one arm stand by their offsets
by_offsets_alone : (j : ℕ) (e f : Entry) → e.arm ≡ j → f.arm ≡ j → is_at_or_before e f ≡ nat_le e.at f.at
by_offsets_alone j e f h k =
    stands_is j e f h
    ∙ (ap (λ n. nat_lt j n || (nat_eq j n && nat_le e.at f.at)) k
    ∙ (ap (λ b. b || (nat_eq j j && nat_le e.at f.at)) less
    ∙ ap (λ b. b && nat_le e.at f.at) same))
  where
    less : nat_lt j j ≡ false
    less = grind (arith, nat_tests)

    same : nat_eq j j ≡ true
    same = grind (arith, nat_tests)

-- of one arm, one that stands before an entry that the other does not stand before has the lower offset
lower : (j a b : ℕ) (c : Entry) → stands j a c ≡ true → stands j b c ≡ false → nat_le b a ≡ false
lower j a b c h k = go (nat_lt j c.arm) (nat_eq j c.arm) h k
  where
    go : (x y : Bool) → (x || (y && nat_le a c.at)) ≡ true → (x || (y && nat_le b c.at)) ≡ false → nat_le b a ≡ false
    go true y h k = cc
    go false false h k = cc
    go false true h k = grind (arith, nat_tests, h, k)

put_front : (e f : Entry) (z : List Entry) → is_at_or_before e f ≡ true → put_in e (f ∷ z) ≡ e ∷ f ∷ z
put_front e f z h = rw h refl

put_later : (e f : Entry) (z : List Entry) → is_at_or_before e f ≡ false → put_in e (f ∷ z) ≡ f ∷ put_in e z
put_later e f z h = rw h refl

-- both before the first that stands there
first_swap : (e f c : Entry) (z : List Entry) → is_at_or_before e c ≡ true → is_at_or_before f c ≡ true →
    is_at_or_before e f ≡ true → is_at_or_before f e ≡ false →
    put_in e (put_in f (c ∷ z)) ≡ put_in f (put_in e (c ∷ z))
first_swap e f c z h k forth back =
    ap (put_in e) (put_front f c z k)
    ∙ (put_front e f (c ∷ z) forth
    ∙ (ap (λ xs. e ∷ xs) (sym (put_front f c z k))
    ∙ (sym (put_later f e (c ∷ z) back) ∙ ap (put_in f) (sym (put_front e c z h)))))

-- one before it, the other behind it
middle_swap : (e f c : Entry) (z : List Entry) → is_at_or_before e c ≡ true → is_at_or_before f c ≡ false →
    is_at_or_before f e ≡ false → put_in e (put_in f (c ∷ z)) ≡ put_in f (put_in e (c ∷ z))
middle_swap e f c z h k back =
    ap (put_in e) (put_later f c z k)
    ∙ (put_front e c (put_in f z) h
    ∙ (ap (λ xs. e ∷ xs) (sym (put_later f c z k))
    ∙ (sym (put_later f e (c ∷ z) back) ∙ ap (put_in f) (sym (put_front e c z h)))))

-- two entries at different offsets of an arm go in in either order
put_swap : (j : ℕ) (e f : Entry) (z : List Entry) → e.arm ≡ j → f.arm ≡ j → (e.at ≡ f.at → ⊥) →
    put_in e (put_in f z) ≡ put_in f (put_in e z)
put_swap j e f [] h k d = go (nat_le e.at f.at) refl
  where
    go : (b : Bool) → nat_le e.at f.at ≡ b → put_in e (f ∷ []) ≡ put_in f (e ∷ [])
    go true n =
        let back : nat_le f.at e.at ≡ false = grind (arith, nat_tests, n, d) in
        put_front e f [] (by_offsets_alone j e f h k ∙ n) ∙ sym (put_later f e [] (by_offsets_alone j f e k h ∙ back))
    go false n =
        let back : nat_le f.at e.at ≡ true = grind (arith, nat_tests, n) in
        put_later e f [] (by_offsets_alone j e f h k ∙ n) ∙ sym (put_front f e [] (by_offsets_alone j f e k h ∙ back))
put_swap j e f (c ∷ z) h k d = go (stands j e.at c) (stands j f.at c) (nat_le e.at f.at) refl refl refl
    (put_swap j e f z h k d)
  where
    go : (x y w : Bool) → stands j e.at c ≡ x → stands j f.at c ≡ y → nat_le e.at f.at ≡ w →
        put_in e (put_in f z) ≡ put_in f (put_in e z) → put_in e (put_in f (c ∷ z)) ≡ put_in f (put_in e (c ∷ z))
    go true true true a b n rest =
        let back : nat_le f.at e.at ≡ false = grind (arith, nat_tests, n, d) in
        first_swap e f c z (stands_is j e c h ∙ a) (stands_is j f c k ∙ b) (by_offsets_alone j e f h k ∙ n)
        (by_offsets_alone j f e k h ∙ back)
    go true true false a b n rest =
        let back : nat_le f.at e.at ≡ true = grind (arith, nat_tests, n) in
        sym (first_swap f e c z (stands_is j f c k ∙ b) (stands_is j e c h ∙ a) (by_offsets_alone j f e k h ∙ back)
        (by_offsets_alone j e f h k ∙ n))
    go true false w a b n rest =
        middle_swap e f c z (stands_is j e c h ∙ a) (stands_is j f c k ∙ b)
        (by_offsets_alone j f e k h ∙ lower j e.at f.at c a b)
    go false true w a b n rest =
        sym (middle_swap f e c z (stands_is j f c k ∙ b) (stands_is j e c h ∙ a)
        (by_offsets_alone j e f h k ∙ lower j f.at e.at c b a))
    go false false w a b n rest =
        ap (put_in e) (put_later f c z (stands_is j f c k ∙ b))
        ∙ (put_later e c (put_in f z) (stands_is j e c h ∙ a)
        ∙ (ap (λ xs. c ∷ xs) rest
        ∙ (sym (put_later f c (put_in e z) (stands_is j f c k ∙ b))
        ∙ ap (put_in f) (sym (put_later e c z (stands_is j e c h ∙ a))))))

-- no number stands in both
abbrev pub AreApart : List ℕ → List ℕ → Type 0
AreApart ns ms = (u : ℕ) → Among u ns → Among u ms → ⊥

-- one past others of its arm at other offsets
put_past : (j : ℕ) (e : Entry) (ms : List ℕ) (fs z : List Entry) → e.arm ≡ j → (Among e.at ms → ⊥) → AreAt j ms fs →
    put_in e (all_in fs z) ≡ all_in fs (put_in e z)
put_past j e ms [] z h d k = refl
put_past j e ms (f ∷ fs) z h d k =
    put_swap j e f (all_in fs z) h k.0.0 (λ s. d (subst (λ n. Among n ms) (sym s) k.0.1))
    ∙ ap (put_in f) (put_past j e ms fs z h d k.1)

-- entries of one arm at different offsets go in in either order
pub all_swap : (j : ℕ) (ns ms : List ℕ) (es fs z : List Entry) → AreApart ns ms → AreAt j ns es → AreAt j ms fs →
    all_in es (all_in fs z) ≡ all_in fs (all_in es z)
all_swap j ns ms [] fs z d h k = refl
all_swap j ns ms (e ∷ es) fs z d h k =
    ap (put_in e) (all_swap j ns ms es fs z d h.1 k)
    ∙ put_past j e ms fs (all_in es z) h.0.0 (λ a. d e.at h.0.1 a) k

-- ---- in their order

-- the entries are of arms from this one on
abbrev pub AreFrom : ℕ → List Entry → Type 0
AreFrom j es = Every (λ e. j ≤ e.arm) es

pub from_at : (j : ℕ) (ns : List ℕ) (es : List Entry) → AreAt j ns es → AreFrom j es
from_at j ns [] h = tt
from_at j ns (e ∷ es) h = (at_least e.arm h.0.0, from_at j ns es h.1)
  where
    at_least : (n : ℕ) → n ≡ j → j ≤ n
    at_least n same = omega (arith, same)

pub from_both : (j : ℕ) (es fs : List Entry) → AreFrom j es → AreFrom j fs → AreFrom j (es ++ fs)
from_both j [] fs h k = k
from_both j (e ∷ es) fs h k = (h.0, from_both j es fs h.1 k)

pub from_more : (j : ℕ) (es : List Entry) → AreFrom (suc j) es → AreFrom j es
from_more j [] h = tt
from_more j (e ∷ es) h = (less e.arm h.0, from_more j es h.1)
  where
    less : (n : ℕ) → suc j ≤ n → j ≤ n
    less n le = omega (arith, le)

-- an entry of the arm stands before those of later arms
put_before : (j : ℕ) (e : Entry) (z : List Entry) → e.arm ≡ j → AreFrom (suc j) z → put_in e z ≡ e ∷ z
put_before j e [] h k = refl
put_before j e (f ∷ z) h k =
    let less : nat_lt j f.arm ≡ true = grind (arith, nat_tests, k.0) in
    put_front e f z (stands_is j e f h ∙ ap (λ b. b || (nat_eq j f.arm && nat_le e.at f.at)) less)

pub one_before : (j : ℕ) (e : Entry) (z : List Entry) → e.arm ≡ j → AreFrom (suc j) z → put_in e z ≡ e ∷ z
one_before j e z h k = put_before j e z h k

-- entries of the arm whose offsets rise stand as they are, before those of later arms
pub all_before : (j : ℕ) (ns : List ℕ) (es z : List Entry) → AreAt j ns es → Rising (map (λ e. e.at) es) →
    AreFrom (suc j) z →
    all_in es z ≡ es ++ z
all_before j ns [] z h r k = refl
all_before j ns (e ∷ es) z h r k =
    ap (put_in e) (all_before j ns es z h.1 r.1 k)
    ∙ first es h.1 (λ m a. r.0 m a)
  where
    first : (fs : List Entry) → AreAt j ns fs → ((m : ℕ) → Among m (map (λ x. x.at) fs) → e.at < m) →
        put_in e (fs ++ z) ≡ e ∷ (fs ++ z)
    first [] a l = put_before j e z h.0.0 k
    first (f ∷ fs) a l =
        let less : e.at < f.at = l f.at (inl refl) in
        let le : nat_le e.at f.at ≡ true = grind (arith, nat_tests, less) in
        put_front e f (fs ++ z) (by_offsets_alone j e f h.0.0 a.0.0 ∙ le)
