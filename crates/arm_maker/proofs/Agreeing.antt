-- Comparisons that agree: that of witnesses, that of arms in both directions, and the numbers for the order.
use Rattle.std.proofs.Common.{◌≡◌, ◌⊎◌, inl, inr, ℕ, suc, ◌+◌, ◌<◌, ℤ, pos, ◌<ℤ◌, Bool, true, false, ◌&&◌, List, [], ◌∷◌, ◌++◌, cond, nat_eq, nat_lt, int_lt, refl, sym, ap, ◌∙◌, subst, arith}
use Rattle.std.specs.Prelude.{⊤}
use Rattle.std.proofs.lemmas.Bool.Decides.{nat_tests}
use Rattle.std.proofs.lemmas.Int.{ints}
use Rattle.std.proofs.lemmas.Cmp.{ranked}
use Rattle.std.specs.declared.cmp.Ordering.{Ordering}
use Rattle.std.specs.declared.cmp.Ordering.TheVariants.{Less, Equal, Greater}
use Rattle.std.specs.Ordering.{MatchOrdering, ordering_then, nat_cmp, int_eq, is_lt}
use Rattle.std.specs.Cmp.Lexicographic.{slice_cmp, pointwise}
use mathlib.Core.Bool.{beq}
use Rattle.match_model.specs.Texts.{text_eq, compare_texts}
use Rattle.match_model.specs.Types.{MType, IntType}
use Rattle.match_model.specs.Numbers.{MEnd, Free, At, MRange}
use Rattle.match_model.specs.WitnessOrder.{Compared, Same, Before, NotBefore, and_then, compared, compare_nat, compare_text, compare_flag, compare_low, compare_high, compare_range, compare_shape}
use Rattle.match_model.proofs.Basics.{both, and_true, untrue, nat_equal, nat_itself, int_equal, int_itself, text_equal, text_itself, flag_equal, flag_itself}
use Rattle.witness_text.specs.Ranges.{ends_below_literals}
use Rattle.arm_maker.specs.Order.{is_late, compare_late}
use Rattle.arm_maker.specs.Keys.{low_key, high_key, late_key, range_key, characters_key}
use Rattle.arm_maker.proofs.Lower.{Lower, lower_more, lower_behind}

-- Where the first comparison finds no difference, so do the others, and the numbers are the same. Where it finds the
-- first thing earlier, one of the two directions does, and the numbers are lower in that direction.
abbrev pub Agrees : Compared → (forth back : Compared) → List ℤ → List ℤ → Type 0
Agrees Same forth back k l = (forth ≡ Same) × (back ≡ Same) × (k ≡ l)
Agrees Before forth back k l = ((forth ≡ Before) × Lower k l) ⊎ ((back ≡ Before) × Lower l k)
Agrees NotBefore forth back k l = ⊤

-- the same numbers before both
pub agrees_behind : (c f b : Compared) (xs k l : List ℤ) → Agrees c f b k l → Agrees c f b (xs ++ k) (xs ++ l)
agrees_behind Same f b xs k l a = (a.0, a.1, ap (λ z. xs ++ z) a.2)
agrees_behind Before f b xs k l (inl a) = inl (a.0, lower_behind xs k l a.1)
agrees_behind Before f b xs k l (inr a) = inr (a.0, lower_behind xs l k a.1)
agrees_behind NotBefore f b xs k l a = tt

-- two comparisons of which the second counts where the first finds no difference
pub agrees_then : (c d f g b h : Compared) (k l m n : List ℤ) → Agrees c f b k l → (c ≡ Same → Agrees d g h m n) →
    Agrees (and_then c d) (and_then f g) (and_then b h) (k ++ m) (l ++ n)
agrees_then Same d f g b h k l m n a more =
    subst (λ z. Agrees d (and_then z g) (and_then b h) (k ++ m) (l ++ n)) (sym a.0)
    (subst (λ z. Agrees d g (and_then z h) (k ++ m) (l ++ n)) (sym a.1)
    (subst (λ z. Agrees d g h (k ++ m) (z ++ n)) a.2 (agrees_behind d g h k m n (more refl))))
agrees_then Before d f g b h k l m n (inl a) more = inl (ap (λ z. and_then z g) a.0, lower_more k l m n a.1)
agrees_then Before d f g b h k l m n (inr a) more = inr (ap (λ z. and_then z h) a.0, lower_more l k n m a.1)
agrees_then NotBefore d f g b h k l m n a more = tt

-- one comparison by two tests
one_agrees : (s p r q : Bool) (k l : List ℤ) → (s ≡ true → (r ≡ true) × (k ≡ l)) → (s ≡ false → p ≡ true → Lower k l) →
    Agrees (compared s p) (compared s p) (compared r q) k l
one_agrees true p r q k l same less = let e = same refl in (refl, ap (λ z. compared z q) e.0, e.1)
one_agrees false true r q k l same less = inl (refl, less refl refl)
one_agrees false false r q k l same less = tt

pub compared_same : (s p : Bool) → compared s p ≡ Same → s ≡ true
compared_same true p e = refl
compared_same false true e = absurd cc
compared_same false false e = absurd cc

pub then_same : (c d : Compared) → and_then c d ≡ Same → (c ≡ Same) × (d ≡ Same)
then_same Same d e = (refl, e)
then_same Before d e = absurd cc
then_same NotBefore d e = absurd cc

-- numbers from 0
below : (a b : ℕ) → nat_lt a b ≡ true → pos a <ℤ pos b
below a b e = let l : a < b = grind (arith, nat_tests) in omega (arith, ints)

pub nats_agree : (a b : ℕ) → Agrees (compare_nat a b) (compare_nat a b) (compare_nat b a) (pos a ∷ []) (pos b ∷ [])
nats_agree a b = one_agrees (nat_eq a b) (nat_lt a b) (nat_eq b a) (nat_lt b a) (pos a ∷ []) (pos b ∷ []) same
    (λ n e. inl (below a b e))
  where
    same : nat_eq a b ≡ true → (nat_eq b a ≡ true) × ((pos a ∷ []) ≡ (pos b ∷ []))
    same e = let s : a ≡ b = nat_equal a b e in (ap (λ c. nat_eq c a) (sym s) ∙ nat_itself a, ap (λ c. pos c ∷ []) s)

-- whole numbers
less : (a b : ℤ) → int_lt a b ≡ true → a <ℤ b
less a b e = grind (arith, ints)

ints_agree : (a b : ℤ) →
    Agrees (compared (int_eq a b) (int_lt a b)) (compared (int_eq a b) (int_lt a b))
    (compared (int_eq b a) (int_lt b a)) (a ∷ []) (b ∷ [])
ints_agree a b = one_agrees (int_eq a b) (int_lt a b) (int_eq b a) (int_lt b a) (a ∷ []) (b ∷ []) same
    (λ n e. inl (less a b e))
  where
    same : int_eq a b ≡ true → (int_eq b a ≡ true) × ((a ∷ []) ≡ (b ∷ []))
    same e = let s : a ≡ b = int_equal a b e in (ap (λ c. int_eq c a) (sym s) ∙ int_itself a, ap (λ c. c ∷ []) s)

-- the first few numbers
pub zero_one : pos 0 <ℤ pos 1
zero_one = omega (arith, ints)

zero_two : pos 0 <ℤ pos 2
zero_two = omega (arith, ints)

one_two : pos 1 <ℤ pos 2
one_two = omega (arith, ints)

zero_more : (n : ℕ) → pos 0 <ℤ pos (suc n)
zero_more n = omega (arith, ints)

-- flags
pub flags_agree : (a b : Bool) →
    Agrees (compare_flag a b) (compare_flag a b) (compare_flag b a) (pos (cond a 1 0) ∷ []) (pos (cond b 1 0) ∷ [])
flags_agree false true = inl (refl, inl zero_one)
flags_agree true false = tt
flags_agree false false = (refl, refl, refl)
flags_agree true true = (refl, refl, refl)

-- ends of ranges
lows_agree : (a b : MEnd) → Agrees (compare_low a b) (compare_low a b) (compare_low b a) (low_key a) (low_key b)
lows_agree Free Free = (refl, refl, refl)
lows_agree Free (At b) = inl (refl, inl zero_one)
lows_agree (At a) Free = tt
lows_agree (At a) (At b) =
    agrees_behind (compare_low (At a) (At b)) (compare_low (At a) (At b)) (compare_low (At b) (At a)) (pos 1 ∷ [])
    (a ∷ []) (b ∷ [])
    (ints_agree a b)

highs_agree : (a b : MEnd) → Agrees (compare_high a b) (compare_high a b) (compare_high b a) (high_key a) (high_key b)
highs_agree Free Free = (refl, refl, refl)
highs_agree Free (At b) = tt
highs_agree (At a) Free = inl (refl, inl zero_one)
highs_agree (At a) (At b) =
    agrees_behind (compare_high (At a) (At b)) (compare_high (At a) (At b)) (compare_high (At b) (At a)) (pos 0 ∷ [])
    (a ∷ []) (b ∷ [])
    (ints_agree a b)

high_same : (a b : MEnd) → compare_high a b ≡ Same → a ≡ b
high_same Free Free e = refl
high_same Free (At b) e = absurd cc
high_same (At a) Free e = absurd cc
high_same (At a) (At b) e = ap At (int_equal a b (compared_same (int_eq a b) (int_lt a b) e))

late_by : (t : MType) (r s : MRange) → r.high ≡ s.high → is_late t r ≡ is_late t s
late_by (IntType kind) r s e = ap (ends_below_literals kind) e
late_by t r s e = refl

-- where one may be late
late_agrees : (x y : Bool) (c b : Compared) (k l : List ℤ) → (c ≡ Same → x ≡ y) → Lower k (pos 2 ∷ l) → Lower l
    (pos 2 ∷ k) →
    Agrees c c b k l → Agrees c (compare_late x y c) (compare_late y x b) (late_key x ++ k) (late_key y ++ l)
late_agrees true true c b k l same u v a = agrees_behind c c b (pos 2 ∷ []) k l a
late_agrees false false c b k l same u v a = a
late_agrees false true Same b k l same u v a = untrue (same refl)
late_agrees false true Before b k l same u v a = inl (refl, u)
late_agrees false true NotBefore b k l same u v a = tt
late_agrees true false Same b k l same u v a = untrue (sym (same refl))
late_agrees true false Before b k l same u v a = inr (refl, v)
late_agrees true false NotBefore b k l same u v a = tt

begins_lower : (e : MEnd) (m l : List ℤ) → Lower (low_key e ++ m) (pos 2 ∷ l)
begins_lower Free m l = inl zero_two
begins_lower (At n) m l = inl one_two

pub ranges_agree : (t : MType) (r s : MRange) →
    Agrees (compare_range r s) (compare_late (is_late t r) (is_late t s) (compare_range r s))
    (compare_late (is_late t s) (is_late t r) (compare_range s r)) (range_key t r) (range_key t s)
ranges_agree t r s =
    late_agrees (is_late t r) (is_late t s) (compare_range r s) (compare_range s r) (ends r) (ends s)
    (λ e. late_by t r s (high_same r.high s.high
    (then_same (compare_low r.low s.low) (compare_high r.high s.high) e).1))
    (begins_lower r.low (high_key r.high) (ends s)) (begins_lower s.low (high_key s.high) (ends r))
    (agrees_then (compare_low r.low s.low) (compare_high r.high s.high) (compare_low r.low s.low)
    (compare_high r.high s.high)
    (compare_low s.low r.low) (compare_high s.high r.high) (low_key r.low) (low_key s.low) (high_key r.high)
    (high_key s.high)
    (lows_agree r.low s.low) (λ e. highs_agree r.high s.high))
  where
    ends : MRange → List ℤ
    ends r = low_key r.low ++ high_key r.high

-- texts
text_turned : (a b : List ℕ) → text_eq a b ≡ true → text_eq b a ≡ true
text_turned a b e = let s : a ≡ b = text_equal a b e in ap (λ c. text_eq c a) (sym s) ∙ text_itself a

texts_lower : (a b : List ℕ) → is_lt (slice_cmp nat_cmp a b) ≡ true → Lower (characters_key a) (characters_key b)
texts_lower [] [] e = untrue e
texts_lower [] (y ∷ ys) e = inl (zero_more y)
texts_lower (x ∷ xs) [] e = untrue e
texts_lower (x ∷ xs) (y ∷ ys) e = go (nat_cmp x y) (ranked x y (nat_cmp x y) refl) e (texts_lower xs ys)
  where
    go : (o : Ordering) → MatchOrdering o (x < y) (x ≡ y) (y < x) → is_lt (ordering_then o (slice_cmp nat_cmp xs ys))
        ≡ true →
        (is_lt (slice_cmp nat_cmp xs ys) ≡ true → Lower (characters_key xs) (characters_key ys)) →
        Lower (characters_key (x ∷ xs)) (characters_key (y ∷ ys))
    go Less m e more = inl (omega (arith, ints, m))
    go Equal m e more = inr (ap (λ c. pos (suc c)) m, more e)
    go Greater m e more = untrue e

pub texts_agree : (a b : List ℕ) →
    Agrees (compare_text a b) (compare_text a b) (compare_text b a) (pos 0 ∷ characters_key a)
    (pos 0 ∷ characters_key b)
texts_agree a b =
    one_agrees (text_eq a b) (is_lt (compare_texts a b)) (text_eq b a) (is_lt (compare_texts b a))
    (pos 0 ∷ characters_key a)
    (pos 0 ∷ characters_key b) (λ e. (text_turned a b e, ap (λ c. pos 0 ∷ characters_key c) (text_equal a b e)))
    (λ n e. inr (refl, texts_lower a b e))

all_turned : (ts us : List (List ℕ)) → pointwise text_eq ts us ≡ true → pointwise text_eq us ts ≡ true
all_turned [] [] e = refl
all_turned [] (u ∷ us) e = untrue e
all_turned (t ∷ ts) [] e = untrue e
all_turned (t ∷ ts) (u ∷ us) e =
    let p = both (text_eq t u) (pointwise text_eq ts us) e in
    and_true (text_eq u t) (pointwise text_eq us ts) (text_turned t u p.0) (all_turned ts us p.1)

pub others_agree : (ts us : List (List ℕ)) →
    Agrees (compared (pointwise text_eq ts us) false) (compared (pointwise text_eq ts us) false)
    (compared (pointwise text_eq us ts) false)
    (pos 1 ∷ []) (pos 1 ∷ [])
others_agree ts us =
    one_agrees (pointwise text_eq ts us) false (pointwise text_eq us ts) false (pos 1 ∷ []) (pos 1 ∷ [])
    (λ e. (all_turned ts us e, refl)) (λ n e. untrue e)

-- shapes of rows
pub shapes_agree : (f : ℕ) (longer : Bool) (b g : ℕ) (wider : Bool) (c : ℕ) →
    Agrees (compare_shape f longer b g wider c) (compare_shape f longer b g wider c)
    (compare_shape g wider c f longer b)
    (pos (f + b) ∷ []) (pos (g + c) ∷ [])
shapes_agree f longer b g wider c =
    agrees_then (compare_nat (f + b) (g + c)) (compared (nat_eq f g && beq longer wider) false)
    (compare_nat (f + b) (g + c))
    (compared (nat_eq f g && beq longer wider) false) (compare_nat (g + c) (f + b))
    (compared (nat_eq g f && beq wider longer) false)
    (pos (f + b) ∷ []) (pos (g + c) ∷ []) [] [] (nats_agree (f + b) (g + c))
    (λ e. one_agrees (nat_eq f g && beq longer wider) false (nat_eq g f && beq wider longer) false [] []
    (λ h. (turned h, refl))
    (λ n h. untrue h))
  where
    turned : (nat_eq f g && beq longer wider) ≡ true → (nat_eq g f && beq wider longer) ≡ true
    turned h =
        let p = both (nat_eq f g) (beq longer wider) h in
        let s : f ≡ g = nat_equal f g p.0 in
        let t : longer ≡ wider = flag_equal longer wider p.1 in
        and_true (nat_eq g f) (beq wider longer) (ap (λ k. nat_eq k f) (sym s) ∙ nat_itself f)
        (ap (λ k. beq k longer) (sym t) ∙ flag_itself longer)

-- rows of one shape have as many items at each end
pub shape_same : (f : ℕ) (longer : Bool) (b g : ℕ) (wider : Bool) (c : ℕ) → compare_shape f longer b g wider c ≡ Same →
    (f ≡ g) × (b ≡ c)
shape_same f longer b g wider c e =
    let p = then_same (compare_nat (f + b) (g + c)) (compared (nat_eq f g && beq longer wider) false) e in
    let whole : f + b ≡ g + c = nat_equal (f + b) (g + c)
    (compared_same (nat_eq (f + b) (g + c)) (nat_lt (f + b) (g + c)) p.0) in
    let front : f ≡ g = nat_equal f g (both (nat_eq f g) (beq longer wider)
    (compared_same (nat_eq f g && beq longer wider) false p.1)).0 in
    (front, omega (arith, whole, front))
