-- Ranges of `usize` and `isize` that are written wider than they are: in the order of arms none takes what a later
-- one shows.
use Rattle.std.proofs.Common.{◌≡◌, ℤ, pos, negsuc, ◌-◌, ◌^◌, Bool, true, false, cond, refl, arith}
use Rattle.std.specs.Prelude.{int_le, int_lt}
use Rattle.std.specs.Ordering.{int_eq}
use Rattle.std.proofs.lemmas.Int.{ints}
use Rattle.match_model.specs.declared.IntKind.{IntKind}
use Rattle.match_model.specs.declared.IntKind.TheVariants as kinds
use Rattle.match_model.specs.Types.{IntType}
use Rattle.match_model.specs.Numbers.{MEnd, Free, At, MRange, in_range}
use Rattle.match_model.specs.WitnessOrder.{Compared, Before, and_then, compared, compare_high, compare_range}
use Rattle.witness_text.specs.Ranges.{begins_above_literals, ends_below_literals}
use Rattle.arm_maker.specs.Order.{is_late, compare_late}
use Rattle.arm_laws.specs.Takes.{range_taken}

-- a range by its ends
abbrev pub span : (low high : MEnd) → MRange
span low high = record { low = low; high = high }

-- two ranges have no number in common
abbrev pub AreApart : MRange → MRange → Type 0
AreApart r s = (z : ℤ) → in_range r z ≡ true → in_range s z ≡ true → ⊥

-- a range that is open above, from a number on or from a lower one, and one that is later
above : (top n : ℤ) (low high : MEnd) (x : ℤ) → int_lt top n ≡ true → AreApart (span (At n) Free) (span low high) →
    compare_range (span (At n) Free) (span low high) ≡ Before → in_range (span low high) x ≡ true → ⊥
above top n Free high x l h c e = absurd cc
above top n (At m) high x l h c e = h x (go (int_eq n m) (int_lt n m) refl refl c) e
  where
    go : (a b : Bool) → int_eq n m ≡ a → int_lt n m ≡ b → and_then (compared a b) (compare_high Free high) ≡ Before →
        in_range (span (At n) Free) x ≡ true
    go true b p q d = absurd (same high d)
      where
        same : (high : MEnd) → compare_high Free high ≡ Before → ⊥
        same Free d = absurd cc
        same (At k) d = absurd cc
    go false true p q d = within high e q
      where
        within : (high : MEnd) → in_range (span (At m) high) x ≡ true → int_lt n m ≡ true → in_range
            (span (At n) Free) x ≡ true
        within Free e q = grind (arith, ints)
        within (At k) e q = grind (arith, ints)
    go false false p q d = absurd cc

-- a range up to a low number, and one that begins at a high one
far : (c top : ℤ) (low : MEnd) (x : ℤ) → int_lt c top ≡ true → in_range (span low (At c)) x ≡ true →
    in_range (span (At top) Free) x ≡ true → ⊥
far c top Free x l e f = grind (arith, ints)
far c top (At a) x l e f = grind (arith, ints)

-- two ranges that are free below have a number in common
low_meet : (b c : ℤ) → AreApart (span Free (At b)) (span Free (At c)) → ⊥
low_meet b c h = h (cond (int_le b c) b c) (left b c) (right b c)
  where
    left : (b c : ℤ) → in_range (span Free (At b)) (cond (int_le b c) b c) ≡ true
    left b c = grind (arith, ints)

    right : (b c : ℤ) → in_range (span Free (At c)) (cond (int_le b c) b c) ≡ true
    right b c = grind (arith, ints)

no_end : (n : ℤ) → At n ≡ Free → ⊥
no_end n e = absurd cc

-- the greatest literals, and the least one of `isize`
abbrev top : ℤ
top = pos (2 ^ 64 - 1)

abbrev half : ℤ
half = pos (2 ^ 63 - 1)

abbrev least : ℤ
least = negsuc (2 ^ 63 - 1)

-- a range of `usize`
unsigned : (low high low' high' : MEnd) (x : ℤ) → AreApart (span low high) (span low' high') →
    (begins_above_literals kinds.USize low ≡ true → high ≡ Free) →
    compare_range (span low high) (span low' high') ≡ Before →
    in_range (range_taken kinds.USize (span low high)) x ≡ true → in_range (span low' high') x ≡ true → ⊥
unsigned Free high low' high' x h o c e f = h x e f
unsigned (At n) high low' high' x h o c e f = go (int_lt top n) refl e
  where
    open_above : (high : MEnd) → high ≡ Free → AreApart (span (At n) high) (span low' high') →
        compare_range (span (At n) high) (span low' high') ≡ Before → int_lt top n ≡ true → ⊥
    open_above Free p h c q = above top n low' high' x q h c f
    open_above (At b) p h c q = no_end b p

    go : (b : Bool) → int_lt top n ≡ b → in_range (cond b (span (At top) Free) (span (At n) high)) x ≡ true → ⊥
    go true q d = open_above high (o q) h c q
    go false q d = h x d f

-- a range of `isize` that is free below
signed_below : (high low' high' : MEnd) (x : ℤ) → AreApart (span Free high) (span low' high') →
    (ends_below_literals kinds.ISize high' ≡ true → low' ≡ Free) →
    compare_late (is_late (IntType kinds.ISize) (span Free high)) (is_late (IntType kinds.ISize) (span low' high'))
    (compare_range (span Free high) (span low' high')) ≡ Before →
    in_range (range_taken kinds.ISize (span Free high)) x ≡ true → in_range (span low' high') x ≡ true → ⊥
signed_below Free low' high' x h p c e f = h x e f
signed_below (At b) low' high' x h p c e f = go (int_lt b least) refl c e
  where
    both_late : (high' low' : MEnd) → AreApart (span Free (At b)) (span low' high') →
        (ends_below_literals kinds.ISize high' ≡ true → low' ≡ Free) → (rest : Compared) →
        compare_late true (is_late (IntType kinds.ISize) (span low' high')) rest ≡ Before → ⊥
    both_late Free low' h p rest c = absurd cc
    both_late (At k) low' h p rest c = late (int_lt k least) refl c
      where
        low_one : (low' : MEnd) → AreApart (span Free (At b)) (span low' (At k)) → low' ≡ Free → ⊥
        low_one Free h q = low_meet b k h
        low_one (At a) h q = no_end a q

        late : (t : Bool) → int_lt k least ≡ t → compare_late true t rest ≡ Before → ⊥
        late true q d = low_one low' h (p q)
        late false q d = absurd cc

    go : (t : Bool) → int_lt b least ≡ t →
        compare_late t (is_late (IntType kinds.ISize) (span low' high'))
        (compare_range (span Free (At b)) (span low' high')) ≡ Before →
        in_range (cond t (span Free (At least)) (span Free (At b))) x ≡ true → ⊥
    go true q d g = both_late high' low' h p (compare_range (span Free (At b)) (span low' high')) d
    go false q d g = h x g f

-- a range of `isize` that begins at a number
signed_from : (n : ℤ) (high low' high' : MEnd) (x : ℤ) → AreApart (span (At n) high) (span low' high') →
    (begins_above_literals kinds.ISize (At n) ≡ true → high ≡ Free) →
    (ends_below_literals kinds.ISize high ≡ true → At n ≡ Free) →
    compare_late (is_late (IntType kinds.ISize) (span (At n) high)) (is_late (IntType kinds.ISize) (span low' high'))
    (compare_range (span (At n) high) (span low' high')) ≡ Before →
    in_range (range_taken kinds.ISize (span (At n) high)) x ≡ true → in_range (span low' high') x ≡ true → ⊥
signed_from n Free low' high' x h o p c e f = go (int_lt half n) refl e
  where
    later : (high' : MEnd) → AreApart (span (At n) Free) (span low' high') →
        compare_late false (is_late (IntType kinds.ISize) (span low' high'))
        (compare_range (span (At n) Free) (span low' high')) ≡ Before →
        in_range (span low' high') x ≡ true → int_lt half n ≡ true → in_range (span (At half) Free) x ≡ true → ⊥
    later Free h c f q d = above half n low' Free x q h c f
    later (At k) h c f q d = late (int_lt k least) refl c
      where
        late : (t : Bool) → int_lt k least ≡ t →
            compare_late false t (compare_range (span (At n) Free) (span low' (At k))) ≡ Before → ⊥
        late true r d' = far k half low' x (grind (arith, ints)) f d
        late false r d' = above half n low' (At k) x q h d' f

    go : (t : Bool) → int_lt half n ≡ t → in_range (cond t (span (At half) Free) (span (At n) Free)) x ≡ true → ⊥
    go true q d = later high' h c f q d
    go false q d = h x d f
signed_from n (At b) low' high' x h o p c e f = go (int_lt half n) refl e
  where
    kept : (u : Bool) → int_lt b least ≡ u → in_range (cond u (span Free (At least)) (span (At n) (At b))) x ≡ true → ⊥
    kept true q d = no_end n (p q)
    kept false q d = h x d f

    go : (t : Bool) → int_lt half n ≡ t →
        in_range (cond t (span (At half) Free) (cond (int_lt b least) (span Free (At least)) (span (At n) (At b)))) x
        ≡ true → ⊥
    go true q d = no_end b (o q)
    go false q d = kept (int_lt b least) refl d

-- of two ranges of an integer type that have no number in common, the first of which stands before the other among
-- arms, the first does not take what the other shows; a range beyond the literals is open
pub written_apart : (kind : IntKind) (low high low' high' : MEnd) (x : ℤ) → AreApart (span low high) (span low' high')
    →
    (begins_above_literals kind low ≡ true → high ≡ Free) → (ends_below_literals kind high ≡ true → low ≡ Free) →
    (ends_below_literals kind high' ≡ true → low' ≡ Free) →
    compare_late (is_late (IntType kind) (span low high)) (is_late (IntType kind) (span low' high'))
    (compare_range (span low high) (span low' high')) ≡ Before →
    in_range (range_taken kind (span low high)) x ≡ true → in_range (span low' high') x ≡ true → ⊥
written_apart kinds.USize low high low' high' x h o p q c e f = unsigned low high low' high' x h o c e f
written_apart kinds.ISize Free high low' high' x h o p q c e f = signed_below high low' high' x h q c e f
written_apart kinds.ISize (At n) high low' high' x h o p q c e f = signed_from n high low' high' x h o p c e f
written_apart kinds.U8 low high low' high' x h o p q c e f = h x e f
written_apart kinds.U16 low high low' high' x h o p q c e f = h x e f
written_apart kinds.U32 low high low' high' x h o p q c e f = h x e f
written_apart kinds.U64 low high low' high' x h o p q c e f = h x e f
written_apart kinds.U128 low high low' high' x h o p q c e f = h x e f
written_apart kinds.I8 low high low' high' x h o p q c e f = h x e f
written_apart kinds.I16 low high low' high' x h o p q c e f = h x e f
written_apart kinds.I32 low high low' high' x h o p q c e f = h x e f
written_apart kinds.I64 low high low' high' x h o p q c e f = h x e f
written_apart kinds.I128 low high low' high' x h o p q c e f = h x e f
