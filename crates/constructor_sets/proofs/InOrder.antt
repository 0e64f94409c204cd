-- The pieces of a column stand in the order of constructors.
use Rattle.std.proofs.Common.{◌≡◌, ◌<◌, ℕ, zero, suc, ◌+◌, ◌-◌, max, ℤ, pos, ◌+ℤ◌, Bool, true, false, ◌&&◌, List, [], ◌∷◌, ◌++◌, map, int_le, int_lt, int_eq, Option, Some, None, refl, sym, ap, subst, ◌∙◌, arith}
use Rattle.std.specs.List.{AllByRecursion, filter_map}
use Rattle.std.specs.List.Sorted.{IsStrictlySortedBy}
use Rattle.std.specs.Ordering.{is_lt}
use Rattle.std.specs.declared.cmp.Ordering.{Ordering}
use Rattle.std.specs.declared.cmp.Ordering.TheVariants.{Less, Equal}
use Rattle.std.proofs.lemmas.Cmp.{nat_list_cmp_total, tied_itself}
use Rattle.std.proofs.lemmas.Int.{ints}
use Rattle.std.proofs.lemmas.List.{map-append}
use Rattle.match_model.specs.Texts.{text_eq, compare_texts}
use Rattle.match_model.specs.Numbers.{MEnd, Free, At, MRange, in_range, is_from, is_up_to}
use Rattle.match_model.specs.Constructors.{FixedShape, LongerShape, MCtor, SingleCtor, PointCtor, LaterCtor, OtherTextCtor, VariantCtor, FlagCtor, NumbersCtor, TextCtor, RowCtor, least_length, MSet, SingleSet, PointSet, FlagSet, TextSet, OpaqueSet, NothingSet, VariantSet, NumberSet, RowSet}
use Rattle.match_model.specs.WitnessOrder.{Before, compared, compare_low, compare_text}
use Rattle.match_model.specs.ContextLaws.{RangesAscend}
use Rattle.match_model.specs.Made.{ends_ascend, IsMadeRange, IsMadeSecond, IsMadeSet}
use Rattle.match_model.specs.Pieces.{Follow, last_one, one_more, IsCutToo, ArePieces, each_below, variant_pieces, slice_pieces, lengths_end, fixed_end, longest_front, longest_back}
use Rattle.match_model.proofs.Basics.{both, text_equal}
use Rattle.range_split.proofs.Following.{Follow-ascends}
use Rattle.range_split.proofs.Sides.{from_later}
use Rattle.constructor_sets.specs.InOrder.{IsEarlier, IsBeforeEach, AreInOrder}
use Rattle.pat_context.proofs.RangeEnds.{low_in}
use Rattle.constructor_sets.proofs.Rooms.{bounded_below}

-- lists

-- each of these stands before the constructor
abbrev EachBefore : List MCtor → MCtor → Type 0
EachBefore [] d = Unit {0}
EachBefore (c ∷ cs) d = IsEarlier c d × EachBefore cs d

-- each of the first stands before each of the second
abbrev AllBefore : List MCtor → List MCtor → Type 0
AllBefore [] ds = Unit {0}
AllBefore (c ∷ cs) ds = IsBeforeEach c ds × AllBefore cs ds

before-append : (c : MCtor) (xs ys : List MCtor) → IsBeforeEach c xs → IsBeforeEach c ys → IsBeforeEach c (xs ++ ys)
before-append c [] ys h k = k
before-append c (x ∷ xs) ys h k = (h.0, before-append c xs ys h.1 k)

order-append : (xs ys : List MCtor) → AreInOrder xs → AreInOrder ys → AllBefore xs ys → AreInOrder (xs ++ ys)
order-append [] ys h k a = k
order-append (x ∷ xs) ys h k a = (before-append x xs ys h.0 a.0, order-append xs ys h.1 k a.1)

all-alone : (xs : List MCtor) (d : MCtor) → EachBefore xs d → AllBefore xs (d ∷ [])
all-alone [] d h = tt
all-alone (x ∷ xs) d h = ((h.0, tt), all-alone xs d h.1)

order-push : (xs : List MCtor) (d : MCtor) → AreInOrder xs → EachBefore xs d → AreInOrder (xs ++ d ∷ [])
order-push xs d h k = order-append xs (d ∷ []) h (tt, tt) (all-alone xs d k)

each-push : (xs : List MCtor) (x d : MCtor) → EachBefore xs d → IsEarlier x d → EachBefore (xs ++ x ∷ []) d
each-push [] x d h k = (k, tt)
each-push (y ∷ xs) x d h k = (h.0, each-push xs x d h.1 k)

each-below : (f : ℕ → MCtor) (n : ℕ) (d : MCtor) → ((j : ℕ) → j < n → IsEarlier (f j) d) → EachBefore (each_below f n) d
each-below f zero d h = tt
each-below f (suc n) d h =
    each-push (each_below f n) (f n) d (each-below f n d (λ j l. h j (omega arith))) (h n (omega arith))

order-below : (f : ℕ → MCtor) (n : ℕ) → ((j k : ℕ) → j < k → IsEarlier (f j) (f k)) → AreInOrder (each_below f n)
order-below f zero h = tt
order-below f (suc n) h = order-push (each_below f n) (f n) (order-below f n h) (each-below f n (f n) (λ j l. h j n l))

-- numbers

-- the range begins at this number or above it
abbrev StartsFrom : ℤ → MRange → Type 0
StartsFrom k p = (m : ℤ) × (p.low ≡ At m) × (int_le k m ≡ true)

abbrev EachFrom : ℤ → List MRange → Type 0
EachFrom k [] = Unit {0}
EachFrom k (p ∷ ps) = StartsFrom k p × EachFrom k ps

from_less : (j k : ℤ) (ps : List MRange) → int_le j k ≡ true → EachFrom k ps → EachFrom j ps
from_less j k [] l h = tt
from_less j k (p ∷ ps) l ((m, e, g), h) = ((m, e, less j k m l g), from_less j k ps l h)
  where
    less : (j k m : ℤ) → int_le j k ≡ true → int_le k m ≡ true → int_le j m ≡ true
    less j k m p q = grind (arith, ints)

itself : (k : ℤ) → int_le k k ≡ true
itself k = grind (arith, ints)

-- what follows a number begins there or above
follow_from : {low high : MEnd} {ps : List MRange} → Follow low high ps → (k : ℤ) → low ≡ At k → EachFrom k ps
follow_from (last_one low high n h) k e = ((k, e, itself k), tt)
follow_from (one_more low high n rest h f) k e =
    ((k, e, itself k), from_less k (n +ℤ pos 1) rest (next k n (subst (λ x. is_from x n ≡ true) e (both (is_from low n) (is_up_to (At n) n) h).0)) (follow_from f (n +ℤ pos 1) refl))
  where
    next : (k n : ℤ) → int_le k n ≡ true → int_le k (n +ℤ pos 1) ≡ true
    next k n l = grind (arith, ints)

-- an end below a number
abbrev IsUnder : MEnd → ℤ → Type 0
IsUnder Free l = Unit {0}
IsUnder (At a) l = int_lt a l ≡ true

before_at : (a m : ℤ) → int_lt a m ≡ true → compared (int_eq a m) (int_lt a m) ≡ Before
before_at a m h = ap (λ b. compared b (int_lt a m)) (differ a m h) ∙ ap (compared false) h
  where
    differ : (a m : ℤ) → int_lt a m ≡ true → int_eq a m ≡ false
    differ a m h = grind (arith, ints)

under_before : (e : MEnd) (l m : ℤ) → IsUnder e l → int_le l m ≡ true → compare_low e (At m) ≡ Before
under_before Free l m u h = refl
under_before (At a) l m u h = before_at a m (less a l m u h)
  where
    less : (a l m : ℤ) → int_lt a l ≡ true → int_le l m ≡ true → int_lt a m ≡ true
    less a l m p q = grind (arith, ints)

ranges_before : (p : MRange) (l : ℤ) (qs : List MRange) → IsUnder p.low l → EachFrom l qs →
    IsBeforeEach (NumbersCtor p) (map NumbersCtor qs)
ranges_before p l [] u h = tt
ranges_before p l (q ∷ qs) u ((m, e, g), h) =
    (ap (compare_low p.low) e ∙ under_before p.low l m u g, ranges_before p l qs u h)

-- the low end is below what follows a number of the range
under_next : (low : MEnd) (n : ℤ) → is_from low n ≡ true → IsUnder low (n +ℤ pos 1)
under_next Free n h = tt
under_next (At a) n h = less a n h
  where
    less : (a n : ℤ) → int_le a n ≡ true → int_lt a (n +ℤ pos 1) ≡ true
    less a n h = grind (arith, ints)

follow_order : {low high : MEnd} {ps : List MRange} → Follow low high ps → AreInOrder (map NumbersCtor ps)
follow_order (last_one low high n h) = (tt, tt)
follow_order (one_more low high n rest h f) =
    (ranges_before (record { low = low; high = At n }) (n +ℤ pos 1) rest (under_next low n (both (is_from low n) (is_up_to (At n) n) h).0) (follow_from f (n +ℤ pos 1) refl), follow_order f)

-- all of the range is below the number
abbrev EachUnder : ℤ → List MRange → Type 0
EachUnder l [] = Unit {0}
EachUnder l (p ∷ ps) = IsUnder p.low l × EachUnder l ps

low_under : (low high : MEnd) (l : ℤ) → ends_ascend low high ≡ true →
    ((x : ℤ) → in_range (record { low = low; high = high }) x ≡ true → int_lt x l ≡ true) → IsUnder low l
low_under Free high l up b = tt
low_under (At a) high l up b = b a (low_in (record { low = At a; high = high }) a refl up)

follow_under : {low high : MEnd} {ps : List MRange} → Follow low high ps → (l : ℤ) →
    ((x : ℤ) → in_range (record { low = low; high = high }) x ≡ true → int_lt x l ≡ true) → EachUnder l ps
follow_under (last_one low high n h) l b = (low_under low high l (Follow-ascends (last_one low high n h)) b, tt)
follow_under (one_more low high n rest h f) l b =
    (low_under low high l (Follow-ascends (one_more low high n rest h f)) b, follow_under f l (λ x k. b x (wider x k)))
  where
    wider : (x : ℤ) → in_range (record { low = At (n +ℤ pos 1); high = high }) x ≡ true →
        in_range (record { low = low; high = high }) x ≡ true
    wider x k =
        let s = both (int_le (n +ℤ pos 1) x) (is_up_to high x) k in
        ap (λ y. y && is_up_to high x) (from_later low x n (both (is_from low n) (is_up_to (At n) n) h).0 s.0) ∙ s.1

ranges_all : (l : ℤ) (ps qs : List MRange) → EachUnder l ps → EachFrom l qs →
    AllBefore (map NumbersCtor ps) (map NumbersCtor qs)
ranges_all l [] qs u h = tt
ranges_all l (p ∷ ps) qs u h = (ranges_before p l qs u.0 h, ranges_all l ps qs u.1 h)

numbers_order : (first : MRange) (second : Option MRange) (heads ps qs : List MRange) → IsMadeRange first →
    IsMadeSecond second → RangesAscend (NumberSet first second) →
    Follow first.low first.high ps → IsCutToo second heads qs → AreInOrder (map NumbersCtor ps ++ map NumbersCtor qs)
numbers_order first None heads ps qs m k asc f e =
    subst (λ (x : List MRange). AreInOrder (map NumbersCtor ps ++ map NumbersCtor x)) (sym e) (subst AreInOrder (sym (append_none (map NumbersCtor ps))) (follow_order f))
  where
    append_none : (xs : List MCtor) → xs ++ [] ≡ xs
    append_none [] = refl
    append_none (x ∷ xs) = ap (λ ys. x ∷ ys) (append_none xs)
numbers_order first (Some s) heads ps qs m k asc f c = go s.low refl
  where
    free_not : true ≡ false → ⊥
    free_not e = cc

    go : (e : MEnd) → s.low ≡ e → AreInOrder (map NumbersCtor ps ++ map NumbersCtor qs)
    go Free e =
        absurd (free_not (sym (ap Rattle.match_model.specs.Constructors.is_free e) ∙ bounded_below first s m.up asc))
    go (At l) e =
        order-append (map NumbersCtor ps) (map NumbersCtor qs) (follow_order f) (follow_order c.together)
        (ranges_all l ps qs (follow_under f l (λ x h. asc x l h (low_in s l e k.up))) (follow_from c.together l e))

-- texts

text_before : (t u : List ℕ) → compare_texts t u ≡ Less → compare_text t u ≡ Before
text_before t u h = go (text_eq t u) refl
  where
    apart : Equal ≡ Less → ⊥
    apart e = cc

    go : (b : Bool) → text_eq t u ≡ b → compare_text t u ≡ Before
    go true e = absurd (apart (sym (tied_itself nat_list_cmp_total t) ∙ ap (compare_texts t) (text_equal t u e) ∙ h))
    go false e = ap (λ b. compared b (is_lt (compare_texts t u))) e ∙ ap (λ (o : Ordering). compared false (is_lt o)) h

text_before_each : (t : List ℕ) (us : List (List ℕ)) → AllByRecursion (λ u. compare_texts t u ≡ Less) us →
    IsBeforeEach (TextCtor t) (map TextCtor us)
text_before_each t [] h = tt
text_before_each t (u ∷ us) h = (text_before t u h.0, text_before_each t us h.1)

texts_order : (ts : List (List ℕ)) → IsStrictlySortedBy compare_texts ts → AreInOrder (map TextCtor ts)
unfolding IsStrictlySortedBy
texts_order [] h = tt
texts_order (t ∷ ts) h = (text_before_each t ts h.0, texts_order ts h.1)

texts_others : (ts : List (List ℕ)) → EachBefore (map TextCtor ts) OtherTextCtor
texts_others [] = tt
texts_others (t ∷ ts) = (tt, texts_others ts)

-- all sets

variants_order : (count : ℕ) (later : Bool) → AreInOrder (variant_pieces count later)
variants_order count true =
    order-push (each_below VariantCtor count) LaterCtor (order-below VariantCtor count (λ j k l. l)) (each-below VariantCtor count LaterCtor (λ j l. tt))
variants_order count false = order-below VariantCtor count (λ j k l. l)

slices_order : (heads : List MCtor) → AreInOrder (slice_pieces heads)
slices_order heads =
    order-push (each_below (λ n. RowCtor (FixedShape n)) (lengths_end heads)) (RowCtor (LongerShape (lengths_end heads - longest_back heads) (longest_back heads)))
    (order-below (λ n. RowCtor (FixedShape n)) (lengths_end heads) (λ j k l. l))
    (each-below (λ n. RowCtor (FixedShape n)) (lengths_end heads) (RowCtor (LongerShape (lengths_end heads - longest_back heads) (longest_back heads))) (λ j l. least (fixed_end heads) (longest_front heads) (longest_back heads) j l))
  where
    least : (e f b j : ℕ) → j < max e (f + b) → j < (max e (f + b) - b) + b
    least e f b j l = omega arith

pub in_order_of : (set : MSet) (heads pieces : List MCtor) → IsMadeSet set → RangesAscend set →
    ArePieces set heads pieces → AreInOrder pieces
in_order_of SingleSet heads pieces m asc a = subst AreInOrder (sym a) (tt, tt)
in_order_of PointSet heads pieces m asc a = subst AreInOrder (sym a) (tt, tt)
in_order_of FlagSet heads pieces m asc a = subst AreInOrder (sym a) ((tt, tt), (tt, tt))
in_order_of (VariantSet count later) heads pieces m asc a = subst AreInOrder (sym a) (variants_order count later)
in_order_of (NumberSet first second) heads pieces m asc (ps, qs, c, d, e) =
    subst AreInOrder (sym e) (subst AreInOrder (sym (map-append NumbersCtor ps qs)) (numbers_order first second (filter_map Rattle.match_model.specs.Pieces.range_of heads) ps qs m.0 m.1 asc c.together d))
in_order_of TextSet heads pieces m asc (ts, c, e) =
    subst AreInOrder (sym e) (order-push (map TextCtor ts) OtherTextCtor (texts_order ts c.ascending) (texts_others ts))
in_order_of (RowSet None) heads pieces m asc a = subst AreInOrder (sym a) (slices_order heads)
in_order_of (RowSet (Some n)) heads pieces m asc a = subst AreInOrder (sym a) (tt, tt)
in_order_of OpaqueSet heads pieces m asc a = subst AreInOrder (sym a) tt
in_order_of NothingSet heads pieces m asc a = subst AreInOrder (sym a) tt
