-- Of pieces in order a head has those between the ones that lie before and the ones behind.
use Rattle.std.proofs.Common.{◌≡◌, ◌⊎◌, inl, inr, ℕ, ◌+◌, ◌-◌, ◌<◌, ◌≤◌, Bool, true, false, not, ◌&&◌, ◌||◌, nat_eq, nat_lt, nat_le, List, [], ◌∷◌, ◌++◌, map, take, length, get_or, replicate, zero, suc, IsTrue, refl, sym, ap, subst, ◌∙◌, arith}
use Rattle.std.specs.List.{All, AllPairs}
use Rattle.std.specs.List.Sorted.{IsPartitionedBy, IsPartitionPoint}
use Rattle.std.specs.Ordering.{is_lt, ordering_reverse}
use Rattle.std.specs.declared.cmp.Ordering.{Ordering}
use Rattle.std.specs.declared.cmp.Ordering.TheVariants.{Less, Equal, Greater}
use Rattle.std.proofs.lemmas.Cmp.{nat_list_cmp_total}
use Rattle.std.proofs.lemmas.Bool.Decides.{nat_tests}
use Rattle.std.proofs.lemmas.List.Elements.{All-head, All-tail}
use Rattle.std.proofs.lemmas.List.{get_or-map, length-map, map-append}
use Rattle.std.proofs.lemmas.Grind.{common_steps}
use Rattle.match_model.specs.Texts.{text_eq, compare_texts}
use Rattle.match_model.specs.Numbers.{MEnd, Free, At, MRange}
use Rattle.match_model.specs.Constructors.{MShape, FixedShape, LongerShape, MCtor, SingleCtor, PointCtor, LaterCtor, OtherTextCtor, WildCtor, OrCtor, VariantCtor, FlagCtor, NumbersCtor, TextCtor, RowCtor, least_length, low_within, high_within, has_piece, shape_has}
use Rattle.match_model.specs.WellTyped.{is_written}
use Rattle.match_model.proofs.Basics.{untrue, both, and_true, or_left, or_right, either, text_equal}
use Rattle.slice_split.proofs.Below.{AllPairs-unmap}
use Rattle.pat_context.specs.Views.{plain_ctor}
use Rattle.pat_context.specs.declared.ctor.Ctor.{Ctor}
use Rattle.pat_context.specs.declared.ctor.Ctor.TheVariants as c
use Rattle.constructor_sets.specs.Columns.{plain_ctors}
use Rattle.constructor_sets.specs.Spans.{starts_before, shape_starts_before, is_up_to_head, Precedes, plain_span, IsSpan, AreSpans, HoldsBelow, FailsAt, IsFirst, IsEnd, AreHadByAll}
use Rattle.constructor_sets.specs.declared.piece.Span.{Span}

-- texts

less_of : (o : Ordering) → is_lt o ≡ true → o ≡ Less
less_of Less h = refl
less_of Equal h = untrue h
less_of Greater h = untrue h

pub not_before_itself : {A : Type 0} (t : List ℕ) → is_lt (compare_texts t t) ≡ true → A
not_before_itself t h = go (compare_texts t t) (less_of (compare_texts t t) h) (nat_list_cmp_total.antisymm t t)
  where
    go : {A : Type 0} (o : Ordering) → o ≡ Less → o ≡ ordering_reverse o → A
    go Less e f = absurd (cc)
    go Equal e f = absurd (cc)
    go Greater e f = absurd (cc)

text_before : (t u w : List ℕ) → is_lt (compare_texts t u) ≡ true → is_lt (compare_texts u w) ≡ true → is_lt (compare_texts t w) ≡ true
text_before t u w h k = ap is_lt (nat_list_cmp_total.trans t u w (less_of _ h) (less_of _ k))

-- ends

low_apart : (r s h : MEnd) → low_within s r ≡ false → low_within h s ≡ false → low_within h r ≡ false
low_apart r Free h e f = untrue (sym e)
low_apart r (At b) Free e f = untrue (sym f)
low_apart Free (At b) (At d) e f = refl
low_apart (At a) (At b) (At d) e f = grind arith

high_reach : (r s h : MEnd) → high_within r s ≡ false → high_within h s ≡ true → high_within h r ≡ true
high_reach Free s h e f = untrue (sym e)
high_reach (At a) s Free e f = refl
high_reach (At a) Free (At d) e f = untrue f
high_reach (At a) (At b) (At d) e f = grind arith

turned : (b : Bool) → not b ≡ true → b ≡ false
turned true h = untrue h
turned false h = refl

unturned : (b : Bool) → b ≡ false → not b ≡ true
unturned b h = ap not h

-- where a later piece begins before what the head has, so does an earlier one

variant_starts : (j k : ℕ) (h : MCtor) → j < k → starts_before (VariantCtor k) h ≡ true → starts_before (VariantCtor j) h ≡ true
variant_starts j k (VariantCtor i) l e = grind (arith, nat_tests)
variant_starts j k _ l e = untrue e

flag_starts : (b d : Bool) (h : MCtor) → (not b && d) ≡ true → starts_before (FlagCtor d) h ≡ true → starts_before (FlagCtor b) h ≡ true
flag_starts true d h l e = untrue l
flag_starts false false h l e = untrue l
flag_starts false true (FlagCtor f) l e = untrue e
flag_starts false true _ l e = untrue e

range_starts : (r s : MRange) (h : MCtor) → low_within s.low r.low ≡ false → starts_before (NumbersCtor s) h ≡ true → starts_before (NumbersCtor r) h ≡ true
range_starts r s (NumbersCtor q) l e = unturned _ (low_apart r.low s.low q.low l (turned _ e))
range_starts r s _ l e = untrue e

text_starts : (t u : List ℕ) (h : MCtor) → is_lt (compare_texts t u) ≡ true → starts_before (TextCtor u) h ≡ true → starts_before (TextCtor t) h ≡ true
text_starts t u (TextCtor w) l e = text_before t u w l e
text_starts t u _ l e = untrue e

row_starts : (s t : MShape) (h : MCtor) → least_length s < least_length t → starts_before (RowCtor t) h ≡ true → starts_before (RowCtor s) h ≡ true
row_starts s t (RowCtor q) l e = grind (arith, nat_tests)
row_starts s t _ l e = untrue e

starts_earlier : (p q h : MCtor) → Precedes p q → starts_before q h ≡ true → starts_before p h ≡ true
starts_earlier (VariantCtor j) (VariantCtor k) h l e = variant_starts j k h l e
starts_earlier (FlagCtor b) (FlagCtor d) h l e = flag_starts b d h l e
starts_earlier (NumbersCtor r) (NumbersCtor s) h l e = range_starts r s h l.0 e
starts_earlier (TextCtor t) (TextCtor u) h l e = text_starts t u h l e
starts_earlier (RowCtor s) (RowCtor t) h l e = row_starts s t h l e
starts_earlier (VariantCtor j) LaterCtor h l e = untrue e
starts_earlier (TextCtor t) OtherTextCtor h l e = untrue e
starts_earlier _ _ h l e = absurd l

-- the same of pieces up to those that the head has

variant_up : (j k : ℕ) (h : MCtor) → j < k → is_up_to_head h (VariantCtor k) ≡ true → is_up_to_head h (VariantCtor j) ≡ true
variant_up j k (VariantCtor i) l e = or_left _ _ (below (either (nat_lt k i) (nat_eq i k) e))
  where
    below : (nat_lt k i ≡ true) ⊎ (nat_eq i k ≡ true) → nat_lt j i ≡ true
    below (inl f) = grind (arith, nat_tests)
    below (inr f) = grind (arith, nat_tests)
variant_up j k WildCtor l e = refl
variant_up j k _ l e = untrue e

later_up : (j : ℕ) (h : MCtor) → is_written h ≡ true → is_up_to_head h LaterCtor ≡ true → is_up_to_head h (VariantCtor j) ≡ true
later_up j WildCtor w e = refl
later_up j LaterCtor w e = untrue w
later_up j _ w e = untrue e

flag_up : (b d : Bool) (h : MCtor) → (not b && d) ≡ true → is_up_to_head h (FlagCtor d) ≡ true → is_up_to_head h (FlagCtor b) ≡ true
flag_up true d h l e = untrue l
flag_up false false h l e = untrue l
flag_up false true (FlagCtor true) l e = refl
flag_up false true (FlagCtor false) l e = untrue e
flag_up false true WildCtor l e = refl
flag_up false true _ l e = untrue e

range_up : (r s : MRange) (h : MCtor) → low_within s.low r.low ≡ false → high_within r.high s.high ≡ false → is_up_to_head h (NumbersCtor s) ≡ true → is_up_to_head h (NumbersCtor r) ≡ true
range_up r s (NumbersCtor q) l m e = go (low_within q.low r.low) refl (either (not (low_within q.low s.low)) _ e)
  where
    go : (b : Bool) → low_within q.low r.low ≡ b → (not (low_within q.low s.low) ≡ true) ⊎ ((low_within q.low s.low && high_within q.high s.high) ≡ true) →
        (not (low_within q.low r.low) || (low_within q.low r.low && high_within q.high r.high)) ≡ true
    go false f x = or_left _ _ (unturned _ f)
    go true f (inl x) = untrue (sym (low_apart r.low s.low q.low l (turned _ x)) ∙ f)
    go true f (inr x) = or_right _ _ (and_true _ _ f (high_reach r.high s.high q.high m (both _ _ x).1))
range_up r s WildCtor l m e = refl
range_up r s _ l m e = untrue e

text_up : (t u : List ℕ) (h : MCtor) → is_lt (compare_texts t u) ≡ true → is_up_to_head h (TextCtor u) ≡ true → is_up_to_head h (TextCtor t) ≡ true
text_up t u (TextCtor w) l e = or_left _ _ (go (either (is_lt (compare_texts u w)) (text_eq w u) e))
  where
    go : (is_lt (compare_texts u w) ≡ true) ⊎ (text_eq w u ≡ true) → is_lt (compare_texts t w) ≡ true
    go (inl f) = text_before t u w l f
    go (inr f) = subst (λ x. is_lt (compare_texts t x) ≡ true) (sym (text_equal w u f)) l
text_up t u WildCtor l e = refl
text_up t u _ l e = untrue e

other_up : (t : List ℕ) (h : MCtor) → is_written h ≡ true → is_up_to_head h OtherTextCtor ≡ true → is_up_to_head h (TextCtor t) ≡ true
other_up t WildCtor w e = refl
other_up t OtherTextCtor w e = untrue w
other_up t _ w e = untrue e

row_up : (s t : MShape) (h : MCtor) → least_length s < least_length t → is_up_to_head h (RowCtor t) ≡ true → is_up_to_head h (RowCtor s) ≡ true
row_up s t (RowCtor q) l e = go s t q l (either (shape_starts_before t q) (shape_has q t) e)
  where
    shorter : (s t q : MShape) → least_length s < least_length t → shape_starts_before t q ≡ true → shape_starts_before s q ≡ true
    shorter s t q l f = grind (arith, nat_tests)

    equal : (s : MShape) (m n : ℕ) → least_length s < m → nat_eq n m ≡ true → nat_lt (least_length s) n ≡ true
    equal s m n l f = grind (arith, nat_tests)

    go : (s t q : MShape) → least_length s < least_length t → (shape_starts_before t q ≡ true) ⊎ (shape_has q t ≡ true) → (shape_starts_before s q || shape_has q s) ≡ true
    go s t q l (inl f) = or_left (shape_starts_before s q) _ (shorter s t q l f)
    go s (FixedShape m) (FixedShape n) l (inr f) = or_left (shape_starts_before s (FixedShape n)) _ (equal s m n l f)
    go s (LongerShape f b) (FixedShape n) l (inr e) = untrue e
    go (FixedShape k) (FixedShape m) (LongerShape g d) l (inr f) = grind (arith, nat_tests)
    go (LongerShape i j) (FixedShape m) (LongerShape g d) l (inr f) = grind (arith, nat_tests)
    go (FixedShape k) (LongerShape f b) (LongerShape g d) l (inr e) = grind (arith, nat_tests)
    go (LongerShape i j) (LongerShape f b) (LongerShape g d) l (inr e) = grind (arith, nat_tests)
row_up s t WildCtor l e = refl
row_up s t _ l e = untrue e

up_earlier : (p q h : MCtor) → is_written h ≡ true → Precedes p q → is_up_to_head h q ≡ true → is_up_to_head h p ≡ true
up_earlier (VariantCtor j) (VariantCtor k) h w l e = variant_up j k h l e
up_earlier (VariantCtor j) LaterCtor h w l e = later_up j h w e
up_earlier (FlagCtor b) (FlagCtor d) h w l e = flag_up b d h l e
up_earlier (NumbersCtor r) (NumbersCtor s) h w l e = range_up r s h l.0 l.1 e
up_earlier (TextCtor t) (TextCtor u) h w l e = text_up t u h l e
up_earlier (TextCtor t) OtherTextCtor h w l e = other_up t h w e
up_earlier (RowCtor s) (RowCtor t) h w l e = row_up s t h l e
up_earlier _ _ h w l e = absurd l

-- what begins before all that a head has the head does not have

variant_not : (j : ℕ) (h : MCtor) → starts_before (VariantCtor j) h ≡ true → has_piece h (VariantCtor j) ≡ false
variant_not j (VariantCtor k) e = grind (arith, nat_tests)
variant_not j _ e = untrue e

flag_not : (b : Bool) (h : MCtor) → starts_before (FlagCtor b) h ≡ true → has_piece h (FlagCtor b) ≡ false
flag_not true (FlagCtor d) e = untrue e
flag_not false (FlagCtor true) e = refl
flag_not false (FlagCtor false) e = untrue e
flag_not b _ e = untrue e

range_not : (r : MRange) (h : MCtor) → starts_before (NumbersCtor r) h ≡ true → has_piece h (NumbersCtor r) ≡ false
range_not r (NumbersCtor q) e = ap (λ b. b && high_within q.high r.high) (turned _ e)
range_not r _ e = untrue e

text_not : (t : List ℕ) (h : MCtor) → starts_before (TextCtor t) h ≡ true → has_piece h (TextCtor t) ≡ false
text_not t (TextCtor u) e = go (text_eq u t) refl
  where
    go : (b : Bool) → text_eq u t ≡ b → b ≡ false
    go false f = refl
    go true f = not_before_itself t (subst (λ x. is_lt (compare_texts t x) ≡ true) (text_equal u t f) e)
text_not t _ e = untrue e

row_not : (s : MShape) (h : MCtor) → starts_before (RowCtor s) h ≡ true → has_piece h (RowCtor s) ≡ false
row_not s (RowCtor q) e = go s q e
  where
    go : (s q : MShape) → shape_starts_before s q ≡ true → shape_has q s ≡ false
    go (FixedShape m) (FixedShape n) e = grind (arith, nat_tests)
    go (FixedShape m) (LongerShape g d) e = grind (arith, nat_tests)
    go (LongerShape f b) (FixedShape n) e = refl
    go (LongerShape f b) (LongerShape g d) e = grind (arith, nat_tests)
row_not s _ e = untrue e

not_had : (p h : MCtor) → starts_before p h ≡ true → has_piece h p ≡ false
not_had (VariantCtor j) h e = variant_not j h e
not_had (FlagCtor b) h e = flag_not b h e
not_had (NumbersCtor r) h e = range_not r h e
not_had (TextCtor t) h e = text_not t h e
not_had (RowCtor s) h e = row_not s h e
not_had SingleCtor h e = untrue e
not_had PointCtor h e = untrue e
not_had LaterCtor h e = untrue e
not_had OtherTextCtor h e = untrue e
not_had WildCtor h e = untrue e
not_had OrCtor h e = untrue e

-- what a search among the pieces asks and finds

partitioned : (p : MCtor → Bool) → ((x y : MCtor) → Precedes x y → p y ≡ true → p x ≡ true) → (pieces : List Ctor) → AllPairs Precedes (plain_ctors pieces) →
    IsPartitionedBy (λ x. p (plain_ctor x)) pieces
partitioned p f pieces rising = λ i j d l m e. go i j d (at_most i j l) m e
  where
    at_most : (i j : ℕ) → i ≤ j → (i < j) ⊎ (i ≡ j)
    at_most i j l = grind arith

    go : (i j : ℕ) (d : Ctor) → (i < j) ⊎ (i ≡ j) → j < length pieces → p (plain_ctor (get_or pieces j d)) ≡ true → p (plain_ctor (get_or pieces i d)) ≡ true
    go i j d (inl l) m e = f _ _ (AllPairs-unmap Precedes plain_ctor pieces rising i j d l m) e
    go i j d (inr l) m e = subst (λ k. p (plain_ctor (get_or pieces k d)) ≡ true) (sym l) e

pub starts_parted : (h : MCtor) (pieces : List Ctor) → AllPairs Precedes (plain_ctors pieces) → IsPartitionedBy (λ x. starts_before (plain_ctor x) h) pieces
starts_parted h pieces rising = partitioned (λ p. starts_before p h) (λ x y l e. starts_earlier x y h l e) pieces rising

pub up_parted : (h : MCtor) (pieces : List Ctor) → is_written h ≡ true → AllPairs Precedes (plain_ctors pieces) → IsPartitionedBy (λ x. is_up_to_head h (plain_ctor x)) pieces
up_parted h pieces w rising = partitioned (is_up_to_head h) (λ x y l e. up_earlier x y h w l e) pieces rising

-- where a test holds just below a place and not at it, it holds of all below and of none from there on
beside : (p : Ctor → Bool) (pieces : List Ctor) (count : ℕ) → IsPartitionedBy p pieces → count ≤ length pieces → HoldsBelow p pieces count → FailsAt p pieces count →
    IsPartitionPoint (λ x. p x ≡ true) (λ x. p x ≡ false) pieces count
beside p pieces count parted l below at = (λ i d z m. parted i (count - 1) d (omega arith) (omega arith) (below (omega arith) d), λ i d m n. go i d m n (p (get_or pieces i d)) refl)
  where
    go : (i : ℕ) (d : Ctor) → count ≤ i → i < length pieces → (b : Bool) → p (get_or pieces i d) ≡ b → p (get_or pieces i d) ≡ false
    go i d m n false e = e
    go i d m n true e = untrue (sym (at (omega arith) d) ∙ parted count i d m n e)

pub first_beside : (h : MCtor) (pieces : List Ctor) (count : ℕ) → AllPairs Precedes (plain_ctors pieces) → count ≤ length pieces →
    HoldsBelow (λ x. starts_before (plain_ctor x) h) pieces count → FailsAt (λ x. starts_before (plain_ctor x) h) pieces count → IsFirst h pieces count
first_beside h pieces count rising l below at = record { bound = l; point = beside (λ x. starts_before (plain_ctor x) h) pieces count (starts_parted h pieces rising) l below at }

pub end_beside : (h : MCtor) (pieces : List Ctor) (count : ℕ) → is_written h ≡ true → AllPairs Precedes (plain_ctors pieces) → count ≤ length pieces →
    HoldsBelow (λ x. is_up_to_head h (plain_ctor x)) pieces count → FailsAt (λ x. is_up_to_head h (plain_ctor x)) pieces count → IsEnd h pieces count
end_beside h pieces count w rising l below at = record { bound = l; point = beside (λ x. is_up_to_head h (plain_ctor x)) pieces count (up_parted h pieces w rising) l below at }

had : (b : Bool) (p h : MCtor) → starts_before p h ≡ false → is_up_to_head h p ≡ b → has_piece h p ≡ b
had b p h e f = ap (λ x. x || has_piece h p) (sym e) ∙ f

spanned : (h : MCtor) (pieces : List Ctor) (first end : ℕ) → first ≤ length pieces → end ≤ length pieces →
    IsPartitionPoint (λ (x : Ctor). starts_before (plain_ctor x) h ≡ true) (λ x. starts_before (plain_ctor x) h ≡ false) pieces first →
    IsPartitionPoint (λ (x : Ctor). is_up_to_head h (plain_ctor x) ≡ true) (λ x. is_up_to_head h (plain_ctor x) ≡ false) pieces end →
    IsSpan (plain_ctors pieces) h (first, end)
spanned h pieces first end fl el s u = record {
  forward = forward (below end first);
  within = omega (arith, length-map pieces plain_ctor);
  each = λ i d l.
      let m : i < length pieces = omega (arith, length-map pieces plain_ctor) in
      subst (λ p. has_piece h p ≡ (nat_le first i && nat_lt i end)) (sym (get_or-map plain_ctor pieces i c.Single d m)) (at i m (below i first) (below i end));
}
  where
    below : (i n : ℕ) → (i < n) ⊎ (n ≤ i)
    below i n = grind arith

    forward : (end < first) ⊎ (first ≤ end) → first ≤ end
    forward (inr l) = l
    forward (inl l) = untrue (sym (u.1 end c.Single (omega arith) (omega arith)) ∙ or_left _ _ (s.0 end c.Single (omega arith) l))

    at : (i : ℕ) → i < length pieces → (i < first) ⊎ (first ≤ i) → (i < end) ⊎ (end ≤ i) → has_piece h (plain_ctor (get_or pieces i c.Single)) ≡ (nat_le first i && nat_lt i end)
    at i m (inl l) k =
        let e : nat_le first i ≡ false = grind (arith, nat_tests) in
        not_had (plain_ctor (get_or pieces i c.Single)) h (s.0 i c.Single (omega arith) l) ∙ ap (λ b. b && nat_lt i end) (sym e)
    at i m (inr l) (inl k) =
        let e : nat_le first i ≡ true = grind (arith, nat_tests) in
        let f : nat_lt i end ≡ true = grind (arith, nat_tests) in
        had true (plain_ctor (get_or pieces i c.Single)) h (s.1 i c.Single l m) (u.0 i c.Single (omega arith) k) ∙ sym (ap (λ b. b && nat_lt i end) e ∙ f)
    at i m (inr l) (inr k) =
        let e : nat_le first i ≡ true = grind (arith, nat_tests) in
        let f : nat_lt i end ≡ false = grind (arith, nat_tests) in
        had false (plain_ctor (get_or pieces i c.Single)) h (s.1 i c.Single l m) (u.1 i c.Single k m) ∙ sym (ap (λ b. b && nat_lt i end) e ∙ f)

pub spanned_by : (h : MCtor) (pieces : List Ctor) (first end : ℕ) → IsFirst h pieces first → IsEnd h pieces end → IsSpan (plain_ctors pieces) h (first, end)
spanned_by h pieces first end f e = spanned h pieces first end f.bound e.bound f.point e.point

-- head by head

pushed : (pieces heads : List MCtor) (spans : List (ℕ × ℕ)) (h : MCtor) (s : ℕ × ℕ) → AreSpans pieces heads spans → IsSpan pieces h s → AreSpans pieces (heads ++ h ∷ []) (spans ++ s ∷ [])
pushed pieces [] [] h s a b = (b, tt)
pushed pieces [] (y ∷ ys) h s a b = absurd a
pushed pieces (x ∷ xs) [] h s a b = absurd a
pushed pieces (x ∷ xs) (y ∷ ys) h s (a, rest) b = (a, pushed pieces xs ys h s rest b)

pub more_spans : (pieces : List MCtor) (heads : List Ctor) (i : ℕ) (x : Ctor) (old new : List Span) (s : Span) → i < length heads → x ≡ get_or heads i x → new ≡ old ++ s ∷ [] →
    AreSpans pieces (plain_ctors (take i heads)) (map plain_span old) → IsSpan pieces (plain_ctor x) (plain_span s) → AreSpans pieces (plain_ctors (take (i + 1) heads)) (map plain_span new)
more_spans pieces heads i x old new s l e n a b =
    let grown : take (i + 1) heads ≡ take i heads ++ x ∷ [] = grind (arith, common_steps) in
    subst (λ hs. AreSpans pieces hs (map plain_span new)) (sym (ap plain_ctors grown ∙ map-append plain_ctor (take i heads) (x ∷ [])))
    (subst (AreSpans pieces (plain_ctors (take i heads) ++ plain_ctor x ∷ [])) (sym (ap (map plain_span) n ∙ map-append plain_span old (s ∷ [])))
    (pushed pieces (plain_ctors (take i heads)) (map plain_span old) (plain_ctor x) (plain_span s) a b))

-- where each head has each piece

whole_span : (pieces : List MCtor) (h : MCtor) → All (λ p. IsTrue (has_piece h p)) pieces → IsSpan pieces h (0, length pieces)
whole_span pieces h all = record {
  forward = omega arith;
  within = omega arith;
  each = λ i d l. all i d l ∙ sym (told i (length pieces) l);
}
  where
    told : (i n : ℕ) → i < n → (nat_le 0 i && nat_lt i n) ≡ true
    told i n l = grind (arith, nat_tests)

pub whole_spans : (pieces heads : List MCtor) → AreHadByAll pieces heads → AreSpans pieces heads (replicate (length heads) (0, length pieces))
whole_spans pieces [] all = tt
whole_spans pieces (h ∷ hs) all = (
  whole_span pieces h (λ k d l. All-head (λ x. IsTrue (has_piece x (get_or pieces k d))) h hs (all k d l)),
  whole_spans pieces hs (λ k d l. All-tail (λ x. IsTrue (has_piece x (get_or pieces k d))) h hs (all k d l)),
)

map-replicate : (n : ℕ) (s : Span) → map plain_span (replicate n s) ≡ replicate n (plain_span s)
map-replicate zero s = refl
map-replicate (suc n) s = ap (λ xs. plain_span s ∷ xs) (map-replicate n s)

pub repeated_spans : (pieces heads : List Ctor) (s : Span) (spans : List Span) → AreHadByAll (plain_ctors pieces) (plain_ctors heads) → plain_span s ≡ (0, length pieces) → spans ≡ replicate (length heads) s →
    AreSpans (plain_ctors pieces) (plain_ctors heads) (map plain_span spans)
repeated_spans pieces heads s spans all e f =
    subst (AreSpans (plain_ctors pieces) (plain_ctors heads))
    (sym
    (ap (map plain_span) f ∙ map-replicate (length heads) s ∙ ap (replicate (length heads)) e ∙ ap (λ n. replicate n (0, length pieces)) (sym (length-map heads plain_ctor))
    ∙ ap (λ n. replicate (length (plain_ctors heads)) (0, n)) (sym (length-map pieces plain_ctor))))
    (whole_spans (plain_ctors pieces) (plain_ctors heads) all)
