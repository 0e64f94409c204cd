-- A column has one list of pieces.
use Rattle.std.proofs.Common.{◌≡◌, ◌↔◌, ◌⊎◌, inl, inr, ℕ, ℤ, pos, ◌+ℤ◌, ◌-ℤ◌, Bool, true, false, ◌||◌, List, [], ◌∷◌, ◌++◌, map, Option, Some, None, int_le, int_lt, int_eq, filter_map, refl, sym, ap, subst, ◌∙◌, arith}
use Rattle.std.specs.List.{list_any, AllByRecursion}
use Rattle.std.specs.List.Sorted.{IsStrictlySortedBy}
use Rattle.std.specs.declared.cmp.Ordering.{Ordering}
use Rattle.std.specs.declared.cmp.Ordering.TheVariants.{Less, Equal, Greater}
use Rattle.std.specs.Ordering.{ordering_reverse}
use Rattle.std.proofs.lemmas.Cmp.{nat_list_cmp_total}
use Rattle.match_model.specs.Numbers.{MEnd, Free, At, MRange, in_range, is_from, is_up_to, is_at}
use Rattle.match_model.specs.Texts.{text_eq, compare_texts}
use Rattle.match_model.specs.Constructors.{MCtor, OtherTextCtor, NumbersCtor, TextCtor, MSet, SingleSet, PointSet, TextSet, FlagSet, OpaqueSet, NothingSet, VariantSet, NumberSet, RowSet}
use Rattle.match_model.specs.Pieces.{Follow, last_one, one_more, IsCut, IsCutToo, AreNamed, ArePieces, range_of, text_of}
use Rattle.match_model.proofs.Basics.{both, and_true, or_left, or_right, either, untrue, int_itself, text_equal, text_itself}

next_back : (m : ℤ) → (m +ℤ pos 1) -ℤ pos 1 ≡ m
next_back m = grind arith

le_next : (a b : ℤ) → int_le a b ≡ true → int_le a (b +ℤ pos 1) ≡ true
le_next a b h = grind arith

next_le : (a b : ℤ) → int_le (a +ℤ pos 1) b ≡ true → int_le a b ≡ true
next_le a b h = grind arith

le_trans : (a b c : ℤ) → int_le a b ≡ true → int_le b c ≡ true → int_le a c ≡ true
le_trans a b c h k = grind arith

next_no : (a m : ℤ) → int_le a m ≡ true → int_eq (m +ℤ pos 1) a ≡ true → ⊥
next_no a m h k = grind arith

eq_le : (a n : ℤ) → int_eq n a ≡ true → int_le a n ≡ true
eq_le a n h = grind arith

eq_ge : (a n : ℤ) → int_eq n a ≡ true → int_le n a ≡ true
eq_ge a n h = grind arith

le_pred : (a n : ℤ) → int_le a (n -ℤ pos 1) ≡ true → int_le a n ≡ true
le_pred a n h = grind arith

next_above : (m : ℤ) → int_le (m +ℤ pos 1) m ≡ true → ⊥
next_above m h = grind arith

compare : (a b : ℤ) → (a ≡ b) ⊎ ((int_lt a b ≡ true) ⊎ (int_lt b a ≡ true))
compare a b = go (int_le a b) (int_le b a) refl refl
  where
    go : (p q : Bool) → int_le a b ≡ p → int_le b a ≡ q → (a ≡ b) ⊎ ((int_lt a b ≡ true) ⊎ (int_lt b a ≡ true))
    go true true e f = inl (grind arith)
    go false q e f = inr (inr (grind arith))
    go true false e f = inr (inl (grind arith))

lt_no : (a b : ℤ) → int_lt a b ≡ true → int_le (b +ℤ pos 1) (a +ℤ pos 1) ≡ true → ⊥
lt_no a b h k = grind arith

-- a range of the list begins at the number
abbrev begins : ℤ → List MRange → Bool
begins n pieces = list_any (λ p. is_at n p.low) pieces

up_to_next : (high : MEnd) (m : ℤ) → is_up_to high (m +ℤ pos 1) ≡ true → is_up_to high m ≡ true
up_to_next Free m h = refl
up_to_next (At b) m h = next_le m b h

up_to_by : (high : MEnd) (a n : ℤ) → int_le a n ≡ true → is_up_to high n ≡ true → is_up_to high a ≡ true
up_to_by Free a n k h = refl
up_to_by (At b) a n k h = le_trans a n b k h

from_next : (low : MEnd) (m : ℤ) → is_from low m ≡ true → is_from low (m +ℤ pos 1) ≡ true
from_next Free m h = refl
from_next (At a) m h = le_next a m h

-- what follows a number begins there, and reaches up
first_begins : (a : ℤ) (high : MEnd) (pieces : List MRange) → Follow (At a) high pieces → begins a pieces ≡ true
first_begins a high _ (last_one _ _ n h) = or_left _ _ (int_itself a)
first_begins a high _ (one_more _ _ n rest h f) = or_left _ _ (int_itself a)

reaches : (a : ℤ) (high : MEnd) (pieces : List MRange) → Follow (At a) high pieces → is_up_to high a ≡ true
reaches a high _ (last_one _ _ n h) = let b = both (int_le a n) (is_up_to high n) h in up_to_by high a n b.0 b.1
reaches a high _ (one_more _ _ m rest h f) =
    up_to_by high a (m +ℤ pos 1) (le_next a m (both (int_le a m) _ h).0) (reaches (m +ℤ pos 1) high rest f)

-- nothing begins before
begins_after : (a : ℤ) (high : MEnd) (pieces : List MRange) (n : ℤ) → Follow (At a) high pieces → begins n pieces ≡ true → int_le a n ≡ true
begins_after a high _ n (last_one _ _ k h) b =
    elim (either (int_eq n a) false b) [ inl e ↦ eq_le a n e | inr e ↦ untrue e ]
begins_after a high _ n (one_more _ _ m rest h f) b =
    elim (either (int_eq n a) (begins n rest) b) [
      | inl e ↦ eq_le a n e
      | inr e ↦ le_trans a m n (both (int_le a m) _ h).0 (next_le m n (begins_after (m +ℤ pos 1) high rest n f e))
    ]

-- the first piece does not begin right behind a number that it has
not_low : {A : Type 0} (low : MEnd) (m : ℤ) → is_from low m ≡ true → is_at (m +ℤ pos 1) low ≡ true → A
not_low Free m h e = untrue e
not_low (At a) m h e = absurd (next_no a m h e)

abbrev whole : MEnd → MEnd → MRange
whole low high = record { low = low; high = high }

-- both lists begin at the same numbers, the first number aside
abbrev Same : MEnd → MEnd → List MRange → List MRange → Type 0
Same low high ps qs =
    (n : ℤ) → in_range (whole low high) (n -ℤ pos 1) ≡ true → in_range (whole low high) n ≡ true → (begins n ps ≡ true) ↔ (begins n qs ≡ true)

-- where the first of a list ends, the number behind begins a piece of the other list too
behind : (low high : MEnd) (m : ℤ) (rest qs : List MRange) → in_range (whole low (At m)) m ≡ true → Follow (At (m +ℤ pos 1)) high rest →
    Same low high (whole low (At m) ∷ rest) qs → begins (m +ℤ pos 1) qs ≡ true
behind low high m rest qs h f same =
    let from : is_from low m ≡ true = (both (is_from low m) _ h).0 in
    let up : is_up_to high (m +ℤ pos 1) ≡ true = reaches (m +ℤ pos 1) high rest f in
    let back : in_range (whole low high) ((m +ℤ pos 1) -ℤ pos 1) ≡ true =
    ap (in_range (whole low high)) (next_back m) ∙ and_true _ _ from (up_to_next high m up) in
    (same (m +ℤ pos 1) back (and_true _ _ (from_next low m from) up)).0 (or_right _ _ (first_begins (m +ℤ pos 1) high rest f))

swap : (low high : MEnd) (ps qs : List MRange) → Same low high ps qs → Same low high qs ps
swap low high ps qs same n b h = let s = same n b h in (s.1, s.0)

-- a list of one piece has no other beside it
alone : {A : Type 0} (low high : MEnd) (m : ℤ) (rest : List MRange) → in_range (whole low (At m)) m ≡ true → Follow (At (m +ℤ pos 1)) high rest →
    Same low high (whole low (At m) ∷ rest) (whole low high ∷ []) → A
alone low high m rest h f same =
    elim (either (is_at (m +ℤ pos 1) low) false (behind low high m rest (whole low high ∷ []) h f same)) [
      | inl e ↦ not_low low m (both (is_from low m) _ h).0 e
      | inr e ↦ untrue e
    ]

-- the first of both lists ends at the same number
not_before : {A : Type 0} (low high : MEnd) (m k : ℤ) (rest others : List MRange) → in_range (whole low (At m)) m ≡ true → Follow (At (m +ℤ pos 1)) high rest →
    Follow (At (k +ℤ pos 1)) high others → Same low high (whole low (At m) ∷ rest) (whole low (At k) ∷ others) → int_lt m k ≡ true → A
not_before low high m k rest others h f g same lt =
    elim (either (is_at (m +ℤ pos 1) low) (begins (m +ℤ pos 1) others) (behind low high m rest (whole low (At k) ∷ others) h f same)) [
      | inl e ↦ not_low low m (both (is_from low m) _ h).0 e
      | inr e ↦ absurd (lt_no m k lt (begins_after (k +ℤ pos 1) high others (m +ℤ pos 1) g e))
    ]

-- behind the first pieces both lists are the same again
rest_same : (low high : MEnd) (m : ℤ) (rest others : List MRange) → in_range (whole low (At m)) m ≡ true →
    Same low high (whole low (At m) ∷ rest) (whole low (At m) ∷ others) → Same (At (m +ℤ pos 1)) high rest others
rest_same low high m rest others h same n b i =
    let from : is_from low m ≡ true = (both (is_from low m) _ h).0 in
    let back = both (int_le (m +ℤ pos 1) (n -ℤ pos 1)) (is_up_to high (n -ℤ pos 1)) b in
    let here = both (int_le (m +ℤ pos 1) n) (is_up_to high n) i in
    let s = same n (and_true _ _ (from_up low m (n -ℤ pos 1) from (next_le m _ back.0)) back.1) (and_true _ _ (from_up low m n from (next_le m n here.0)) here.1) in
    ((λ x. behind_first low m n others from back.0 (s.0 (or_right _ _ x))), (λ x. behind_first low m n rest from back.0 (s.1 (or_right _ _ x))))
  where
    from_up : (low : MEnd) (m n : ℤ) → is_from low m ≡ true → int_le m n ≡ true → is_from low n ≡ true
    from_up Free m n h k = refl
    from_up (At a) m n h k = le_trans a m n h k

    far : (a m n : ℤ) → int_le a m ≡ true → int_le (m +ℤ pos 1) (n -ℤ pos 1) ≡ true → int_eq n a ≡ true → ⊥
    far a m n h k e = next_above m (le_trans (m +ℤ pos 1) n m (le_pred _ n k) (le_trans n a m (eq_ge a n e) h))

    behind_first : (low : MEnd) (m n : ℤ) (others : List MRange) → is_from low m ≡ true → int_le (m +ℤ pos 1) (n -ℤ pos 1) ≡ true →
        (is_at n low || begins n others) ≡ true → begins n others ≡ true
    behind_first Free m n others h k x = x
    behind_first (At a) m n others h k x =
        elim (either (int_eq n a) (begins n others) x) [ inl e ↦ absurd (far a m n h k e) | inr e ↦ e ]

one_follow : (low high : MEnd) (ps qs : List MRange) → Follow low high ps → Follow low high qs → Same low high ps qs → ps ≡ qs
one_follow _ _ _ _ (last_one low high n h) (last_one _ _ k i) same = refl
one_follow _ _ _ _ (last_one low high n h) (one_more _ _ k others i g) same =
    alone low high k others i g (swap low high (whole low high ∷ []) (whole low (At k) ∷ others) same)
one_follow _ _ _ _ (one_more low high m rest h f) (last_one _ _ k i) same = alone low high m rest h f same
one_follow _ _ _ _ (one_more low high m rest h f) (one_more _ _ k others i g) same =
    go (compare m k) (one_follow (At (m +ℤ pos 1)) high rest others f)
  where
    go : (m ≡ k) ⊎ ((int_lt m k ≡ true) ⊎ (int_lt k m ≡ true)) → (Follow (At (m +ℤ pos 1)) high others → Same (At (m +ℤ pos 1)) high rest others → rest ≡ others) →
        whole low (At m) ∷ rest ≡ whole low (At k) ∷ others
    go (inl e) ih =
        subst (λ x. whole low (At m) ∷ rest ≡ whole low (At x) ∷ others) e
        (ap (λ l. whole low (At m) ∷ l)
        (ih (subst (λ x. Follow (At (x +ℤ pos 1)) high others) (sym e) g)
        (rest_same low high m rest others h (subst (λ x. Same low high (whole low (At m) ∷ rest) (whole low (At x) ∷ others)) (sym e) same))))
    go (inr (inl e)) ih = not_before low high m k rest others h f g same e
    go (inr (inr e)) ih = not_before low high k m others rest i g f (swap low high (whole low (At m) ∷ rest) (whole low (At k) ∷ others) same) e

pub one_cut : (r : MRange) (heads ps qs : List MRange) → IsCut r heads ps → IsCut r heads qs → ps ≡ qs
one_cut r heads ps qs a b =
    one_follow r.low r.high ps qs a.together b.together
    (λ n x y. let s = a.cut n x y in let t = b.cut n x y in ((λ z. t.1 (s.0 z)), (λ z. s.1 (t.0 z))))

-- strictly ascending texts are told by which they are
abbrev has : List ℕ → List (List ℕ) → Bool
has t ts = list_any (text_eq t) ts

greater_from : (t u : List ℕ) → compare_texts t u ≡ Less → compare_texts u t ≡ Greater
greater_from t u h = nat_list_cmp_total.antisymm u t ∙ ap ordering_reverse h

not_both : (t u : List ℕ) → compare_texts t u ≡ Less → compare_texts u t ≡ Less → ⊥
not_both t u h k = apart (compare_texts u t) k (greater_from t u h)
  where
    apart : (o : Ordering) → o ≡ Less → o ≡ Greater → ⊥
    apart Less e f = cc
    apart Equal e f = cc
    apart Greater e f = cc

less_than : (t u : List ℕ) (ts : List (List ℕ)) → AllByRecursion (λ x. compare_texts t x ≡ Less) ts → has u ts ≡ true → compare_texts t u ≡ Less
less_than t u [] all h = untrue h
less_than t u (x ∷ ts) (l, all) h =
    elim (either (text_eq u x) (has u ts) h) [
      | inl e ↦ ap (compare_texts t) (text_equal u x e) ∙ l
      | inr e ↦ less_than t u ts all e
    ]

not_in : (t : List ℕ) (ts : List (List ℕ)) → AllByRecursion (λ x. compare_texts t x ≡ Less) ts → has t ts ≡ false
not_in t ts all = go (has t ts) refl
  where
    go : (b : Bool) → has t ts ≡ b → b ≡ false
    go true e = absurd (not_both t t (less_than t t ts all e) (less_than t t ts all e))
    go false e = refl

tails_same : (t : List ℕ) (ts us : List (List ℕ)) → AllByRecursion (λ x. compare_texts t x ≡ Less) ts → AllByRecursion (λ x. compare_texts t x ≡ Less) us →
    ((x : List ℕ) → has x (t ∷ ts) ≡ has x (t ∷ us)) → (x : List ℕ) → has x ts ≡ has x us
tails_same t ts us a b same x = go (text_eq x t) refl (same x)
  where
    go : (c : Bool) → text_eq x t ≡ c → (c || has x ts) ≡ (c || has x us) → has x ts ≡ has x us
    go true e h = ap (λ y. has y ts) (text_equal x t e) ∙ not_in t ts a ∙ sym (not_in t us b) ∙ sym (ap (λ y. has y us) (text_equal x t e))
    go false e h = h

one_texts : (ts us : List (List ℕ)) → IsStrictlySortedBy compare_texts ts → IsStrictlySortedBy compare_texts us →
    ((x : List ℕ) → has x ts ≡ has x us) → ts ≡ us
unfolding IsStrictlySortedBy
one_texts [] [] a b same = refl
one_texts [] (u ∷ us) a b same = untrue (same u ∙ or_left _ (has u us) (text_itself u))
one_texts (t ∷ ts) [] a b same = untrue (sym (same t) ∙ or_left _ (has t ts) (text_itself t))
one_texts (t ∷ ts) (u ∷ us) (l, a) (m, b) same =
    go (either (text_eq t u) (has t us) (sym (same t) ∙ or_left _ (has t ts) (text_itself t)))
    (either (text_eq u t) (has u ts) (same u ∙ or_left _ (has u us) (text_itself u))) (one_texts ts us a b)
  where
    equal : t ≡ u → (((x : List ℕ) → has x ts ≡ has x us) → ts ≡ us) → t ∷ ts ≡ u ∷ us
    equal e ih =
        subst (λ y. t ∷ ts ≡ y ∷ us) e (ap (λ r. t ∷ r) (ih (tails_same t ts us l
        (subst (λ y. AllByRecursion (λ x. compare_texts y x ≡ Less) us) (sym e) m)
        (subst (λ y. (x : List ℕ) → has x (t ∷ ts) ≡ has x (y ∷ us)) (sym e) same))))

    go : (text_eq t u ≡ true) ⊎ (has t us ≡ true) → (text_eq u t ≡ true) ⊎ (has u ts ≡ true) → (((x : List ℕ) → has x ts ≡ has x us) → ts ≡ us) → t ∷ ts ≡ u ∷ us
    go (inl e) q ih = equal (text_equal t u e) ih
    go (inr e) (inl f) ih = equal (sym (text_equal u t f)) ih
    go (inr e) (inr f) ih = absurd (not_both t u (less_than t u ts l f) (less_than u t us m e))

pub one_named : (heads ts us : List (List ℕ)) → AreNamed heads ts → AreNamed heads us → ts ≡ us
one_named heads ts us a b = one_texts ts us a.ascending b.ascending (λ x. a.each x ∙ sym (b.each x))

one_second : (second : Option MRange) (heads ps qs : List MRange) → IsCutToo second heads ps → IsCutToo second heads qs → ps ≡ qs
one_second None heads ps qs a b = a ∙ sym b
one_second (Some r) heads ps qs a b = one_cut r heads ps qs a b

pub one_pieces : (set : MSet) (heads ps qs : List MCtor) → ArePieces set heads ps → ArePieces set heads qs → ps ≡ qs
one_pieces SingleSet heads ps qs a b = a ∙ sym b
one_pieces PointSet heads ps qs a b = a ∙ sym b
one_pieces FlagSet heads ps qs a b = a ∙ sym b
one_pieces OpaqueSet heads ps qs a b = a ∙ sym b
one_pieces NothingSet heads ps qs a b = a ∙ sym b
one_pieces (VariantSet count later) heads ps qs a b = a ∙ sym b
one_pieces (RowSet None) heads ps qs a b = a ∙ sym b
one_pieces (RowSet (Some n)) heads ps qs a b = a ∙ sym b
one_pieces (NumberSet first second) heads ps qs (xs, ys, c, d, e) (zs, ws, f, g, h) =
    e ∙ ap (λ l. map NumbersCtor (l ++ ys)) (one_cut first (filter_map range_of heads) xs zs c f)
    ∙ ap (λ l. map NumbersCtor (zs ++ l)) (one_second second (filter_map range_of heads) ys ws d g) ∙ sym h
one_pieces TextSet heads ps qs (ts, c, e) (us, d, f) =
    e ∙ ap (λ l. map TextCtor l ++ OtherTextCtor ∷ []) (one_named (filter_map text_of heads) ts us c d) ∙ sym f
