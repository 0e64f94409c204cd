-- The pieces of a set stand in the order of constructors.
use Rattle.std.proofs.Common.{◌≡◌, ℕ, zero, suc, ◌+◌, ◌-◌, ◌≤◌, ℤ, Bool, true, false, List, [], ◌∷◌, ◌++◌, map, filter_map, get_or, int_le, int_lt, Option, Some, None, refl, sym, ap, subst, arith, IsTrue}
use Rattle.std.specs.List.{All, AllPairs, AllByRecursion}
use Rattle.std.specs.List.Sorted.{IsStrictlySortedBy}
use Rattle.std.specs.Ordering.{is_lt}
use Rattle.std.specs.declared.cmp.Ordering.TheVariants.{Less}
use Rattle.std.proofs.lemmas.List.Kept.{AllPairs-cons}
use Rattle.std.proofs.lemmas.List.Quantifiers.{all_pairs_push}
use Rattle.std.proofs.lemmas.List.Elements.{All-append, All-cons, All-nil, All-head, All-tail, All-map}
use Rattle.std.proofs.lemmas.List.{map-append}
use Rattle.match_model.specs.Texts.{compare_texts}
use Rattle.match_model.specs.Numbers.{MEnd, Free, At, MRange, in_range, is_from, is_up_to}
use Rattle.match_model.specs.Constructors.{FixedShape, LongerShape, MCtor, SingleCtor, PointCtor, LaterCtor, OtherTextCtor, VariantCtor, FlagCtor, NumbersCtor, TextCtor, RowCtor, MSet, SingleSet, PointSet, FlagSet, TextSet, OpaqueSet, NothingSet, VariantSet, NumberSet, RowSet, low_within, high_within}
use Rattle.match_model.specs.ContextLaws.{RangesAscend}
use Rattle.match_model.specs.Pieces.{ArePieces, range_of, IsCutToo, Follow, each_below, variant_pieces, array_piece, lengths_end, longest_back}
use Rattle.match_model.proofs.Basics.{both, and_true}
use Rattle.range_split.specs.Ranges.{IsBelow}
use Rattle.range_split.proofs.Splits.{Follow-number}
use Rattle.range_split.proofs.Sides.{Follow-pairs, Follow-within}
use Rattle.slice_split.proofs.Below.{AllPairs-each_below, All-each_below}
use Rattle.constructor_sets.specs.declared.piece.PieceState.{PieceState}
use Rattle.constructor_sets.specs.declared.piece.PieceState.TheVariants.{Present, Missing, Empty}
use Rattle.constructor_sets.specs.Spans.{Precedes}
use Rattle.constructor_sets.specs.Present.{present_piece}

-- lists in order

alone : (p : MCtor) → AllPairs Precedes (p ∷ [])
alone p = AllPairs-cons Precedes p [] (All-nil (Precedes p)) (λ i j d l m. absurd (omega arith))

first_before : {X : Type 0} (R : X → X → Type 0) (x : X) (xs : List X) → AllPairs R (x ∷ xs) → All (R x) xs
first_before R x xs h = λ k d l. h zero (suc k) d (omega arith) (omega arith)

rest_pairs : {X : Type 0} (R : X → X → Type 0) (x : X) (xs : List X) → AllPairs R (x ∷ xs) → AllPairs R xs
rest_pairs R x xs h = λ i j d l m. h (suc i) (suc j) d (omega arith) (omega arith)

joined : {X : Type 0} (R : X → X → Type 0) (xs ys : List X) → AllPairs R xs → AllPairs R ys → All (λ x. All (R x) ys) xs → AllPairs R (xs ++ ys)
joined R [] ys a b c = b
joined R (x ∷ xs) ys a b c =
    AllPairs-cons R x (xs ++ ys) (All-append (R x) xs ys (first_before R x xs a) (All-head (λ x. All (R x) ys) x xs c))
    (joined R xs ys (rest_pairs R x xs a) b (All-tail (λ x. All (R x) ys) x xs c))

-- numbers

up_down : (high : MEnd) (m k : ℤ) → int_lt m k ≡ true → is_up_to high k ≡ true → is_up_to high m ≡ true
up_down Free m k l h = refl
up_down (At b) m k l h = grind arith

from_on : (low : MEnd) (m k : ℤ) → int_lt m k ≡ true → is_from low m ≡ true → is_from low k ≡ true
from_on Free m k l h = refl
from_on (At a) m k l h = grind arith

not_itself : {A : Type 0} (m : ℤ) → int_lt m m ≡ true → A
not_itself m h = absurd (no m h)
  where
    no : (m : ℤ) → int_lt m m ≡ true → ⊥
    no m h = grind arith

low_before : (low other : MEnd) (m : ℤ) → is_from low m ≡ true → (is_from other m ≡ true → ⊥) → low_within other low ≡ false
low_before low Free m h none = absurd (none refl)
low_before Free (At b) m h none = refl
low_before (At a) (At b) m h none = go (int_le b a) refl
  where
    through : int_le b a ≡ true → int_le b m ≡ true
    through e = grind arith

    go : (x : Bool) → int_le b a ≡ x → x ≡ false
    go false e = refl
    go true e = absurd (none (through e))

high_before : (high other : MEnd) (k : ℤ) → is_up_to other k ≡ true → (is_up_to high k ≡ true → ⊥) → high_within high other ≡ false
high_before Free other k h none = absurd (none refl)
high_before (At a) Free k h none = refl
high_before (At a) (At b) k h none = go (int_le b a) refl
  where
    through : int_le b a ≡ true → int_le k a ≡ true
    through e = grind arith

    go : (x : Bool) → int_le b a ≡ x → x ≡ false
    go false e = refl
    go true e = absurd (none (through e))

abbrev HasNumber : MRange → Type 0
HasNumber r = (n : ℤ) × IsTrue (in_range r n)

range_precedes : (p q : MRange) → IsBelow p q → HasNumber p → HasNumber q → Precedes (NumbersCtor p) (NumbersCtor q)
range_precedes p q below (m, in_p) (k, in_q) =
    let less = below m k in_p in_q in
    let mp = both (is_from p.low m) (is_up_to p.high m) in_p in
    let kq = both (is_from q.low k) (is_up_to q.high k) in_q in (
      low_before p.low q.low m mp.0 (λ f. not_itself m (below m m in_p (and_true _ _ f (up_down q.high m k less kq.1)))),
      high_before p.high q.high k kq.1 (λ f. not_itself k (below k k (and_true _ _ (from_on p.low m k less mp.0) f) in_q)),
    )

range_before : (p : MRange) (rs : List MRange) → All (IsBelow p) rs → HasNumber p → All HasNumber rs → All (Precedes (NumbersCtor p)) (map NumbersCtor rs)
range_before p rs below has all = All-map (Precedes (NumbersCtor p)) NumbersCtor rs (λ k d l. range_precedes p (get_or rs k d) (below k d l) has (all k d l))

ranges_rise : (rs : List MRange) → AllPairs IsBelow rs → All HasNumber rs → AllPairs Precedes (map NumbersCtor rs)
ranges_rise [] below all = λ i j d l m. absurd (omega arith)
ranges_rise (r ∷ rs) below all =
    AllPairs-cons Precedes (NumbersCtor r) (map NumbersCtor rs)
    (range_before r rs (first_before IsBelow r rs below) (All-head HasNumber r rs all) (All-tail HasNumber r rs all))
    (ranges_rise rs (rest_pairs IsBelow r rs below) (All-tail HasNumber r rs all))

follow_rise : (r : MRange) (rs : List MRange) → Follow r.low r.high rs → AllPairs Precedes (map NumbersCtor rs)
follow_rise r rs f = ranges_rise rs (Follow-pairs f) (Follow-number f)

numbers_rise : (first : MRange) (second : Option MRange) (heads ps qs : List MRange) → RangesAscend (NumberSet first second) → Follow first.low first.high ps → IsCutToo second heads qs →
    AllPairs Precedes (map NumbersCtor (ps ++ qs))
numbers_rise first None heads ps qs asc f e =
    subst (λ rs. AllPairs Precedes (map NumbersCtor (ps ++ rs))) (sym e)
    (subst (AllPairs Precedes) (sym (map-append NumbersCtor ps [])) (joined Precedes (map NumbersCtor ps) [] (follow_rise first ps f) (λ i j d l m. absurd (omega arith)) (λ k d l. All-nil _)))
numbers_rise first (Some second) heads ps qs asc f cut =
    let g = cut.together in
    subst (AllPairs Precedes) (sym (map-append NumbersCtor ps qs))
    (joined Precedes (map NumbersCtor ps) (map NumbersCtor qs) (follow_rise first ps f) (follow_rise second qs g)
    (All-map (λ x. All (Precedes x) (map NumbersCtor qs)) NumbersCtor ps
    (λ k d l. range_before (get_or ps k d) qs (λ j e m n o a b. asc n o (Follow-within f k d l n a) (Follow-within g j e m o b)) (Follow-number f k d l) (Follow-number g))))

-- texts

texts_before : (t : List ℕ) (ts : List (List ℕ)) → AllByRecursion (λ u. compare_texts t u ≡ Less) ts → All (Precedes (TextCtor t)) (map TextCtor ts ++ OtherTextCtor ∷ [])
texts_before t [] h = All-cons (Precedes (TextCtor t)) OtherTextCtor [] tt (All-nil (Precedes (TextCtor t)))
texts_before t (u ∷ us) (l, h) = All-cons (Precedes (TextCtor t)) (TextCtor u) (map TextCtor us ++ OtherTextCtor ∷ []) (ap is_lt l) (texts_before t us h)

texts_rise : (ts : List (List ℕ)) → IsStrictlySortedBy compare_texts ts → AllPairs Precedes (map TextCtor ts ++ OtherTextCtor ∷ [])
unfolding IsStrictlySortedBy
texts_rise [] h = alone OtherTextCtor
texts_rise (t ∷ ts) (l, h) = AllPairs-cons Precedes (TextCtor t) (map TextCtor ts ++ OtherTextCtor ∷ []) (texts_before t ts l) (texts_rise ts h)

-- variants and rows

variants_rise : (count : ℕ) (later : Bool) → AllPairs Precedes (variant_pieces count later)
variants_rise count false = AllPairs-each_below Precedes VariantCtor count (λ j k l. l)
variants_rise count true =
    all_pairs_push Precedes (each_below VariantCtor count) LaterCtor (AllPairs-each_below Precedes VariantCtor count (λ j k l. l))
    (λ k d l. All-each_below (λ p. Precedes p LaterCtor) VariantCtor count (λ j m. tt) k d l)

rows_rise : (n front back : ℕ) → n ≤ front + back → AllPairs Precedes (each_below (λ k. RowCtor (FixedShape k)) n ++ RowCtor (LongerShape front back) ∷ [])
rows_rise n front back e =
    let fixed : ℕ → MCtor = λ k. RowCtor (FixedShape k) in
    all_pairs_push Precedes (each_below fixed n) (RowCtor (LongerShape front back)) (AllPairs-each_below Precedes fixed n (λ j k l. l))
    (λ k d l. All-each_below (λ p. Precedes p (RowCtor (LongerShape front back))) fixed n (λ j m. omega arith) k d l)

pub rising_of : (set : MSet) (heads pieces : List MCtor) → RangesAscend set → ArePieces set heads pieces → AllPairs Precedes pieces
rising_of SingleSet heads pieces asc a = subst (AllPairs Precedes) (sym a) (alone SingleCtor)
rising_of PointSet heads pieces asc a = subst (AllPairs Precedes) (sym a) (alone PointCtor)
rising_of FlagSet heads pieces asc a =
    subst (AllPairs Precedes) (sym a)
    (AllPairs-cons Precedes (FlagCtor false) (FlagCtor true ∷ []) (All-cons (Precedes (FlagCtor false)) (FlagCtor true) [] refl (All-nil (Precedes (FlagCtor false)))) (alone (FlagCtor true)))
rising_of (VariantSet count later) heads pieces asc a = subst (AllPairs Precedes) (sym a) (variants_rise count later)
rising_of (NumberSet first second) heads pieces asc (ps, qs, c, d, e) =
    subst (AllPairs Precedes) (sym e) (numbers_rise first second (filter_map range_of heads) ps qs asc c.together d)
rising_of TextSet heads pieces asc (ts, n, e) = subst (AllPairs Precedes) (sym e) (texts_rise ts n.ascending)
rising_of (RowSet None) heads pieces asc a =
    subst (AllPairs Precedes) (sym a) (rows_rise (lengths_end heads) (lengths_end heads - longest_back heads) (longest_back heads) (omega arith))
rising_of (RowSet (Some n)) heads pieces asc a = subst (AllPairs Precedes) (sym a) (alone (array_piece n heads))
rising_of OpaqueSet heads pieces asc a = subst (AllPairs Precedes) (sym a) (λ i j d l m. absurd (omega arith))
rising_of NothingSet heads pieces asc a = subst (AllPairs Precedes) (sym a) (λ i j d l m. absurd (omega arith))

-- the pieces that are present are in order too

-- what holds of each piece holds of those that are present
pub kept_each : (P : MCtor → Type 0) (ps : List (MCtor × PieceState)) → All P (map (λ p. p.0) ps) → All P (filter_map present_piece ps)
kept_each P [] all = All-nil P
kept_each P ((p, Present) ∷ ps) all = All-cons P p (filter_map present_piece ps) (All-head P p (map (λ q. q.0) ps) all) (kept_each P ps (All-tail P p (map (λ q. q.0) ps) all))
kept_each P ((p, Missing) ∷ ps) all = kept_each P ps (All-tail P p (map (λ q. q.0) ps) all)
kept_each P ((p, Empty) ∷ ps) all = kept_each P ps (All-tail P p (map (λ q. q.0) ps) all)

pub kept_rise : (ps : List (MCtor × PieceState)) → AllPairs Precedes (map (λ p. p.0) ps) → AllPairs Precedes (filter_map present_piece ps)
kept_rise [] all = λ i j d l m. absurd (omega arith)
kept_rise ((p, Present) ∷ ps) all =
    AllPairs-cons Precedes p (filter_map present_piece ps) (kept_each (Precedes p) ps (first_before Precedes p (map (λ q. q.0) ps) all)) (kept_rise ps (rest_pairs Precedes p (map (λ q. q.0) ps) all))
kept_rise ((p, Missing) ∷ ps) all = kept_rise ps (rest_pairs Precedes p (map (λ q. q.0) ps) all)
kept_rise ((p, Empty) ∷ ps) all = kept_rise ps (rest_pairs Precedes p (map (λ q. q.0) ps) all)
