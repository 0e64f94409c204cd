-- Flags, numbers and texts that two patterns match.
use Rattle.std.proofs.Common.{◌≡◌, ◌<◌, ℕ, ℤ, Bool, true, false, List, [], length, cond, int_le, Some, None, IsTrue, refl, sym, ◌∙◌, subst, arith}
use Rattle.std.proofs.lemmas.Int.{ints}
use Rattle.match_model.specs.Values.{MValue, Num}
use Rattle.match_model.specs.Numbers.{MEnd, Free, At, MRange, in_range, is_from, is_up_to, ends_ascend}
use Rattle.match_model.specs.Constructors.{MCtor, SingleCtor, PointCtor, LaterCtor, OtherTextCtor, WildCtor, OrCtor, VariantCtor, FlagCtor, NumbersCtor, TextCtor, RowCtor, builds, MSet, NumberSet, Elementary, OneFlag, OneNumber, OneText, elementary_ctor, builds_one, is_of_set, is_free, last_range, in_either, end_belongs, greatest_held, least_held, belongs, has_piece}
use Rattle.match_model.specs.Contexts.{Context}
use Rattle.match_model.specs.ContextLaws.{ValuesLaw, PartsLaw, EmptyLaw, UnsureLaw, parts_count}
use Rattle.match_model.specs.Made.{IsForward}
use Rattle.match_model.specs.ArenaPatterns.{MDePat, ctor_of, subs_of}
use Rattle.match_model.specs.WellTyped.{IsTyped, IsHeadTyped}
use Rattle.match_model.specs.PieceStates.{HasValue}
use Rattle.match_model.specs.Rows.{Head}
use Rattle.match_model.proofs.Basics.{both, and_true, untrue, flag_equal, text_equal}
use Rattle.range_split.specs.Ranges.{Meet}
use Rattle.pat_context.proofs.Decided.{ctor_values_told}
use Rattle.pattern_lints.specs.Meeting.{head_ctor, IsSharp, IsAlike, IsAlikeHead, Spot, PiecesMeet}
use Rattle.pattern_lints.specs.Lengths.{IsSharpHead, IsSpotOf}
use Rattle.pattern_lints.proofs.PieceHeads.{piece_built, SharpTyped, typed_sharp}
use Rattle.pattern_lints.proofs.PartsCommon.{built_once}

-- a constructor without parts that a pattern can have
abbrev pub IsLeaf : MCtor → Type 0
IsLeaf (FlagCtor b) = Unit {0}
IsLeaf (NumbersCtor r) = Unit {0}
IsLeaf (TextCtor t) = Unit {0}
IsLeaf _ = ⊥

-- ---- the numbers of two ranges

higher : MEnd → MEnd → MEnd
higher Free e = e
higher (At a) Free = At a
higher (At a) (At b) = cond (int_le a b) (At b) (At a)

lower : MEnd → MEnd → MEnd
lower Free e = e
lower (At a) Free = At a
lower (At a) (At b) = cond (int_le a b) (At a) (At b)

over : (a b n : ℤ) → int_le a b ≡ true → int_le b n ≡ true → int_le a n ≡ true
over a b n h g = grind (arith, ints)

other : (a b : ℤ) → int_le a b ≡ false → int_le b a ≡ true
other a b h = grind (arith, ints)

from_both : (l m : MEnd) (n : ℤ) → is_from (higher l m) n ≡ true → (is_from l n ≡ true) × (is_from m n ≡ true)
unfolding higher
from_both Free m n h = (refl, h)
from_both (At a) Free n h = (h, refl)
from_both (At a) (At b) n h = go (int_le a b) refl h
  where
    go : (t : Bool) → int_le a b ≡ t → is_from (cond t (At b) (At a)) n ≡ true → (int_le a n ≡ true) × (int_le b n ≡ true)
    go true e h = (over a b n e h, h)
    go false e h = (h, over b a n (other a b e) h)

up_to_both : (l m : MEnd) (n : ℤ) → is_up_to (lower l m) n ≡ true → (is_up_to l n ≡ true) × (is_up_to m n ≡ true)
unfolding lower
up_to_both Free m n h = (refl, h)
up_to_both (At a) Free n h = (h, refl)
up_to_both (At a) (At b) n h = go (int_le a b) refl h
  where
    go : (t : Bool) → int_le a b ≡ t → is_up_to (cond t (At a) (At b)) n ≡ true → (int_le n a ≡ true) × (int_le n b ≡ true)
    go true e h = (h, over n a b h e)
    go false e h = (over n b a h (other a b e), h)

both_from : (l m : MEnd) (n : ℤ) → is_from l n ≡ true → is_from m n ≡ true → is_from (higher l m) n ≡ true
unfolding higher
both_from Free m n h g = g
both_from (At a) Free n h g = h
both_from (At a) (At b) n h g = go (int_le a b)
  where
    go : (t : Bool) → is_from (cond t (At b) (At a)) n ≡ true
    go true = g
    go false = h

both_up_to : (l m : MEnd) (n : ℤ) → is_up_to l n ≡ true → is_up_to m n ≡ true → is_up_to (lower l m) n ≡ true
unfolding lower
both_up_to Free m n h g = g
both_up_to (At a) Free n h g = h
both_up_to (At a) (At b) n h g = go (int_le a b)
  where
    go : (t : Bool) → is_up_to (cond t (At a) (At b)) n ≡ true
    go true = h
    go false = g

pub ascending : (l m : MEnd) (n : ℤ) → is_from l n ≡ true → is_up_to m n ≡ true → ends_ascend l m ≡ true
ascending Free m n h g = free m
  where
    free : (m : MEnd) → ends_ascend Free m ≡ true
    free Free = refl
    free (At b) = refl
ascending (At a) Free n h g = refl
ascending (At a) (At b) n h g = over a n b h g

low_belongs : (free : Bool) (limit : ℤ) (has : ℤ → Bool) (l m : MEnd) → end_belongs free limit has l ≡ true → end_belongs free limit has m ≡ true →
    end_belongs free limit has (higher l m) ≡ true
unfolding higher
low_belongs free limit has Free m h g = g
low_belongs free limit has (At a) Free h g = h
low_belongs free limit has (At a) (At b) h g = go (int_le a b)
  where
    go : (t : Bool) → end_belongs free limit has (cond t (At b) (At a)) ≡ true
    go true = g
    go false = h

high_belongs : (free : Bool) (limit : ℤ) (has : ℤ → Bool) (l m : MEnd) → end_belongs free limit has l ≡ true → end_belongs free limit has m ≡ true →
    end_belongs free limit has (lower l m) ≡ true
unfolding lower
high_belongs free limit has Free m h g = g
high_belongs free limit has (At a) Free h g = h
high_belongs free limit has (At a) (At b) h g = go (int_le a b)
  where
    go : (t : Bool) → end_belongs free limit has (cond t (At a) (At b)) ≡ true
    go true = h
    go false = g

-- the range of the common numbers
common_range : MRange → MRange → MRange
common_range r s = record { low = higher r.low s.low; high = lower r.high s.high }

common_in : (r s : MRange) (n : ℤ) → in_range (common_range r s) n ≡ true → (in_range r n ≡ true) × (in_range s n ≡ true)
unfolding common_range
common_in r s n h =
    let b = both (is_from (higher r.low s.low) n) (is_up_to (lower r.high s.high) n) h in
    let l = from_both r.low s.low n b.0 in
    let u = up_to_both r.high s.high n b.1 in
    (and_true (is_from r.low n) (is_up_to r.high n) l.0 u.0, and_true (is_from s.low n) (is_up_to s.high n) l.1 u.1)

common_forward : (r s : MRange) → Meet r s → ends_ascend (common_range r s).low (common_range r s).high ≡ true
unfolding common_range
common_forward r s m =
    let a = both (is_from r.low m.0) (is_up_to r.high m.0) m.1 in
    let b = both (is_from s.low m.0) (is_up_to s.high m.0) m.2 in
    ascending (higher r.low s.low) (lower r.high s.high) m.0 (both_from r.low s.low m.0 a.0 b.0) (both_up_to r.high s.high m.0 a.1 b.1)

common_belongs : (set : MSet) (r s : MRange) → belongs set (NumbersCtor r) ≡ true → belongs set (NumbersCtor s) ≡ true → belongs set (NumbersCtor (common_range r s)) ≡ true
unfolding common_range
common_belongs (NumberSet x y) r s h g =
    let a = both (end_belongs (is_free x.low) least_held (in_either x y) r.low) (end_belongs (is_free (last_range x y).high) greatest_held (in_either x y) r.high) h in
    let b = both (end_belongs (is_free x.low) least_held (in_either x y) s.low) (end_belongs (is_free (last_range x y).high) greatest_held (in_either x y) s.high) g in
    and_true (end_belongs (is_free x.low) least_held (in_either x y) (higher r.low s.low)) (end_belongs (is_free (last_range x y).high) greatest_held (in_either x y) (lower r.high s.high))
    (low_belongs (is_free x.low) least_held (in_either x y) r.low s.low a.0 b.0) (high_belongs (is_free (last_range x y).high) greatest_held (in_either x y) r.high s.high a.1 b.1)
common_belongs _ r s h g = untrue h

module _ {T : Type 0} (IsType : T → Type 0) (IsValue : T → Bool → MValue → Type 0) (cx : Context T) (values : ValuesLaw IsType IsValue cx) (parts : PartsLaw IsType IsValue cx)
    (is_empty : T → Bool) (variant_empty : T → ℕ → Bool) (empty : EmptyLaw IsType IsValue cx is_empty variant_empty) (unsure : UnsureLaw IsType IsValue) where
  -- a constructor without parts builds some value
  told : (t : T) (sure : Bool) (c : MCtor) → IsType t → belongs (cx.set_of t) c ≡ true → IsForward c → IsLeaf c → HasValue IsValue (record { type = t; sure = sure }) [] c
  told t false (FlagCtor b) d h f l = ctor_values_told IsType IsValue cx values parts is_empty variant_empty empty unsure (record { type = t; sure = false }) [] (FlagCtor b) d h f
  told t true (FlagCtor b) d h f l = ctor_values_told IsType IsValue cx values parts is_empty variant_empty empty unsure (record { type = t; sure = true }) [] (FlagCtor b) d h f
  told t false (NumbersCtor r) d h f l = ctor_values_told IsType IsValue cx values parts is_empty variant_empty empty unsure (record { type = t; sure = false }) [] (NumbersCtor r) d h f
  told t true (NumbersCtor r) d h f l = ctor_values_told IsType IsValue cx values parts is_empty variant_empty empty unsure (record { type = t; sure = true }) [] (NumbersCtor r) d h f
  told t false (TextCtor u) d h f l = ctor_values_told IsType IsValue cx values parts is_empty variant_empty empty unsure (record { type = t; sure = false }) [] (TextCtor u) d h f
  told t true (TextCtor u) d h f l = ctor_values_told IsType IsValue cx values parts is_empty variant_empty empty unsure (record { type = t; sure = true }) [] (TextCtor u) d h f
  told t sure SingleCtor d h f l = absurd l
  told t sure PointCtor d h f l = absurd l
  told t sure LaterCtor d h f l = absurd l
  told t sure OtherTextCtor d h f l = absurd l
  told t sure WildCtor d h f l = absurd l
  told t sure OrCtor d h f l = absurd l
  told t sure (VariantCtor k) d h f l = absurd l
  told t sure (RowCtor r) d h f l = absurd l

  built_number : (r s : MRange) (v : MValue) → builds [] (NumbersCtor (common_range r s)) v ≡ true → (builds [] (NumbersCtor r) v ≡ true) × (builds [] (NumbersCtor s) v ≡ true)
  built_number r s (Num n) h = common_in r s n h
  built_number r s _ h = untrue h

  -- where two without parts are alike, some value is built by both
  both_build : (t : T) (sure : Bool) (c d : MCtor) → IsType t → belongs (cx.set_of t) c ≡ true → belongs (cx.set_of t) d ≡ true → IsForward c → IsLeaf c → IsAlike c d →
      (v : MValue) × IsValue t sure v × (builds [] c v ≡ true) × (builds [] d v ≡ true)
  both_build t sure (NumbersCtor r) (NumbersCtor s) ty h g f l a =
      let v = told t sure (NumbersCtor (common_range r s)) ty (common_belongs (cx.set_of t) r s h g) (common_forward r s a) tt in
      let b = built_number r s v.0 v.2 in
      (v.0, v.1, b.0, b.1)
  both_build t sure (NumbersCtor r) _ ty h g f l a = untrue a
  both_build t sure (FlagCtor x) (FlagCtor y) ty h g f l a =
      let v = told t sure (FlagCtor x) ty h tt tt in
      (v.0, v.1, v.2, subst (λ (z : Bool). builds [] (FlagCtor z) v.0 ≡ true) (flag_equal x y a) v.2)
  both_build t sure (FlagCtor x) _ ty h g f l a = untrue a
  both_build t sure (TextCtor x) (TextCtor y) ty h g f l a =
      let v = told t sure (TextCtor x) ty h tt tt in
      (v.0, v.1, v.2, subst (λ (z : List ℕ). builds [] (TextCtor z) v.0 ≡ true) (text_equal x y a) v.2)
  both_build t sure (TextCtor x) _ ty h g f l a = untrue a
  both_build t sure SingleCtor d ty h g f l a = absurd l
  both_build t sure PointCtor d ty h g f l a = absurd l
  both_build t sure LaterCtor d ty h g f l a = absurd l
  both_build t sure OtherTextCtor d ty h g f l a = absurd l
  both_build t sure WildCtor d ty h g f l a = absurd l
  both_build t sure OrCtor d ty h g f l a = absurd l
  both_build t sure (VariantCtor k) d ty h g f l a = absurd l
  both_build t sure (RowCtor r) d ty h g f l a = absurd l

  leaf_count : (t : T) (c : MCtor) (e : Elementary) → IsLeaf c → has_piece c (elementary_ctor e) ≡ true → parts_count cx t e ≡ 0
  leaf_count t (FlagCtor x) (OneFlag y) l h = refl
  leaf_count t (FlagCtor x) _ l h = untrue h
  leaf_count t (NumbersCtor x) (OneNumber y) l h = refl
  leaf_count t (NumbersCtor x) _ l h = untrue h
  leaf_count t (TextCtor x) (OneText y) l h = refl
  leaf_count t (TextCtor x) _ l h = untrue h
  leaf_count t SingleCtor e l h = absurd l
  leaf_count t PointCtor e l h = absurd l
  leaf_count t LaterCtor e l h = absurd l
  leaf_count t OtherTextCtor e l h = absurd l
  leaf_count t WildCtor e l h = absurd l
  leaf_count t OrCtor e l h = absurd l
  leaf_count t (VariantCtor k) e l h = absurd l
  leaf_count t (RowCtor r) e l h = absurd l

  leaf_arity : (t : T) (c : MCtor) → IsType t → IsTrue (belongs (cx.set_of t) c) → IsLeaf c → cx.arity c t ≡ 0
  leaf_arity t (FlagCtor x) d b l = parts.arity t (FlagCtor x) d b
  leaf_arity t (NumbersCtor x) d b l = parts.arity t (NumbersCtor x) d b
  leaf_arity t (TextCtor x) d b l = parts.arity t (TextCtor x) d b
  leaf_arity t SingleCtor d b l = absurd l
  leaf_arity t PointCtor d b l = absurd l
  leaf_arity t LaterCtor d b l = absurd l
  leaf_arity t OtherTextCtor d b l = absurd l
  leaf_arity t WildCtor d b l = absurd l
  leaf_arity t OrCtor d b l = absurd l
  leaf_arity t (VariantCtor k) d b l = absurd l
  leaf_arity t (RowCtor r) d b l = absurd l

  -- patterns without parts that are alike have a piece in common
  pub leaves_meet : (t : T) (sure : Bool) (p : MDePat T) (g : Head T) (spot : Spot) → IsType t → IsTyped cx t p → IsHeadTyped cx t g → IsLeaf (ctor_of p) → IsSharp (ctor_of p) →
      IsSharpHead g → IsForward (ctor_of p) → IsAlikeHead (ctor_of p) g → IsSpotOf (Some p) g spot → PiecesMeet IsValue cx t sure (Some p) g spot
  leaves_meet t sure p g spot d pt gt leaf s gs forward alike within = go g gt gs alike spot within
    where
      y : SharpTyped cx t p
      y = typed_sharp cx t p pt s

      none : length (subs_of p) ≡ 0
      none = y.count ∙ leaf_arity t (ctor_of p) d y.belongs leaf

      from : (g : Head T) (v : MValue) → IsValue t sure v → builds [] (ctor_of p) v ≡ true →
          ((e : Elementary) → IsTrue (is_of_set (cx.set_of t) e) → IsTrue (builds_one e v) →
          has_piece (head_ctor g) (elementary_ctor e) ≡ true) → PiecesMeet IsValue cx t sure (Some p) g None
      from g v i b second =
          let e = built_once (cx.set_of t) (ctor_of p) sure v y.belongs (values.each t sure v d i) in
          let first = sym (piece_built (cx.set_of t) (ctor_of p) e.by v y.belongs y.written e.of_set e.build) ∙ b in
          let zero = leaf_count t (ctor_of p) e.by leaf first in
          record {
            piece = elementary_ctor e.by;
            count = parts_count cx t e.by;
            had = record { by = e.by; is = refl; of_set = e.of_set; count = refl; first = first; second = second e.by e.of_set e.build };
            stand = tt;
            all = λ k l free. absurd (omega (arith, l, zero));
          }

      go : (g : Head T) → IsHeadTyped cx t g → IsSharpHead g → IsAlikeHead (ctor_of p) g → (spot : Spot) → IsSpotOf (Some p) g spot → PiecesMeet IsValue cx t sure (Some p) g spot
      go g gt gs alike (Some x) w = let l : x.0 < length (subs_of p) = w.0 in absurd (omega (arith, l, none))
      go None gt gs alike None w =
          let v = told t sure (ctor_of p) d y.belongs forward leaf in
          from None v.0 v.1 v.2 (λ e o b. refl)
      go (Some q) gt gs alike None w =
          let z = typed_sharp cx t q gt gs in
          let v = both_build t sure (ctor_of p) (ctor_of q) d y.belongs z.belongs forward leaf alike in
          from (Some q) v.0 v.1 v.2 (λ e o b. sym (piece_built (cx.set_of t) (ctor_of q) e v.0 z.belongs z.written o b) ∙ v.3)
