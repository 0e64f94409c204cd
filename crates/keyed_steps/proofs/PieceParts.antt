-- The parts of a value that a piece of its type builds stand at the columns of the piece.
use Rattle.std.proofs.Common.{◌≡◌, ℕ, zero, suc, ◌-◌, Bool, true, false, List, [], ◌∷◌, ◌++◌, take, drop, length, Some, slice_get, refl, sym, ◌∙◌, arith, subst}
use Rattle.match_model.specs.Values.{MValue, Flag, Num, Text, Node, Point, Row, Thing, Later, Unseen, parts_of}
use Rattle.match_model.specs.Constructors.{FixedShape, LongerShape, MCtor, SingleCtor, PointCtor, LaterCtor, OtherTextCtor, WildCtor, OrCtor, VariantCtor, FlagCtor, NumbersCtor, TextCtor, RowCtor, MSet, SingleSet, PointSet, FlagSet, TextSet, OpaqueSet, NothingSet, VariantSet, NumberSet, RowSet, OneSingle, OneVariant, builds, is_of_set, belongs}
use Rattle.match_model.specs.Numbers.{MRange}
use Rattle.match_model.specs.Contexts.{Context}
use Rattle.match_model.specs.ContextLaws.{PartsLaw, ValuesLaw}
use Rattle.match_model.specs.Places.{step_into}
use Rattle.match_model.specs.Matrices.{MColumn, open_of, part_step}
use Rattle.match_model.specs.PieceStates.{HasValue}
use Rattle.match_model.proofs.Basics.{untrue}
use Rattle.keyed_steps.specs.Filled.{IsOpened}
use Rattle.keyed_steps.proofs.Opening.{HasParts, variant-opened, point-opened, bare-opened}
use Rattle.keyed_steps.proofs.SingleParts.{single-parts, single-opened}
use Rattle.keyed_steps.proofs.VariantParts.{variant-parts}
use Rattle.keyed_steps.proofs.FixedRows.{fixed-parts, fixed-opened}
use Rattle.keyed_steps.proofs.LongerRows.{ends-parts, longer-opened}

-- of a row with a rest the items at both ends, else all parts
abbrev pub parts_by : MCtor → MValue → List MValue
parts_by (RowCtor (LongerShape f b)) u = ends f b (parts_of u)
  where
    ends : ℕ → ℕ → List MValue → List MValue
    ends f b xs = take f xs ++ drop (length xs - b) xs
parts_by _ u = parts_of u

pub single-of : (set : MSet) → belongs set SingleCtor ≡ true → is_of_set set OneSingle ≡ true
single-of SingleSet h = refl
single-of _ h = untrue h

pub variant-of : (set : MSet) (k : ℕ) → belongs set (VariantCtor k) ≡ true → is_of_set set (OneVariant k) ≡ true
variant-of (VariantSet count later) k h = h
variant-of SingleSet k h = untrue h
variant-of PointSet k h = untrue h
variant-of FlagSet k h = untrue h
variant-of TextSet k h = untrue h
variant-of OpaqueSet k h = untrue h
variant-of NothingSet k h = untrue h
variant-of (NumberSet first second) k h = untrue h
variant-of (RowSet len) k h = untrue h

pub point-of : (set : MSet) → belongs set PointCtor ≡ true → set ≡ PointSet
point-of PointSet h = refl
point-of SingleSet h = untrue h
point-of FlagSet h = untrue h
point-of TextSet h = untrue h
point-of OpaqueSet h = untrue h
point-of NothingSet h = untrue h
point-of (VariantSet count later) h = untrue h
point-of (NumberSet first second) h = untrue h
point-of (RowSet len) h = untrue h

pub wild-belongs : (set : MSet) → belongs set WildCtor ≡ false
wild-belongs (RowSet len) = refl
wild-belongs SingleSet = refl
wild-belongs PointSet = refl
wild-belongs FlagSet = refl
wild-belongs TextSet = refl
wild-belongs OpaqueSet = refl
wild-belongs NothingSet = refl
wild-belongs (VariantSet count later) = refl
wild-belongs (NumberSet first second) = refl

pub or-belongs : (set : MSet) → belongs set OrCtor ≡ false
or-belongs (RowSet len) = refl
or-belongs SingleSet = refl
or-belongs PointSet = refl
or-belongs FlagSet = refl
or-belongs TextSet = refl
or-belongs OpaqueSet = refl
or-belongs NothingSet = refl
or-belongs (VariantSet count later) = refl
or-belongs (NumberSet first second) = refl

module _ {T : Type 0} (IsType : T → Type 0) (cx : Context T) (V : T → Bool → MValue → Type 0)
    (law : PartsLaw IsType V cx) (values : ValuesLaw IsType V cx) (c : MColumn T) (is : IsType c.type)
    (named : List (List ℕ)) where
  -- a value without parts
  bare-parts : (p : MCtor) (u : MValue) → cx.arity p c.type ≡ 0 → parts_of u ≡ [] →
      HasParts cx V c named p u (parts_of u)
  bare-parts p u none e = subst (HasParts cx V c named p u) (sym e) (record {
    count = sym none;
    steps = λ i x a. absurd (no-item i x a);
    values = λ i x a. absurd (no-item i x a);
    num = λ i. i;
    numbers = λ i h. absurd (omega (arith, h, none));
    apart = λ i j h l e. absurd (omega (arith, l, none));
  })
    where
      no-item : (i : ℕ) (x : MValue) → slice_get [] i ≡ Some x → ⊥
      no-item i x a = cc

  -- such values have no parts
  flag-none : (b : Bool) (u : MValue) → builds named (FlagCtor b) u ≡ true → parts_of u ≡ []
  flag-none b (Flag t) e = refl
  flag-none b _ e = untrue e

  number-none : (r : MRange) (u : MValue) → builds named (NumbersCtor r) u ≡ true → parts_of u ≡ []
  number-none r (Num t) e = refl
  number-none r _ e = untrue e

  text-none : (t : List ℕ) (u : MValue) → builds named (TextCtor t) u ≡ true → parts_of u ≡ []
  text-none t (Text x) e = refl
  text-none t _ e = untrue e

  other-none : (u : MValue) → builds named OtherTextCtor u ≡ true → parts_of u ≡ []
  other-none (Text x) e = refl
  other-none _ e = untrue e

  later-none : (u : MValue) → builds named LaterCtor u ≡ true → parts_of u ≡ []
  later-none Later e = refl
  later-none _ e = untrue e

  point-parts : (u : MValue) → belongs (cx.set_of c.type) PointCtor ≡ true → V c.type c.sure u →
      builds named PointCtor u ≡ true → HasParts cx V c named PointCtor u (parts_of u)
  point-parts (Point m w) of h b = record {
    count = sym one;
    steps = λ i x a. at i x a;
    values = λ i x a. value i x a;
    num = λ i. 0;
    numbers = λ i l. refl;
    apart = λ i j l k e. absurd (omega (arith, l, k, one));
  }
    where
      one : cx.arity PointCtor c.type ≡ 1
      one = law.arity c.type PointCtor is of

      behind : V (cx.sub PointCtor c.type 0) false w
      behind = let l = law.point c.type is (point-of (cx.set_of c.type) of) in ((l.1 c.sure m w).0 h).1

      at : (i : ℕ) (x : MValue) → slice_get (w ∷ []) i ≡ Some x → step_into (part_step PointCtor i) (Point m w) ≡ Some x
      at zero x a = a
      at (suc i) x a = cc

      value : (i : ℕ) (x : MValue) → slice_get (w ∷ []) i ≡ Some x → V (cx.sub PointCtor c.type i) false x
      value zero x a = let same : w ≡ x = cc in subst (V (cx.sub PointCtor c.type 0) false) same behind
      value (suc i) x a = cc
  point-parts (Node k ps) of h b = cc
  point-parts (Row ps) of h b = cc
  point-parts (Flag t) of h b = cc
  point-parts (Num t) of h b = cc
  point-parts (Text t) of h b = cc
  point-parts Thing of h b = cc
  point-parts Later of h b = cc
  point-parts Unseen of h b = cc

  -- a value that the piece builds has its parts at the piece's columns
  pub piece-parts : (p : MCtor) (u : MValue) → belongs (cx.set_of c.type) p ≡ true → V c.type c.sure u →
      builds named p u ≡ true → HasParts cx V c named p u (parts_by p u)
  piece-parts SingleCtor u of w b = single-parts IsType cx V law c is named (single-of (cx.set_of c.type) of) u w b
  piece-parts PointCtor u of w b = point-parts u of w b
  piece-parts LaterCtor u of w b = bare-parts LaterCtor u (law.arity c.type LaterCtor is of) (later-none u b)
  piece-parts OtherTextCtor u of w b =
      bare-parts OtherTextCtor u (law.arity c.type OtherTextCtor is of) (other-none u b)
  piece-parts (VariantCtor k) u of w b =
      variant-parts IsType cx V law c is named k (variant-of (cx.set_of c.type) k of) u w b
  piece-parts (FlagCtor t) u of w b = bare-parts (FlagCtor t) u (law.arity c.type (FlagCtor t) is of) (flag-none t u b)
  piece-parts (NumbersCtor r) u of w b =
      bare-parts (NumbersCtor r) u (law.arity c.type (NumbersCtor r) is of) (number-none r u b)
  piece-parts (TextCtor t) u of w b = bare-parts (TextCtor t) u (law.arity c.type (TextCtor t) is of) (text-none t u b)
  piece-parts (RowCtor (FixedShape n)) u of w b = fixed-parts IsType cx V law values c is named n of u w b
  piece-parts (RowCtor (LongerShape f g)) u of w b = ends-parts IsType cx V law values c is named f g of u w b
  piece-parts WildCtor u of w b = untrue (sym (wild-belongs (cx.set_of c.type)) ∙ of)
  piece-parts OrCtor u of w b = untrue (sym (or-belongs (cx.set_of c.type)) ∙ of)

  -- each piece of the type with a value is opened
  pub piece-opened : (p : MCtor) → belongs (cx.set_of c.type) p ≡ true → HasValue V (open_of c) named p →
      IsOpened cx V c named p
  piece-opened SingleCtor of some = single-opened IsType cx V law c is named (single-of (cx.set_of c.type) of) some
  piece-opened PointCtor of some =
      point-opened IsType cx V law c is named (point-of (cx.set_of c.type) of) (law.arity c.type PointCtor is of) some
  piece-opened LaterCtor of some =
      bare-opened IsType cx V law c is named LaterCtor (law.arity c.type LaterCtor is of) some
  piece-opened OtherTextCtor of some =
      bare-opened IsType cx V law c is named OtherTextCtor (law.arity c.type OtherTextCtor is of) some
  piece-opened (VariantCtor k) of some =
      variant-opened IsType cx V law c is named k (variant-of (cx.set_of c.type) k of) some
  piece-opened (FlagCtor t) of some =
      bare-opened IsType cx V law c is named (FlagCtor t) (law.arity c.type (FlagCtor t) is of) some
  piece-opened (NumbersCtor r) of some =
      bare-opened IsType cx V law c is named (NumbersCtor r) (law.arity c.type (NumbersCtor r) is of) some
  piece-opened (TextCtor t) of some =
      bare-opened IsType cx V law c is named (TextCtor t) (law.arity c.type (TextCtor t) is of) some
  piece-opened (RowCtor (FixedShape n)) of some = fixed-opened IsType cx V law values c is named n of some
  piece-opened (RowCtor (LongerShape f g)) of some = longer-opened IsType cx V law values c is named f g of some
  piece-opened WildCtor of some = untrue (sym (wild-belongs (cx.set_of c.type)) ∙ of)
  piece-opened OrCtor of some = untrue (sym (or-belongs (cx.set_of c.type)) ∙ of)
