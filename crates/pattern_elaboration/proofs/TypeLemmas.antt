-- Types by what kind they are of.
use Rattle.std.proofs.Common.{◌≡◌, ℕ, ◌<◌, Bool, false, Option, Some, None, refl, sym, ap, arith}
use Rattle.match_model.specs.declared.Mode.{Mode}
use Rattle.match_model.specs.Types.{MType, CharType, IntType, PointType, SliceType, ArrayType}
use Rattle.match_model.specs.Matching.{mode_behind}
use Rattle.number_kinds.specs.declared.kinds.NumberKind.{NumberKind}
use Rattle.number_kinds.specs.Kinds.{kind_type}
use Rattle.pattern_rules.specs.Settings.{bottom_type, bottom_mode}
use Rattle.pattern_rules.specs.NodeRules.{is_row}
use Rattle.pattern_elaboration.specs.TypeTests.{point_of, point_levels, number_kind, row_of}

-- a reference
pub point_type : (t u : MType) (mutable : Bool) → Some (mutable, u) ≡ point_of t → t ≡ PointType mutable u
point_type (PointType m t) u mutable h =
    let e : (mutable, u) ≡ (m, t) = cc in
    let made : Bool × MType → MType = λ p. PointType p.0 p.1 in
    sym (ap made e)
point_type t u mutable h = absurd cc

-- the place behind one reference has the same bottom
pub bottom_step : (t u : MType) (mutable : Bool) (m n : Mode) → t ≡ PointType mutable u → n ≡ mode_behind mutable m →
    (bottom_type u ≡ bottom_type t) × (bottom_mode u n ≡ bottom_mode t m)
bottom_step t u mutable m n e f = (rw e refl, rw (e, f) refl)

-- one reference fewer stands around it
pub fewer_levels : (t u : MType) (mutable : Bool) → t ≡ PointType mutable u → point_levels u < point_levels t
fewer_levels t u mutable e = rw e (omega arith)

-- no reference
pub bottom_here : (t : MType) (m : Mode) → None ≡ point_of t → (bottom_type t ≡ t) × (bottom_mode t m ≡ m)
bottom_here (PointType l t) m h = absurd cc
bottom_here t m h = (refl, refl)

-- a type of numbers
pub number_type : (t : MType) (k : NumberKind) → Some k ≡ number_kind t → t ≡ kind_type k
number_type CharType k h = cc
number_type (IntType i) k h = cc
number_type t k h = absurd cc

-- neither a slice nor an array
pub not_row : (t : MType) → None ≡ row_of t → false ≡ is_row t
not_row (SliceType u) h = absurd cc
not_row (ArrayType u n) h = absurd cc
not_row t h = refl

pub slice_type : (t u : MType) → Some (u, None) ≡ row_of t → t ≡ SliceType u
slice_type (SliceType v) u h =
    let e : (u, None) ≡ (v, None) = cc in
    let item : u ≡ v = ap (λ (p : MType × Option ℕ). p.0) e in
    rw item refl
slice_type (ArrayType v n) u h =
    let e : (u, None) ≡ (v, Some n) = cc in
    let len : None ≡ Some n = ap (λ (p : MType × Option ℕ). p.1) e in
    absurd cc
slice_type t u h = absurd cc

pub array_type : (t u : MType) (n : ℕ) → Some (u, Some n) ≡ row_of t → t ≡ ArrayType u n
array_type (SliceType v) u n h =
    let e : (u, Some n) ≡ (v, None) = cc in
    let len : Some n ≡ None = ap (λ (p : MType × Option ℕ). p.1) e in
    absurd cc
array_type (ArrayType v k) u n h =
    let e : (u, Some n) ≡ (v, Some k) = cc in
    let item : u ≡ v = ap (λ (p : MType × Option ℕ). p.0) e in
    let len : Some n ≡ Some k = ap (λ (p : MType × Option ℕ). p.1) e in
    let same : n ≡ k = cc in
    rw (item, same) refl
array_type t u n h = absurd cc
