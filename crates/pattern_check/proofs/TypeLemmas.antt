-- Types by what kind they are of.
use Rattle.std.proofs.Common.{◌≡◌, ℕ, ◌<◌, List, length, nat_eq, Bool, true, false, Option, Some, None, refl, sym, ap, arith}
use Rattle.match_model.specs.declared.Mode.{Mode}
use Rattle.match_model.specs.declared.Width.{Width}
use Rattle.match_model.specs.declared.IntKind.{IntKind}
use Rattle.match_model.specs.Types.{MType, CharType, IntType, PointType, SliceType, ArrayType}
use Rattle.match_model.specs.Matching.{mode_behind}
use Rattle.match_model.specs.Typing.{is_bool}
use Rattle.number_kinds.specs.declared.kinds.NumberKind.{NumberKind}
use Rattle.number_kinds.specs.declared.kinds.NumberKind.TheVariants as numbers
use Rattle.number_kinds.specs.Kinds.{kind_type}
use Rattle.decl_syntax.specs.Patterns.{LitTree, Flag, Char, Byte, Int, Str, Other}
use Rattle.type_names.specs.Meanings.{int_kind}
use Rattle.pattern_rules.specs.Settings.{bottom_type, bottom_mode}
use Rattle.match_model.specs.declared.IntKind.TheVariants.{U8}
use Rattle.pattern_rules.specs.Literals.{is_char, is_kind, is_integer, has_suffix_type, has_type, is_outside}
use Rattle.pattern_rules.specs.NodeRules.{is_numeric, is_row}
use Rattle.pattern_check.specs.TypeTests.{point_of, point_levels, number_kind, row_of, is_flag}

-- a reference
pub point_type : (t u : MType) (mutable : Bool) → Some (mutable, u) ≡ point_of t → t ≡ PointType mutable u
point_type (PointType m t) u mutable h =
    let e : (mutable, u) ≡ (m, t) = cc in
    let made : Bool × MType → MType = λ p. PointType p.0 p.1 in
    sym (ap made e)
point_type t u mutable h = absurd cc

-- the place behind one reference has the same bottom
pub bottom_step : (t u : MType) (mutable : Bool) (m n : Mode) → t ≡ PointType mutable u → n ≡ mode_behind mutable m →
    (bottom_type u ≡ bottom_type t) × (bottom_mode u n ≡ bottom_mode t m)
bottom_step t u mutable m n e f = (rw e refl, rw (e, f) refl)

-- one reference fewer stands around it
pub fewer_levels : (t u : MType) (mutable : Bool) → t ≡ PointType mutable u → point_levels u < point_levels t
fewer_levels t u mutable e = rw e (omega arith)

-- no reference
pub bottom_here : (t : MType) (m : Mode) → None ≡ point_of t → (bottom_type t ≡ t) × (bottom_mode t m ≡ m)
bottom_here (PointType l t) m h = absurd cc
bottom_here t m h = (refl, refl)

-- a type of numbers
pub number_type : (t : MType) (k : NumberKind) → Some k ≡ number_kind t → t ≡ kind_type k
number_type CharType k h = cc
number_type (IntType i) k h = cc
number_type t k h = absurd cc

-- a type that has none
pub not_numeric : (t : MType) → None ≡ number_kind t → false ≡ is_numeric t
not_numeric CharType h = absurd cc
not_numeric (IntType i) h = absurd cc
not_numeric t h = refl

pub not_outside : (w : Width) (t : MType) (l : LitTree) → None ≡ number_kind t → false ≡ is_outside w t l
not_outside w (IntType i) l h = absurd cc
not_outside w t l h = refl

not_char : (t : MType) → None ≡ number_kind t → false ≡ is_char t
not_char CharType h = absurd cc
not_char t h = refl

not_kind : (k : IntKind) (t : MType) → None ≡ number_kind t → false ≡ is_kind k t
not_kind k (IntType i) h = absurd cc
not_kind k t h = refl

not_integer : (t : MType) → None ≡ number_kind t → false ≡ is_integer t
not_integer (IntType i) h = absurd cc
not_integer t h = refl

not_suffix_type : (suffix : List ℕ) (t : MType) → None ≡ number_kind t → false ≡ has_suffix_type suffix t
not_suffix_type suffix t h = by (nat_eq (length suffix) 0) (int_kind suffix) refl refl
  where
    by : (b : Bool) (o : Option IntKind) → nat_eq (length suffix) 0 ≡ b → int_kind suffix ≡ o → false ≡ has_suffix_type suffix t
    by true o e f = rw e (not_integer t h)
    by false None e f = rw (e, f) refl
    by false (Some k) e f = rw (e, f) (not_kind k t h)

-- no literal but a flag has a type without numbers
pub no_number_type : (l : LitTree) (t : MType) → None ≡ number_kind t → is_flag l ≡ false → false ≡ has_type l t
no_number_type (Flag b) t h f = absurd cc
no_number_type (Char c) t h f = not_char t h
no_number_type (Byte b) t h f = not_kind U8 t h
no_number_type (Int negative size suffix) t h f = not_suffix_type suffix t h
no_number_type (Str text) t h f = refl
no_number_type Other t h f = refl

-- a flag has the type `bool`
pub flag_type : (l : LitTree) (t : MType) → is_flag l ≡ true → is_bool t ≡ has_type l t
flag_type (Flag b) t f = refl
flag_type l t f = absurd cc

pub numeric_kind : (k : NumberKind) → is_numeric (kind_type k) ≡ true
numeric_kind numbers.Char = refl
numeric_kind (numbers.Int kind) = refl

-- neither a slice nor an array
pub not_row : (t : MType) → None ≡ row_of t → false ≡ is_row t
not_row (SliceType u) h = absurd cc
not_row (ArrayType u n) h = absurd cc
not_row t h = refl

pub slice_type : (t u : MType) → Some (u, None) ≡ row_of t → t ≡ SliceType u
slice_type (SliceType v) u h =
    let e : (u, None) ≡ (v, None) = cc in
    let item : u ≡ v = ap (λ (p : MType × Option ℕ). p.0) e in
    rw item refl
slice_type (ArrayType v n) u h =
    let e : (u, None) ≡ (v, Some n) = cc in
    let len : None ≡ Some n = ap (λ (p : MType × Option ℕ). p.1) e in
    absurd cc
slice_type t u h = absurd cc

pub array_type : (t u : MType) (n : ℕ) → Some (u, Some n) ≡ row_of t → t ≡ ArrayType u n
array_type (SliceType v) u n h =
    let e : (u, Some n) ≡ (v, None) = cc in
    let len : Some n ≡ None = ap (λ (p : MType × Option ℕ). p.1) e in
    absurd cc
array_type (ArrayType v k) u n h =
    let e : (u, Some n) ≡ (v, Some k) = cc in
    let item : u ≡ v = ap (λ (p : MType × Option ℕ). p.0) e in
    let len : Some n ≡ Some k = ap (λ (p : MType × Option ℕ). p.1) e in
    let same : n ≡ k = cc in
    rw (item, same) refl
array_type t u n h = absurd cc
