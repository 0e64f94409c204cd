-- Types behind references, types of parts, and what tests of types say.
use Rattle.std.proofs.Common.{◌≡◌, ℕ, zero, suc, true, false, Option, Some, None, slice_get, nat_lt, ◌^◌, refl}
use Rattle.match_model.specs.Types.{MType, BoolType, CharType, StrType, IntType, PointType, SliceType, ArrayType, MTypes, no_types, more_types, types_list}
use Rattle.match_model.specs.Typing.{is_bool}
use Rattle.match_model.specs.Declarations.{MProgram, node_types}
use Rattle.match_model.specs.RustTypes.{part_type, type_or, inner_type, is_type, are_types, IsSoundProgram}
use Rattle.match_model.proofs.RustParts.{types_of_node}
use Rattle.pattern_rules.specs.Settings.{bottom_type}
use Rattle.pattern_rules.specs.Literals.{is_shared_text}
use Rattle.pattern_rules.specs.NodeRules.{is_numeric}
use Rattle.pattern_rules.proofs.SameTypes.{both_left, both_right}
use Rattle.pattern_laws.proofs.KeptLeaves.{AtBottom}
use Rattle.pattern_laws.proofs.Fitting.{IsBool, IsText}
use Rattle.pattern_laws.proofs.NumbersFit.{IsNumeric}

-- what is said of the type behind all references
pub at_bottom : (P : MType → Type 0) (t : MType) → P (bottom_type t) → AtBottom P t
at_bottom P (PointType m t) h = at_bottom P t h
at_bottom P t h = h

-- the type behind all references is the program's
pub bottom_is_type : (p : MProgram) (t : MType) → is_type p t ≡ true → is_type p (bottom_type t) ≡ true
bottom_is_type p (PointType m t) d = bottom_is_type p t d
bottom_is_type p t d = d

pub inner_is_type : (p : MProgram) (t : MType) → is_type p t ≡ true → is_type p (inner_type t) ≡ true
inner_is_type p (PointType m t) d = d
inner_is_type p (SliceType t) d = d
inner_is_type p (ArrayType t n) d = both_left (is_type p t) (nat_lt n (2 ^ 32)) d
inner_is_type p t d = d

-- a type of a list of types of the program
one_is_type : (p : MProgram) (t : MType) (ts : MTypes) (i : ℕ) → is_type p t ≡ true → are_types p ts ≡ true →
    is_type p (type_or t (slice_get (types_list ts) i)) ≡ true
one_is_type p t no_types i d e = d
one_is_type p t (more_types u us) zero d e = both_left (is_type p u) (are_types p us) e
one_is_type p t (more_types u us) (suc i) d e = one_is_type p t us i d (both_right (is_type p u) (are_types p us) e)

pub part_is_type : (p : MProgram) → IsSoundProgram p → (u : MType) (k i : ℕ) → is_type p u ≡ true →
    is_type p (part_type u (node_types p u k) i) ≡ true
part_is_type p sound u k i d = go (node_types p u k) refl
  where
    go : (o : Option MTypes) → node_types p u k ≡ o → is_type p (part_type u o i) ≡ true
    go None e = d
    go (Some ts) e = one_is_type p u ts i d (types_of_node p sound u k ts d e)

pub bool_type : (u : MType) → is_bool u ≡ true → IsBool u
bool_type BoolType h = tt
bool_type u h = cc

pub text_type : (t : MType) → is_shared_text t ≡ true → IsText t
text_type (PointType false StrType) h = tt
text_type t h = cc

pub numeric_type : (t : MType) → is_numeric t ≡ true → IsNumeric t
numeric_type CharType h = tt
numeric_type (IntType k) h = tt
numeric_type t h = cc
