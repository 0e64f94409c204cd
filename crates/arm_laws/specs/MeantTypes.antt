-- No meaning: a property of types that a type hands on to its parts, and by which `Option` and `Result` are meant.
use Rattle.std.specs.Prelude.{⊤, ℕ, List, [], ◌∷◌}
use Rattle.match_model.specs.Types.{MOwner, MType, OpaqueType, TupleType, PointType, SliceType, ArrayType, NamedType}
use Rattle.match_model.specs.Types.{MTypes, no_types, more_types}
use Rattle.match_model.specs.Declarations.{node_types}
use Rattle.match_model.specs.RustTypes.{inner_type}
use Rattle.witness_names.specs.Named.{types_there}
use Rattle.pattern_rules.specs.Settings.{Setting, program}
use Rattle.arm_laws.specs.NamedOnce.{IsMeant}

-- all of these have it
abbrev pub AreKept : (MType → Type 0) → List MType → Type 0
AreKept P [] = ⊤
AreKept P (t ∷ ts) = P t × AreKept P ts

-- the types behind, and those of the parts of nodes, have it too
pub record AreMeantTypes (s : Setting) (P : MType → Type 0) : Type 0 where
  pub named : (owner : MOwner) (arguments : MTypes) → P (NamedType owner arguments) → IsMeant s owner
  pub inner : (t : MType) → P t → P (inner_type t)
  pub parts : (t : MType) (k : ℕ) → P t → AreKept P (types_there (node_types (program s) t k))

abbrev mutual
  -- `Option` and `Result` are meant wherever they stand in the type
  pub IsMeantType : Setting → MType → Type 0
  IsMeantType s (OpaqueType name ts) = AreMeantAll s ts
  IsMeantType s (TupleType ts) = AreMeantAll s ts
  IsMeantType s (PointType mutable t) = IsMeantType s t
  IsMeantType s (SliceType t) = IsMeantType s t
  IsMeantType s (ArrayType t n) = IsMeantType s t
  IsMeantType s (NamedType owner ts) = IsMeant s owner × AreMeantAll s ts
  IsMeantType s _ = ⊤

  -- the same of types
  pub AreMeantAll : Setting → MTypes → Type 0
  AreMeantAll s no_types = ⊤
  AreMeantAll s (more_types t ts) = IsMeantType s t × AreMeantAll s ts
