-- The other rules that a node of a pattern can break by itself: on numbers, bindings and forms.
use Rattle.std.specs.Prelude.{◌≡◌, ℕ, ◌+◌, Bool, true, false, not, ◌&&◌, ◌||◌, nat_eq, List, [], Option, Some, None}
use Rattle.std.specs.List.{list_any, list_all, filter_map}
use Rattle.std.specs.Str.{bytes_eq}
use mathlib.Core.Bool.{beq}
use Rattle.match_model.specs.declared.Mode.{Mode}
use Rattle.match_model.specs.declared.Mode.TheVariants.{Move, Ref, RefMut}
use Rattle.match_model.specs.Types.{MType, BoolType, CharType, StrType, NeverType, IntType, OpaqueType, TupleType, PointType, SliceType, ArrayType, NamedType, MTypes, no_types, more_types, MOpaque, StringName, F32Name, F64Name, BoxName, VecName, RcName, ArcName, ParameterName}
use Rattle.match_model.specs.Patterns.{Written, WrittenPlain, WrittenMut, WrittenRef, WrittenRefMut}
use Rattle.match_model.specs.Matching.{to_move, mode_written}
use Rattle.decl_syntax.specs.Patterns.{PatternTree, Shape, PatternTrees, PathTree}
use Rattle.decl_syntax.specs.Patterns as patterns
use Rattle.type_names.specs.NameRules.{is_among}
use Rattle.type_names.specs.Finding.{same_owner}
use Rattle.pattern_rules.specs.declared.Edition.{Edition}
use Rattle.pattern_rules.specs.declared.Edition.TheVariants.{E2021, E2024}
use Rattle.pattern_rules.specs.Settings.{Setting, Place, is_move}
use Rattle.pattern_rules.specs.Namings.{is_path_name, is_short}
use Rattle.pattern_rules.specs.Literals.{same_kind, is_refused, some_end_refused, is_outside, end_outside, is_empty_at}
use Rattle.pattern_rules.specs.Nodes.{Standing, AsItem, AsName, Elsewhere, Node, nodes}
use Rattle.pattern_rules.specs.NodeRules.{NodeTest, type_met}

-- rule 28: a literal or range end is no number of the type
abbrev pub is_out_of_range : NodeTest
is_out_of_range s n = by_shape n.shape
  where
    by_shape : Shape → Bool
    by_shape (patterns.Literal l) = not (is_refused l) && is_outside s.width (type_met n) l
    by_shape (patterns.Range low high closed) =
        not (some_end_refused low high) && (end_outside s.width (type_met n) low || end_outside s.width (type_met n) high)
    by_shape _ = false

-- rule 29: `a..=b` with a above b; `a..b` with a not below b; `..b` with b the type's least value
abbrev pub is_empty_range : NodeTest
is_empty_range s n = by_shape n.shape
  where
    by_shape : Shape → Bool
    by_shape (patterns.Range low high closed) =
        not (some_end_refused low high) && is_empty_at s.width (type_met n) low high closed
    by_shape _ = false

-- how a binding is written
abbrev pub written : (by_ref mutable : Bool) → Written
written false false = WrittenPlain
written false true = WrittenMut
written true false = WrittenRef
written true true = WrittenRefMut

-- what a node binds: a name, the type of what it holds, and its mode
pub record BoundName : Type 0 where
  pub name : List ℕ
  pub type : MType
  pub mode : Mode

-- a name that is bound at the place and written so
abbrev pub bound_name : Place → Written → (name : List ℕ) → BoundName
bound_name p w name = record { name = name; type = p.type; mode = mode_written to_move w p.mode }

-- what a bare name binds, unless it is a path
abbrev pub bound_unless : Bool → BoundName → Option BoundName
bound_unless true b = None
bound_unless false b = Some b

-- what the node binds, if it binds
abbrev pub bound_by : Setting → Node → Option BoundName
bound_by s n = by_shape n.shape
  where
    by_shape : Shape → Option BoundName
    by_shape (patterns.Name name) = bound_unless (is_path_name s name) (bound_name n.place WrittenPlain name)
    by_shape (patterns.Bind name by_ref mutable) = Some (bound_name n.place (written by_ref mutable) name)
    by_shape (patterns.BindAs name by_ref mutable p) = Some (bound_name n.place (written by_ref mutable) name)
    by_shape _ = None

-- rule 30: a binding whose name an earlier one of the arm has, and no or-pattern holds the two in different alternatives
abbrev pub binds_twice : NodeTest
binds_twice s n = is_earlier (bound_by s n)
  where
    is_earlier : Option BoundName → Bool
    is_earlier None = false
    is_earlier (Some b) = is_among b.name n.before

-- which of the opaque types it is; type parameters stand behind the others, by their numbers
abbrev pub opaque_number : MOpaque → ℕ
opaque_number StringName = 0
opaque_number F32Name = 1
opaque_number F64Name = 2
opaque_number BoxName = 3
opaque_number VecName = 4
opaque_number RcName = 5
opaque_number ArcName = 6
opaque_number (ParameterName n) = 7 + n

abbrev mutual
  -- the two types are one
  pub same_type : MType → MType → Bool
  same_type BoolType BoolType = true
  same_type CharType CharType = true
  same_type StrType StrType = true
  same_type NeverType NeverType = true
  same_type (IntType k) (IntType l) = same_kind k l
  same_type (OpaqueType o ts) (OpaqueType q us) = nat_eq (opaque_number o) (opaque_number q) && same_types ts us
  same_type (TupleType ts) (TupleType us) = same_types ts us
  same_type (PointType m t) (PointType l u) = beq m l && same_type t u
  same_type (SliceType t) (SliceType u) = same_type t u
  same_type (ArrayType t n) (ArrayType u k) = same_type t u && nat_eq n k
  same_type (NamedType o ts) (NamedType q us) = same_owner o q && same_types ts us
  same_type _ _ = false

  -- the types of the two lists are one by one the same
  pub same_types : MTypes → MTypes → Bool
  same_types no_types no_types = true
  same_types (more_types t ts) (more_types u us) = same_type t u && same_types ts us
  same_types _ _ = false

-- law: the test holds exactly of one type
abbrev pub SameTypeIsEqual : Type 0
SameTypeIsEqual = (t u : MType) → (same_type t u ≡ true → t ≡ u) × (t ≡ u → same_type t u ≡ true)

-- the two modes are one
abbrev pub same_mode : Mode → Mode → Bool
same_mode Move Move = true
same_mode Ref Ref = true
same_mode RefMut RefMut = true
same_mode _ _ = false

-- the two bind the same name with the same type and mode
abbrev pub same_bound : BoundName → BoundName → Bool
same_bound a b = bytes_eq a.name b.name && (same_type a.type b.type && same_mode a.mode b.mode)

-- all of the first are among the second
abbrev pub are_among : List BoundName → List BoundName → Bool
are_among names others = list_all (λ b. list_any (same_bound b) others) names

-- what the nodes of an alternative bind, the alternative standing at the place
abbrev pub bound_in : Setting → Place → PatternTree → List BoundName
bound_in s p alternative = filter_map (bound_by s) (nodes s Elsewhere [] p alternative)

-- one of the alternatives does not bind just these
abbrev pub some_differs : Setting → Place → List BoundName → PatternTrees → Bool
some_differs s p bs patterns.none = false
some_differs s p bs (patterns.more q qs) =
    not (are_among bs (bound_in s p q) && are_among (bound_in s p q) bs) || some_differs s p bs qs

-- the alternatives do not all bind what the first one binds
abbrev pub some_differ : Setting → Place → PatternTrees → Bool
some_differ s p patterns.none = false
some_differ s p (patterns.more q qs) = some_differs s p (bound_in s p q) qs

-- rule 31: the alternatives do not bind the same names with the same types and modes
abbrev pub has_other_bindings : NodeTest
has_other_bindings s n = by_shape n.shape
  where
    by_shape : Shape → Bool
    by_shape (patterns.Or qs) = some_differ s n.place qs
    by_shape _ = false

-- modes may be written under another binding mode than move
abbrev pub is_free_edition : Edition → Bool
is_free_edition E2021 = true
is_free_edition E2024 = false

-- rule 32: in edition 2024 `ref`, `mut`, `&` or `&mut` where the binding mode is not move
abbrev pub writes_mode : NodeTest
writes_mode s n = not (is_free_edition s.edition) && (not (is_move n.place.mode) && by_shape n.shape)
  where
    by_shape : Shape → Bool
    by_shape (patterns.Bind name by_ref mutable) = by_ref || mutable
    by_shape (patterns.BindAs name by_ref mutable p) = by_ref || mutable
    by_shape (patterns.Point mutable p) = true
    by_shape _ = false

-- the node is an item of a slice pattern
abbrev pub is_item : Standing → Bool
is_item AsItem = true
is_item AsName = false
is_item Elsewhere = false

-- rule 33: an item of a slice pattern is itself `a..` without parentheses
abbrev pub is_open_item : NodeTest
is_open_item s n = is_item n.standing && by_shape n.shape
  where
    by_shape : Shape → Bool
    by_shape (patterns.Range (Some low) None closed) = true
    by_shape _ = false

-- rule 35: a float, byte-string or C-string literal; a suffix that is no integer type; a path that is not one or two plain
-- names; or a path as a range end
abbrev pub is_unsupported_pattern : NodeTest
is_unsupported_pattern s n = by_shape n.shape
  where
    by_shape : Shape → Bool
    by_shape (patterns.Literal l) = is_refused l
    by_shape (patterns.Range low high closed) = some_end_refused low high
    by_shape (patterns.Path path) = not (is_short path)
    by_shape (patterns.TupleForm path ps) = not (is_short path)
    by_shape (patterns.Brace path fs rest) = not (is_short path)
    by_shape _ = false
