-- The types that nodes stand for.
use Rattle.std.specs.Prelude.{◌≡◌, ℕ, Bool, true, List, [], ◌∷◌, ◌++◌, map, length, slice_get, nat_lt, nat_eq, Option, Some, None}
use Rattle.std.specs.List.{list_all}
use Rattle.match_model.specs.Types.{MOwner, DeclaredItem, OptionOwner, ResultOwner, MType, NeverType, OpaqueType, TupleType, PointType, SliceType, ArrayType, NamedType, types_of}
use Rattle.match_model.specs.RustTypes.{opaque_arguments}
use Rattle.type_names.specs.Views.{base_view, opaque_view, owner_view}
use Rattle.type_table.specs.declared.nodes.Head.{Head}
use Rattle.type_table.specs.declared.nodes.Head.TheVariants as heads
use Rattle.type_table.specs.declared.nodes.Node as declared_node

-- the first of the parts
abbrev pub first_type : List MType → MType
first_type [] = NeverType
first_type (t ∷ ts) = t

-- the type with this head and these parts
abbrev pub head_type : Head → List MType → MType
head_type (heads.Base b) parts = base_view b
head_type (heads.Opaque o) parts = OpaqueType (opaque_view o) (types_of parts)
head_type heads.Tuple parts = TupleType (types_of parts)
head_type (heads.Point mutable) parts = PointType mutable (first_type parts)
head_type heads.Slice parts = SliceType (first_type parts)
head_type (heads.Array n) parts = ArrayType (first_type parts) n
head_type (heads.Named o) parts = NamedType (owner_view o) (types_of parts)

-- the type that is there, or `!`
abbrev pub type_there : Option MType → MType
type_there (Some t) = t
type_there None = NeverType

-- the type with this number
abbrev pub type_at : List MType → ℕ → MType
type_at types i = type_there (slice_get types i)

-- the type of a node, by the types before it
abbrev pub node_type : List MType → declared_node.Node → MType
node_type types n = head_type n.head (map (type_at types) n.parts.items)

-- the types of nodes that stand behind those of these types
abbrev pub types_from : List MType → List declared_node.Node → List MType
types_from done [] = done
types_from done (n ∷ ns) = types_from (done ++ node_type done n ∷ []) ns

-- the types of nodes
abbrev pub types_in : List declared_node.Node → List MType
types_in nodes = types_from [] nodes

-- each number is below that
abbrev pub are_below : List ℕ → ℕ → Bool
are_below parts n = list_all (λ p. nat_lt p n) parts

-- how many type arguments a named type has
abbrev pub owner_arguments : MOwner → ℕ
owner_arguments (DeclaredItem i) = 0
owner_arguments OptionOwner = 1
owner_arguments ResultOwner = 2

-- how many parts a head has, where it says so
abbrev pub fits_head : Head → ℕ → Bool
fits_head (heads.Base b) n = nat_eq n 0
fits_head (heads.Opaque o) n = nat_eq n (opaque_arguments (opaque_view o))
fits_head heads.Tuple n = true
fits_head (heads.Named o) n = nat_eq n (owner_arguments (owner_view o))
fits_head _ n = nat_eq n 1

-- each node has its parts among those before it, and as many as its head says
abbrev pub AreNodes : List declared_node.Node → Type 0
AreNodes nodes = (i : ℕ) (n : declared_node.Node) → slice_get nodes i ≡ Some n →
    (are_below n.parts.items i ≡ true) × (fits_head n.head (length n.parts.items) ≡ true)

-- nodes behind which there may be more
abbrev pub Extends : List declared_node.Node → List declared_node.Node → Type 0
Extends old new = (rest : List declared_node.Node) × (new ≡ old ++ rest)

-- what tells two nodes apart
abbrev pub plain : declared_node.Node → Head × List ℕ
plain n = (n.head, n.parts.items)
