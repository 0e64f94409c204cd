-- No meaning: a reading of the clauses that tell which types have values (Horn clauses; that each node is an atom by its number is our
-- own choice). A node holds where all atoms of one of its bodies do. A declared type asks what its item does.
use Rattle.std.specs.Prelude.{ℕ, ◌+◌, Bool, true, false, List, [], ◌∷◌, ◌++◌, map, nat_eq, slice_get, Option, Some, None, if◌then◌else◌}
use Rattle.std.specs.List.{list_any}
use Rattle.type_names.specs.declared.meanings.Base.{Base}
use Rattle.type_names.specs.declared.meanings.Base.TheVariants as bases
use Rattle.type_names.specs.declared.meanings.Owner.TheVariants as owners
use Rattle.type_names.specs.declared.meanings.FormKind.{FormKind}
use Rattle.type_names.specs.declared.meanings.FormKind.TheVariants as form_kinds
use Rattle.horn_clauses.specs.declared.clause.Clause.{Clause}
use Rattle.type_table.specs.declared.nodes.Head.{Head}
use Rattle.type_table.specs.declared.nodes.Head.TheVariants as heads
use Rattle.type_table.specs.declared.nodes.Node.{Node}
use Rattle.type_table.specs.declared.entries.VariantEntry as declared_variant
use Rattle.type_table.specs.declared.entries.Entry.{Entry}
use Rattle.type_table.specs.declared.entries.Entry.TheVariants as entries

-- each atom alone
abbrev pub each_alone : List ℕ → List (List ℕ)
each_alone atoms = map (λ a. a ∷ []) atoms

-- one body, which asks nothing
abbrev pub outright : List (List ℕ)
outright = [] ∷ []

-- a type without parts; `!` has its bare unseen value where the place is not sure
abbrev pub unseen_bodies : (sure : Bool) → List (List ℕ)
unseen_bodies true = []
unseen_bodies false = outright

-- a type without arguments that is built in
abbrev pub base_bodies : (sure : Bool) → Base → List (List ℕ)
base_bodies sure bases.Never = unseen_bodies sure
base_bodies sure _ = outright

-- a reference, which asks nothing where the place is sure; where it is not, it asks for a value of the inner type
abbrev pub point_bodies : (sure : Bool) → List ℕ → List (List ℕ)
point_bodies true atoms = outright
point_bodies false atoms = atoms ∷ []

-- an array, which has a value without items where its length is 0
abbrev pub array_bodies : ℕ → List ℕ → List (List ℕ)
array_bodies n atoms = if nat_eq n 0 then outright else (atoms ∷ [])

-- the fields of a form
abbrev pub form_atoms : FormKind → List ℕ → List ℕ
form_atoms form_kinds.Unit atoms = []
form_atoms _ atoms = atoms

-- what a variant asks: each of its fields
abbrev pub variant_body : declared_variant.VariantEntry → List ℕ
variant_body v = form_atoms v.form (map (λ f. f.ty) v.fields.items)

-- nothing is asked
abbrev pub asks_nothing : List ℕ → Bool
asks_nothing [] = true
asks_nothing (a ∷ atoms) = false

-- these bodies; where one of them asks nothing, that one alone
abbrev pub least_asking : List (List ℕ) → List (List ℕ)
least_asking bodies = if list_any asks_nothing bodies then outright else bodies

-- the bodies of an enum: those of its variants, or one that asks nothing where later ones may come. Without variants it has its bare
-- unseen value where the place is not sure
abbrev pub enum_bodies : (sure later : Bool) → List (List ℕ) → List (List ℕ)
enum_bodies sure true bodies = outright
enum_bodies true false bodies = least_asking bodies
enum_bodies false false [] = outright
enum_bodies false false (b ∷ bs) = least_asking (b ∷ bs)

-- what a declared type asks
abbrev pub entry_bodies : (sure : Bool) → Entry → List (List ℕ)
entry_bodies sure (entries.Struct id variant) = variant_body variant ∷ []
entry_bodies sure (entries.Enum id name later variants) = enum_bodies sure later (map variant_body variants.items)
entry_bodies sure _ = []

-- the same by the entry that may be there
abbrev pub item_bodies : (sure : Bool) → Option Entry → List (List ℕ)
item_bodies sure (Some e) = entry_bodies sure e
item_bodies sure None = []

-- what a node with this head and these parts asks
abbrev pub node_bodies : (sure : Bool) → List Entry → Head → List ℕ → List (List ℕ)
node_bodies sure items (heads.Base b) parts = base_bodies sure b
node_bodies sure items heads.Tuple parts = parts ∷ []
node_bodies sure items (heads.Point mutable) parts = point_bodies sure parts
node_bodies sure items (heads.Array n) parts = array_bodies n parts
node_bodies sure items (heads.Named (owners.Item i)) parts = item_bodies sure (slice_get items i)
node_bodies sure items (heads.Named owners.Result) parts = each_alone parts
node_bodies sure items _ parts = outright

-- the clauses with this head and these bodies
abbrev pub said : ℕ → List (List ℕ) → List (ℕ × List ℕ)
said head bodies = map (λ b. (head, b)) bodies

-- the clauses of things that are numbered from there on
abbrev pub said_from : {A : Type 0} → (A → List (List ℕ)) → ℕ → List A → List (ℕ × List ℕ)
said_from bodies i [] = []
said_from bodies i (x ∷ xs) = said i (bodies x) ++ said_from bodies (i + 1) xs

-- a node's bodies
abbrev pub bodies_of : (sure : Bool) → List Entry → Node → List (List ℕ)
bodies_of sure items n = node_bodies sure items n.head n.parts.items

-- the clause as a pair
abbrev pub clause_pair : Clause → ℕ × List ℕ
clause_pair c = (c.head, c.body.items)
