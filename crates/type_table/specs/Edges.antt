-- No meaning: a reading of which types a type has by value (`HasByValue` of specs/Faults.antt), as the edges of a graph. Of `count`
-- items the item `i` is the node `i` of the graph, and the node `n` of the table is `count + n`. An item goes to its fields, a tuple,
-- an array, `Option` and `Result` to their parts, and a declared type to its item.
use Rattle.std.specs.Prelude.{ℕ, ◌+◌, List, [], ◌∷◌, ◌++◌, map, nat_lt, if◌then◌else◌}
use Rattle.type_names.specs.declared.meanings.Owner.TheVariants as owners
use Rattle.type_table.specs.declared.nodes.Head.{Head}
use Rattle.type_table.specs.declared.nodes.Head.TheVariants as heads
use Rattle.type_table.specs.declared.nodes.Node.{Node}
use Rattle.type_table.specs.declared.entries.VariantEntry as declared_variant
use Rattle.type_table.specs.declared.entries.Entry.{Entry}
use Rattle.type_table.specs.declared.entries.Entry.TheVariants as entries
use Rattle.type_table.specs.Bodies.{form_atoms}

-- the nodes of the graph for these nodes of the table
abbrev pub node_atoms : (count : ℕ) → List ℕ → List ℕ
node_atoms count parts = map (λ p. count + p) parts

-- the fields of a variant
abbrev pub variant_edges : (count : ℕ) → declared_variant.VariantEntry → List ℕ
variant_edges count v = form_atoms v.form (node_atoms count (map (λ f. f.ty) v.fields.items))

-- a declared type goes to its item
abbrev pub item_edges : (count : ℕ) → ℕ → List ℕ
item_edges count i = if nat_lt i count then (i ∷ []) else []

-- where a node with this head and these parts goes
abbrev pub node_edges : (count : ℕ) → Head → List ℕ → List ℕ
node_edges count heads.Tuple parts = node_atoms count parts
node_edges count (heads.Array n) parts = node_atoms count parts
node_edges count (heads.Named (owners.Item i)) parts = item_edges count i
node_edges count (heads.Named owners.Option) parts = node_atoms count parts
node_edges count (heads.Named owners.Result) parts = node_atoms count parts
node_edges count _ parts = []

-- where a node goes
abbrev pub edges_of : (count : ℕ) → Node → List ℕ
edges_of count n = node_edges count n.head n.parts.items

-- the fields of all variants
abbrev pub variants_edges : (count : ℕ) → List declared_variant.VariantEntry → List ℕ
variants_edges count [] = []
variants_edges count (v ∷ vs) = variant_edges count v ++ variants_edges count vs

-- where an item goes
abbrev pub entry_edges : (count : ℕ) → Entry → List ℕ
entry_edges count (entries.Struct id variant) = variant_edges count variant
entry_edges count (entries.Enum id name later variants) = variants_edges count variants.items
entry_edges count _ = []
