-- How many variants, arms and nodes of patterns an item has (our own choice).
use Rattle.std.specs.Prelude.{ℕ, suc, ◌+◌, length, sum_by}
use Rattle.decl_syntax.specs.Patterns as p
use Rattle.decl_syntax.specs.Patterns.{PatternTree, Shape, PatternTrees, FieldTrees}
use Rattle.decl_syntax.specs.Items as trees
use Rattle.decl_syntax.specs.Items.{KindTree}

-- how many nodes a pattern has, itself among them
abbrev mutual
  pub pattern_nodes : PatternTree → ℕ
  pattern_nodes (p.At from shape) = suc (nodes_within shape)

  pub nodes_within : Shape → ℕ
  nodes_within (p.BindAs name by_ref mutable q) = pattern_nodes q
  nodes_within (p.TupleForm path qs) = list_nodes qs
  nodes_within (p.Brace path fs rest) = field_nodes fs
  nodes_within (p.Tuple qs) = list_nodes qs
  nodes_within (p.Group q) = pattern_nodes q
  nodes_within (p.Slice qs) = list_nodes qs
  nodes_within (p.Point mutable q) = pattern_nodes q
  nodes_within (p.Or qs) = list_nodes qs
  nodes_within _ = 0

  pub list_nodes : PatternTrees → ℕ
  list_nodes p.none = 0
  list_nodes (p.more q qs) = pattern_nodes q + list_nodes qs

  pub field_nodes : FieldTrees → ℕ
  field_nodes p.no_field = 0
  field_nodes (p.and_field name short attrs q fs) = pattern_nodes q + field_nodes fs

-- how many variants an item has
abbrev pub kind_variants : KindTree → ℕ
kind_variants (trees.Enum name variants) = length variants
kind_variants _ = 0

-- how many arms an item has
abbrev pub kind_arms : KindTree → ℕ
kind_arms (trees.Function name param deref arms) = length arms
kind_arms _ = 0

-- how many nodes the patterns of an item have
abbrev pub kind_nodes : KindTree → ℕ
kind_nodes (trees.Function name param deref arms) = sum_by (λ a. pattern_nodes a.pattern) arms
kind_nodes _ = 0
