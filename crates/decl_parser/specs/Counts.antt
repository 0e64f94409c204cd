-- How many things of each kind a file has (our own choice).
use Rattle.std.specs.Prelude.{ℕ, ◌≤◌, List, length, sum_by}
use Rattle.decl_syntax.specs.Items.{ItemTree}
pub use Rattle.decl_syntax.specs.Counts.{pattern_nodes, nodes_within, list_nodes, field_nodes, kind_variants, kind_arms, kind_nodes}

-- a file has at most so many items, variants, arms and nodes of patterns
pub record HasAtMost (most : ℕ) (items : List ItemTree) : Type 0 where
  pub few_items : length items ≤ most
  pub few_variants : sum_by (λ i. kind_variants i.kind) items ≤ most
  pub few_arms : sum_by (λ i. kind_arms i.kind) items ≤ most
  pub few_nodes : sum_by (λ i. kind_nodes i.kind) items ≤ most
