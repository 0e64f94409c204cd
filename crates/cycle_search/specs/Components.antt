-- What stays true while components are searched for.
use Rattle.std.specs.Prelude.{◌≡◌, ◌<◌, ℕ, length}
use Rattle.std.specs.List.{All}
use Rattle.cycle_search.specs.declared.components.Search.{Search}

-- there are `count` nodes, and all nodes that the search keeps are among them
pub record IsInRange (count : ℕ) (search : Search) : Type 0 where
  pub len : length search.nodes.items ≡ count
  pub path : All (λ node. node < count) search.path.items
  pub «open» : All (λ node. node < count) search.open.items
