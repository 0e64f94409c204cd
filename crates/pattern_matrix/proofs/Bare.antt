-- Bare heads of patterns in the arena.
use Rattle.std.proofs.Common.{◌≡◌, Some, None, true, false, refl}
use Rattle.match_model.specs.Rows.{is_wild, is_wild_ctor}
use Rattle.pattern_arena.specs.declared.pattern.DePat.{DePat}
use Rattle.pattern_arena.specs.Trees.{tree, placed_ctor}
use Rattle.pattern_arena.proofs.TreeFacts.{tree_out}
use Rattle.pattern_matrix.specs.Sparse.{bare_head}

pub is_wild-tree : {T : Type 0} (p : DePat T) → is_wild (Some (tree p)) ≡ is_wild_ctor (placed_ctor p)
is_wild-tree p = rw (tree_out p) refl

pub bare-wild : {T : Type 0} (p : DePat T) → is_wild_ctor (placed_ctor p) ≡ true → bare_head (Some (tree p)) ≡ None
bare-wild p h = rw (is_wild-tree p, h) refl

pub bare-other : {T : Type 0} (p : DePat T) → is_wild_ctor (placed_ctor p) ≡ false → bare_head (Some (tree p)) ≡ Some (tree p)
bare-other p h = rw (is_wild-tree p, h) refl

pub ruleset bares = (is_wild-tree, bare-wild, bare-other)
