-- Rows and leaves as plain data.
use denote.Bor.{Bor}
use Rattle.std.specs.Prelude.{ℕ, List, map, Option, Some, None}
use Rattle.match_model.specs.ArenaPatterns.{MDePat}
use Rattle.match_model.specs.Rows.{Head as MHead}
use Rattle.pattern_arena.specs.declared.pattern.DePat.{DePat}
use Rattle.pattern_arena.specs.Trees.{tree}
use Rattle.pattern_matrix.specs.declared.rows.Head.{Head}
use Rattle.pattern_matrix.specs.declared.rows.Row.{Row}
use Rattle.pattern_matrix.specs.declared.rows.Leaf.{Leaf}
use Rattle.pattern_matrix.specs.ChosenLists.{kept_chosen}
use Rattle.pattern_matrix.specs.HeadLists.{kept_heads}
use Rattle.pattern_matrix.specs.Sparse.{SparseRow, SparseLeaf}

-- the head with the number of its column
abbrev pub plain_head : {T : Type 0} → Head T → ℕ × MDePat T
plain_head h = (h.column, tree h.pat.now)

-- the heads
abbrev pub plain_heads : {T : Type 0} → List (Head T) → List (ℕ × MDePat T)
plain_heads heads = map plain_head heads

-- the row
abbrev pub plain_row : {T : Type 0} → Row T → SparseRow T
plain_row r = record { heads = plain_heads (kept_heads r.heads); arm = r.arm; guarded = r.guarded; chosen = kept_chosen r.chosen }

-- the rows
abbrev pub plain_rows : {T : Type 0} → List (Row T) → List (SparseRow T)
plain_rows rows = map plain_row rows

-- the pattern, where there is one
abbrev pub plain_pattern : {T : Type 0} → Option (Bor (DePat T)) → MHead T
plain_pattern None = None
plain_pattern (Some p) = Some (tree p.now)

-- the leaf
abbrev pub plain_leaf : {T : Type 0} → Leaf T → SparseLeaf T
plain_leaf l = record { row = l.row; head = plain_pattern l.head; chosen = kept_chosen l.chosen }

-- the leaves
abbrev pub plain_leaves : {T : Type 0} → List (Leaf T) → List (SparseLeaf T)
plain_leaves leaves = map plain_leaf leaves
