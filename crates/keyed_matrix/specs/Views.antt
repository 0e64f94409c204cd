-- Rows and columns as the definitions have them.
use denote.Bor.{Bor}
use Rattle.std.specs.Prelude.{List, [], ◌∷◌, map, replicate, Option, Some, None}
use Rattle.std.specs.List.{flat_map}
use Rattle.match_model.specs.Rows.{Head}
use Rattle.match_model.specs.Trees.{MBind}
use Rattle.match_model.specs.Matrices.{MColumn, MRow, bind_at}
use Rattle.pat_context.specs.Views.{plain_place, is_sure}
use Rattle.pattern_arena.specs.declared.pattern.DePat.{DePat}
use Rattle.pattern_arena.specs.Trees.{tree, plain_bound}
use Rattle.keyed_matrix.specs.declared.rows.Caught.{Caught}
use Rattle.keyed_matrix.specs.declared.rows.KeyedColumn.{KeyedColumn}
use Rattle.keyed_matrix.specs.declared.rows.HeadRun.{HeadRun}
use Rattle.keyed_matrix.specs.declared.rows.HeadRun.TheVariants.{Wilds, Written}
use Rattle.keyed_matrix.specs.declared.rows.KeyedRow.{KeyedRow}

-- the head
abbrev pub plain_head : {T : Type 0} → Option (Bor (DePat T)) → Head T
plain_head None = None
plain_head (Some p) = Some (tree p.now)

-- heads that stand side by side
abbrev pub plain_run : {T : Type 0} → HeadRun T → List (Head T)
plain_run (Wilds n) = replicate n None
plain_run (Written p) = Some (tree p.now) ∷ []

-- the heads
abbrev pub plain_heads : {T : Type 0} → List (HeadRun T) → List (Head T)
plain_heads heads = flat_map plain_run heads

-- the name with the place of what it holds
abbrev pub plain_caught : Caught → MBind
plain_caught c = bind_at (plain_place c.place.now) (plain_bound c.bound)

-- the row
abbrev pub plain_row : {T : Type 0} → KeyedRow T → MRow T
plain_row r = record {
  heads = plain_heads r.heads.items;
  arm = r.arm;
  guarded = r.guarded;
  chosen = r.chosen.items;
  caught = map plain_caught r.caught.items;
}

-- the rows
abbrev pub plain_rows : {T : Type 0} → List (KeyedRow T) → List (MRow T)
plain_rows rows = map plain_row rows

-- the column
abbrev pub plain_column : {T : Type 0} → KeyedColumn T → MColumn T
plain_column c = record { place = plain_place c.place.now; type = c.ty; sure = is_sure c.validity }

-- the columns
abbrev pub plain_columns : {T : Type 0} → List (KeyedColumn T) → List (MColumn T)
plain_columns columns = map plain_column columns
