-- Rows with what was decided of them, and their order.
use Rattle.std.specs.Prelude.{◌≡◌, ◌⊎◌, ℕ, List, map}
use Rattle.std.specs.declared.cmp.Ordering.{Ordering}
use Rattle.std.specs.Ordering.{ordering_then, nat_cmp}
use Rattle.std.specs.Cmp.Lexicographic.{slice_cmp}
use Rattle.match_model.specs.Keys.{Decision, key_of}
use Rattle.match_model.specs.Matrices.{MRow}
use Rattle.match_model.specs.RowOrder.{row_key, RowFirst}
use Rattle.keyed_matrix.specs.declared.order.Turn.{Turn}
use Rattle.keyed_matrix.specs.declared.rows.KeyedRow.{KeyedRow}
use Rattle.keyed_matrix.specs.KeyLists.{DoAscend}
use Rattle.keyed_matrix.specs.Deciding.{plain_decision, decided_cmp}
use Rattle.keyed_matrix.specs.Views.{plain_row}

-- by the arms, then by what was decided
abbrev pub turn_cmp : {T : Type 0} → Turn T → Turn T → Ordering
turn_cmp x y = ordering_then (nat_cmp x.row.arm y.row.arm) (slice_cmp decided_cmp x.key.items y.key.items)

-- the list has what was decided of the row, each or-pattern once, ascending
pub record HasKey {T : Type 0} (decides : ℕ → Decision) (x : Turn T) : Type 0 where
  pub ascends : DoAscend (map plain_decision x.key.items)
  pub same : (o : ℕ) → key_of (map plain_decision x.key.items) o ≡ row_key decides (plain_row x.row) o

-- the rows
abbrev pub turn_rows : {T : Type 0} → List (Turn T) → List (KeyedRow T)
turn_rows xs = map (λ x. x.row) xs

-- one of the two rows comes first
abbrev pub IsOneFirst : {T : Type 0} → (decides : ℕ → Decision) → MRow T → MRow T → Type 0
IsOneFirst decides r s = RowFirst decides r s ⊎ RowFirst decides s r
