-- Matrices that are lowered, as the definitions have them, and what is known of them.
use Rattle.std.specs.Prelude.{◌≡◌, ℕ, List, [], nat_lt, slice_get, Option, Some, None, cond}
use Rattle.match_model.specs.Constructors.{MCtor}
use Rattle.match_model.specs.Contexts.{Context}
use Rattle.match_model.specs.Keys.{Decision}
use Rattle.match_model.specs.Lists.{Every, Ordered, Among}
use Rattle.match_model.specs.Lowering.{ctors_at}
use Rattle.match_model.specs.Matrices.{MColumn, MRow, part_columns}
use Rattle.match_model.specs.Pieces.{ArePieces}
use Rattle.match_model.specs.RowOrder.{AreInOrder}
use Rattle.match_model.specs.Steps.{expand_head, specialise_head, default_head, rows_at, replaced_at}
use Rattle.match_model.specs.WellTyped.{AreHeadsTyped}
use Rattle.keyed_rows.specs.Parting.{RowParted}
use Rattle.keyed_steps.specs.Good.{IsGood, IsReady, IsMadeHead}
use Rattle.keyed_matrix.specs.Views.{plain_columns, plain_rows}
use Rattle.decision_tree.specs.Fronts.{IsFront}
use Rattle.decision_tree.specs.declared.frames.Matrix.{Matrix}

-- the columns
abbrev pub matrix_columns : {T : Type 0} → Matrix T → List (MColumn T)
matrix_columns m = plain_columns m.columns.items

-- the rows
abbrev pub matrix_rows : {T : Type 0} → Matrix T → List (MRow T)
matrix_rows m = plain_rows m.rows.items

-- the columns are of types of the context, and the heads of the rows are of the columns' types, with ranges that can be held
pub record IsTypedMatrix {T : Type 0} (IsType : T → Type 0) (cx : Context T) (columns : List (MColumn T))
    (rows : List (MRow T)) : Type 0 where
  pub types : Every (λ c. IsType c.type) columns
  pub heads : Every (λ r. AreHeadsTyped cx columns r.heads) rows
  pub made : Every (λ r. Every IsMadeHead r.heads) rows

-- a matrix that is well formed, of whose rows each is parted from those behind it
pub record IsGoodMatrix {T : Type 0} (IsType : T → Type 0) (cx : Context T) (decides : ℕ → Decision)
    (m : Matrix T) : Type 0 where
  pub good : IsGood IsType cx decides (matrix_columns m) (matrix_rows m)
  pub parted : Ordered (RowParted decides) (matrix_rows m)

-- the same, without an or-pattern in column `i`
pub record IsReadyMatrix {T : Type 0} (IsType : T → Type 0) (cx : Context T) (decides : ℕ → Decision) (i : ℕ)
    (m : Matrix T) : Type 0 where
  pub ready : IsReady IsType cx decides i (matrix_columns m) (matrix_rows m)
  pub parted : Ordered (RowParted decides) (matrix_rows m)

-- column `i` has this piece
pub record IsPieceAt {T : Type 0} (cx : Context T) (i : ℕ) (m : Matrix T) (piece : MCtor) : Type 0 where
  pub column : MColumn T
  pub there : slice_get (matrix_columns m) i ≡ Some column
  pub pieces : List MCtor
  pub are : ArePieces (cx.set_of column.type) (ctors_at i (matrix_rows m)) pieces
  pub among : Among piece pieces

-- these are the rows of the piece at column `i`, or the first of them alone where it is taken
pub record ArePieceRows {T : Type 0} (cx : Context T) (i : ℕ) (m : Matrix T) (piece : MCtor) (rows : List (MRow T)) :
    Type 0 where
  pub column : MColumn T
  pub there : slice_get (matrix_columns m) i ≡ Some column
  pub are : IsFront rows (rows_at (specialise_head piece (cx.arity piece column.type)) column.place i (matrix_rows m))

-- the rows and columns of the piece, or of its rows the first alone where it is taken
pub record IsEntered {T : Type 0} (cx : Context T) (decides : ℕ → Decision) (i : ℕ) (m : Matrix T) (piece : MCtor)
    (e : Matrix T) : Type 0 where
  pub column : MColumn T
  pub there : slice_get (matrix_columns m) i ≡ Some column
  pub columns : matrix_columns e ≡ replaced_at i (matrix_columns m) (part_columns cx column piece)
  pub whole : List (MRow T)
  pub rows : AreInOrder decides (rows_at (specialise_head piece (cx.arity piece column.type)) column.place i (matrix_rows m))
      whole
  pub front : IsFront (matrix_rows e) whole

-- the rows wild at column `i`, over the other columns
pub record IsDropped {T : Type 0} (decides : ℕ → Decision) (i : ℕ) (m e : Matrix T) : Type 0 where
  pub column : MColumn T
  pub there : slice_get (matrix_columns m) i ≡ Some column
  pub columns : matrix_columns e ≡ replaced_at i (matrix_columns m) []
  pub rows : AreInOrder decides (rows_at default_head column.place i (matrix_rows m)) (matrix_rows e)

-- the rows with the or-patterns of column `i` taken apart, over the same columns
pub record IsExpanded {T : Type 0} (decides : ℕ → Decision) (i : ℕ) (m e : Matrix T) : Type 0 where
  pub column : MColumn T
  pub there : slice_get (matrix_columns m) i ≡ Some column
  pub columns : matrix_columns e ≡ matrix_columns m
  pub rows : AreInOrder decides (rows_at expand_head column.place i (matrix_rows m)) (matrix_rows e)

-- the column with the fewest branches so far with their number, or this one where it has fewer
abbrev pub fewer : Option (ℕ × ℕ) → (i count : ℕ) → Option (ℕ × ℕ)
fewer None i n = Some (i, n)
fewer (Some (j, m)) i n = cond (nat_lt n m) (Some (i, n)) (Some (j, m))
