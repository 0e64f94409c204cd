-- What the steps at a column ask and keep.
use Rattle.std.proofs.Common.{◌≡◌, ◌<◌, ℕ, Bool, List, [], length, Some, slice_get, sym, ◌∙◌, subst, IsTrue}
use Rattle.match_model.specs.Values.{MValue}
use Rattle.match_model.specs.Constructors.{MCtor, belongs}
use Rattle.match_model.specs.Contexts.{Context}
use Rattle.match_model.specs.ContextLaws.{PartsLaw, ValuesLaw}
use Rattle.match_model.specs.Keys.{Decision}
use Rattle.match_model.specs.Lists.{Every, Ordered, Among}
use Rattle.match_model.specs.Lowering.{ctors_at}
use Rattle.match_model.specs.Made.{IsMade}
use Rattle.match_model.specs.Matrices.{MColumn, MRow, part_columns}
use Rattle.match_model.specs.Pieces.{ArePieces}
use Rattle.match_model.specs.RowOrder.{row_key, AreInOrder}
use Rattle.match_model.specs.Rows.{Head}
use Rattle.match_model.specs.Steps.{expand_head, specialise_head, default_head, rows_at, replaced_at}
use Rattle.match_model.specs.WellTyped.{AreHeadsTyped}
use Rattle.pat_context.specs.Laws.{HasFewItems}
use Rattle.constructor_sets.proofs.Whole.{made_pieces}
use Rattle.constructor_sets.specs.Columns.{AreColumnPieces}
use Rattle.keyed_rows.proofs.Dividing.{drop-divides, piece-divides, expand-divides}
use Rattle.keyed_rows.proofs.Lists.{every-to, every-all}
use Rattle.keyed_rows.proofs.RowOrder.{sorted-parted}
use Rattle.keyed_rows.specs.Dividing.{AreFree, GoodAt, HasCount}
use Rattle.keyed_rows.specs.Parting.{RowParted}
use Rattle.keyed_steps.proofs.Standing.{good-from, column-at}
use Rattle.keyed_steps.specs.Engine.{IsEngine}
use Rattle.keyed_steps.specs.Good.{IsGoodRow, IsGoodColumn, IsGood, IsReady}
use Rattle.keyed_matrix.specs.Steps.{AreLonger}
use Rattle.keyed_matrix.specs.Turns.{IsOneFirst}
use Rattle.tree_laws.proofs.Engine.{context-engine}
use Rattle.tree_laws.proofs.InColumn.{all-from, all-among}
use Rattle.tree_laws.proofs.PiecesFit.{IsColumnCtor, column-ctors, column-heads}
use Rattle.decision_tree.specs.Fronts.{IsFront}
use Rattle.decision_tree.specs.Matrices.{matrix_columns, matrix_rows, IsPieceAt, ArePieceRows}
use Rattle.decision_tree.specs.declared.frames.Matrix.{Matrix}
use Rattle.decision_tree.proofs.OneFirst.{one-first}
use Rattle.decision_tree.proofs.TypedRows.{longer-typed}

-- a piece of the column that is there
pub piece-here : {T : Type 0} (cx : Context T) (i : ℕ) (m : Matrix T) (p : MCtor) (c : MColumn T) → IsPieceAt cx i m p →
    slice_get (matrix_columns m) i ≡ Some c → (pieces : List MCtor)
    × ArePieces (cx.set_of c.type) (ctors_at i (matrix_rows m)) pieces × Among p pieces
piece-here {T} cx i m p c at there = (
  at.pieces,
  subst (λ (x : MColumn T). ArePieces (cx.set_of x.type) (ctors_at i (matrix_rows m)) at.pieces)
      (one at.column c (sym at.there ∙ there)) at.are,
  at.among,
)
  where
    one : (x y : MColumn T) → Some x ≡ Some y → x ≡ y
    one x y e = cc

-- the rows of the piece, or the first of them
pub piece-rows : {T : Type 0} (cx : Context T) (i : ℕ) (m : Matrix T) (p : MCtor) (c : MColumn T) (rows : List (MRow T)) →
    ArePieceRows cx i m p rows → slice_get (matrix_columns m) i ≡ Some c →
    IsFront rows (rows_at (specialise_head p (cx.arity p c.type)) c.place i (matrix_rows m))
piece-rows {T} cx i m p c rows are there =
    subst (λ d. IsFront rows (rows_at (specialise_head p (cx.arity p d.type)) d.place i (matrix_rows m)))
    (one are.column c (sym are.there ∙ there)) are.are
  where
    one : (x y : MColumn T) → Some x ≡ Some y → x ≡ y
    one x y e = cc

module _ {T : Type 0} (IsType : T → Type 0) (cx : Context T) (decides : ℕ → Decision) where
  abbrev pub IsFreeRow : MRow T → Type 0
  IsFreeRow r = AreFree decides (row_key decides r) 0 r.heads

  -- of good rows no or-pattern that is left is decided
  pub rows-are-free : (columns : List (MColumn T)) (rows : List (MRow T)) → IsGood IsType cx decides columns rows →
      Every IsFreeRow rows
  rows-are-free columns rows g = every-to (IsGoodRow cx decides columns) IsFreeRow rows (λ r h. h.free) g.rows_are

  pub any-head : (i : ℕ) (rows : List (MRow T)) → Every (λ r. GoodAt (λ (h : Head T). Unit {0}) i r.heads) rows
  any-head i rows =
      every-all (λ r. GoodAt (λ (h : Head T). Unit {0}) i r.heads) rows
      (λ r. good-from (λ (h : Head T). Unit {0}) i r.heads (λ h e. tt))

  -- each row of a good matrix has a head at each of its columns
  pub longer-good : (i : ℕ) (columns : List (MColumn T)) (rows : List (MRow T)) → i < length columns →
      IsGood IsType cx decides columns rows → AreLonger i rows
  longer-good i columns rows within g =
      longer-typed cx i columns rows within
      (every-to (IsGoodRow cx decides columns) (λ r. AreHeadsTyped cx columns r.heads) rows (λ r h. h.typed) g.rows_are)

  module _ (V : T → Bool → MValue → Type 0) (law : PartsLaw IsType V cx) (values : ValuesLaw IsType V cx)
      (i : ℕ) (c : MColumn T) (columns : List (MColumn T)) (rows : List (MRow T)) (there : slice_get columns i ≡ Some c)
      (parted : Ordered (RowParted decides) rows) where
    engine : IsEngine cx V decides (IsGood IsType cx decides) (IsReady IsType cx decides)
    engine = context-engine IsType cx V law values decides

    module _ (good : IsGood IsType cx decides columns rows) where
      -- of two rows with their or-patterns taken apart one comes first
      pub expanded-first : Ordered (IsOneFirst decides) (rows_at expand_head c.place i rows)
      expanded-first =
          one-first decides (λ h. Unit {0}) 1 expand_head (expand-divides decides) c.place i rows (any-head i rows)
          (rows-are-free columns rows good) parted

      pub expanded-ready : (next : List (MRow T)) → AreInOrder decides (rows_at expand_head c.place i rows) next →
          IsReady IsType cx decides i columns next
      expanded-ready next order = engine.expanded i c columns rows next good there order

      pub expanded-parted : (next : List (MRow T)) → AreInOrder decides (rows_at expand_head c.place i rows) next →
          Ordered (RowParted decides) next
      expanded-parted next order =
          sorted-parted decides (λ h. Unit {0}) 1 expand_head (expand-divides decides) c.place i rows
          (rows-are-free columns rows good) (any-head i rows) parted next order

    module _ (ready : IsReady IsType cx decides i columns rows) where
      pub dropped-good : (next : List (MRow T)) → AreInOrder decides (rows_at default_head c.place i rows) next →
          IsGood IsType cx decides (replaced_at i columns []) next
      dropped-good next order = engine.dropped i c columns rows next ready there order

      pub dropped-parted : (next : List (MRow T)) → AreInOrder decides (rows_at default_head c.place i rows) next →
          Ordered (RowParted decides) next
      dropped-parted next order =
          sorted-parted decides (λ h. Unit {0}) 0 default_head (drop-divides decides) c.place i rows
          (rows-are-free columns rows ready.good) (any-head i rows) parted next order

      module _ (pieces : List MCtor) (p : MCtor) (are : ArePieces (cx.set_of c.type) (ctors_at i rows) pieces)
          (among : Among p pieces) where
        pub counted : Every (λ r. GoodAt (HasCount p (cx.arity p c.type)) i r.heads) rows
        counted = engine.counted i c columns rows pieces p ready there are among

        type : IsType c.type
        type =
            let column : IsGoodColumn IsType c =
            column-at (IsGoodColumn IsType) columns i c ready.good.columns_are there in column.type

        -- the pieces of the column are of its set, and their items can be held
        column-pieces : AreColumnPieces (cx.set_of c.type) (ctors_at i rows) pieces
        column-pieces =
            made_pieces (cx.set_of c.type) (ctors_at i rows) pieces (values.made c.type type) (values.ascend c.type type)
            (column-heads IsType cx V values decides i c columns rows ready there)
            (all-from IsMade (ctors_at i rows) (every-to (IsColumnCtor (cx.set_of c.type)) IsMade (ctors_at i rows)
            (λ k h. h.made) (column-ctors IsType cx V values decides i c columns rows ready there))) are

        pub piece-type : IsType c.type
        piece-type = type

        pub piece-belongs : IsTrue (belongs (cx.set_of c.type) p)
        piece-belongs = all-among (λ q. IsTrue (belongs (cx.set_of c.type) q)) pieces p column-pieces.belong among

        pub piece-held : HasFewItems p
        piece-held = all-among HasFewItems pieces p column-pieces.held among

        pub entered-good : (next : List (MRow T)) →
            AreInOrder decides (rows_at (specialise_head p (cx.arity p c.type)) c.place i rows) next →
            IsGood IsType cx decides (replaced_at i columns (part_columns cx c p)) next
        entered-good next order = engine.entered i c columns rows next pieces p ready there are among order

        pub entered-parted : (next : List (MRow T)) →
            AreInOrder decides (rows_at (specialise_head p (cx.arity p c.type)) c.place i rows) next →
            Ordered (RowParted decides) next
        entered-parted next order =
            sorted-parted decides (HasCount p (cx.arity p c.type)) (cx.arity p c.type)
            (specialise_head p (cx.arity p c.type)) (piece-divides decides p (cx.arity p c.type)) c.place i rows
            (rows-are-free columns rows ready.good) counted parted next order
