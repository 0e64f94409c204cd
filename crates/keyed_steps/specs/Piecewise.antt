-- What a context owes of the pieces of a column.
use Rattle.std.specs.Prelude.{◌≡◌, ◌≢◌, ℕ, Bool, true, false, List, Some, slice_get, IsTrue}
use Rattle.match_model.specs.Values.{MValue}
use Rattle.match_model.specs.Constructors.{MCtor, builds, belongs}
use Rattle.match_model.specs.Contexts.{Context}
use Rattle.match_model.specs.Pieces.{ArePieces}
use Rattle.match_model.specs.Trees.{case_has, is_else}
use Rattle.match_model.specs.Matrices.{MColumn, MRow}
use Rattle.match_model.specs.PieceStates.{is_present, named_in}
use Rattle.match_model.specs.DecisionTrees.{is_switchless, case_of}
use Rattle.match_model.specs.Keys.{Decision}
use Rattle.match_model.specs.Lists.{Every, Ordered, Among}
use Rattle.keyed_rows.specs.Dividing.{GoodAt}
use Rattle.match_model.specs.Lowering.{ctors_at, all_wild_at}
use Rattle.keyed_steps.specs.Fits.{HeadFits}
use Rattle.keyed_steps.specs.Good.{IsReady}

-- a piece is of the set, and each head of the column fits it
pub record IsFit {T : Type 0} (cx : Context T) (i : ℕ) (c : MColumn T) (rows : List (MRow T)) (pieces : List MCtor)
    (p : MCtor) : Type 0 where
  pub belong : belongs (cx.set_of c.type) p ≡ true
  pub fits : Every (λ r. GoodAt (HeadFits (named_in pieces) p) i r.heads) rows

-- so it is of every piece of a column
abbrev pub PiecesFit : {T : Type 0} → (IsType : T → Type 0) → (cx : Context T) → (decides : ℕ → Decision) → Type 0
PiecesFit {T} IsType cx decides =
    (i : ℕ) (c : MColumn T) (columns : List (MColumn T)) (rows : List (MRow T)) (pieces : List MCtor) (p : MCtor) →
    IsReady IsType cx decides i columns rows → slice_get columns i ≡ Some c →
    ArePieces (cx.set_of c.type) (ctors_at i rows) pieces → Among p pieces → IsFit cx i c rows pieces p

-- the pieces of a column are distinct, each value is built by one of them, and the case of a present piece has what it builds
pub record IsCutOnce {T : Type 0} (cx : Context T) (V : T → Bool → MValue → Type 0) (i : ℕ) (c : MColumn T)
    (rows : List (MRow T)) (pieces : List MCtor) : Type 0 where
  pub distinct : Ordered (λ (p q : MCtor). p ≢ q) pieces
  pub one : (u : MValue) → V c.type c.sure u → (p : MCtor) × Among p pieces × (builds (named_in pieces) p u ≡ true)
      × ((q : MCtor) → Among q pieces → builds (named_in pieces) q u ≡ true → q ≡ p)
  pub case : (p : MCtor) (u : MValue) → Among p pieces → IsTrue (is_present (ctors_at i rows) p) →
      is_switchless (cx.set_of c.type) ≡ false →
      (case_has (case_of p) u ≡ builds (named_in pieces) p u) × (is_else (case_of p) ≡ false)

-- so it is of every column with a constructor
abbrev pub PiecesCut : {T : Type 0} → (IsType : T → Type 0) → (cx : Context T) → (V : T → Bool → MValue → Type 0) →
    (decides : ℕ → Decision) → Type 0
PiecesCut {T} IsType cx V decides =
    (i : ℕ) (c : MColumn T) (columns : List (MColumn T)) (rows : List (MRow T)) (pieces : List MCtor) →
    IsReady IsType cx decides i columns rows → slice_get columns i ≡ Some c →
    ArePieces (cx.set_of c.type) (ctors_at i rows) pieces → all_wild_at i rows ≡ false →
    IsCutOnce cx V i c rows pieces
