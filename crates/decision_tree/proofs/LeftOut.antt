-- What a matrix keeps when columns in which all rows are wild are left out.
use Rattle.std.proofs.Common.{◌≡◌, ◌<◌, ℕ, Bool, false, List, [], ◌∷◌, length, get_or, refl, sym, ◌∙◌, arith}
use Rattle.match_model.specs.Values.{MValue}
use Rattle.match_model.specs.ArenaPatterns.{MDeMatch}
use Rattle.match_model.specs.Contexts.{Context}
use Rattle.match_model.specs.ContextLaws.{PartsLaw, ValuesLaw}
use Rattle.match_model.specs.DecisionTrees.{MTree, all_wild}
use Rattle.match_model.specs.FewestBranches.{IsFewest}
use Rattle.match_model.specs.Keys.{Decision}
use Rattle.match_model.specs.Lists.{Ordered}
use Rattle.match_model.specs.Lowering.{Lowers}
use Rattle.match_model.specs.Matrices.{MColumn, MRow}
use Rattle.keyed_rows.specs.Parting.{RowParted}
use Rattle.keyed_rows.proofs.Lists.{every-to}
use Rattle.keyed_steps.specs.Good.{IsGoodRow, IsGood}
use Rattle.keyed_matrix.specs.Views.{plain_row, plain_rows}
use Rattle.keyed_matrix.specs.declared.rows.KeyedRow.{KeyedRow}
use Rattle.decision_tree.specs.declared.frames.Frame.{Frame}
use Rattle.decision_tree.specs.declared.frames.Matrix.{Matrix}
use Rattle.decision_tree.specs.Known.{IsInScope}
use Rattle.decision_tree.specs.Matrices.{matrix_columns, matrix_rows, IsGoodMatrix}
use Rattle.decision_tree.specs.Waiting.{IsBare, Awaits}
use Rattle.decision_tree.specs.WildColumns.{AreAsLong, LeavesOut, none_out, one_out}
use Rattle.decision_tree.proofs.Going.{leads-more}
use Rattle.decision_tree.proofs.TypedRows.{as-many}
use Rattle.decision_tree.proofs.WildColumns.{are-wild, all-wild-cut}
use Rattle.decision_tree.proofs.WildGood.{parted-cut, good-cut, scope-cut}
use Rattle.decision_tree.proofs.WildLeads.{tree-beside}

module _ {T : Type 0} where
  -- the first row is no leaf
  abbrev pub IsOpenFirst : List (MRow T) → Type 0
  IsOpenFirst [] = Unit {0}
  IsOpenFirst (r ∷ rows) = all_wild r ≡ false

  out-some : (columns : List (MColumn T)) (rows : List (MRow T)) (cs : List (MColumn T)) (rs : List (MRow T)) →
      LeavesOut columns rows cs rs → 0 < length rows → 0 < length rs
  out-some columns rows _ _ none_out l = l
  out-some columns rows _ _ (one_out i c cs [] there wild k) l = out-some columns rows cs [] k l
  out-some columns rows _ _ (one_out i c cs (r ∷ rs) there wild k) l = omega arith

  out-open : (columns : List (MColumn T)) (rows : List (MRow T)) (cs : List (MColumn T)) (rs : List (MRow T)) →
      LeavesOut columns rows cs rs → IsOpenFirst rows → IsOpenFirst rs
  out-open columns rows _ _ none_out h = h
  out-open columns rows _ _ (one_out i c cs [] there wild k) h = tt
  out-open columns rows _ _ (one_out i c cs (r ∷ rs) there wild k) h =
      all-wild-cut c.place i r (are-wild i (r ∷ rs) wild).0 ∙ out-open columns rows cs (r ∷ rs) k h

  -- the same of rows as the program has them
  pub out-some-rows : (columns cs : List (MColumn T)) (rows new : List (KeyedRow T)) →
      LeavesOut columns (plain_rows rows) cs (plain_rows new) → 0 < length rows → 0 < length new
  out-some-rows columns cs [] new k l = absurd (omega (arith, l))
  out-some-rows columns cs (r ∷ rows) [] k l =
      let none : 0 < 0 = out-some columns (plain_rows (r ∷ rows)) cs [] k (omega arith) in absurd (omega (arith, none))
  out-some-rows columns cs (r ∷ rows) (s ∷ new) k l = omega arith

  pub out-open-rows : (columns cs : List (MColumn T)) (rows new : List (KeyedRow T)) →
      LeavesOut columns (plain_rows rows) cs (plain_rows new) → 0 < length rows →
      ((d : KeyedRow T) → all_wild (plain_row (get_or rows 0 d)) ≡ false) → (d : KeyedRow T) →
      all_wild (plain_row (get_or new 0 d)) ≡ false
  out-open-rows columns cs [] new k l h d = absurd (omega (arith, l))
  out-open-rows columns cs (r ∷ rows) [] k l h d =
      let none : 0 < 0 = out-some columns (plain_rows (r ∷ rows)) cs [] k (omega arith) in absurd (omega (arith, none))
  out-open-rows columns cs (r ∷ rows) (s ∷ new) k l h d =
      out-open columns (plain_rows (r ∷ rows)) cs (plain_rows (s ∷ new)) k (h r)

module _ {T : Type 0} (IsType : T → Type 0) (cx : Context T) (V : T → Bool → MValue → Type 0)
    (decides : ℕ → Decision) (m : MDeMatch T) where
  good-out : (columns : List (MColumn T)) (rows : List (MRow T)) (cs : List (MColumn T)) (rs : List (MRow T)) →
      LeavesOut columns rows cs rs → IsGood IsType cx decides columns rows → IsGood IsType cx decides cs rs
  good-out columns rows _ _ none_out g = g
  good-out columns rows _ _ (one_out i c cs rs there wild k) g =
      good-cut decides IsType cx c.place i cs rs (good-out columns rows cs rs k g)

  parted-out : (columns : List (MColumn T)) (rows : List (MRow T)) (cs : List (MColumn T)) (rs : List (MRow T)) →
      LeavesOut columns rows cs rs → Ordered (RowParted decides) rows → Ordered (RowParted decides) rs
  parted-out columns rows _ _ none_out o = o
  parted-out columns rows _ _ (one_out i c cs rs there wild k) o =
      parted-cut decides c.place i rs (parted-out columns rows cs rs k o)

  scope-out : (columns : List (MColumn T)) (rows : List (MRow T)) (cs : List (MColumn T)) (rs : List (MRow T)) →
      LeavesOut columns rows cs rs → IsInScope cx m columns rows → IsInScope cx m cs rs
  scope-out columns rows _ _ none_out s = s
  scope-out columns rows _ _ (one_out i c cs rs there wild k) s =
      scope-cut cx m c.place i cs rs (scope-out columns rows cs rs k s)

  module _ (law : PartsLaw IsType V cx) (values : ValuesLaw IsType V cx) (BareOnly : Type 0) where
    -- the tree of what is left is that of all
    leads-out : (columns : List (MColumn T)) (rows : List (MRow T)) (cs : List (MColumn T)) (rs : List (MRow T)) →
        LeavesOut columns rows cs rs → IsGood IsType cx decides columns rows → Ordered (RowParted decides) rows →
        (t : MTree) → Lowers cx V decides (IsFewest cx V) BareOnly cs rs t →
        Lowers cx V decides (IsFewest cx V) BareOnly columns rows t
    leads-out columns rows _ _ none_out g o t l = l
    leads-out columns rows _ _ (one_out i c cs rs there wild k) g o t l =
        leads-out columns rows cs rs k g o t
        (tree-beside IsType cx decides V law values BareOnly c _ _ t l i cs rs refl refl (record {
          good = good-out columns rows cs rs k g;
          parted = parted-out columns rows cs rs k o;
          there = there;
          wild = are-wild i rs wild;
        }))

  abbrev Waits : List (Frame T) → (now : List MTree) → List (MColumn T) → List (MRow T) → Type 0
  Waits = Awaits IsType cx V decides m

  abbrev IsLess : Matrix T → Matrix T → Type 0
  IsLess e next = LeavesOut (matrix_columns e) (matrix_rows e) (matrix_columns next) (matrix_rows next)

  -- a good matrix has a head for each column in each row
  pub long-matrix : (e : Matrix T) → IsGoodMatrix IsType cx decides e → AreAsLong (matrix_columns e) (matrix_rows e)
  long-matrix e g =
      every-to (IsGoodRow cx decides (matrix_columns e)) (λ r. length r.heads ≡ length (matrix_columns e)) (matrix_rows e)
      (λ r h. sym (as-many cx (matrix_columns e) r.heads h.typed)) g.good.rows_are

  pub out-matrix : (e next : Matrix T) → IsLess e next → IsGoodMatrix IsType cx decides e →
      IsGoodMatrix IsType cx decides next
  out-matrix e next k g = record {
    good = good-out (matrix_columns e) (matrix_rows e) (matrix_columns next) (matrix_rows next) k g.good;
    parted = parted-out (matrix_columns e) (matrix_rows e) (matrix_columns next) (matrix_rows next) k g.parted;
  }

  pub out-scope : (e next : Matrix T) → IsLess e next → IsInScope cx m (matrix_columns e) (matrix_rows e) →
      IsInScope cx m (matrix_columns next) (matrix_rows next)
  out-scope e next k s = scope-out (matrix_columns e) (matrix_rows e) (matrix_columns next) (matrix_rows next) k s

  pub out-waits : PartsLaw IsType V cx → ValuesLaw IsType V cx → (frames : List (Frame T)) (now : List MTree)
      (e next : Matrix T) → IsLess e next → IsGoodMatrix IsType cx decides e →
      Waits frames now (matrix_columns e) (matrix_rows e) → Waits frames now (matrix_columns next) (matrix_rows next)
  out-waits law values frames now e next k g a =
      leads-more IsType cx V decides m frames now (matrix_columns next) (matrix_columns e) (matrix_rows next)
      (matrix_rows e)
      (leads-out law values (IsBare V m) (matrix_columns e) (matrix_rows e) (matrix_columns next) (matrix_rows next) k
      g.good g.parted) a
