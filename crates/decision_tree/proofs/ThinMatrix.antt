-- A matrix of which wildcards that bind nothing were taken out is lowered in its place.
use Rattle.std.proofs.Common.{◌≡◌, ℕ, Bool, List, sym, ap, subst}
use Rattle.match_model.specs.Values.{MValue}
use Rattle.match_model.specs.ArenaPatterns.{MDeMatch}
use Rattle.match_model.specs.Contexts.{Context}
use Rattle.match_model.specs.ContextLaws.{PartsLaw, ValuesLaw}
use Rattle.match_model.specs.DecisionTrees.{MTree}
use Rattle.match_model.specs.Keys.{Decision}
use Rattle.match_model.specs.Lists.{Ordered}
use Rattle.match_model.specs.Matrices.{MColumn, MRow}
use Rattle.keyed_rows.specs.Parting.{RowParted}
use Rattle.keyed_steps.specs.Good.{IsGood}
use Rattle.keyed_matrix.specs.Views.{plain_columns}
use Rattle.decision_tree.specs.Thin.{thin_rows}
use Rattle.decision_tree.specs.Known.{IsInScope}
use Rattle.decision_tree.specs.Matrices.{matrix_columns, matrix_rows, IsGoodMatrix}
use Rattle.decision_tree.specs.Waiting.{IsBare, Awaits, IsTurn}
use Rattle.decision_tree.specs.declared.frames.Frame.{Frame}
use Rattle.decision_tree.specs.declared.frames.Matrix.{Matrix}
use Rattle.decision_tree.specs.declared.frames.Turn.TheVariants.{Lower}
use Rattle.decision_tree.proofs.ThinGood.{good-thin, parted-thin, scope-thin}
use Rattle.decision_tree.proofs.ThinHeads.{rows-twice}
use Rattle.decision_tree.proofs.ThinLeads.{tree-alike}
use Rattle.decision_tree.proofs.Going.{leads-more}

-- the same columns, and the rows without such wildcards
pub record IsThinOf {T : Type 0} (e next : Matrix T) : Type 0 where
  pub columns : next.columns ≡ e.columns
  pub rows : matrix_rows next ≡ thin_rows (matrix_rows e)

module _ {T : Type 0} (IsType : T → Type 0) (cx : Context T) (V : T → Bool → MValue → Type 0)
    (decides : ℕ → Decision) (m : MDeMatch T) where
  abbrev Waits : List (Frame T) → (now : List MTree) → List (MColumn T) → List (MRow T) → Type 0
  Waits = Awaits IsType cx V decides m

  thin-matrix : (e next : Matrix T) → IsThinOf e next → IsGoodMatrix IsType cx decides e →
      IsGoodMatrix IsType cx decides next
  thin-matrix e next b g = record {
    good =
        subst (λ q. IsGood IsType cx decides q (matrix_rows next)) (ap (λ v. plain_columns v.items) (sym b.columns))
        (subst (IsGood IsType cx decides (matrix_columns e)) (sym b.rows)
        (good-thin decides IsType cx (matrix_columns e) (matrix_rows e) g.good));
    parted = subst (Ordered (RowParted decides)) (sym b.rows) (parted-thin decides (matrix_rows e) g.parted);
  }

  thin-scope : (e next : Matrix T) → IsThinOf e next → IsInScope cx m (matrix_columns e) (matrix_rows e) →
      IsInScope cx m (matrix_columns next) (matrix_rows next)
  thin-scope e next b s =
      subst (λ q. IsInScope cx m q (matrix_rows next)) (ap (λ v. plain_columns v.items) (sym b.columns))
      (subst (IsInScope cx m (matrix_columns e)) (sym b.rows) (scope-thin cx m (matrix_columns e) (matrix_rows e) s))

  thin-waits : PartsLaw IsType V cx → ValuesLaw IsType V cx → (frames : List (Frame T)) (now : List MTree)
      (e next : Matrix T) → IsThinOf e next → IsGoodMatrix IsType cx decides e →
      Waits frames now (matrix_columns e) (matrix_rows e) → Waits frames now (matrix_columns next) (matrix_rows next)
  thin-waits law values frames now e next b g a =
      subst (λ q. Waits frames now q (matrix_rows next)) (ap (λ v. plain_columns v.items) (sym b.columns))
      (subst (Waits frames now (matrix_columns e)) (sym b.rows)
      (leads-more IsType cx V decides m frames now (matrix_columns e) (matrix_columns e) (thin_rows (matrix_rows e))
      (matrix_rows e)
      (λ t k. tree-alike IsType cx decides V law values (IsBare V m) (matrix_columns e) (thin_rows (matrix_rows e)) t k
      (matrix_rows e) (rows-twice (matrix_rows e)) (record { good = g.good; parted = g.parted })) a))

  pub thin-turn : PartsLaw IsType V cx → ValuesLaw IsType V cx → (frames : List (Frame T)) (now : List MTree)
      (e next : Matrix T) → IsThinOf e next → IsTurn IsType cx V decides m frames now (Lower e) →
      IsTurn IsType cx V decides m frames now (Lower next)
  thin-turn law values frames now e next b h =
      (thin-matrix e next b h.0, thin-waits law values frames now e next b h.0 h.1, thin-scope e next b h.2)
