-- The matrix of the arms, and the first turn.
use Rattle.std.proofs.Common.{◌≡◌, ◌<◌, inl, ℕ, suc, Bool, List, [], ◌∷◌, reverse, sym, subst, arith}
use Rattle.match_model.specs.Values.{MValue}
use Rattle.match_model.specs.ArenaPatterns.{MDeArm, MDeMatch}
use Rattle.match_model.specs.Contexts.{Context}
use Rattle.match_model.specs.ContextLaws.{PartsLaw, ValuesLaw}
use Rattle.match_model.specs.DecisionTrees.{MTree}
use Rattle.match_model.specs.Keys.{Decision}
use Rattle.match_model.specs.Lists.{Every, Ordered}
use Rattle.match_model.specs.Made.{AreArmsMade}
use Rattle.match_model.specs.Matrices.{MColumn, MRow, first_rows, first_matrix}
use Rattle.match_model.specs.Numbering.{match_decisions}
use Rattle.match_model.specs.WellTyped.{IsWellTyped}
use Rattle.keyed_rows.proofs.ArmNumbers.{arms-numbered}
use Rattle.keyed_rows.specs.Parting.{RowParted}
use Rattle.keyed_steps.specs.Good.{IsGood}
use Rattle.keyed_matrix.specs.First.{first_row}
use Rattle.tree_laws.proofs.Matches.{first-good, arms-good}
use Rattle.decision_tree.specs.Known.{IsInScope}
use Rattle.decision_tree.specs.Matrices.{matrix_columns, matrix_rows}
use Rattle.decision_tree.specs.Waiting.{IsTurn, Makes}
use Rattle.decision_tree.specs.declared.frames.Frame.{Frame}
use Rattle.decision_tree.specs.declared.frames.Matrix.{Matrix}
use Rattle.decision_tree.specs.declared.frames.Turn.TheVariants.{Lower}
use Rattle.decision_tree.proofs.Scoped.{first-in-scope}

module _ {T : Type 0} (decides : ℕ → Decision) where
  -- a row comes before those of later arms
  before-later : (r : MRow T) (j : ℕ) (arms : List (MDeArm T)) → r.arm < j → Every (RowParted decides r) (first_rows j arms)
  before-later r j [] less = tt
  before-later r j (a ∷ arms) less = (inl less, before-later r (suc j) arms (omega (arith, less)))

  -- the rows of the arms are parted by their arms
  first-parted : (j : ℕ) (arms : List (MDeArm T)) → Ordered (RowParted decides) (first_rows j arms)
  first-parted j [] = tt
  first-parted j (a ∷ arms) = (before-later (first_row j a) (suc j) arms (omega arith), first-parted (suc j) arms)

module _ {T : Type 0} (IsType : T → Type 0) (cx : Context T) (V : T → Bool → MValue → Type 0)
    (law : PartsLaw IsType V cx) (values : ValuesLaw IsType V cx) (m : MDeMatch T) (w : IsWellTyped IsType cx m)
    (made : AreArmsMade m.arms) where
  -- the first matrix of a well-typed match is well formed
  good-by-uids : IsGood IsType cx (match_decisions m) (first_matrix m).columns (first_matrix m).rows
  good-by-uids = record {
    columns_are = (record { type = w.type; straight = tt }, tt);
    rows_are =
        first-good IsType cx V law values (match_decisions m) m.type m.sure 0 m.arms
        (arms-good IsType cx V law values (match_decisions m) m w made) (arms-numbered m w.uids);
  }

  module _ (decides : ℕ → Decision) (same : (uid : ℕ) → decides uid ≡ match_decisions m uid) where
    decisions-are : match_decisions m ≡ decides
    decisions-are = λ i. λ uid. sym (same uid) i

    first-is-good : (columns : List (MColumn T)) (rows : List (MRow T)) → columns ≡ (first_matrix m).columns →
        rows ≡ (first_matrix m).rows → IsGood IsType cx decides columns rows
    first-is-good columns rows cs rs =
        subst (λ x. IsGood IsType cx decides x rows) (sym cs)
        (subst (λ x. IsGood IsType cx decides (first_matrix m).columns x) (sym rs)
        (subst (λ d. IsGood IsType cx d (first_matrix m).columns (first_matrix m).rows) decisions-are good-by-uids))

    -- to lower the first matrix is the first turn
    pub first-turn : (e : Matrix T) (frames : List (Frame T)) (now : List MTree) →
        matrix_columns e ≡ (first_matrix m).columns → matrix_rows e ≡ (first_matrix m).rows → frames ≡ [] → now ≡ [] →
        IsTurn IsType cx V decides m (reverse frames) now (Lower e)
    first-turn e frames now cs rs none empty =
        subst (λ fs. IsTurn IsType cx V decides m (reverse fs) now (Lower e)) (sym none) (
          record {
            good = first-is-good (matrix_columns e) (matrix_rows e) cs rs;
            parted = subst (Ordered (RowParted decides)) (sym rs) (first-parted decides 0 m.arms);
          },
          (leads, empty),
          subst (λ x. IsInScope cx m x (matrix_rows e)) (sym cs)
              (subst (IsInScope cx m (first_matrix m).columns) (sym rs) (first-in-scope cx m)),
        )
      where
        leads : (t : MTree) → Makes IsType cx V decides m (matrix_columns e) (matrix_rows e) t →
            Makes IsType cx V decides m (first_matrix m).columns (first_matrix m).rows t
        leads t k =
            subst (λ x. Makes IsType cx V decides m (first_matrix m).columns x t) rs
            (subst (λ x. Makes IsType cx V decides m x (matrix_rows e) t) cs k)
