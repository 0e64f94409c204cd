-- What is known of trees, turn by turn.
use Rattle.std.proofs.Common.{◌≡◌, ◌<◌, ◌≤◌, inl, inr, ℕ, Bool, true, false, List, [], ◌∷◌, map, reverse, length, get_or, nat_eq, refl, sym, ap, ◌∙◌, subst, arith, cond}
use Rattle.std.specs.List.{IsDistinct, flat_map}
use Rattle.match_model.specs.Values.{MValue}
use Rattle.match_model.specs.ArenaPatterns.{MDeMatch}
use Rattle.match_model.specs.Constructors.{MCtor}
use Rattle.match_model.specs.Contexts.{Context}
use Rattle.match_model.specs.ContextLaws.{PartsLaw, ValuesLaw}
use Rattle.match_model.specs.DecisionTrees.{MTree, SwitchTree, AskTree, all_wild}
use Rattle.match_model.specs.Keys.{Decision}
use Rattle.match_model.specs.Lists.{Ordered, Among}
use Rattle.match_model.specs.Matrices.{MColumn, MRow, part_columns}
use Rattle.match_model.specs.Places.{MStep}
use Rattle.match_model.specs.Steps.{replaced_at}
use Rattle.match_model.specs.Trees.{MBind, MBranch}
use Rattle.match_model.specs.WellTyped.{uids_in}
use Rattle.keyed_rows.specs.Parting.{RowParted}
use Rattle.keyed_rows.proofs.Parting.{among-every}
use Rattle.keyed_rows.proofs.RowOrder.{ordered-among}
use Rattle.keyed_steps.specs.Good.{IsGood, IsGoodColumn}
use Rattle.keyed_steps.specs.Piecewise.{IsFit}
use Rattle.keyed_steps.proofs.Standing.{column-at}
use Rattle.keyed_matrix.specs.Views.{plain_row, plain_rows, plain_columns}
use Rattle.keyed_matrix.specs.declared.rows.KeyedRow.{KeyedRow}
use Rattle.tree_laws.proofs.Engine.{context-engine}
use Rattle.tree_laws.proofs.PiecesFit.{pieces-fit}
use Rattle.tree_sharing.specs.Table.{IsBuilt}
use Rattle.tree_sharing.proofs.Sharing.{built, built-all}
use Rattle.tree_eval.specs.Tables.{FinishesSwitch, FinishesAsk}
use Rattle.tree_eval.specs.declared.tree.Bind.{Bind}
use Rattle.std.specs.Global.{Vec}
use Rattle.decision_tree.specs.declared.frames.Frame.{Frame}
use Rattle.decision_tree.specs.declared.frames.Frame.TheVariants.{Guard, Note}
use Rattle.decision_tree.specs.declared.frames.Matrix.{Matrix}
use Rattle.decision_tree.specs.declared.frames.Turn.TheVariants.{Finished}
use Rattle.decision_tree.specs.declared.known.KnownMatrix.{KnownMatrix}
use Rattle.decision_tree.specs.Known.{IsInScope, MKnownMatrix, known_matrix}
use Rattle.decision_tree.specs.KnownTrees.{IsKnown, AreKnown, Keeps}
use Rattle.decision_tree.specs.KnownViews.{plain_known_matrix}
use Rattle.decision_tree.specs.Lone.{emptied, is_alone, lone_row, lone}
use Rattle.decision_tree.specs.Matrices.{matrix_columns, matrix_rows, IsGoodMatrix, IsReadyMatrix, IsPieceAt, IsEntered, IsDropped, IsExpanded}
use Rattle.decision_tree.specs.Waiting.{IsBare, Awaits, IsLeft, IsTurn}
use Rattle.decision_tree.proofs.Fronts.{front-scope}
use Rattle.decision_tree.proofs.Going.{leads-more}
use Rattle.decision_tree.proofs.KnownTrees.{keeps-walk, switch-after, ask-after, known-new, known-hit}
use Rattle.decision_tree.proofs.Looking.{entered-at}
use Rattle.decision_tree.proofs.LoneRows.{lone-good, lone-parted, lone-leads}
use Rattle.decision_tree.proofs.Scoped.{dropped-in-scope, expanded-in-scope, entered-in-scope, others-in-scope, lone-in-scope}

-- rows that are parted stand by their arms
pub by-arm : {T : Type 0} (decides : ℕ → Decision) (rows : List (MRow T)) → Ordered (RowParted decides) rows →
    Ordered (λ (r s : MRow T). r.arm ≤ s.arm) rows
by-arm {T} decides rows o = ordered-among (RowParted decides) (λ r s. r.arm ≤ s.arm) rows (λ r s i j p. one r s p) o
  where
    one : (r s : MRow T) → RowParted decides r s → r.arm ≤ s.arm
    one r s (inl l) = omega (arith, l)
    one r s (inr p) = let e : r.arm ≡ s.arm = p.0 in omega (arith, e)

-- a row is no leaf, whether or not it is emptied
pub lone-open : {T : Type 0} (rows new : List (KeyedRow T)) → plain_rows new ≡ lone (plain_rows rows) →
    ((d : KeyedRow T) → all_wild (plain_row (get_or rows 0 d)) ≡ false) → 0 < length rows →
    (d : KeyedRow T) → all_wild (plain_row (get_or new 0 d)) ≡ false
lone-open [] new e h l d = absurd (omega (arith, l))
lone-open (r ∷ rows) [] e h l d = cc
lone-open (r ∷ rows) (s ∷ new) e h l d =
    let here : plain_row s ≡ lone_row (plain_rows (r ∷ rows)) (plain_row r) = first-same (plain_row s)
    (lone_row (plain_rows (r ∷ rows)) (plain_row r)) (plain_rows new)
    (map (lone_row (plain_rows (r ∷ rows))) (plain_rows rows)) e in
    ap all_wild here ∙ same (is_alone (plain_row r).arm (plain_rows (r ∷ rows))) ∙ h r
  where
    first-same : {A : Type 0} (x y : A) (xs ys : List A) → x ∷ xs ≡ y ∷ ys → x ≡ y
    first-same x y xs ys e = cc

    same : (b : Bool) → all_wild (cond b (emptied (plain_row r)) (plain_row r)) ≡ all_wild (plain_row r)
    same true = refl
    same false = refl

pub lone-some : {T : Type 0} (rows new : List (KeyedRow T)) → plain_rows new ≡ lone (plain_rows rows) →
    0 < length rows → 0 < length new
lone-some [] new e l = absurd (omega (arith, l))
lone-some (r ∷ rows) [] e l = cc
lone-some (r ∷ rows) (s ∷ new) e l = omega arith

module _ {T : Type 0} (IsType : T → Type 0) (cx : Context T) (V : T → Bool → MValue → Type 0)
    (decides : ℕ → Decision) (m : MDeMatch T) where
  abbrev Waits : List (Frame T) → (now : List MTree) → List (MColumn T) → List (MRow T) → Type 0
  Waits = Awaits IsType cx V decides m

  abbrev Scoped : Matrix T → Type 0
  Scoped e = IsInScope cx m (matrix_columns e) (matrix_rows e)

  abbrev Known : List MTree → List (MKnownMatrix × ℕ) → Type 0
  Known now entries = AreKnown cx V decides (IsBare V m) m now entries

  -- the steps stay within the match
  pub dropped-scope : (i : ℕ) (e next : Matrix T) → Scoped e → IsDropped decides i e next → Scoped next
  dropped-scope i e next s k =
      subst (λ cs. IsInScope cx m cs (matrix_rows next)) (sym k.columns)
      (dropped-in-scope cx m decides i k.column (matrix_columns e) (matrix_rows e) (matrix_rows next) s k.rows)

  pub expanded-scope : (i : ℕ) (e next : Matrix T) → Scoped e → IsExpanded decides i e next → Scoped next
  expanded-scope i e next s k =
      subst (λ cs. IsInScope cx m cs (matrix_rows next)) (sym k.columns)
      (expanded-in-scope cx m decides i k.column (matrix_columns e) (matrix_rows e) (matrix_rows next) s k.rows)

  pub entered-scope : PartsLaw IsType V cx → ValuesLaw IsType V cx → (i : ℕ) (e next : Matrix T) (p : MCtor) → Scoped e →
      IsReadyMatrix IsType cx decides i e → IsPieceAt cx i e p → IsEntered cx decides i e p next → Scoped next
  entered-scope law values i e next p s ready q k =
      let r = entered-at cx decides i e next q.column q.there p k in
      let column : IsGoodColumn IsType q.column = column-at (IsGoodColumn IsType) (matrix_columns e) i q.column
      ready.ready.good.columns_are q.there in
      let fit : IsFit cx i q.column (matrix_rows e) q.pieces p = pieces-fit IsType cx V values decides i q.column
      (matrix_columns e) (matrix_rows e) q.pieces p ready.ready q.there q.are q.among in
      subst (λ cs. IsInScope cx m cs (matrix_rows next)) (sym r.0)
      (front-scope cx m (replaced_at i (matrix_columns e) (part_columns cx q.column p)) (matrix_rows next) k.whole k.front
      (entered-in-scope cx m decides IsType V law i q.column (matrix_columns e) (matrix_rows e) k.whole p
      q.there column.type fit.belong s r.1))

  pub rest-scope : (e next : Matrix T) (r : MRow T) → next.columns ≡ e.columns →
      matrix_rows e ≡ r ∷ matrix_rows next → Scoped e → Scoped next
  rest-scope e next r cs rs s =
      subst (λ q. IsInScope cx m q (matrix_rows next)) (ap (λ v. plain_columns v.items) (sym cs))
      (others-in-scope cx m (matrix_columns e) r (matrix_rows next)
      (subst (IsInScope cx m (matrix_columns e)) rs s))

  -- the rows without what was decided where one is alone are lowered in their place
  pub lone-scope : (e next : Matrix T) → next.columns ≡ e.columns → matrix_rows next ≡ lone (matrix_rows e) → Scoped e →
      Scoped next
  lone-scope e next cs rs s =
      subst (λ q. IsInScope cx m q (matrix_rows next)) (ap (λ v. plain_columns v.items) (sym cs))
      (subst (IsInScope cx m (matrix_columns e)) (sym rs) (lone-in-scope cx m (matrix_columns e) (matrix_rows e) s))

  pub lone-matrix : (e next : Matrix T) → next.columns ≡ e.columns → matrix_rows next ≡ lone (matrix_rows e) →
      IsGoodMatrix IsType cx decides e → IsGoodMatrix IsType cx decides next
  lone-matrix e next cs rs g = record {
    good =
        subst (λ q. IsGood IsType cx decides q (matrix_rows next)) (ap (λ v. plain_columns v.items) (sym cs))
        (subst (IsGood IsType cx decides (matrix_columns e)) (sym rs)
        (lone-good decides IsType cx (matrix_columns e) (matrix_rows e) g.good));
    parted = subst (Ordered (RowParted decides)) (sym rs) (lone-parted decides (matrix_rows e) g.parted);
  }

  pub lone-waits : PartsLaw IsType V cx → ValuesLaw IsType V cx → (frames : List (Frame T)) (now : List MTree)
      (e next : Matrix T) → next.columns ≡ e.columns → matrix_rows next ≡ lone (matrix_rows e) →
      IsGoodMatrix IsType cx decides e → Waits frames now (matrix_columns e) (matrix_rows e) →
      Waits frames now (matrix_columns next) (matrix_rows next)
  lone-waits law values frames now e next cs rs g a =
      subst (λ q. Waits frames now q (matrix_rows next)) (ap (λ v. plain_columns v.items) (sym cs))
      (subst (Waits frames now (matrix_columns e)) (sym rs)
      (leads-more IsType cx V decides m frames now (matrix_columns e) (matrix_columns e) (lone (matrix_rows e))
      (matrix_rows e) (λ t k. lone-leads decides IsType cx V (context-engine IsType cx V law values decides)
      (IsBare V m) (matrix_columns e) (matrix_rows e) t g.good k) a))

  -- the tree is known already
  pub known-turn : (frames : List (Frame T)) (now : List MTree) (e : Matrix T) (entries : List (MKnownMatrix × ℕ))
      (told : MKnownMatrix) (index : ℕ) → IsBuilt now →
      IsDistinct nat_eq (flat_map (λ a. uids_in a.pat) m.arms) → Scoped e → Known now entries →
      told ≡ known_matrix (matrix_columns e) (matrix_rows e) → Among (told, index) entries →
      Waits frames now (matrix_columns e) (matrix_rows e) → IsTurn IsType cx V decides m frames now (Finished index)
  known-turn frames now e entries told index b uids s known is i a =
      let k : IsKnown cx V decides (IsBare V m) m now told index = among-every
      (λ (x : MKnownMatrix × ℕ). IsKnown cx V decides (IsBare V m) m now x.0 x.1) entries (told, index) known i in
      let h = known-hit cx V decides (IsBare V m) m uids now (matrix_columns e) (matrix_rows e) index s
      (subst (λ x. IsKnown cx V decides (IsBare V m) m now x index) is k) in
      (matrix_columns e, matrix_rows e, h.tree, now, b, h.makes, a, h.finished)

  -- it will be known
  pub note-begun : (frames : List (Frame T)) (now : List MTree) (e : Matrix T) (matrix : KnownMatrix) → Scoped e →
      plain_known_matrix matrix ≡ known_matrix (matrix_columns e) (matrix_rows e) →
      Waits frames now (matrix_columns e) (matrix_rows e) →
      Waits (Note matrix ∷ frames) now (matrix_columns e) (matrix_rows e)
  note-begun frames now e matrix s is a = (matrix_columns e, matrix_rows e, λ t k. k, is, s, a)

  -- it was finished
  pub note-resumed : (frames : List (Frame T)) (now : List MTree) (matrix : KnownMatrix) (index : ℕ) →
      IsTurn IsType cx V decides m (Note matrix ∷ frames) now (Finished index) →
      IsTurn IsType cx V decides m frames now (Finished index)
      × IsKnown cx V decides (IsBare V m) m now (plain_known_matrix matrix) index
  note-resumed frames now matrix index (columns, rows, t, before, built, makes, (cs, rs, b, e, s, a), f) = (
    (cs, rs, t, before, built, b t makes, a, f),
    subst (λ k. IsKnown cx V decides (IsBare V m) m now k index) (sym e)
        (known-new cx V decides (IsBare V m) m cs rs t before now index s (b t makes) f),
  )

  -- a switch and a guard keep the indices of trees
  pub switch-keeps : (frames : List (Frame T)) (now new : List MTree) (e : Matrix T) (i : ℕ) (cases : List MBranch)
      (place : List MStep) (index : ℕ) → IsLeft IsType cx V decides m frames now e i [] cases →
      FinishesSwitch now place (reverse cases) index new → Keeps now new
  switch-keeps frames now new e i cases place index (whole, base, front, behind, branches, k, cut, done, a) f =
      keeps-walk now new (SwitchTree place branches)
      (switch-after now new place branches (reverse cases) index f (built-all base branches now k.walked k.built) k.at)

  pub ask-keeps : (frames : List (Frame T)) (now new : List MTree) (arm : ℕ) (binds : Vec Bind) (asked : List MBind)
      (refused index : ℕ) → IsTurn IsType cx V decides m (Guard arm binds ∷ frames) now (Finished refused) →
      FinishesAsk now arm asked refused index new → Keeps now new
  ask-keeps frames now new arm binds asked refused index (columns, rows, t, before, b, makes, a, f) done =
      keeps-walk now new (AskTree arm asked t)
      (ask-after now new arm asked t refused index done (built before t now f.walk b) f.at)
