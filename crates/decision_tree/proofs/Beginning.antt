-- How a switch begins, and steps that make no node.
use Rattle.std.proofs.Common.{◌≡◌, ℕ, Bool, true, false, inl, inr, List, [], ◌∷◌, map, reverse, sym, ap, subst, ◌∙◌, append-nil, true≢false, slice_get, Some, IsTrue}
use Rattle.std.specs.List.{list_any}
use Rattle.match_model.specs.Values.{MValue}
use Rattle.match_model.specs.ArenaPatterns.{MDeMatch}
use Rattle.match_model.specs.Constructors.{MCtor}
use Rattle.match_model.specs.Contexts.{Context}
use Rattle.match_model.specs.DecisionTrees.{MTree, no_branch, is_switchless}
use Rattle.match_model.specs.FewestBranches.{IsFewest}
use Rattle.match_model.specs.Keys.{Decision}
use Rattle.match_model.specs.Lists.{Every, Each, Among}
use Rattle.match_model.specs.Lowering.{drops, opens, no_else, ctors_at, all_wild_at}
use Rattle.match_model.specs.Matrices.{MColumn, MRow, open_of, part_columns}
use Rattle.match_model.specs.Pieces.{ArePieces}
use Rattle.match_model.specs.PieceStates.{HasValue, named_in, is_present}
use Rattle.match_model.specs.RowOrder.{AreInOrder}
use Rattle.match_model.specs.SharedTrees.{nothing, case_trees}
use Rattle.match_model.specs.Steps.{expand_head, specialise_head, default_head, rows_at, replaced_at}
use Rattle.match_model.specs.Trees.{ElseCase}
use Rattle.constructor_sets.specs.Columns.{plain_ctors}
use Rattle.constructor_sets.specs.Present.{is_missing, AreFound}
use Rattle.constructor_sets.specs.declared.piece.PieceState.{PieceState}
use Rattle.constructor_sets.specs.declared.piece.PieceState.TheVariants.{Present, Missing, Empty}
use Rattle.keyed_rows.proofs.Members.{among-contains, contains-among}
use Rattle.tree_sharing.specs.Table.{IsBuilt, IsCaseAt}
use Rattle.tree_eval.specs.Nodes.{plain_branch, plain_case}
use Rattle.tree_eval.specs.declared.tree.Case.{Case}
use Rattle.decision_tree.specs.declared.frames.Frame.{Frame}
use Rattle.decision_tree.specs.declared.frames.Frame.TheVariants.{Switch}
use Rattle.decision_tree.specs.declared.frames.Looked.{Looked}
use Rattle.decision_tree.specs.Matrices.{matrix_columns, matrix_rows}
use Rattle.decision_tree.specs.Waiting.{IsCutOf, Leads, IsLooked, Awaits, IsLeftOf, IsOpened}
use Rattle.decision_tree.proofs.Going.{State, all-every}

module _ {T : Type 0} (IsType : T → Type 0) (cx : Context T) (V : T → Bool → MValue → Type 0)
    (decides : ℕ → Decision) (m : MDeMatch T) where
  -- a column without constructors is dropped
  pub dropped-leads : (i : ℕ) (c : MColumn T) (columns : List (MColumn T)) (rows expanded next : List (MRow T)) →
      IsFewest cx V columns rows i → slice_get columns i ≡ Some c →
      AreInOrder decides (rows_at expand_head c.place i rows) expanded → IsTrue (all_wild_at i expanded) →
      AreInOrder decides (rows_at default_head c.place i expanded) next →
      Leads IsType cx V decides m (replaced_at i columns []) next columns rows
  dropped-leads i c columns rows expanded next f e o w n t makes =
      drops i c columns rows expanded next t f e o w n makes

  -- the parts of a switchless type take its place
  pub opened-leads : (i : ℕ) (c : MColumn T) (columns : List (MColumn T)) (rows expanded next : List (MRow T))
      (piece : MCtor) → IsFewest cx V columns rows i → slice_get columns i ≡ Some c →
      AreInOrder decides (rows_at expand_head c.place i rows) expanded → all_wild_at i expanded ≡ false →
      IsTrue (is_switchless (cx.set_of c.type)) → ArePieces (cx.set_of c.type) (ctors_at i expanded) (piece ∷ []) →
      AreInOrder decides (rows_at (specialise_head piece (cx.arity piece c.type)) c.place i expanded) next →
      Leads IsType cx V decides m (replaced_at i columns (part_columns cx c piece)) next columns rows
  opened-leads i c columns rows expanded next piece f e o w s p n t makes =
      opens i c columns rows expanded next piece t f e o w s p n makes

  module _ (i : ℕ) (c : MColumn T) (columns : List (MColumn T)) (rows : List (MRow T)) (all : List MCtor) where
    abbrev At : MCtor × PieceState → Type 0
    At p = State IsType cx V decides m i c columns rows all p

    -- a piece that is missing
    missing-there : (pieces : List (MCtor × PieceState)) → list_any is_missing pieces ≡ true → Every At pieces →
        (p : MCtor) × Among p (map (λ q. q.0) pieces) × At (p, Missing)
    missing-there [] any states = absurd (true≢false (sym any))
    missing-there ((p, Missing) ∷ pieces) any states = (p, inl (λ j. p), states.0)
    missing-there ((p, Present) ∷ pieces) any states =
        let r = missing-there pieces any states.1 in (r.0, inr r.1, r.2)
    missing-there ((p, Empty) ∷ pieces) any states =
        let r = missing-there pieces any states.1 in (r.0, inr r.1, r.2)

    -- where none is missing, what no row has is without a value
    none-missing : (pieces : List (MCtor × PieceState)) → list_any is_missing pieces ≡ false → Every At pieces →
        (q : MCtor) → Among q (map (λ p. p.0) pieces) → is_present (ctors_at i rows) q ≡ false →
        ¬ HasValue V (open_of c) (named_in all) q
    none-missing [] any states q a e v = elim a [ ]
    none-missing ((p, Missing) ∷ pieces) any states q a e v = true≢false any
    none-missing ((p, Present) ∷ pieces) any states q (inl s) e v =
        true≢false (sym states.0.1 ∙ ap (is_present (ctors_at i rows)) (sym s) ∙ e)
    none-missing ((p, Present) ∷ pieces) any states q (inr a) e v = none-missing pieces any states.1 q a e v
    none-missing ((p, Empty) ∷ pieces) any states q (inl s) e v =
        states.0 (subst (HasValue V (open_of c) (named_in all)) s v)
    none-missing ((p, Empty) ∷ pieces) any states q (inr a) e v = none-missing pieces any states.1 q a e v

  module _ (frames : List (Frame T)) (now : List MTree) (l : Looked T)
      (o : IsOpened IsType cx V decides m frames now l.column false l.matrix) (gaps : List MCtor) (missing : Bool)
      (found : AreFound V cx (open_of o.column) (ctors_at l.column (matrix_rows l.matrix)) (plain_ctors l.pieces.items)
      missing gaps) (built : IsBuilt now) (none : map plain_branch l.cases.items ≡ []) (cut : IsCutOf l) where
    begun : IsLooked IsType cx V decides m l.matrix l.column (plain_ctors l.pieces.items) (map plain_branch l.cases.items)
        o.rows now now found.pieces [] no_branch
    begun = record {
      column = o.column;
      there = o.there;
      ready = o.ready;
      scope = o.scope;
      chosen = o.chosen;
      expanded = o.expanded;
      some = o.some;
      switch = o.kind;
      pieces = found.pieces;
      split = found.split;
      still = found.present;
      built = built;
      walked = nothing now;
      at = subst (λ bs. Each (IsCaseAt now) (case_trees no_branch) (reverse bs)) (sym none) tt;
    }

    states : Every (At l.column o.column (matrix_columns l.matrix) (matrix_rows l.matrix) (map (λ p. p.0) found.pieces)) found.pieces
    states =
        all-every (At l.column o.column (matrix_columns l.matrix) (matrix_rows l.matrix) (map (λ p. p.0) found.pieces))
        found.pieces found.split.states

    -- no piece is missing
    pub left-begun : missing ≡ false → IsLeftOf IsType cx V decides m frames now l
    unfolding begun
    left-begun e = (
      (
        o.rows,
        now,
        found.pieces,
        [],
        no_branch,
        begun,
        sym (append-nil found.pieces),
        no_else l.column o.column (matrix_columns l.matrix) (matrix_rows l.matrix) (map (λ p. p.0) found.pieces)
            (λ q h. none-missing l.column o.column (matrix_columns l.matrix) (matrix_rows l.matrix) (map (λ p. p.0) found.pieces)
            found.pieces (sym found.some_missing ∙ e) states q (contains-among (map (λ p. p.0) found.pieces) q h.0) h.1),
        o.awaits,
      ),
      cut,
    )

    -- a piece is missing: the last case is that of the others
    pub else-begun : missing ≡ true → (case : Case) (columns : List (MColumn T)) (rows : List (MRow T)) →
        plain_case case ≡ ElseCase → columns ≡ replaced_at l.column (matrix_columns l.matrix) [] →
        AreInOrder decides (rows_at default_head o.column.place l.column (matrix_rows l.matrix)) rows →
        Awaits IsType cx V decides m (Switch l case ∷ frames) now columns rows
    unfolding begun
    else-begun e case columns rows is over order =
        let p = missing-there l.column o.column (matrix_columns l.matrix) (matrix_rows l.matrix)
        (map (λ q. q.0) found.pieces) found.pieces (sym found.some_missing ∙ e) states in (
          columns,
          rows,
          λ t makes. makes,
          o.rows,
          now,
          found.pieces,
          [],
          no_branch,
          begun,
          inl (record {
            is = is;
            piece = p.0;
            missing = (among-contains (map (λ q. q.0) found.pieces) p.0 p.1, p.2.1);
            value = p.2.0;
            over = over;
            order = order;
            all = λ j. found.pieces;
            last = λ j. [];
            none = λ j. no_branch;
          }),
          o.awaits,
          cut,
        )
