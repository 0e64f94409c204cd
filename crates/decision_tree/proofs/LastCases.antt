-- Switches of which one case is left, or two where the last is that of all pieces that stand in no row.
use denote.Bor.{Bor}
use Rattle.std.proofs.Common.{◌≡◌, ℕ, Bool, List, [], ◌∷◌, ◌++◌, map, sym, ap, ◌∙◌, subst}
use Rattle.std.specs.Global.{Vec}
use Rattle.std.proofs.lemmas.List.{map-append}
use Rattle.match_model.specs.Values.{MValue}
use Rattle.match_model.specs.ArenaPatterns.{MDeMatch}
use Rattle.match_model.specs.Constructors.{MCtor}
use Rattle.match_model.specs.Contexts.{Context}
use Rattle.match_model.specs.DecisionTrees.{MTree, case_of}
use Rattle.match_model.specs.Keys.{Decision}
use Rattle.match_model.specs.Lists.{Among}
use Rattle.match_model.specs.Matrices.{MColumn, MRow}
use Rattle.match_model.specs.Trees.{ElseCase, MBranch}
use Rattle.pat_context.specs.Views.{plain_place}
use Rattle.pat_context.specs.declared.place.Step.{Step}
use Rattle.constructor_sets.specs.Columns.{plain_ctors}
use Rattle.constructor_sets.specs.declared.piece.PieceState.TheVariants.{Present}
use Rattle.tree_eval.specs.Nodes.{plain_branch, plain_case}
use Rattle.tree_eval.specs.declared.tree.Case.{Case}
use Rattle.tree_eval.specs.declared.tree.Case.TheVariants.{Else}
use Rattle.decision_tree.specs.declared.frames.Frame.{Frame}
use Rattle.decision_tree.specs.declared.frames.Frame.TheVariants.{Last, Others}
use Rattle.decision_tree.specs.declared.frames.Looked.{Looked}
use Rattle.decision_tree.specs.declared.frames.Matrix.{Matrix}
use Rattle.decision_tree.specs.declared.frames.Turn.TheVariants.{Lower, Finished}
use Rattle.decision_tree.specs.Known.{IsInScope}
use Rattle.decision_tree.specs.Matrices.{matrix_columns, matrix_rows, IsGoodMatrix, IsPieceAt, IsEntered, IsDropped}
use Rattle.decision_tree.specs.Waiting.{IsPlaceAt, IsSwitching, Awaits, IsLeft, IsEnded, IsElseOf, IsTurn}
use Rattle.decision_tree.proofs.Fronts.{front-leads}
use Rattle.decision_tree.proofs.Going.{leads-more, IsLast, last-present, case-done, piece-next}
use Rattle.decision_tree.proofs.Looking.{entered-at, dropped-at}
use Rattle.decision_tree.proofs.Turning.{among-middle}

module _ {T : Type 0} (IsType : T → Type 0) (cx : Context T) (V : T → Bool → MValue → Type 0)
    (decides : ℕ → Decision) (m : MDeMatch T) where
  abbrev Waits : List (Frame T) → (now : List MTree) → List (MColumn T) → List (MRow T) → Type 0
  Waits = Awaits IsType cx V decides m

  abbrev Left : List (Frame T) → (now : List MTree) → Matrix T → (i : ℕ) → (todo : List MCtor) → List MBranch → Type 0
  Left = IsLeft IsType cx V decides m

  -- the only piece that is left is entered
  pub last-begun : (frames : List (Frame T)) (now : List MTree) (e : Matrix T) (i : ℕ) (p : MCtor)
      (place : Bor (List Step)) (cases : Vec (Case × ℕ)) (case : Case) (next : Matrix T) →
      Left frames now e i (p ∷ []) (map plain_branch cases.items) →
      IsPlaceAt IsType cx V decides m (plain_place place.now) e i → plain_case case ≡ case_of p →
      IsEntered cx decides i e p next →
      Waits (Last place cases case ∷ frames) now (matrix_columns next) (matrix_rows next)
  last-begun frames now e i p place cases case next left at is k =
      leads-more IsType cx V decides m (Last place cases case ∷ frames) now (matrix_columns next) (matrix_columns next)
      (matrix_rows next) k.whole
      (front-leads IsType cx V decides m (matrix_columns next) (matrix_rows next) k.whole k.front) (
        e,
        i,
        at,
        piece-next IsType cx V decides m frames now e i (map plain_branch cases.items) (plain_case case) [] p
            (matrix_columns next) k.whole left is (λ d there. entered-at cx decides i e next d there p k),
      )

  -- its tree was finished
  pub last-resumed : (frames : List (Frame T)) (now : List MTree) (place : Bor (List Step)) (cases : Vec (Case × ℕ))
      (case : Case) (index : ℕ) → IsTurn IsType cx V decides m (Last place cases case ∷ frames) now (Finished index) →
      IsEnded IsType cx V decides m frames now (plain_place place.now)
      (map plain_branch cases.items ++ plain_branch (case, index) ∷ [])
  last-resumed frames now place cases case index (columns, rows, t, before, built, makes, (e, i, at, w), f) = (
    e,
    i,
    at,
    case-done IsType cx V decides m frames e i [] (map plain_branch cases.items) (plain_case case) index before now columns
        rows t w makes f,
  )

  -- the case of all pieces that stand in no row is first, of two
  pub others-begun : (frames : List (Frame T)) (now : List MTree) (l : Looked T) (p : MCtor) (place : Bor (List Step))
      (case : Case) (next others : Matrix T) → IsElseOf IsType cx V decides m frames now l →
      plain_ctors l.pieces.items ≡ p ∷ [] → IsPlaceAt IsType cx V decides m (plain_place place.now) l.matrix l.column →
      plain_case case ≡ case_of p → IsEntered cx decides l.column l.matrix p next → IsGoodMatrix IsType cx decides next →
      IsInScope cx m (matrix_columns next) (matrix_rows next) → IsDropped decides l.column l.matrix others →
      Waits (Others place case next ∷ frames) now (matrix_columns others) (matrix_rows others)
  others-begun frames now l p place case next others o one at is k g s d =
      let over = dropped-at cx decides l.column l.matrix others o.column o.there d in (
        l.matrix,
        l.column,
        p,
        at,
        is,
        k,
        g,
        s,
        subst (λ bs. IsSwitching IsType cx V decides m (Waits frames) l.matrix l.column (p ∷ []) bs ElseCase now
            (matrix_columns others) (matrix_rows others)) o.none
            (subst (λ ks. IsSwitching IsType cx V decides m (Waits frames) l.matrix l.column ks (map plain_branch l.cases.items)
            ElseCase now (matrix_columns others) (matrix_rows others)) one
            (o.awaits (matrix_columns others) (matrix_rows others) over.0 over.1)),
      )

  -- its tree was finished: the other case is left
  pub others-resumed : (frames : List (Frame T)) (now : List MTree) (place : Bor (List Step)) (case : Case)
      (next : Matrix T) (index : ℕ) (cases : Vec (Case × ℕ)) →
      IsTurn IsType cx V decides m (Others place case next ∷ frames) now (Finished index) →
      map plain_branch cases.items ≡ plain_branch (Else, index) ∷ [] →
      IsTurn IsType cx V decides m (Last place cases case ∷ frames) now (Lower next)
  others-resumed frames now place case next index cases (columns, rows, t, before, built, makes, (e, i, p, at, is, k, g, s, w), f) same = (
    g,
    last-begun frames now e i p place cases case next
        (subst (λ bs. Left frames now e i (p ∷ []) bs) (sym same)
        (case-done IsType cx V decides m frames e i (p ∷ []) [] ElseCase index before now columns rows t w makes f)) at is k,
    s,
  )

  -- the piece that stands in some row is one of the column
  pub piece-of : (frames : List (Frame T)) (now : List MTree) (l : Looked T) (p : MCtor) →
      IsElseOf IsType cx V decides m frames now l → plain_ctors l.pieces.items ≡ p ∷ [] → IsPieceAt cx l.column l.matrix p
  piece-of frames now l p o one =
      let last : IsLast IsType cx V decides m o.pieces [] p =
      last-present IsType cx V decides m o.pieces [] p (sym o.still ∙ one) in
      let over : map (λ q. q.0) o.pieces ≡ map (λ q. q.0) last.front ++ p ∷ map (λ q. q.0) last.passed =
      ap (map (λ q. q.0)) last.cut ∙ map-append (λ q. q.0) last.front ((p, Present) ∷ last.passed) in
      record {
        column = o.column;
        there = o.there;
        pieces = map (λ q. q.0) o.pieces;
        are = o.are;
        among = subst (Among p) (sym over) (among-middle (map (λ q. q.0) last.front) (map (λ q. q.0) last.passed) p);
      }
