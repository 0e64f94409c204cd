-- What waits for the tree of other rows, and for the tree of which rows.
use Rattle.std.specs.Prelude.{◌≡◌, ◌⊎◌, ℕ, Bool, true, false, List, [], ◌∷◌, ◌++◌, map, reverse, slice_get, Some, IsTrue}
use Rattle.std.specs.List.{filter_map}
use Rattle.match_model.specs.Values.{MValue, Unseen}
use Rattle.match_model.specs.ArenaPatterns.{MDeMatch}
use Rattle.match_model.specs.ArenaWays.{InMatchDomain}
use Rattle.match_model.specs.Constructors.{MCtor}
use Rattle.match_model.specs.Contexts.{Context}
use Rattle.match_model.specs.DecisionTrees.{MTree, MBranches, no_branch, row_binds, all_wild, is_switchless, case_of, IsMissing}
use Rattle.match_model.specs.FewestBranches.{IsFewest}
use Rattle.match_model.specs.Keys.{Decision}
use Rattle.match_model.specs.Lists.{Each}
use Rattle.match_model.specs.Lowering.{Lowers, Branches, ctors_at, all_wild_at}
use Rattle.match_model.specs.Matrices.{MColumn, MRow, open_of, part_columns, first_matrix}
use Rattle.match_model.specs.PieceStates.{HasValue, named_in}
use Rattle.match_model.specs.Pieces.{ArePieces}
use Rattle.match_model.specs.Places.{MStep}
use Rattle.match_model.specs.RowOrder.{AreInOrder}
use Rattle.match_model.specs.SharedTrees.{WalksAll, case_trees}
use Rattle.match_model.specs.Steps.{expand_head, specialise_head, default_head, rows_at, replaced_at}
use Rattle.match_model.specs.Trees.{MCase, ElseCase, MBranch}
use Rattle.pat_context.specs.Views.{plain_place}
use Rattle.constructor_sets.specs.Columns.{IsColumnSplit, plain_ctors}
use Rattle.constructor_sets.specs.Present.{present_piece}
use Rattle.constructor_sets.specs.declared.piece.PieceState.{PieceState}
use Rattle.constructor_sets.specs.declared.piece.PieceState.TheVariants.{Present}
use Rattle.tree_sharing.specs.Table.{IsBuilt, IsCaseAt}
use Rattle.tree_eval.specs.Nodes.{plain_bind, plain_branch, plain_case}
use Rattle.tree_eval.specs.Tables.{IsFinished}
use Rattle.decision_tree.specs.declared.frames.Looked.{Looked}
use Rattle.decision_tree.specs.declared.frames.Frame.{Frame}
use Rattle.decision_tree.specs.declared.frames.Frame.TheVariants.{Guard, Switch, Last, Others, Note}
use Rattle.decision_tree.specs.declared.frames.Matrix.{Matrix}
use Rattle.decision_tree.specs.declared.frames.Turn.{Turn}
use Rattle.decision_tree.specs.declared.frames.Turn.TheVariants.{Lower, Finished, Done}
use Rattle.decision_tree.specs.Cuts.{AreCut}
use Rattle.decision_tree.specs.Known.{IsInScope, known_matrix}
use Rattle.decision_tree.specs.KnownViews.{plain_known_matrix}
use Rattle.decision_tree.specs.Matrices.{matrix_columns, matrix_rows, IsGoodMatrix, IsReadyMatrix, IsEntered}

-- the test says whether it is so
abbrev pub Tells : Bool → Type 0 → Type 0
Tells b P = (b ≡ true → P) × (b ≡ false → ¬ P)

-- the domain of the match has only a bare unseen
abbrev pub IsBare : {T : Type 0} → (T → Bool → MValue → Type 0) → MDeMatch T → Type 0
IsBare V m = (u : MValue) → InMatchDomain V m u → u ≡ Unseen

-- the match of which a tree is made
abbrev pub Root : Type 0 → Type 0
Root T = MDeMatch T

-- which rows have which of its pieces, and what is to do of them
abbrev pub IsCutOf : {T : Type 0} → Looked T → Type 0
IsCutOf l = AreCut l.column (matrix_rows l.matrix) (plain_ctors l.pieces.items) l.spans.items l.todo.items

module _ {T : Type 0} (IsType : T → Type 0) (cx : Context T) (V : T → Bool → MValue → Type 0)
    (decides : ℕ → Decision) (m : MDeMatch T) where
  -- the tree of the rows, of a match
  abbrev pub Makes : List (MColumn T) → List (MRow T) → MTree → Type 0
  Makes columns rows t = Lowers cx V decides (IsFewest cx V) (IsBare V m) columns rows t

  -- column `i` of a matrix without or-patterns there, made of these rows: some pieces are done, and a walk from `base` has
  -- gone through their cases, the last one first; those in front of them are to come
  pub record IsLooked (e : Matrix T) (i : ℕ) (todo : List MCtor) (cases : List MBranch) (rows : List (MRow T))
      (base now : List MTree) (front behind : List (MCtor × PieceState)) (branches : MBranches) : Type 0 where
    pub column : MColumn T
    pub there : slice_get (matrix_columns e) i ≡ Some column
    pub ready : IsReadyMatrix IsType cx decides i e
    pub scope : IsInScope cx m (matrix_columns e) (matrix_rows e)
    pub chosen : IsFewest cx V (matrix_columns e) rows i
    pub expanded : AreInOrder decides (rows_at expand_head column.place i rows) (matrix_rows e)
    pub some : all_wild_at i (matrix_rows e) ≡ false
    pub switch : is_switchless (cx.set_of column.type) ≡ false
    pub pieces : List (MCtor × PieceState)
    pub split : IsColumnSplit V cx (open_of column) (ctors_at i (matrix_rows e)) pieces
    pub still : todo ≡ filter_map present_piece front
    pub built : IsBuilt base
    pub walked : WalksAll base branches now
    pub at : Each (IsCaseAt now) (case_trees branches) (reverse cases)

  -- the cases of these pieces
  abbrev pub AreDone : (e : Matrix T) → (i : ℕ) → MColumn T → (pieces behind : List (MCtor × PieceState)) → MBranches →
      Type 0
  AreDone e i c pieces behind branches =
      Branches cx V decides (IsFewest cx V) (IsBare V m) i c (matrix_columns e) (matrix_rows e)
      (map (λ p. p.0) pieces) (map (λ p. p.0) behind) branches

  -- the last case is done next, that of all pieces that stand in no row: by the tree of these rows
  pub record IsElseNext (e : Matrix T) (i : ℕ) (c : MColumn T) (pieces : List (MCtor × PieceState)) (case : MCase)
      (columns : List (MColumn T)) (rows : List (MRow T)) (front behind : List (MCtor × PieceState))
      (branches : MBranches) : Type 0 where
    pub is : case ≡ ElseCase
    pub piece : MCtor
    pub missing : IsMissing (map (λ p. p.0) pieces) (ctors_at i (matrix_rows e)) piece
    pub value : HasValue V (open_of c) (named_in (map (λ p. p.0) pieces)) piece
    pub over : columns ≡ replaced_at i (matrix_columns e) []
    pub order : AreInOrder decides (rows_at default_head c.place i (matrix_rows e)) rows
    pub all : front ≡ pieces
    pub last : behind ≡ []
    pub none : branches ≡ no_branch

  -- the case of a piece is done next, by the tree of these rows
  pub record IsPieceNext (e : Matrix T) (i : ℕ) (c : MColumn T) (pieces : List (MCtor × PieceState)) (case : MCase)
      (columns : List (MColumn T)) (rows : List (MRow T)) (front behind : List (MCtor × PieceState))
      (branches : MBranches) : Type 0 where
    pub piece : MCtor
    pub is : case ≡ case_of piece
    pub cut : pieces ≡ front ++ (piece, Present) ∷ behind
    pub over : columns ≡ replaced_at i (matrix_columns e) (part_columns cx c piece)
    pub order : AreInOrder decides (rows_at (specialise_head piece (cx.arity piece c.type)) c.place i (matrix_rows e)) rows
    pub done : AreDone e i c pieces behind branches

  -- the tree of the rows is that of the others
  abbrev pub Leads : List (MColumn T) → List (MRow T) → List (MColumn T) → List (MRow T) → Type 0
  Leads columns rows cs rs = (t : MTree) → Makes columns rows t → Makes cs rs t

  -- this is the place of column `i`
  abbrev pub IsPlaceAt : (place : List MStep) → (e : Matrix T) → (i : ℕ) → Type 0
  IsPlaceAt place e i = (c : MColumn T) → slice_get (matrix_columns e) i ≡ Some c → place ≡ c.place

  -- a case of a switch at column `i` is done next, by the tree of these rows, and then what waits for the switch goes on
  abbrev pub IsSwitching : (goes_on : List MTree → List (MColumn T) → List (MRow T) → Type 0) → (e : Matrix T) →
      (i : ℕ) → (todo : List MCtor) → (cases : List MBranch) → MCase → (now : List MTree) → List (MColumn T) →
      List (MRow T) → Type 0
  IsSwitching goes_on e i todo cases case now columns rows =
      (cs : List (MColumn T)) × (rs : List (MRow T)) × Leads columns rows cs rs
      × (whole : List (MRow T)) × (base : List MTree) × (front : List (MCtor × PieceState))
      × (behind : List (MCtor × PieceState)) × (branches : MBranches)
      × (k : IsLooked e i todo cases whole base now front behind branches)
      × (IsElseNext e i k.column k.pieces case cs rs front behind branches
      ⊎ IsPieceNext e i k.column k.pieces case cs rs front behind branches)
      × goes_on base (matrix_columns e) whole

  -- where the tree of the rows is finished after `now`, and then what waits for it is, the tree of the match is
  abbrev pub Awaits : List (Frame T) → (now : List MTree) → List (MColumn T) → List (MRow T) → Type 0
  Awaits [] now columns rows = Leads columns rows (first_matrix m).columns (first_matrix m).rows × (now ≡ [])
  Awaits (Guard arm binds ∷ frames) now columns rows =
      (cs : List (MColumn T)) × (r : MRow T) × (rs : List (MRow T)) × Leads columns rows cs rs × IsTrue (all_wild r)
      × (r.guarded ≡ true) × (arm ≡ r.arm) × (map plain_bind binds.items ≡ row_binds cs r)
      × Awaits frames now cs (r ∷ rs)
  Awaits (Switch l case ∷ frames) now columns rows =
      (cs : List (MColumn T)) × (rs : List (MRow T)) × Leads columns rows cs rs
      × (whole : List (MRow T)) × (base : List MTree) × (front : List (MCtor × PieceState))
      × (behind : List (MCtor × PieceState)) × (branches : MBranches)
      × (k : IsLooked l.matrix l.column (plain_ctors l.pieces.items) (map plain_branch l.cases.items) whole base now front
      behind branches)
      × (IsElseNext l.matrix l.column k.column k.pieces (plain_case case) cs rs front behind branches
      ⊎ IsPieceNext l.matrix l.column k.column k.pieces (plain_case case) cs rs front behind branches)
      × Awaits frames base (matrix_columns l.matrix) whole × IsCutOf l
  Awaits (Last place cases case ∷ frames) now columns rows =
      (e : Matrix T) × (i : ℕ) × IsPlaceAt (plain_place place.now) e i
      × IsSwitching (Awaits frames) e i [] (map plain_branch cases.items) (plain_case case) now columns rows
  Awaits (Others place case next ∷ frames) now columns rows =
      (e : Matrix T) × (i : ℕ) × (p : MCtor) × IsPlaceAt (plain_place place.now) e i × (plain_case case ≡ case_of p)
      × IsEntered cx decides i e p next × IsGoodMatrix IsType cx decides next
      × IsInScope cx m (matrix_columns next) (matrix_rows next)
      × IsSwitching (Awaits frames) e i (p ∷ []) [] ElseCase now columns rows
  Awaits (Note matrix ∷ frames) now columns rows =
      (cs : List (MColumn T)) × (rs : List (MRow T)) × Leads columns rows cs rs
      × (plain_known_matrix matrix ≡ known_matrix cs rs) × IsInScope cx m cs rs × Awaits frames now cs rs

  -- cases of a switch are done, and the others are to come
  abbrev pub IsLeft : List (Frame T) → (now : List MTree) → Matrix T → (i : ℕ) → (todo : List MCtor) →
      (cases : List MBranch) → Type 0
  IsLeft frames now e i todo cases =
      (whole : List (MRow T)) × (base : List MTree) × (front : List (MCtor × PieceState))
      × (behind : List (MCtor × PieceState)) × (branches : MBranches)
      × (k : IsLooked e i todo cases whole base now front behind branches) × (k.pieces ≡ front ++ behind)
      × AreDone e i k.column k.pieces behind branches × Awaits frames base (matrix_columns e) whole

  -- the same, of a switch as it waits
  abbrev pub IsLeftOf : List (Frame T) → (now : List MTree) → Looked T → Type 0
  IsLeftOf frames now l =
      IsLeft frames now l.matrix l.column (plain_ctors l.pieces.items) (map plain_branch l.cases.items) × IsCutOf l

  -- all cases of a switch at the place are done
  abbrev pub IsEnded : List (Frame T) → (now : List MTree) → (place : List MStep) → (cases : List MBranch) → Type 0
  IsEnded frames now place cases =
      (e : Matrix T) × (i : ℕ) × IsPlaceAt place e i × IsLeft frames now e i [] cases

  -- a switch begins by the case of all pieces that stand in no row
  pub record IsElseOf (frames : List (Frame T)) (now : List MTree) (l : Looked T) : Type 0 where
    pub column : MColumn T
    pub there : slice_get (matrix_columns l.matrix) l.column ≡ Some column
    pub ready : IsReadyMatrix IsType cx decides l.column l.matrix
    pub scope : IsInScope cx m (matrix_columns l.matrix) (matrix_rows l.matrix)
    pub pieces : List (MCtor × PieceState)
    pub are : ArePieces (cx.set_of column.type) (ctors_at l.column (matrix_rows l.matrix)) (map (λ p. p.0) pieces)
    pub still : plain_ctors l.pieces.items ≡ filter_map present_piece pieces
    pub none : map plain_branch l.cases.items ≡ []
    pub cut : IsCutOf l
    pub awaits : (columns : List (MColumn T)) (rows : List (MRow T)) →
        columns ≡ replaced_at l.column (matrix_columns l.matrix) [] →
        AreInOrder decides (rows_at default_head column.place l.column (matrix_rows l.matrix)) rows →
        IsSwitching (Awaits frames) l.matrix l.column (plain_ctors l.pieces.items) (map plain_branch l.cases.items) ElseCase
        now columns rows

  -- column `i` is looked at, and some row has a constructor there
  pub record IsOpened (frames : List (Frame T)) (now : List MTree) (i : ℕ) (switchless : Bool) (e : Matrix T) : Type 0 where
    pub column : MColumn T
    pub there : slice_get (matrix_columns e) i ≡ Some column
    pub rows : List (MRow T)
    pub chosen : IsFewest cx V (matrix_columns e) rows i
    pub expanded : AreInOrder decides (rows_at expand_head column.place i rows) (matrix_rows e)
    pub ready : IsReadyMatrix IsType cx decides i e
    pub scope : IsInScope cx m (matrix_columns e) (matrix_rows e)
    pub some : all_wild_at i (matrix_rows e) ≡ false
    pub kind : is_switchless (cx.set_of column.type) ≡ switchless
    pub awaits : Awaits frames now (matrix_columns e) rows

  -- what is done next keeps to that
  abbrev pub IsTurn : List (Frame T) → (now : List MTree) → Turn T → Type 0
  IsTurn frames now (Lower e) =
      IsGoodMatrix IsType cx decides e × Awaits frames now (matrix_columns e) (matrix_rows e)
      × IsInScope cx m (matrix_columns e) (matrix_rows e)
  IsTurn frames now (Finished index) =
      (columns : List (MColumn T)) × (rows : List (MRow T)) × (t : MTree) × (before : List MTree)
      × IsBuilt before × Makes columns rows t × Awaits frames before columns rows × IsFinished before t index now
  IsTurn frames now (Done index) =
      (t : MTree) × Makes (first_matrix m).columns (first_matrix m).rows t × IsFinished [] t index now
