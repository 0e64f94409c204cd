-- How rows become a decision tree (Maranget 2008): by rules, for any choice of the place that is looked at next.
use Rattle.std.specs.Prelude.{◌≡◌, ◌⊎◌, ℕ, Bool, true, false, List, [], ◌∷◌, map, drop, Some, slice_get, IsTrue}
use Rattle.std.specs.List.{list_all}
use Rattle.match_model.specs.Values.{MValue}
use Rattle.match_model.specs.Constructors.{MCtor}
use Rattle.match_model.specs.Contexts.{Context}
use Rattle.match_model.specs.Pieces.{ArePieces}
use Rattle.match_model.specs.Trees.{ElseCase}
use Rattle.match_model.specs.Rows.{starts_wild, column_of}
use Rattle.match_model.specs.Matrices.{MColumn, MRow, open_of, part_columns}
use Rattle.match_model.specs.PieceStates.{HasValue, named_in, is_present}
use Rattle.match_model.specs.DecisionTrees.{MTree, SwitchTree, AskTree, TakeTree, MissTree, VoidTree, MBranches, no_branch, more_branches, row_binds, all_wild, is_switchless, case_of, IsMissing}
use Rattle.match_model.specs.Keys.{Decision}
use Rattle.match_model.specs.Steps.{expand_head, specialise_head, default_head, replaced_at, rows_at}
use Rattle.match_model.specs.RowOrder.{AreInOrder}

-- the constructors of column `i`
abbrev pub ctors_at : {T : Type 0} → (i : ℕ) → List (MRow T) → List MCtor
ctors_at i rows = column_of (map (λ r. drop i r.heads) rows)

-- every row has a wildcard or a name in column `i`
abbrev pub all_wild_at : {T : Type 0} → (i : ℕ) → List (MRow T) → Bool
all_wild_at i rows = list_all (λ r. starts_wild (drop i r.heads)) rows

mutual
  -- the tree of rows over columns, in which `Chooses` says the number of a column that may be looked at next, and
  -- `BareOnly` that the domain has only a bare unseen. Without a row nothing is left. A first row of wildcards and names is
  -- taken, or asks its guard and goes on with the other rows. Else a column is looked at, once its or-patterns are expanded:
  -- where no row has a constructor there it is dropped, which makes no node; where its type is switchless its parts take its
  -- place; else there is a switch. After each step the rows are in order again
  pub data Lowers {T : Type 0} (cx : Context T) (IsValue : T → Bool → MValue → Type 0) (decides : ℕ → Decision)
      (Chooses : List (MColumn T) → List (MRow T) → ℕ → Type 0) (BareOnly : Type 0) :
      List (MColumn T) → List (MRow T) → MTree → Type 0 where
    no_value_left : (columns : List (MColumn T)) → BareOnly →
        Lowers cx IsValue decides Chooses BareOnly columns [] VoidTree
    no_row_left : (columns : List (MColumn T)) → ¬ BareOnly →
        Lowers cx IsValue decides Chooses BareOnly columns [] MissTree
    takes : (columns : List (MColumn T)) (r : MRow T) (rows : List (MRow T)) → IsTrue (all_wild r) →
        r.guarded ≡ false →
        Lowers cx IsValue decides Chooses BareOnly columns (r ∷ rows) (TakeTree r.arm (row_binds columns r))
    asks : (columns : List (MColumn T)) (r : MRow T) (rows : List (MRow T)) (refused : MTree) →
        IsTrue (all_wild r) → r.guarded ≡ true →
        Lowers cx IsValue decides Chooses BareOnly columns rows refused →
        Lowers cx IsValue decides Chooses BareOnly columns (r ∷ rows) (AskTree r.arm (row_binds columns r) refused)
    drops : (i : ℕ) (c : MColumn T) (columns : List (MColumn T)) (rows expanded next : List (MRow T)) (tree : MTree) →
        Chooses columns rows i → slice_get columns i ≡ Some c →
        AreInOrder decides (rows_at expand_head c.place i rows) expanded → IsTrue (all_wild_at i expanded) →
        AreInOrder decides (rows_at default_head c.place i expanded) next →
        Lowers cx IsValue decides Chooses BareOnly (replaced_at i columns []) next tree →
        Lowers cx IsValue decides Chooses BareOnly columns rows tree
    opens : (i : ℕ) (c : MColumn T) (columns : List (MColumn T)) (rows expanded next : List (MRow T)) (piece : MCtor)
        (tree : MTree) →
        Chooses columns rows i → slice_get columns i ≡ Some c →
        AreInOrder decides (rows_at expand_head c.place i rows) expanded → all_wild_at i expanded ≡ false →
        IsTrue (is_switchless (cx.set_of c.type)) → ArePieces (cx.set_of c.type) (ctors_at i expanded) (piece ∷ []) →
        AreInOrder decides (rows_at (specialise_head piece (cx.arity piece c.type)) c.place i expanded) next →
        Lowers cx IsValue decides Chooses BareOnly (replaced_at i columns (part_columns cx c piece)) next tree →
        Lowers cx IsValue decides Chooses BareOnly columns rows tree
    switches : (i : ℕ) (c : MColumn T) (columns : List (MColumn T)) (rows expanded : List (MRow T))
        (pieces : List MCtor) (branches : MBranches) →
        Chooses columns rows i → slice_get columns i ≡ Some c →
        AreInOrder decides (rows_at expand_head c.place i rows) expanded → all_wild_at i expanded ≡ false →
        is_switchless (cx.set_of c.type) ≡ false → ArePieces (cx.set_of c.type) (ctors_at i expanded) pieces →
        Branches cx IsValue decides Chooses BareOnly i c columns expanded pieces pieces branches →
        Lowers cx IsValue decides Chooses BareOnly columns rows (SwitchTree c.place branches)

  -- the cases of a switch at column `i` over the last of its pieces: one for each piece with a value that a head has, and an
  -- else where there is a value of a piece that none has
  pub data Branches {T : Type 0} (cx : Context T) (IsValue : T → Bool → MValue → Type 0) (decides : ℕ → Decision)
      (Chooses : List (MColumn T) → List (MRow T) → ℕ → Type 0) (BareOnly : Type 0) :
      ℕ → MColumn T → List (MColumn T) → List (MRow T) → (all pieces : List MCtor) → MBranches → Type 0 where
    no_else : (i : ℕ) (c : MColumn T) (columns : List (MColumn T)) (rows : List (MRow T)) (all : List MCtor) →
        ((piece : MCtor) → IsMissing all (ctors_at i rows) piece → ¬ HasValue IsValue (open_of c)
        (named_in all) piece) →
        Branches cx IsValue decides Chooses BareOnly i c columns rows all [] no_branch
    with_else : (i : ℕ) (c : MColumn T) (columns : List (MColumn T)) (rows next : List (MRow T)) (all : List MCtor)
        (piece : MCtor) (tree : MTree) →
        IsMissing all (ctors_at i rows) piece → HasValue IsValue (open_of c) (named_in all) piece →
        AreInOrder decides (rows_at default_head c.place i rows) next →
        Lowers cx IsValue decides Chooses BareOnly (replaced_at i columns []) next tree →
        Branches cx IsValue decides Chooses BareOnly i c columns rows all [] (more_branches ElseCase tree no_branch)
    no_case : (i : ℕ) (c : MColumn T) (columns : List (MColumn T)) (rows : List (MRow T)) (all : List MCtor)
        (piece : MCtor) (pieces : List MCtor) (branches : MBranches) →
        is_present (ctors_at i rows) piece ≡ false ⊎ ¬ HasValue IsValue (open_of c) (named_in all) piece →
        Branches cx IsValue decides Chooses BareOnly i c columns rows all pieces branches →
        Branches cx IsValue decides Chooses BareOnly i c columns rows all (piece ∷ pieces) branches
    one_case : (i : ℕ) (c : MColumn T) (columns : List (MColumn T)) (rows next : List (MRow T)) (all : List MCtor)
        (piece : MCtor) (pieces : List MCtor) (tree : MTree) (branches : MBranches) →
        IsTrue (is_present (ctors_at i rows) piece) → HasValue IsValue (open_of c) (named_in all) piece →
        AreInOrder decides (rows_at (specialise_head piece (cx.arity piece c.type)) c.place i rows) next →
        Lowers cx IsValue decides Chooses BareOnly (replaced_at i columns (part_columns cx c piece)) next tree →
        Branches cx IsValue decides Chooses BareOnly i c columns rows all pieces branches →
        Branches cx IsValue decides Chooses BareOnly i c columns rows all (piece ∷ pieces)
        (more_branches (case_of piece) tree branches)
