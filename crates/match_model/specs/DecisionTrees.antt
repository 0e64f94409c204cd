-- Decision trees with their subtrees in their places, and the parts that a row or a column gives to them (our own choice,
-- after Maranget 2008). `Lowering` has the rules by which rows become a tree.
use Rattle.std.specs.Prelude.{◌≡◌, ℕ, Bool, true, false, List, [], ◌∷◌, ◌++◌, Some}
use Rattle.std.specs.List.{list_all, Contains}
use Rattle.match_model.specs.Ways.{put_by}
use Rattle.match_model.specs.Constructors.{FixedShape, LongerShape, MCtor, VariantCtor, FlagCtor, NumbersCtor, TextCtor, RowCtor, MSet, SingleSet, PointSet, RowSet}
use Rattle.match_model.specs.Places.{MStep}
use Rattle.match_model.specs.Trees.{MCase, VariantCase, FlagCase, SpanCase, TextCase, LengthCase, LongerCase, ElseCase, MBind}
use Rattle.match_model.specs.PieceStates.{is_present}
use Rattle.match_model.specs.Rows.{Head, is_wild}
use Rattle.match_model.specs.Matrices.{MColumn, MRow, head_binds}

mutual
  -- a tree with its subtrees in their places
  pub data MTree : Type 0 where
    SwitchTree : (place : List MStep) → MBranches → MTree
    AskTree : (arm : ℕ) → List MBind → (refused : MTree) → MTree
    TakeTree : (arm : ℕ) → List MBind → MTree
    MissTree VoidTree : MTree

  -- the cases of a switch, each with its tree
  pub data MBranches : Type 0 where
    no_branch : MBranches
    more_branches : MCase → MTree → MBranches → MBranches

-- the names that the heads bind by themselves, column by column
abbrev pub all_head_binds : {T : Type 0} → List (MColumn T) → List (Head T) → List MBind
all_head_binds (c ∷ columns) (h ∷ heads) = head_binds c.place h ++ all_head_binds columns heads
all_head_binds [] heads = []
all_head_binds (c ∷ columns) [] = []

-- the names ascending
abbrev pub by_name : List MBind → List MBind
by_name [] = []
by_name (b ∷ rest) = put_by (λ c. c.name) b (by_name rest)

-- what an arm binds whose row has only wildcards and names left
abbrev pub row_binds : {T : Type 0} → List (MColumn T) → MRow T → List MBind
row_binds columns r = by_name (r.caught ++ all_head_binds columns r.heads)

-- every head is a wildcard or a name
abbrev pub all_wild : {T : Type 0} → MRow T → Bool
all_wild r = list_all is_wild r.heads

-- a type whose parts take its place without a node: a struct, tuple, reference or array
abbrev pub is_switchless : MSet → Bool
is_switchless SingleSet = true
is_switchless PointSet = true
is_switchless (RowSet (Some n)) = true
is_switchless _ = false

-- the case of a piece
abbrev pub case_of : MCtor → MCase
case_of (VariantCtor k) = VariantCase k
case_of (FlagCtor b) = FlagCase b
case_of (NumbersCtor r) = SpanCase r
case_of (TextCtor t) = TextCase t
case_of (RowCtor (FixedShape n)) = LengthCase n
case_of (RowCtor (LongerShape f b)) = LongerCase f b
case_of _ = ElseCase

-- the piece is one of all that no head of the column has
abbrev pub IsMissing : (all heads : List MCtor) → (piece : MCtor) → Type 0
IsMissing all heads piece = Contains all piece × (is_present heads piece ≡ false)
