-- Matrices and rows of heads: their types, their heads, their or-patterns.
use Rattle.std.specs.Prelude.{◌≡◌, false, List, [], ◌∷◌, ⊤, map, Some, None}
use Rattle.match_model.specs.Contexts.{Context, Open}
use Rattle.match_model.specs.Rows.{Head, starts_or}
use Rattle.match_model.specs.Matrices.{MColumn, MRow, open_of, column_at}
use Rattle.match_model.specs.Made.{IsMadePat}
use Rattle.match_model.specs.WellTyped.{AreHeadsTyped}

-- each column has a type of the context
abbrev pub AreTypes : {T : Type 0} → (T → Type 0) → List (MColumn T) → Type 0
AreTypes IsType [] = ⊤
AreTypes IsType (c ∷ columns) = IsType c.type × AreTypes IsType columns

-- each row has a well-typed head for each column
abbrev pub AreRowsTyped : {T : Type 0} → Context T → List (MColumn T) → List (MRow T) → Type 0
AreRowsTyped cx columns [] = ⊤
AreRowsTyped cx columns (r ∷ rows) = AreHeadsTyped cx columns r.heads × AreRowsTyped cx columns rows

-- no first head is an or-pattern
abbrev pub AreNoneOr : {T : Type 0} → List (MRow T) → Type 0
AreNoneOr [] = ⊤
AreNoneOr (r ∷ rows) = (starts_or r.heads ≡ false) × AreNoneOr rows

-- the open places of columns, and the heads of rows
abbrev pub opens : {T : Type 0} → List (MColumn T) → List (Open T)
opens columns = map open_of columns

-- the heads of the rows
abbrev pub all_heads : {T : Type 0} → List (MRow T) → List (List (Head T))
all_heads rows = map (λ r. r.heads) rows

-- columns of open places; where they look does not count for their heads
abbrev pub cols : {T : Type 0} → List (Open T) → List (MColumn T)
cols places = map (column_at []) places

-- each row of heads has a well-typed head for each column
abbrev pub AllTyped : {T : Type 0} → Context T → List (MColumn T) → List (List (Head T)) → Type 0
AllTyped cx columns [] = ⊤
AllTyped cx columns (hs ∷ hss) = AreHeadsTyped cx columns hs × AllTyped cx columns hss

-- the ranges in the head can be held
abbrev pub IsMadeHead : {T : Type 0} → Head T → Type 0
IsMadeHead None = ⊤
IsMadeHead (Some p) = IsMadePat p

-- the ranges in the heads can be held
abbrev pub AreMadeHeads : {T : Type 0} → List (Head T) → Type 0
AreMadeHeads [] = ⊤
AreMadeHeads (h ∷ hs) = IsMadeHead h × AreMadeHeads hs

-- the ranges in the heads of the rows can be held
abbrev pub AreMadeRows : {T : Type 0} → List (List (Head T)) → Type 0
AreMadeRows [] = ⊤
AreMadeRows (hs ∷ hss) = AreMadeHeads hs × AreMadeRows hss
