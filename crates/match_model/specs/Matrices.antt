-- Matrices: rows of heads over columns, with what was chosen and caught on the way; their ways, and the steps that expand
-- or-patterns and specialise (Maranget 2007, 2008).
use Rattle.std.specs.Prelude.{◌≡◌, ◌≢◌, ℕ, suc, ◌+◌, ◌-◌, Bool, true, false, ◌&&◌, nat_eq, slice_get, List, [], ◌∷◌, ◌++◌, map, nat_lt, Option, Some, None, IsTrue, cond}
use Rattle.std.specs.List.{flat_map, Contains}
use Rattle.match_model.specs.Values.{MValue}
use Rattle.match_model.specs.Ways.{Way, bare_way, combine, under, bindings_of_both}
use Rattle.match_model.specs.Select.{Try, try_of}
use Rattle.match_model.specs.Places.{MStep, ThroughStep, FieldStep, FrontStep, BackStep, MiddleStep, part_at, position_at}
use Rattle.match_model.specs.Trees.{MBind, bindings_in, places_are}
use Rattle.match_model.specs.Constructors.{FixedShape, LongerShape, MCtor, PointCtor, VariantCtor, RowCtor}
use Rattle.match_model.specs.Contexts.{Context, Open}
use Rattle.match_model.specs.ArenaPatterns.{MPart, WholePart, MiddlePart, MBound, de_pat, MDeArm, MDeMatch}
use Rattle.match_model.specs.ArenaWays.{arena_ways}
use Rattle.match_model.specs.Pieces.{each_below}
use Rattle.match_model.specs.PieceStates.{IsPieceOf}
use Rattle.match_model.specs.Rows.{Head, choices_of, starts_wild, starts_or, row_rest, column_of, specialised_heads, part_open}

-- a column: the place that it looks at, its type, and whether the place is sure
pub record MColumn (T : Type 0) : Type 0 where
  pub place : List MStep
  pub type : T
  pub sure : Bool

-- a row: its arm and guard, the alternatives chosen so far, the names caught so far, and a head for each column
pub record MRow (T : Type 0) : Type 0 where
  pub heads : List (Head T)
  pub arm : ℕ
  pub guarded : Bool
  pub chosen : List ℕ
  pub caught : List MBind

-- columns and rows
pub record MMatrix (T : Type 0) : Type 0 where
  pub columns : List (MColumn T)
  pub rows : List (MRow T)

-- the ways of a head on a value
abbrev pub head_ways : {T : Type 0} → Head T → MValue → List Way
head_ways None v = bare_way ∷ []
head_ways (Some p) v = arena_ways p v

-- the way seen from further out, through these numbers
abbrev pub under_all : List ℕ → Way → Way
under_all [] w = w
under_all (i ∷ is) w = under i (under_all is w)

-- the ways of a head on the part at a place; none where the place is not there
abbrev pub ways_at : {T : Type 0} → Option (List ℕ) → Option MValue → Head T → List Way
ways_at (Some position) (Some u) h = map (under_all position) (head_ways h u)
ways_at _ _ h = []

-- the combinations of the heads' ways on the parts of the value at the columns' places, the first varying slowest
abbrev pub heads_ways : {T : Type 0} → List (MColumn T) → List (Head T) → MValue → List Way
heads_ways [] [] v = bare_way ∷ []
heads_ways [] (h ∷ heads) v = []
heads_ways (c ∷ columns) [] v = []
heads_ways (c ∷ columns) (h ∷ heads) v =
    combine (ways_at (position_at c.place v) (part_at c.place v) h) (heads_ways columns heads v)

-- the way with what the row has chosen in front, and what it has caught beside
abbrev pub row_way : (chosen : List ℕ) → (caught : List MBind) → MValue → Way → Way
row_way chosen caught v w = record {
  trace = chosen ++ w.trace;
  bindings = bindings_of_both (bindings_in v caught) w.bindings;
  spans = w.spans;
}

-- what there is to try of a row
abbrev pub row_tries : {T : Type 0} → List (MColumn T) → MValue → MRow T → List Try
row_tries columns v r = map (try_of r.arm r.guarded) (map (row_way r.chosen r.caught v) (heads_ways columns r.heads v))

-- the ways of the matrix on a value, the rows' one after the other
abbrev pub matrix_ways : {T : Type 0} → MMatrix T → MValue → List Try
matrix_ways m v = flat_map (row_tries m.columns v) m.rows

-- the rows of the arms, each with its pattern as the only head, the arms being numbered from `j`
abbrev pub first_rows : {T : Type 0} → ℕ → List (MDeArm T) → List (MRow T)
first_rows j [] = []
first_rows j (a ∷ rest) =
    record { heads = Some a.pat ∷ []; arm = j; guarded = a.guarded; chosen = []; caught = [] } ∷ first_rows (suc j) rest

-- the first matrix of a match: one column, the scrutinee's, and one row for each arm
abbrev pub first_matrix : {T : Type 0} → MDeMatch T → MMatrix T
first_matrix m = record {
  columns = record { place = []; type = m.type; sure = m.sure } ∷ [];
  rows = first_rows 0 m.arms;
}

-- the first list begins the second
abbrev pub begins : List ℕ → List ℕ → Bool
begins [] ns = true
begins (m ∷ ms) [] = false
begins (m ∷ ms) (n ∷ ns) = nat_eq m n && begins ms ns

-- the value is one that a matrix speaks of: at each column's place stands a value of its type, each place is there that a
-- row has caught, and no column lies at the position of another, or inside it
pub record IsMatrixValue {T : Type 0} (IsValue : T → Bool → MValue → Type 0) (m : MMatrix T) (v : MValue) : Type 0 where
  pub filled : (c : MColumn T) → Contains m.columns c → (u : MValue) × (part_at c.place v ≡ Some u) × IsValue c.type c.sure u
  pub there : (r : MRow T) → Contains m.rows r → IsTrue (places_are v r.caught)
  pub apart : (i j : ℕ) (c d : MColumn T) (p q : List ℕ) → slice_get m.columns i ≡ Some c → slice_get m.columns j ≡ Some d →
      i ≢ j → position_at c.place v ≡ Some p → position_at d.place v ≡ Some q → begins p q ≡ false

-- a name with the place of what it holds
abbrev pub bind_at : List MStep → MBound → MBind
bind_at place b = record { name = b.name; mode = b.mode; place = part_place b.part }
  where
    part_place : MPart → List MStep
    part_place WholePart = place
    part_place (MiddlePart f b) = place ++ MiddleStep f b ∷ []

-- the names that a head binds by itself, at the place of its column
abbrev pub head_binds : {T : Type 0} → List MStep → Head T → List MBind
head_binds place None = []
head_binds place (Some (de_pat c t uid at subs binds)) = map (bind_at place) binds

-- the row with another list of heads, more alternatives chosen, and more names caught
abbrev pub row_with : {T : Type 0} → MRow T → List (Head T) → (chosen : List ℕ) → (caught : List MBind) → MRow T
row_with r heads chosen caught = record r { heads = heads; chosen = r.chosen ++ chosen; caught = r.caught ++ caught }

-- the row once for each alternative of its first head, whose place this is
abbrev pub expand_first : {T : Type 0} → List MStep → MRow T → List (Head T) → List (MRow T)
expand_first place r [] = r ∷ []
expand_first place r (None ∷ rest) = r ∷ []
expand_first place r (Some p ∷ rest) =
    map (λ c. row_with r (Some c.pat ∷ rest) c.chosen (map (bind_at place) c.binds)) (choices_of p)

-- the rows once for each alternative of their first heads
abbrev pub expand_rows : {T : Type 0} → List MStep → List (MRow T) → List (MRow T)
expand_rows place rows = flat_map (λ r. expand_first place r r.heads) rows

-- the first head is a wildcard or a name
abbrev pub first_wild : {T : Type 0} → MRow T → Bool
first_wild r = starts_wild r.heads

-- the first head is an or-pattern
abbrev pub first_or : {T : Type 0} → MRow T → Bool
first_or r = starts_or r.heads

-- the constructors of the first column
abbrev pub column_ctors : {T : Type 0} → List (MRow T) → List MCtor
column_ctors rows = column_of (map (λ r. r.heads) rows)

-- the constructor is a piece of the first column's split, by which rows are specialised
abbrev pub IsFirstPiece : {T : Type 0} → Context T → MMatrix T → MCtor → Type 0
IsFirstPiece {T} cx m piece =
    (c : MColumn T) × (columns : List (MColumn T)) × (m.columns ≡ c ∷ columns) × IsPieceOf (cx.set_of c.type) (column_ctors m.rows) piece

-- the open place of a column
abbrev pub open_of : {T : Type 0} → MColumn T → Open T
open_of c = record { type = c.type; sure = c.sure }

-- the column of an open place
abbrev pub column_at : {T : Type 0} → List MStep → Open T → MColumn T
column_at place o = record { place = place; type = o.type; sure = o.sure }

-- the names that the first head binds by itself, at its place
abbrev pub first_binds : {T : Type 0} → List MStep → List (Head T) → List MBind
first_binds place [] = []
first_binds place (h ∷ rest) = head_binds place h

-- the rows specialised by a piece of so many parts (Maranget 2008): those whose first head has it, with the heads of its
-- parts in place of that head
abbrev pub specialised_rows : {T : Type 0} → List MStep → (piece : MCtor) → (count : ℕ) → List (MRow T) → List (MRow T)
specialised_rows place piece n rows =
    flat_map (λ r. map (λ heads. row_with r heads [] (first_binds place r.heads)) (specialised_heads piece n r.heads)) rows

-- the default rows (Maranget 2008): those whose first head is a wildcard or a name, without it
abbrev pub default_rows : {T : Type 0} → List MStep → List (MRow T) → List (MRow T)
default_rows place rows =
    flat_map (λ r. cond (first_wild r) (row_with r (row_rest r.heads) [] (first_binds place r.heads) ∷ []) []) rows

-- the step to part `i` of a piece: the items of one length from the front, those behind a rest from the back
abbrev pub part_step : MCtor → ℕ → MStep
part_step PointCtor i = ThroughStep
part_step (VariantCtor k) i = FieldStep k i
part_step (RowCtor (FixedShape n)) i = FrontStep i
part_step (RowCtor (LongerShape f b)) i = cond (nat_lt i f) (FrontStep i) (BackStep (f + b - i))
part_step _ i = FieldStep 0 i

-- the columns of the parts of a piece
abbrev pub part_columns : {T : Type 0} → Context T → MColumn T → (piece : MCtor) → List (MColumn T)
part_columns cx c piece =
    each_below (λ i. column_at (c.place ++ part_step piece i ∷ []) (part_open cx (open_of c) piece i)) (cx.arity piece c.type)
