-- The states of a search, as plain data.
use Rattle.std.specs.Prelude.{◌≡◌, ◌≤◌, ◌<◌, ℕ, Bool, true, false, List, ◌∷◌, ◌++◌, map, length, drop, get_or, Option, IsTrue}
use Rattle.match_model.specs.ArenaPatterns.{MDePat}
use Rattle.std.specs.List.{All, Contains, list_any}
use Rattle.std.specs.Option.{option_to_list}
use Rattle.match_model.specs.Values.{MValue}
use Rattle.match_model.specs.Constructors.{MCtor, belongs}
use Rattle.match_model.specs.Contexts.{Context, Open}
use Rattle.match_model.specs.Rows.{parts_open}
use Rattle.pat_context.specs.Laws.{HasFewItems}
use Rattle.pat_context.specs.Parts.{AreValues}
use Rattle.pattern_matrix.specs.Sparse.{SparseLeaf, AreOthers, head_has, leaf_parts}
use Rattle.pattern_matrix.specs.Columns.{plain_column}
use Rattle.pattern_arena.specs.Trees.{plain_arm}
use Rattle.pattern_matrix.specs.HeadLists.{kept_heads}
use Rattle.pattern_matrix.specs.Views.{plain_row, plain_leaves}
use Rattle.pattern_matrix.specs.Spreading.{all_apart}
use Rattle.pattern_matrix.specs.Searching.{Submatrix, apart, entered, left_over}
use Rattle.usefulness.specs.declared.frames.OpenColumn.{OpenColumn}
use Rattle.usefulness.specs.declared.frames.Asked.{Asked}
use Rattle.usefulness.specs.declared.frames.Frame.{Frame}
use Rattle.usefulness.specs.declared.frames.Listing.{Listing}
use Rattle.usefulness.specs.declared.frames.Apart.{Apart}
use Rattle.usefulness.specs.declared.frames.Reached.{Reached}
use Rattle.usefulness.specs.Marking.{is_marked}
use Rattle.usefulness.specs.Scope.{Scope}
use Rattle.usefulness.specs.Listing.{IsListing}
use Rattle.pattern_matrix.specs.Counting.{Question, WantedRow}
use Rattle.usefulness.specs.Children.{bare_sub, settled_if}
use Rattle.usefulness.specs.Frames.{SparseAsked, numbers, places, asked_views, sub_view, rows_of, IsRowIn, AreOpen, starts_listed, IsFrame}

-- the question is marked in what was found
abbrev pub is_noted : {T : Type 0} → Reached T → Question → Bool
is_noted f q = is_marked f.marks q

-- what the rows of its match may hold
abbrev pub scope_of : {T : Type 0} → Reached T → Scope T
scope_of f = record { arms = length f.marks.arms.items; written = map plain_arm f.arms.now }

-- the place of an open column with its number
abbrev pub plain_open : {T : Type 0} → OpenColumn T → ℕ × Open T
plain_open o = (o.number, plain_column o.column)

-- the places
abbrev pub plain_opens : {T : Type 0} → List (OpenColumn T) → List (ℕ × Open T)
plain_opens shown = map plain_open shown

-- the row
abbrev pub plain_asked : {T : Type 0} → Asked T → SparseAsked T
plain_asked a = record { row = plain_row a.row; wanted = a.wanted }

-- the rows
abbrev pub plain_askeds : {T : Type 0} → List (Asked T) → List (SparseAsked T)
plain_askeds rows = map plain_asked rows

-- the submatrix
abbrev pub frame_view : {T : Type 0} → Frame T → Submatrix T
frame_view f = sub_view (plain_opens f.columns.items) (plain_askeds f.rows.items)

-- the submatrices
abbrev pub frame_views : {T : Type 0} → List (Frame T) → List (Submatrix T)
frame_views frames = map frame_view frames

-- the submatrix, where there is one
abbrev pub child_views : {T : Type 0} → Option (Frame T) → List (Submatrix T)
child_views child = frame_views (option_to_list child)

-- the rows are of these arms and over the open columns
abbrev pub IsGood : {T : Type 0} → (scope : Scope T) → Frame T → Type 0
IsGood scope f = IsFrame scope (plain_opens f.columns.items) f.next (plain_askeds f.rows.items)

-- rows that are kept: no row from the end on is wanted, and the first one lists a head
pub record IsKept {T : Type 0} (l : Listing T) : Type 0 where
  pub end : list_any (λ (x : SparseAsked T). x.wanted) (drop l.end (plain_askeds l.rows.items)) ≡ false
  pub within : l.end ≤ length l.rows.items
  pub start : starts_listed (plain_askeds l.rows.items) ≡ true

-- a column was taken from the open ones, and the leaves are those of the rows there
pub record IsApart {T : Type 0} (scope : Scope T) (a : Apart T) : Type 0 where
  pub leaves : plain_leaves a.leaves.items ≡ all_apart a.taken.number 0 (rows_of (plain_askeds a.rows.items))
  pub number : a.taken.number < a.next
  pub others : AreOthers a.taken.number a.next (numbers (plain_opens a.others.items))
  pub columns : AreOpen a.next (numbers (plain_opens a.others.items))
  pub rows : All (IsRowIn scope (a.taken.number ∷ numbers (plain_opens a.others.items))) (plain_askeds a.rows.items)

-- rows of these arms were listed: those over these columns that were gone through
pub record IsListed {T : Type 0} (scope : Scope T) (old : Question → Bool) (m : Reached T) (columns : List ℕ) (through : List (SparseAsked T)) (l : Listing T) : Type 0 where
  pub known : scope_of m ≡ scope
  pub kept : IsKept l
  pub rows : All (IsRowIn scope columns) (plain_askeds l.rows.items)
  pub listed : IsListing old (is_noted m) columns through (plain_askeds l.rows.items) l.closed

-- the numbers of the other columns
abbrev pub other_numbers : {T : Type 0} → Apart T → List ℕ
other_numbers a = numbers (plain_opens a.others.items)

-- the rows, the leaves, and the column with its place
abbrev pub apart_rows : {T : Type 0} → Apart T → List (SparseAsked T)
apart_rows a = plain_askeds a.rows.items

abbrev pub apart_leaves : {T : Type 0} → Apart T → List (SparseLeaf T)
apart_leaves a = plain_leaves a.leaves.items

-- the submatrix, the column that is taken standing first
abbrev pub apart_view : {T : Type 0} → Apart T → Submatrix T
apart_view a = sub_view (plain_open a.taken ∷ plain_opens a.others.items) (apart_rows a)

-- the place of the column, and those of the others
abbrev pub apart_place : {T : Type 0} → Apart T → Open T
apart_place a = plain_column a.taken.column

abbrev pub other_places : {T : Type 0} → Apart T → List (Open T)
other_places a = places (plain_opens a.others.items)

-- the rows of the definitions, their or-patterns at the column taken apart
abbrev pub apart_wanted : {T : Type 0} → Apart T → List (WantedRow T)
apart_wanted a = apart (asked_views (a.taken.number ∷ other_numbers a) (apart_rows a))

-- the piece can be entered: it is of the column's set, it and the other places have values, and the leaves that have it write as
-- many parts as it has
pub record IsEnterable {T : Type 0} (IsValue : T → Bool → MValue → Type 0) (cx : Context T) (a : Apart T) (piece : MCtor) : Type 0 where
  pub belong : IsTrue (belongs (cx.set_of a.taken.column.ty) piece)
  pub held : HasFewItems piece
  pub some : (vs : List MValue) × AreValues IsValue (parts_open cx (apart_place a) piece ++ other_places a) vs
  pub long : All (λ l. head_has piece l.head ≡ true → length (leaf_parts (cx.arity piece a.taken.column.ty) l.head) ≡ cx.arity piece a.taken.column.ty) (apart_leaves a)

-- what is left where the value is of the piece
abbrev pub piece_view : {T : Type 0} → Context T → Apart T → (missing : Bool) → MCtor → Submatrix T
piece_view cx a missing piece = bare_sub (entered cx (apart_place a) (other_places a) (settled_if missing (apart_wanted a)) piece)

-- what is left where the value is of no piece that a head has
abbrev pub wild_view : {T : Type 0} → Apart T → Submatrix T
wild_view a = bare_sub (left_over (other_places a) (apart_wanted a))

-- the column was chosen: a row lists a head there
abbrev pub IsChosen : {T : Type 0} → (column : ℕ) → List (SparseAsked T) → Type 0
IsChosen {T} column xs = (x : SparseAsked T) × (h : ℕ × MDePat T) × Contains xs x × Contains x.row.heads h × (h.0 ≡ column)

-- the row with the number is there, and lists a head
abbrev pub ListsHeads : {T : Type 0} → (i : ℕ) → List (Asked T) → Type 0
ListsHeads {T} i rows = (i < length rows) × ((d : Asked T) → 0 < length (kept_heads (get_or rows i d).row.heads))
