-- Leaves of a column that matter where a piece of it is entered, and rows that are bare whatever piece that is.
use Rattle.std.specs.Prelude.{◌≡◌, ◌≤◌, ◌<◌, ◌+◌, ◌-◌, ◌*◌, ℕ, Bool, true, false, not, ◌&&◌, ◌||◌, nat_eq, nat_le, List, [], ◌∷◌, ◌++◌, map, length, Option, None, Some, slice_get}
use Rattle.std.specs.List.{All, list_all, flat_map}
use Rattle.std.specs.Option.{option_to_list}
use Rattle.match_model.specs.ArenaPatterns.{de_pat, MDePats, no_de_pats, more_de_pats}
use Rattle.match_model.specs.Rows.{Head, is_wild}
use Rattle.constructor_sets.specs.declared.piece.Span.{Span}
use Rattle.pattern_matrix.specs.Sparse.{SparseRow, SparseLeaf, columns_from, leaves_listed, without}
use Rattle.pattern_matrix.specs.Halving.{span_has, span_meets, having, leaves_with}
use Rattle.pattern_matrix.specs.Parts.{plain_spans, pieces_in}
use Rattle.pattern_matrix.specs.declared.halving.Part.{Part}
use Rattle.pattern_matrix.specs.declared.halving.PieceLeaves.{PieceLeaves}
use Rattle.pattern_matrix.specs.Counting.{Question, WantedRow, to_arm}
use Rattle.pattern_matrix.specs.Searching.{DoFor, StandFor}
use Rattle.usefulness.specs.declared.frames.Apart.{Apart}
use Rattle.usefulness.specs.Frames.{SparseAsked, asked_views}
use Rattle.usefulness.specs.Done.{choices_within, are_marked}
use Rattle.usefulness.specs.Children.{opened}
use Rattle.usefulness.specs.States.{apart_rows, apart_leaves, other_numbers}

-- there is some pattern
abbrev pub some_pattern : {T : Type 0} → MDePats T → Bool
some_pattern no_de_pats = false
some_pattern (more_de_pats p ps) = true

-- the head writes some part
abbrev pub writes_parts : {T : Type 0} → Head T → Bool
writes_parts None = false
writes_parts (Some (de_pat c t uid at subs binds)) = some_pattern subs

-- the row lists no head, whatever piece is entered: its leaf writes no part, and all its heads stand at the leaf's column
abbrev pub is_bare_at : {T : Type 0} → (column : ℕ) → SparseRow T → SparseLeaf T → Bool
is_bare_at column r l = not (writes_parts l.head) && list_all (λ h. nat_eq h.0 column) r.heads

-- something new is looked for in the leaf's row, when a piece is entered: where one is missing, not in a wildcard
abbrev pub is_wanted_at : {T : Type 0} → (missing : Bool) → SparseAsked T → SparseLeaf T → Bool
is_wanted_at missing x l = x.wanted && not (missing && is_wild l.head)

-- the row's arm is marked, and so are the alternatives that were chosen for it and for the leaf
abbrev pub is_marked_at : {T : Type 0} → (is_marked : Question → Bool) → SparseRow T → SparseLeaf T → Bool
is_marked_at is_marked r l = is_marked (to_arm r.arm) && (are_marked is_marked r.arm r.chosen && are_marked is_marked r.arm l.chosen)

-- the leaf brings nothing new in any piece, and stops nothing: its row is bare and guarded, and nothing is looked for in it or
-- all that it answers is marked
abbrev pub is_idle_at : {T : Type 0} → (is_marked : Question → Bool) → (missing : Bool) → (column : ℕ) → SparseAsked T → SparseLeaf T → Bool
is_idle_at is_marked missing column x l =
    x.row.guarded && (is_bare_at column x.row l && (not (is_wanted_at missing x l) || is_marked_at is_marked x.row l))

-- the leaf stops all values in each piece that it has: its row is bare and has no guard
abbrev pub is_last_at : {T : Type 0} → (column : ℕ) → SparseAsked T → SparseLeaf T → Bool
is_last_at column x l = not x.row.guarded && is_bare_at column x.row l

-- all alternatives in the head are marked
abbrev pub is_settled_head : {T : Type 0} → (is_marked : Question → Bool) → (arm : ℕ) → Head T → Bool
is_settled_head is_marked arm None = true
is_settled_head is_marked arm (Some p) = are_marked is_marked arm (choices_within p)

-- the leaf brings nothing new in any piece: nothing is looked for in its row, or all that this may answer there is marked
abbrev pub is_over_at : {T : Type 0} → (is_marked : Question → Bool) → (missing : Bool) → (column : ℕ) → SparseAsked T → SparseLeaf T → Bool
is_over_at is_marked missing column x l =
    not (is_wanted_at missing x l)
    || (is_marked_at is_marked x.row l && (is_settled_head is_marked x.row.arm l.head && list_all (λ h. are_marked is_marked x.row.arm (choices_within h.1)) (without column x.row.heads)))

-- the rows of leaves when a piece of so many parts is entered
abbrev pub entered_rows : {T : Type 0} → (missing : Bool) → Apart T → (count : ℕ) → List (SparseLeaf T) → List (WantedRow T)
entered_rows missing a count ls =
    asked_views (columns_from a.next count ++ other_numbers a) (opened missing a.taken.number a.next count (apart_rows a) ls)

-- no span before has the piece, and this one has
pub record IsFirstWith (spans : List (ℕ × ℕ)) (piece number : ℕ) : Type 0 where
  pub before : (j : ℕ) → j < number → span_has piece (slice_get spans j) ≡ false
  pub has : span_has piece (slice_get spans number) ≡ true

-- some of the leaves do for all: whatever piece is entered, their rows do for those of all, so that what is left out brings
-- nothing new there and stops nothing that is not stopped without it
abbrev pub DoForAll : {T : Type 0} → (is_marked : Question → Bool) → (missing : Bool) → Apart T → (all some : List (SparseLeaf T)) → Type 0
DoForAll is_marked missing a all some =
    (count : ℕ) → DoFor is_marked (length (columns_from a.next count ++ other_numbers a)) (entered_rows missing a count all) (entered_rows missing a count some)

-- they are enough: the same, where nothing stands behind them
abbrev pub AreEnough : {T : Type 0} → (is_marked : Question → Bool) → (missing : Bool) → Apart T → (all some : List (SparseLeaf T)) → Type 0
AreEnough is_marked missing a all some =
    (count : ℕ) → StandFor is_marked (length (columns_from a.next count ++ other_numbers a)) (entered_rows missing a count all) (entered_rows missing a count some)

-- a range of pieces, and numbers of leaves among which, for each of these pieces, those that have it are enough
pub record IsCutPart {T : Type 0} (is_marked : Question → Bool) (missing : Bool) (a : Apart T) (spans : List Span) (p : Part) : Type 0 where
  pub some : p.first < p.end
  pub within : All (λ k. k < length spans) p.leaves.items
  pub enough : (i : ℕ) → p.first ≤ i → i < p.end →
      AreEnough is_marked missing a (leaves_listed (apart_leaves a) (leaves_with (plain_spans spans) i)) (leaves_listed (apart_leaves a) (having (plain_spans spans) i p.leaves.items))

-- what was gone through of a part: what is kept of it meets it, and does for each piece
pub record IsCutSoFar {T : Type 0} (m : Question → Bool) (missing : Bool) (a : Apart T) (spans : List Span) (first end : ℕ) (seen kept : List ℕ) : Type 0 where
  pub within : All (λ k. k < length spans) kept
  pub met : All (λ k. span_meets first end (slice_get (plain_spans spans) k) ≡ true) kept
  pub enough : (i : ℕ) → first ≤ i → i < end →
      DoForAll m missing a (leaves_listed (apart_leaves a) (having (plain_spans spans) i seen)) (leaves_listed (apart_leaves a) (having (plain_spans spans) i kept))

-- the leaf that was kept last is of the row, writes no part, and has all pieces of the part
pub record EndsWhole {T : Type 0} (a : Apart T) (spans : List Span) (first end row : ℕ) (kept : List ℕ) : Type 0 where
  pub before : List ℕ
  pub number : ℕ
  pub leaf : SparseLeaf T
  pub span : ℕ × ℕ
  pub last : kept ≡ before ++ number ∷ []
  pub got : slice_get (apart_leaves a) number ≡ Some leaf
  pub spanned : slice_get (plain_spans spans) number ≡ Some span
  pub same : leaf.row ≡ row
  pub bare : writes_parts leaf.head ≡ false
  pub whole : (nat_le span.0 first && nat_le end span.1) ≡ true

-- what the leaf with the number brings is not new
abbrev pub IsOver : {T : Type 0} → (m : Question → Bool) → (missing : Bool) → Apart T → ℕ → Type 0
IsOver {T} m missing a k = (l : SparseLeaf T) (x : SparseAsked T) → slice_get (apart_leaves a) k ≡ Some l → slice_get (apart_rows a) l.row ≡ Some x → is_over_at m missing a.taken.number x l ≡ true

-- from the end numbers were left out of leaves that bring nothing new
pub record IsTrimmed {T : Type 0} (m : Question → Bool) (missing : Bool) (a : Apart T) (before after : List ℕ) : Type 0 where
  pub behind : List ℕ
  pub split : before ≡ after ++ behind
  pub over : All (IsOver m missing a) behind

-- what is kept of a part meets it, and is enough for each piece
pub record IsCutWhole {T : Type 0} (m : Question → Bool) (missing : Bool) (a : Apart T) (spans : List Span) (first end : ℕ) (kept : List ℕ) : Type 0 where
  pub within : All (λ k. k < length spans) kept
  pub met : All (λ k. span_meets first end (slice_get (plain_spans spans) k) ≡ true) kept
  pub enough : (i : ℕ) → first ≤ i → i < end →
      AreEnough m missing a (leaves_listed (apart_leaves a) (leaves_with (plain_spans spans) i)) (leaves_listed (apart_leaves a) (having (plain_spans spans) i kept))

-- the two halves of a range of pieces stand behind the parts, each with these leaves
pub record IsHalved (start stop : ℕ) (leaves : List ℕ) (before after : List Part) : Type 0 where
  pub low : Part
  pub high : Part
  pub are : after ≡ (before ++ low ∷ []) ++ high ∷ []
  pub first : low.first ≡ start
  pub middle : low.end ≡ high.first
  pub last : high.end ≡ stop
  pub some_low : low.first < low.end
  pub some_high : high.first < high.end
  pub low_leaves : low.leaves.items ≡ leaves
  pub high_leaves : high.leaves.items ≡ leaves

-- the pieces of the parts, ascending
abbrev pub parts_left : List Part → List ℕ
parts_left parts = flat_map pieces_in parts

-- how much is to be done to take them apart
abbrev pub cut_work : List Part → ℕ
cut_work [] = 0
cut_work (p ∷ parts) = (2 * (p.end - p.first) - 1) + cut_work parts

-- nothing new comes of the piece: none of its leaves is enough
abbrev pub HasNothing : {T : Type 0} → (m : Question → Bool) → (missing : Bool) → Apart T → List Span → ℕ → Type 0
HasNothing m missing a spans i = AreEnough m missing a (leaves_listed (apart_leaves a) (leaves_with (plain_spans spans) i)) []

-- of these pieces the last ones are gone: the one that was found, and those behind it, of which nothing new comes
pub record IsCutOff {T : Type 0} (m : Question → Bool) (missing : Bool) (a : Apart T) (spans : List Span) (before after : List ℕ) (found : Option PieceLeaves) : Type 0 where
  pub passed : List ℕ
  pub split : before ≡ after ++ (map (λ (p : PieceLeaves). p.piece) (option_to_list found) ++ passed)
  pub nothing : All (HasNothing m missing a spans) passed
