-- What stands in the stack of a search: rows, and columns some of whose pieces are still to be entered.
use Rattle.std.specs.Prelude.{◌≡◌, ◌≤◌, ◌<◌, ℕ, Bool, true, false, List, [], ◌∷◌, ◌++◌, map, length, cond, slice_get}
use Rattle.std.specs.List.{All, Contains, flat_map}
use Rattle.std.specs.Option.{option_to_list, IfSome}
use Rattle.match_model.specs.Values.{MValue}
use Rattle.match_model.specs.Constructors.{MCtor}
use Rattle.match_model.specs.Contexts.{Context}
use Rattle.constructor_sets.specs.Columns.{plain_ctors}
use Rattle.constructor_sets.specs.declared.piece.PresentPieces.{PresentPieces}
use Rattle.constructor_sets.specs.declared.piece.Span.{Span}
use Rattle.pattern_matrix.specs.declared.halving.Part.{Part}
use Rattle.pattern_matrix.specs.Halving.{AreLeafSpans}
use Rattle.pattern_matrix.specs.Parts.{plain_spans}
use Rattle.pattern_matrix.specs.Sparse.{columns_from}
use Rattle.pattern_matrix.specs.Counting.{Question}
use Rattle.pattern_matrix.specs.Searching.{Submatrix, weight_of, work, IsSearch}
use Rattle.usefulness.specs.declared.frames.Apart.{Apart}
use Rattle.usefulness.specs.declared.frames.Pending.{Pending}
use Rattle.usefulness.specs.declared.frames.Opened.{Opened}
use Rattle.usefulness.specs.declared.frames.Reached.{Reached}
use Rattle.usefulness.specs.declared.frames.Todo.{Todo}
use Rattle.usefulness.specs.declared.frames.Todo.TheVariants.{Rows, Pieces}
use Rattle.usefulness.specs.Scope.{Scope}
use Rattle.usefulness.specs.Cutting.{parts_left, IsCutPart}
use Rattle.usefulness.specs.Listing.{AreAllListed}
use Rattle.usefulness.specs.States.{frame_view, child_views, IsGood, IsApart, IsEnterable, apart_leaves, piece_view, is_noted, scope_of}
use Rattle.usefulness.specs.Memo.{Memo}
use Rattle.usefulness.specs.Told.{AreTold}

-- what stands at these numbers
abbrev pub ctors_at : List MCtor → List ℕ → List MCtor
ctors_at ctors ks = flat_map (λ k. option_to_list (slice_get ctors k)) ks

-- what is left of a column: a submatrix for each piece that is left
abbrev pub pending_views : {T : Type 0} → Context T → Pending T → List (Submatrix T)
pending_views cx p = map (piece_view cx p.apart p.missing) (ctors_at (plain_ctors p.pieces.items) (parts_left p.parts.items))

-- what an entry stands for
abbrev pub todo_view : {T : Type 0} → Context T → Todo T → List (Submatrix T)
todo_view cx (Rows f) = frame_view f ∷ []
todo_view cx (Pieces p) = pending_views cx p

-- what all do
abbrev pub todo_views : {T : Type 0} → Context T → List (Todo T) → List (Submatrix T)
todo_views cx todo = flat_map (todo_view cx) todo

-- the column was taken apart, its pieces can be entered, the spans tell which leaf has which of them, and the parts have leaves
-- that are enough
pub record IsPending {T : Type 0} (IsType : T → Type 0) (IsValue : T → Bool → MValue → Type 0) (cx : Context T) (scope : Scope T) (m : Question → Bool) (p : Pending T) : Type 0 where
  pub apart : IsApart scope p.apart
  pub ty : IsType p.apart.taken.column.ty
  pub pieces : All (IsEnterable IsValue cx p.apart) (plain_ctors p.pieces.items)
  pub spans : AreLeafSpans (plain_ctors p.pieces.items) (apart_leaves p.apart) (plain_spans p.spans.items)
  pub parts : All (IsCutPart m p.missing p.apart p.spans.items) p.parts.items
  pub within : All (λ k. k < length p.pieces.items) (parts_left p.parts.items)
  pub few : length (parts_left p.parts.items) ≤ length p.pieces.items

-- the column is as it was found, and all its pieces are left
pub record IsFresh {T : Type 0} (a : Apart T) (found : PresentPieces) (given : List Span) (p : Pending T) : Type 0 where
  pub apart : p.apart ≡ a
  pub pieces : p.pieces ≡ found.ctors
  pub missing : p.missing ≡ found.missing
  pub spans : p.spans.items ≡ given
  pub left : parts_left p.parts.items ≡ columns_from 0 (length found.ctors.items)
  pub parts : (m : Question → Bool) → All (IsCutPart m found.missing a given) p.parts.items

-- the entry is good: rows are, and so is a column, of which something is left
abbrev pub IsTodo : {T : Type 0} → (T → Type 0) → (T → Bool → MValue → Type 0) → Context T → Scope T → (m : Question → Bool) → Todo T → Type 0
IsTodo IsType IsValue cx scope m (Rows f) = IsGood scope f
IsTodo IsType IsValue cx scope m (Pieces p) = (0 < length p.parts.items) × IsPending IsType IsValue cx scope m p

-- there is some part
abbrev pub some_parts : List Part → Bool
some_parts [] = false
some_parts (p ∷ parts) = true

-- the column as an entry, where something is left of it
abbrev pub more_of : {T : Type 0} → Pending T → List (Todo T)
more_of p = cond (some_parts p.parts.items) (Pieces p ∷ []) []

-- what is left of rows, as entries: their pieces below the rows of values in no head
abbrev pub opened_todo : {T : Type 0} → Opened T → List (Todo T)
opened_todo o = flat_map more_of (option_to_list o.pieces) ++ map Rows (option_to_list o.wild)

-- the submatrices
abbrev pub opened_views : {T : Type 0} → Context T → Opened T → List (Submatrix T)
opened_views cx o = flat_map (pending_views cx) (option_to_list o.pieces) ++ child_views o.wild

-- both are good
pub record IsOpened {T : Type 0} (IsType : T → Type 0) (IsValue : T → Bool → MValue → Type 0) (cx : Context T) (scope : Scope T) (m : Question → Bool) (o : Opened T) : Type 0 where
  pub pieces : IfSome o.pieces (λ p. IsPending IsType IsValue cx scope m p)
  pub wild : IfSome o.wild (λ f. IsGood scope f)

-- these come of those: of none comes none, and each is lighter than each
abbrev pub AreMadeOf : {T : Type 0} → (others new : List (Submatrix T)) → Type 0
AreMadeOf {T} others new = (new ≡ [] → others ≡ []) × ((m n : Submatrix T) → Contains new m → Contains others n → weight_of n < weight_of m)

-- of what was to be looked at some at the end is gone; what is back and what is new stand for it, and what comes of the new
-- ones is less to do
pub record IsNext {T : Type 0} (IsValue : T → Bool → MValue → Type 0) (old now : Question → Bool) (before after new : List (Submatrix T)) : Type 0 where
  pub stay : List (Submatrix T)
  pub gone : List (Submatrix T)
  pub back : List (Submatrix T)
  pub before_is : before ≡ stay ++ gone
  pub after_is : after ≡ stay ++ back
  pub listed : AreAllListed IsValue old now gone (back ++ new)
  pub less : (b : ℕ) (others : List (Submatrix T)) → length others < b → AreMadeOf others new → work b (back ++ others) < work b gone

-- what is gone at the end stands in new ones; these are no more to do, and what comes of them is less
pub record IsEntered {T : Type 0} (IsValue : T → Bool → MValue → Type 0) (old now : Question → Bool) (before after new : List (Submatrix T)) : Type 0 where
  pub gone : List (Submatrix T)
  pub before_is : before ≡ after ++ gone
  pub listed : AreAllListed IsValue old now gone new
  pub kept : (b : ℕ) → 0 < b → work b new ≤ work b gone
  pub less : (b : ℕ) (others : List (Submatrix T)) → length others < b → AreMadeOf others new → work b others < work b gone

-- what was left of a column was put back: some of it as it was, and for the rest rows that stand for it and are no more to do
pub record IsPut {T : Type 0} (IsType : T → Type 0) (IsValue : T → Bool → MValue → Type 0) (cx : Context T) (scope : Scope T) (old now : Question → Bool) (left : List (Submatrix T)) (before after : List (Todo T)) : Type 0 where
  pub back : List (Todo T)
  pub are : after ≡ before ++ back
  pub good : All (IsTodo IsType IsValue cx scope now) back
  pub stay : List (Submatrix T)
  pub gone : List (Submatrix T)
  pub new : List (Submatrix T)
  pub left_is : left ≡ stay ++ gone
  pub back_is : todo_views cx back ≡ stay ++ new
  pub listed : AreAllListed IsValue old now gone new
  pub kept : (b : ℕ) → 0 < b → work b new ≤ work b gone

-- the entry was taken from the end of the stack, some of it may be back, and what is new stands for the rest
pub record IsTaken {T : Type 0} (IsType : T → Type 0) (IsValue : T → Bool → MValue → Type 0) (cx : Context T) (scope : Scope T) (old now : Question → Bool) (entry : Todo T) (before after : List (Todo T)) (new : List (Submatrix T)) : Type 0 where
  pub back : List (Todo T)
  pub are : after ≡ before ++ back
  pub good : All (IsTodo IsType IsValue cx scope now) back
  pub next : IsNext IsValue old now (todo_view cx entry) (todo_views cx back) new

-- a search goes on
pub record IsGoing {T : Type 0} (IsType : T → Type 0) (IsValue : T → Bool → MValue → Type 0) (cx : Context T) (first : Submatrix T) (scope : Scope T) (m : Reached T) (memo : Memo) (todo : List (Todo T)) : Type 0 where
  pub known : scope_of m ≡ scope
  pub good : All (IsTodo IsType IsValue cx scope (is_noted m)) todo
  pub seen : List (Submatrix T)
  pub search : IsSearch IsType IsValue cx first (is_noted m) (todo_views cx todo) seen
  pub told : AreTold IsType IsValue cx scope seen memo
