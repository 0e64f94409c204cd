-- The search for values that come to the row behind all others.
use Rattle.std.specs.Prelude.{⊤, ◌≡◌, ◌≤◌, ◌<◌, ◌^◌, ℕ, Bool, true, false, List, [], ◌∷◌, ◌++◌, map, length, drop}
use Rattle.std.specs.List.{All, Contains}
use Rattle.match_model.specs.Values.{MValue}
use Rattle.match_model.specs.ArenaPatterns.{MDePat, MDeArm}
use Rattle.match_model.specs.Contexts.{Context}
use Rattle.pattern_arena.specs.Trees.{plain_arm}
use Rattle.pattern_matrix.specs.Counting.{Question}
use Rattle.pattern_matrix.specs.Searching.{Submatrix, IsFit, SomeComes}
use Rattle.usefulness.specs.declared.begun.Begun.{Begun}
use Rattle.usefulness.specs.declared.behind.Search.{Search}
use Rattle.usefulness.specs.declared.frames.Todo.{Todo}
use Rattle.usefulness.specs.Covering.{behind, scope_asked, IsKnown}
use Rattle.usefulness.specs.Frames.{SparseAsked}
use Rattle.usefulness.specs.Stack.{todo_views, IsTodo}
use Rattle.usefulness.specs.Starting.{behind_row}
use Rattle.usefulness.specs.States.{is_noted, scope_of}
use Rattle.usefulness.specs.Told.{AreLighter}

-- a row of these heads, in which nothing is looked for
abbrev pub row_asked : {T : Type 0} → List (ℕ × MDePat T) → SparseAsked T
row_asked heads = record { row = record { heads = heads; arm = 0; guarded = false; chosen = [] }; wanted = false }

-- the row behind all others
abbrev pub last_asked : {T : Type 0} → SparseAsked T
last_asked = record { row = behind_row 1; wanted = true }

-- the rows, and the one behind them
abbrev pub rows_asked : {T : Type 0} → List (List (ℕ × MDePat T)) → List (SparseAsked T)
rows_asked rows = map row_asked rows ++ last_asked ∷ []

-- a value is known to come to the row behind
abbrev pub is_behind : {T : Type 0} → Search T → Bool
is_behind s = is_noted s.reached behind

-- the arms whose patterns its rows list
abbrev pub search_arms : {T : Type 0} → Search T → List (MDeArm T)
search_arms s = map plain_arm s.reached.arms.now

-- what was to be looked at gives way to what is: while no value is known to come to the row behind, some does in the one exactly
-- where some does in the other; once one is known to, one does in what was to be looked at
abbrev pub Passes : {T : Type 0} → (T → Bool → MValue → Type 0) → (marked : Bool) → (old new : List (Submatrix T)) → Type 0
Passes IsValue true old new = SomeComes IsValue behind old
Passes IsValue false old new = (SomeComes IsValue behind old → SomeComes IsValue behind new) × (SomeComes IsValue behind new → SomeComes IsValue behind old)

-- the words tell a submatrix that gives way to what stands on the stack above it
abbrev pub IsBegun : {T : Type 0} → (T → Type 0) → (T → Bool → MValue → Type 0) → Context T → List (MDeArm T) → (marked : Bool) → List (Todo T) → Begun → Type 0
IsBegun IsType IsValue cx arms marked todo b =
    IsKnown IsType IsValue cx arms (λ s. Passes IsValue marked (s ∷ []) (todo_views cx (drop b.below todo))) b.words.items

-- they were begun one above the other
abbrev pub IsAscending : List Begun → Type 0
IsAscending [] = ⊤
IsAscending (b ∷ begun) = All (λ c. b.below ≤ c.below) begun × IsAscending begun

-- a search goes on: what was to be looked at first gives way to what stands on the stack, as does what was begun
pub record IsAsked {T : Type 0} (IsType : T → Type 0) (IsValue : T → Bool → MValue → Type 0) (cx : Context T) (arms : List (MDeArm T)) (first : Submatrix T) (s : Search T) : Type 0 where
  pub known : scope_of s.reached ≡ scope_asked arms
  pub good : All (IsTodo IsType IsValue cx (scope_asked arms) (is_noted s.reached)) s.todo.items
  pub fit : (n : Submatrix T) → Contains (todo_views cx s.todo.items) n → IsFit IsType IsValue cx n
  pub passes : Passes IsValue (is_behind s) (first ∷ []) (todo_views cx s.todo.items)
  pub begun : All (IsBegun IsType IsValue cx arms (is_behind s) s.todo.items) s.begun.items
  pub ascending : IsAscending s.begun.items

-- no value is known to come to the row behind, and something is left above each submatrix that was begun
pub record IsOpen {T : Type 0} (s : Search T) : Type 0 where
  pub unmarked : is_behind s ≡ false
  pub under : All (λ b. b.below < length s.todo.items) s.begun.items

-- what is gone gave way to more on the stack, and so did what was begun of it
pub record IsStepped {T : Type 0} (IsType : T → Type 0) (IsValue : T → Bool → MValue → Type 0) (cx : Context T) (arms : List (MDeArm T)) (old now : Search T) (gone : List (Submatrix T)) : Type 0 where
  pub known : scope_of now.reached ≡ scope_asked arms
  pub grow : (q : Question) → is_noted old.reached q ≡ true → is_noted now.reached q ≡ true
  pub more : List (Todo T)
  pub are : now.todo.items ≡ old.todo.items ++ more
  pub good : All (IsTodo IsType IsValue cx (scope_asked arms) (is_noted now.reached)) more
  pub fit : (n : Submatrix T) → Contains (todo_views cx more) n → IsFit IsType IsValue cx n
  pub passes : Passes IsValue (is_behind now) gone (todo_views cx more)
  pub new : List Begun
  pub begun : now.begun.items ≡ old.begun.items ++ new
  pub under : All (λ b. length old.todo.items ≤ b.below) new
  pub each : All (IsBegun IsType IsValue cx arms (is_behind now) now.todo.items) new
  pub ascending : IsAscending new

-- and what is left is lighter than the one that was looked at
pub record IsLooked {T : Type 0} (IsType : T → Type 0) (IsValue : T → Bool → MValue → Type 0) (cx : Context T) (arms : List (MDeArm T)) (old now : Search T) (gone : Submatrix T) : Type 0 where
  pub stepped : IsStepped IsType IsValue cx arms old now (gone ∷ [])
  pub lighter : AreLighter (todo_views cx stepped.more) gone
  pub few : length (todo_views cx stepped.more) < 2 ^ 65

-- those at the end that have ended are gone: those that were begun no lower than this
pub record AreEnded (below : ℕ) (old now : List Begun) : Type 0 where
  pub gone : List Begun
  pub are : old ≡ now ++ gone
  pub last : (front : List Begun) (b : Begun) → now ≡ front ++ b ∷ [] → b.below < below
