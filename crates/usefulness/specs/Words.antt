-- Words that tell a submatrix: all that its marks depend on, but for what its rows have chosen.
use Rattle.std.specs.Prelude.{⊤, ◌≡◌, ℕ, suc, Bool, cond, List, [], ◌∷◌, ◌++◌, map, length}
use Rattle.std.specs.List.{flat_map}
use Rattle.match_model.specs.ArenaPatterns.{MDePat, uid_of}
use Rattle.match_model.specs.Contexts.{Open}
use Rattle.usefulness.specs.Frames.{SparseAsked}

-- the columns have the places 0, 1, 2 .. by these numbers
abbrev pub AreNumbered : (at : ℕ → ℕ) → (first : ℕ) → (columns : List ℕ) → Type 0
AreNumbered at first [] = ⊤
AreNumbered at first (c ∷ columns) = (at c ≡ first) × AreNumbered at (suc first) columns

abbrev pub bit : Bool → ℕ
bit b = cond b 1 0

-- a head: the place of its column, and its pattern
abbrev pub head_words : {T : Type 0} → (at : ℕ → ℕ) → ℕ × MDePat T → List ℕ
head_words at h = at h.0 ∷ uid_of h.1 ∷ []

-- of a row that is wanted its arm, of another one nothing
abbrev pub wanted_words : {T : Type 0} → SparseAsked T → List ℕ
wanted_words x = cond x.wanted (x.row.arm ∷ []) []

-- a row
abbrev pub row_words : {T : Type 0} → (at : ℕ → ℕ) → SparseAsked T → List ℕ
row_words at x = length x.row.heads ∷ (flat_map (head_words at) x.row.heads ++ bit x.row.guarded ∷ bit x.wanted ∷ wanted_words x)

-- the open columns: how many, and which are sure
abbrev pub column_words : {T : Type 0} → List (ℕ × Open T) → List ℕ
column_words shown = length shown ∷ map (λ o. bit o.1.sure) shown

-- the submatrix
abbrev pub words : {T : Type 0} → (at : ℕ → ℕ) → List (ℕ × Open T) → List (SparseAsked T) → List ℕ
words at shown xs = column_words shown ++ flat_map (row_words at) xs
