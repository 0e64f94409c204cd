-- Lists of texts of which some are written already.
use Rattle.std.specs.Prelude.{ℕ, Bool, true, List, [], ◌∷◌, ◌++◌, if◌then◌else◌, codes}

-- what stands in front of a text of a list where something stands before it
abbrev pub comma_between : (later : Bool) → List ℕ
comma_between later = if later then codes ", " else []

-- the texts with commas between them, and one in front where something stands before
abbrev pub listed : (later : Bool) → List (List ℕ) → List ℕ
listed later [] = []
listed later (t ∷ ts) = comma_between later ++ (t ++ listed true ts)

-- whether something stands before what comes behind the texts
abbrev pub is_behind : (later : Bool) → List (List ℕ) → Bool
is_behind later [] = later
is_behind later (t ∷ ts) = true
