-- The order of findings.
use Rattle.std.specs.Prelude.{ℕ, List, [], ◌∷◌, nat_le, if◌then◌else◌}
use Rattle.explain_places.specs.declared.spans.Place.{Place}
use Rattle.explain_places.specs.declared.spans.Place.TheVariants.{Nowhere, There, Lost}
use Rattle.explain_text.specs.Findings.{FindingTree}

-- the byte with which a place begins, or the file's begin where there is none
abbrev pub start_of : Place → ℕ
start_of (There s) = s.from
start_of Nowhere = 0
start_of Lost = 0

-- where a finding stands in the order
abbrev pub place_of : FindingTree → ℕ
place_of f = start_of f.place

-- puts a finding in before the first one whose place is no less
abbrev pub put_in : FindingTree → List FindingTree → List FindingTree
put_in f [] = f ∷ []
put_in f (g ∷ rest) = if nat_le (place_of f) (place_of g) then f ∷ g ∷ rest else g ∷ put_in f rest

-- the findings by their places; those of one place stay in their order
abbrev pub in_file_order : List FindingTree → List FindingTree
in_file_order [] = []
in_file_order (f ∷ rest) = put_in f (in_file_order rest)
