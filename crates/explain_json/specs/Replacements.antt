-- What is to be put in before the bracket that closes a match: arms, laid out as in a function outside all others.
use Rattle.std.specs.Prelude.{ℕ, List, [], ◌∷◌, ◌++◌, Bool, codes, if◌then◌else◌, Option, Some, None}
use Rattle.std.specs.List.{flat_map}
use Rattle.explain_text.specs.Diagnostics.{NoteTree}

-- an arm with a line feed behind it
abbrev pub put_line : List ℕ → List ℕ
put_line line = codes "    " ++ (line ++ codes "\n    ")

-- the comma that the last arm of the match lacks, where it lacks one
abbrev pub comma_text : Bool → List ℕ
comma_text comma = if comma then codes ",\n    " else []

-- arms behind those of the match
unfoldable pub put_lines : Bool → List (List ℕ) → List ℕ
put_lines comma lines = comma_text comma ++ flat_map put_line lines

-- what is put in, where there are arms
abbrev pub replacement_by : Bool → List (List ℕ) → Option (List ℕ)
replacement_by comma [] = None
replacement_by comma (line ∷ lines) = Some (put_lines comma (line ∷ lines))

-- what a note puts in
abbrev pub replacement_of : NoteTree → Option (List ℕ)
replacement_of n = replacement_by n.comma n.lines
