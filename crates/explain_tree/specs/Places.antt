-- The lines of a function's arms.
use Rattle.std.specs.Prelude.{ℕ, ◌+◌, ◌&&◌, min, List, [], ◌∷◌, length, nat_lt, nat_le, if◌then◌else◌, Option, Some, None, slice_get}
use Rattle.explain_lines.specs.Lines.{spot_at}
use Rattle.explain_places.specs.declared.pieces.Piece.{Piece}
use Rattle.explain_places.specs.declared.bodies.Body.{Body}
use Rattle.explain_places.specs.Bodies.{bodies_of, arrows_of}

-- the lines of those of these places that lie within a part of the file
abbrev pub lines_within : List ℕ → ℕ → ℕ → List ℕ → List ℕ
lines_within file from to [] = []
lines_within file from to (at ∷ places) =
    if nat_le from at && nat_lt at to then (spot_at file at).line ∷ lines_within file from to places else lines_within file from to places

-- where a body begins, or the end of the file where there is none
abbrev pub start_or : ℕ → Option Body → ℕ
start_or end (Some body) = min body.at end
start_or end None = end

-- where the body of the next function begins, or the end of the file
abbrev pub end_of_part : List ℕ → List Body → ℕ → ℕ
end_of_part file bodies number = start_or (length file) (slice_get bodies (number + 1))

-- the lines of the arms from the begin of a body; none where there is no such body
abbrev pub lines_from : List ℕ → List Piece → ℕ → Option Body → List ℕ
lines_from file ps to (Some body) = lines_within file body.at to (arrows_of ps)
lines_from file ps to None = []

-- the lines on which the patterns of the arms of the function of this number end, in a file with these tokens
unfoldable pub arm_lines : List ℕ → List Piece → ℕ → List ℕ
arm_lines file ps number = lines_from file ps (end_of_part file (bodies_of ps) number) (slice_get (bodies_of ps) number)
