-- Places in a source file.
use Rattle.std.specs.Prelude.{ℕ, ◌+◌, ◌-◌, ◌==◌, ◌||◌, ◌&&◌, List, [], ◌∷◌, ◌++◌, length, drop, slice_index, Bool, true, false, nat_lt, nat_le, if◌then◌else◌, codes, decimal}
use Rattle.explain_lines.specs.Lines.{begins_character, spot_at}
use Rattle.explain_lines.specs.declared.spots.Spot.{Spot}

-- the length of the byte order mark with which a file begins
abbrev pub mark_length : List ℕ → ℕ
mark_length [] = 0
mark_length (a ∷ []) = 0
mark_length (a ∷ b ∷ []) = 0
mark_length (a ∷ b ∷ c ∷ rest) = if a == 239 && b == 187 && c == 191 then 3 else 0

-- a finding may stand there: at the end of the file, or at a byte of it that begins a character, or at any byte of it
abbrev pub is_place : List ℕ → ℕ → Bool → Bool
is_place file at any = if at == length file then true else (if nat_lt (length file) at then false else any || begins_character (slice_index file at))
