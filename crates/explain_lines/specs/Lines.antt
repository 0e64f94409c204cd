-- Lines and columns of a text, which is a list of bytes.
use Rattle.std.specs.Prelude.{ℕ, zero, suc, ◌+◌, ◌-◌, ◌==◌, ◌||◌, List, [], ◌∷◌, length, take, drop, reverse, Bool, not, nat_lt, nat_le, if◌then◌else◌, count_by}
use Rattle.std.specs.List.{take_while}
use Rattle.explain_lines.specs.declared.spots.Spot.{Spot}

-- the byte begins a character of UTF-8: it does not continue one
abbrev pub begins_character : ℕ → Bool
begins_character byte = nat_lt byte 128 || nat_le 192 byte

-- the byte is a line feed
abbrev pub is_feed : ℕ → Bool
is_feed byte = byte == 10

-- the bytes up to the first line feed
abbrev pub first_line : List ℕ → List ℕ
first_line bytes = take_while (λ byte. not (is_feed byte)) bytes

-- the bytes behind the last line feed
abbrev pub last_line : List ℕ → List ℕ
last_line bytes = reverse (first_line (reverse bytes))

-- the line of a place, counted from 1 by the line feeds before it
abbrev pub line_number : List ℕ → ℕ → ℕ
line_number text at = count_by is_feed (take at text) + 1

-- the column of a place, counted from 1 by the characters before it on its line
abbrev pub column_number : List ℕ → ℕ → ℕ
column_number text at = count_by begins_character (last_line (take at text)) + 1

-- where the line of a place begins
abbrev pub line_start : List ℕ → ℕ → ℕ
line_start text at = at - length (last_line (take at text))

-- a place with its line
unfoldable pub spot_at : List ℕ → ℕ → Spot
spot_at text at = record {
  at = at;
  line = line_number text at;
  column = column_number text at;
  start = line_start text at;
}

-- the last bytes of a text that is given in reverse: those of so many characters
abbrev pub whole_back : ℕ → List ℕ → List ℕ
whole_back zero bytes = []
whole_back (suc most) [] = []
whole_back (suc most) (byte ∷ bytes) = byte ∷ (if begins_character byte then whole_back most bytes else whole_back (suc most) bytes)

-- the first bytes of a text: those of so many characters
abbrev pub whole_front : ℕ → List ℕ → List ℕ
whole_front most [] = []
whole_front zero (byte ∷ bytes) = if begins_character byte then [] else byte ∷ whole_front zero bytes
whole_front (suc most) (byte ∷ bytes) = byte ∷ (if begins_character byte then whole_front most bytes else whole_front (suc most) bytes)

-- what is shown of a line before a place: at most so many characters
unfoldable pub shown_before : ℕ → List ℕ → ℕ → List ℕ
shown_before most text at = reverse (whole_back most (first_line (reverse (take at text))))

-- what is shown of a line from a place on: at most so many characters
unfoldable pub shown_after : ℕ → List ℕ → ℕ → List ℕ
shown_after most text at = whole_front most (first_line (drop at text))
