-- What is shown of a line around a place.
use Rattle.std.specs.Prelude.{ℕ, ◌+◌, ◌-◌, ◌==◌, ◌||◌, ◌&&◌, List, [], ◌∷◌, ◌++◌, length, take, slice_index, Bool, not, nat_lt, nat_le, if◌then◌else◌, codes}
use Rattle.std.specs.List.{flat_map}
use Rattle.std.specs.Str.Lossy.{utf8_lossy}
use Rattle.explain_lines.specs.Lines.{shown_before, shown_after, spot_at}

-- how many characters are shown before a place, and as many behind it
abbrev pub most : ℕ
most = 80

-- what is shown for a byte: four blanks for a tab, nothing for a carriage return, `?` for any other control character
abbrev pub shown_byte : ℕ → List ℕ
shown_byte byte =
    if byte == 9 then 32 ∷ 32 ∷ 32 ∷ 32 ∷ []
    else (if byte == 13 then []
    else (if nat_le byte 31 || byte == 127 then 63 ∷ []
    else byte ∷ []))

-- what is shown for these bytes
abbrev pub shown_bytes : List ℕ → List ℕ
shown_bytes bytes = flat_map shown_byte bytes

-- dots where something is left out
abbrev pub dots_if : Bool → List ℕ
dots_if left_out = if left_out then codes "..." else []

-- what is shown before a place
unfoldable pub left_part : List ℕ → ℕ → List ℕ
left_part text at =
    dots_if (nat_lt (spot_at text at).start (at - length (shown_before most text at))) ++ utf8_lossy (shown_bytes (shown_before most text at))

-- the line goes on there
abbrev pub is_cut_behind : List ℕ → ℕ → Bool
is_cut_behind text to = nat_lt to (length text) && not (slice_index text to == 10)

-- what is shown from a place on
unfoldable pub right_part : List ℕ → ℕ → List ℕ
right_part text at =
    utf8_lossy (shown_bytes (shown_after most text at)) ++ dots_if (is_cut_behind text (at + length (shown_after most text at)))

-- what is shown of that which stands from one byte to another on the line of the first
unfoldable pub marked_part : List ℕ → ℕ → ℕ → List ℕ
marked_part text at to = utf8_lossy (shown_bytes (take (to - at) (shown_after most text at)))
