-- One byte further on. No meaning: what the code does, which proofs join to the definitions of lines.
use Rattle.std.specs.Prelude.{◌≡◌, ◌≤◌, ℕ, ◌+◌, List, length, if◌then◌else◌}
use Rattle.explain_lines.specs.Lines.{begins_character, is_feed, spot_at}
use Rattle.explain_lines.specs.declared.spots.Spot.{Spot}

-- the spot behind a byte
abbrev pub next_spot : Spot → ℕ → Spot
next_spot spot byte =
    if is_feed byte then record { at = spot.at + 1; line = spot.line + 1; column = 1; start = spot.at + 1 }
    else (if begins_character byte then record { at = spot.at + 1; line = spot.line; column = spot.column + 1; start = spot.start }
    else record { at = spot.at + 1; line = spot.line; column = spot.column; start = spot.start })

-- the spot is one of the text's
pub record IsSpotOf (text : List ℕ) (spot : Spot) : Type 0 where
  pub right : spot ≡ spot_at text spot.at
  pub within : spot.at ≤ length text
