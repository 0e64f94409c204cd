-- What the first row of a matrix asks.
use Rattle.std.specs.Prelude.{Bool, not}
use Rattle.match_model.specs.Rows.{Head, is_wild}

-- the head is neither a wildcard nor a name
abbrev pub asks : {T : Type 0} → Head T → Bool
asks h = not (is_wild h)
