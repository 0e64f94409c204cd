-- Texts that stand for themselves in a JSON string.
use Rattle.std.specs.Prelude.{◌≢◌, ℕ, ◌<◌}

-- a byte above the quote that is no backslash
abbrev pub IsPlain : ℕ → Type 0
IsPlain x = (34 < x) × (x ≢ 92)
