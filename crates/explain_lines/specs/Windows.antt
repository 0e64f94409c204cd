-- Parts of a text.
use Rattle.std.specs.Prelude.{◌≡◌, ◌≤◌, ◌-◌, ℕ, List, length, take, drop}

-- the bytes are the text's from the one place to the other
pub record IsPart (text : List ℕ) (from to : ℕ) (bytes : List ℕ) : Type 0 where
  pub ordered : from ≤ to
  pub within : to ≤ length text
  pub part : take (to - from) (drop from text) ≡ bytes
