-- A key that orders numbers.
use Rattle.std.specs.Prelude.{ℕ, ◌-◌, ◌^◌, Bool, true, false}

-- first the numbers below zero, by their distance from the least that can be held; then the others, by their size
abbrev pub key_by : Bool → ℕ → ℕ × ℕ
key_by true size = (0, 2 ^ 128 - 1 - size)
key_by false size = (1, size)
