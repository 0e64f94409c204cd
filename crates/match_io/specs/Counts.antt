-- Counts of calls and of faults, and the calls that are to fail.
use Rattle.std.specs.Prelude.{ℕ, ◌+◌, ◌-◌, ◌^◌, ◌==◌, if◌then◌else◌, min, List, Bool}
use Rattle.std.specs.List.{list_any}

-- a count after one more; at the end of its type it stays
abbrev pub next_count : ℕ → ℕ
next_count count = min (count + 1) (2 ^ 64 - 1)

-- a count of faults after a call: one more exactly where the call failed
abbrev pub faults_after : Bool → ℕ → ℕ
faults_after failed faults = if failed then next_count faults else faults

-- whether the call after so many is listed by its number; the first call has the number 1
abbrev pub is_listed : List ℕ → ℕ → Bool
is_listed failing calls = list_any (λ n. n == next_count calls) failing
