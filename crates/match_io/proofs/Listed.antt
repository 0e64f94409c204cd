-- A call whose number no list has.
use Rattle.std.proofs.Common.{◌≡◌, ◌<◌, ℕ, List, false, nat_eq, arith}
use Rattle.std.specs.List.{All}
use Rattle.std.proofs.lemmas.List.Folds.{list_any_none}
use Rattle.std.proofs.lemmas.List.Elements.{All-weaker}
use Rattle.match_io.specs.Counts.{is_listed, next_count}

different : (m n : ℕ) → n < m → nat_eq n m ≡ false
different m n below = grind arith

-- a list of numbers below that of the next call does not have it
pub not_listed : (failing : List ℕ) (calls : ℕ) → All (λ n. n < next_count calls) failing → is_listed failing calls ≡ false
not_listed failing calls below =
    list_any_none (λ n. nat_eq n (next_count calls)) failing
    (All-weaker (λ n. n < next_count calls) (λ n. nat_eq n (next_count calls) ≡ false) (different (next_count calls)) failing below)
