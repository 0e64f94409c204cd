-- A file that is read piece by piece.
use Rattle.std.proofs.Common.{◌≡◌, ◌∙◌, sym, ap, ℕ, ◌+◌, ◌≤◌, List, ◌++◌, length, length-append, append_assoc, Option, Some, arith}
use Rattle.match_top.specs.Reading.{HasTaken}

-- what was read and what is left are the bytes, where they are told
abbrev pub IsFront : Option (List ℕ) → List ℕ → Option (List ℕ) → Type 0
IsFront told read left = (bytes : List ℕ) → told ≡ Some bytes → (rest : List ℕ) × (bytes ≡ read ++ rest) × (left ≡ Some rest)

-- what is taken of the rest, behind what was read, is taken of the whole
pub taken_more : (most room : ℕ) (bytes read rest : List ℕ) (now : Option (List ℕ))
    → bytes ≡ read ++ rest → length read + room ≤ most → HasTaken room rest now → HasTaken most bytes now
taken_more most room bytes read rest now split fits t =
    let sum : length (read ++ t.taken) ≡ length read + length t.taken = length-append read t.taken in
    let small : length t.taken ≤ room = t.few in record {
      taken = read ++ t.taken;
      rest = t.rest;
      whole = split ∙ ap (λ z. read ++ z) t.whole ∙ sym (append_assoc read t.taken t.rest);
      few = omega arith;
      remains = t.remains;
    }
