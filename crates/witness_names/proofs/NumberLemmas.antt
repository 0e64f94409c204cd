-- Integers by their sign and size.
use Rattle.std.proofs.Common.{◌≡◌, ℕ, zero, suc, Bool, true, false, [], refl}
use Rattle.range_split.specs.Numbers.{signed}
use Rattle.value_syntax.specs.Trees.{WrittenInt}
use Rattle.witness_names.specs.NamedValues.{written_integer}

-- the integer of a sign and a size, where zero has no sign
pub integer_by_sign : (negative : Bool) (size : ℕ) → (size ≡ 0 → negative ≡ false) →
    WrittenInt negative size [] ≡ written_integer (signed negative size)
integer_by_sign false size h = refl
integer_by_sign true zero h = absurd (cc (h refl))
integer_by_sign true (suc n) h = refl
