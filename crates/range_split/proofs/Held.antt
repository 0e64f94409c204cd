-- Numbers and ranges stay among the numbers that can be held.
use Rattle.std.proofs.Common.{◌≡◌, ℕ, ℤ, ◌<◌, ◌^◌, Bool, true, false, not, ◌&&◌, refl, arith, sym, ◌∙◌}
use Rattle.std.specs.Prelude.{IsTrue, int_le, int_lt}
use Rattle.std.specs.Ordering.{int_eq}
use Rattle.std.proofs.lemmas.Int.{ints}
use Rattle.std.proofs.lemmas.Bool.Decides.{Decides-int_eq}
use Rattle.match_model.specs.Numbers.{At, is_from, is_up_to}
use Rattle.match_model.specs.Constructors.{least_held, greatest_held, is_free}
use Rattle.match_model.specs.Pieces.{is_at}
use Rattle.range_split.specs.declared.num.Num.{Num}
use Rattle.range_split.specs.declared.end.End.{End}
use Rattle.range_split.specs.declared.end.End.TheVariants as ends
use Rattle.range_split.specs.declared.size.Size.{Size}
use Rattle.range_split.specs.Numbers.{signed, num_value, whole_size}
use Rattle.range_split.specs.Ends.{plain_end}

signed_held : (negative : Bool) (size : ℕ) → size < 2 ^ 128 → IsTrue (int_le least_held (signed negative size)) × IsTrue (int_le (signed negative size) greatest_held)
signed_held true size h = (grind (arith, ints), grind (arith, ints))
signed_held false size h = (grind (arith, ints), grind (arith, ints))

pub num_held : (n : Num) → IsTrue (int_le least_held (num_value n)) × IsTrue (int_le (num_value n) greatest_held)
num_held n = signed_held n.negative n.size n.size_fits

whole_size_fits : (s : Size) → whole_size s < 2 ^ 128
whole_size_fits s = let u = s.upper_fits in let l = s.lower_fits in omega arith

pub kept_held : (negative : Bool) (s : Size) →
    IsTrue (int_le least_held (signed negative (whole_size s))) × IsTrue (int_le (signed negative (whole_size s)) greatest_held)
kept_held negative s = signed_held negative (whole_size s) (whole_size_fits s)

between : (l n least : ℤ) → IsTrue (int_le least l) → IsTrue (int_le l n) → (l ≡ n → ⊥) → IsTrue (int_lt least n)
between l n least p q r = grind (arith, ints)

pub not_equal : (a b : ℤ) → int_eq a b ≡ false → a ≡ b → ⊥
not_equal a b h e = let t = (Decides-int_eq a b).1 e in let f : true ≡ false = sym t ∙ h in absurd (cc)

turn : (a b : ℤ) → (a ≡ b → ⊥) → b ≡ a → ⊥
turn a b h e = h (sym e)

-- a number inside the whole that is not at its low end is above the least number that can be held
pub above_least : (low : End) (n : Num) → IsTrue (is_from (plain_end low) (num_value n)) → is_at (num_value n) (plain_end low) ≡ false →
    IsTrue (not (is_free (plain_end low) && is_at least_held (At (num_value n)))) → IsTrue (int_lt least_held (num_value n))
above_least ends.Free n p q r = strict least_held (num_value n) (num_held n).0 (not_equal least_held (num_value n) (negated _ r))
  where
    negated : (b : Bool) → not b ≡ true → b ≡ false
    negated true h = absurd (cc)
    negated false h = refl

    strict : (a b : ℤ) → IsTrue (int_le a b) → (a ≡ b → ⊥) → IsTrue (int_lt a b)
    strict a b p q = grind (arith, ints)
above_least (ends.At l) n p q r = between (num_value l) (num_value n) least_held (num_held l).0 p (turn _ _ (not_equal (num_value n) (num_value l) q))

-- a number inside the whole that is not at its high end is below the greatest number that can be held
pub below_greatest : (high : End) (n : Num) → IsTrue (is_up_to (plain_end high) (num_value n)) → is_at (num_value n) (plain_end high) ≡ false →
    IsTrue (not (is_free (plain_end high) && is_at greatest_held (At (num_value n)))) → IsTrue (int_lt (num_value n) greatest_held)
below_greatest ends.Free n p q r = strict (num_value n) greatest_held (num_held n).1 (turn _ _ (not_equal greatest_held (num_value n) (negated _ r)))
  where
    negated : (b : Bool) → not b ≡ true → b ≡ false
    negated true h = absurd (cc)
    negated false h = refl

    strict : (a b : ℤ) → IsTrue (int_le a b) → (a ≡ b → ⊥) → IsTrue (int_lt a b)
    strict a b p q = grind (arith, ints)
below_greatest (ends.At l) n p q r = below (num_value l) (num_value n) greatest_held (num_held l).1 p (not_equal (num_value n) (num_value l) q)
  where
    below : (l n greatest : ℤ) → IsTrue (int_le l greatest) → IsTrue (int_le n l) → (n ≡ l → ⊥) → IsTrue (int_lt n greatest)
    below l n greatest p q r = grind (arith, ints)
