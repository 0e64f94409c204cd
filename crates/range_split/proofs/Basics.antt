-- Truth values, neighbours of a number, and the range of a piece.
use Rattle.std.proofs.Common.{◌≡◌, ℤ, pos, ◌+ℤ◌, ◌-ℤ◌, Bool, true, false, ◌&&◌, ◌||◌, refl, arith, sym}
use Rattle.std.specs.Prelude.{IsTrue, int_le}
use Rattle.std.proofs.lemmas.Int.{ints}
use Rattle.match_model.specs.Numbers.{MRange}

pub both_true : (a b : Bool) → IsTrue (a && b) → IsTrue a × IsTrue b
both_true true true h = (refl, refl)
both_true true false h = absurd (cc)
both_true false b h = absurd (cc)

pub and_true : (a b : Bool) → IsTrue a → IsTrue b → IsTrue (a && b)
and_true true true p q = refl
and_true true false p q = q
and_true false b p q = p

pub either_false : (a b : Bool) → (a || b) ≡ false → (a ≡ false) × (b ≡ false)
either_false true b h = absurd (cc)
either_false false b h = (refl, h)

pub or_false : (b : Bool) → (b || false) ≡ b
or_false true = refl
or_false false = refl

pub same_bool : (a b : Bool) → (a ≡ true → b ≡ true) → (b ≡ true → a ≡ true) → a ≡ b
same_bool true b f g = sym (f refl)
same_bool false true f g = g refl
same_bool false false f g = refl

pub reflexive : (a : ℤ) → IsTrue (int_le a a)
reflexive a = grind (arith, ints)

-- the number before the next one
pub back : (m : ℤ) → m +ℤ pos 1 -ℤ pos 1 ≡ m
back m = omega (arith, ints)

-- the range of a piece
abbrev pub piece_of : MRange × Bool → MRange
piece_of p = p.0
