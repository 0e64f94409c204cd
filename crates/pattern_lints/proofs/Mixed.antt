-- The number that is mixed of several.
use Rattle.std.proofs.Common.{◌≡◌, ◌<◌, ℕ, zero, suc, ◌+◌, ◌*◌, ◌%◌, ℤ, pos, Bool, true, false, List, [], ◌∷◌, take, length, get_or, refl, sym, ap, ◌∙◌, arith}
use Rattle.std.specs.Prelude.{nat_abs}
use Rattle.std.proofs.lemmas.Int.{ints}
use Rattle.match_model.specs.Values.{MValue}
use Rattle.match_model.specs.Numbers.{MEnd, Free, At, MRange, in_range, has_one_number}
use Rattle.range_split.specs.Numbers.{signed}
use Rattle.pattern_lints.specs.declared.beside.Column.{Column}
use Rattle.pattern_lints.specs.Beside.{number_beside}
use Rattle.pattern_lints.specs.declared.mixing.Group.{Group}
use Rattle.pattern_lints.specs.Mixing.{mix, mixed_with, mixed, last_digit, with_digit, with_digits_of}

-- a range of one number has no other
pub only : (r : MRange) (n x : ℤ) → has_one_number r ≡ true → r.low ≡ At n → in_range r x ≡ true → x ≡ n
only r n x one low there = go r.low r.high low one there
  where
    go : (l h : MEnd) → l ≡ At n → has_one_number (record { low = l; high = h }) ≡ true → in_range (record { low = l; high = h }) x ≡ true → x ≡ n
    go Free h e o i = cc
    go (At a) Free e o i = cc
    go (At a) (At b) e o i =
        let first : a ≡ n = cc in
        grind (arith, ints)

-- the distance from zero
pub size-signed : (negative : Bool) (n : ℕ) → nat_abs (signed negative n) ≡ n
size-signed true zero = refl
size-signed true (suc n) = refl
size-signed false n = refl

-- what is mixed of the last digits alone is the same
pub mix-ends : (a b : ℕ) → (a % 18446744073709551557 * 1099511628211 + b % 18446744073709551557) % 18446744073709551557 ≡ (a * 1099511628211 + b) % 18446744073709551557
mix-ends a b = omega arith

-- one column more
pub mixed-next : (x : ℤ) (cs : List Column) (i : ℕ) (c : Column) (position : List ℕ) (v : MValue) → i < length cs → c ≡ get_or cs i c →
    mixed_with x (take (i + 1) cs) position v ≡ pos (mix (mixed_with x (take i cs) position v) (number_beside c.depth c.steps.items position v))
mixed-next x cs i c position v l is =
    let next : i + 1 ≡ suc i = omega arith in
    ap (λ k. mixed_with x (take k cs) position v) next ∙ go x cs i l is
  where
    go : (x : ℤ) (cs : List Column) (i : ℕ) → i < length cs → c ≡ get_or cs i c →
        mixed_with x (take (suc i) cs) position v ≡ pos (mix (mixed_with x (take i cs) position v) (number_beside c.depth c.steps.items position v))
    go x [] i l is = absurd (omega (arith, l))
    go x (d ∷ ds) zero l is = ap (λ (e : Column). pos (mix x (number_beside e.depth e.steps.items position v))) (sym is)
    go x (d ∷ ds) (suc i) l is = go (pos (mix x (number_beside d.depth d.steps.items position v))) ds i (omega (arith, l)) is

-- ---- one digit more

-- one group more
pub digits-next : (x : ℤ) (gs : List Group) (i : ℕ) (g : Group) (position : List ℕ) (v : MValue) → i < length gs → g ≡ get_or gs i g →
    with_digits_of x (take (i + 1) gs) position v ≡ with_digit (with_digits_of x (take i gs) position v) (last_digit (mixed g.columns.items position v))
digits-next x gs i g position v l is =
    let next : i + 1 ≡ suc i = omega arith in
    ap (λ k. with_digits_of x (take k gs) position v) next ∙ go x gs i l is
  where
    one : ℤ → Group → ℤ
    one x h = with_digit x (last_digit (mixed h.columns.items position v))

    go : (x : ℤ) (gs : List Group) (i : ℕ) → i < length gs → g ≡ get_or gs i g →
        with_digits_of x (take (suc i) gs) position v ≡ with_digit (with_digits_of x (take i gs) position v) (last_digit (mixed g.columns.items position v))
    go x [] i l is = absurd (omega (arith, l))
    go x (h ∷ hs) zero l is = ap (one x) (sym is)
    go x (h ∷ hs) (suc i) l is = go (one x h) hs i (omega (arith, l)) is
