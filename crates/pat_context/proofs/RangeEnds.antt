-- The ends of a range that does not run backward are numbers of it.
use Rattle.std.proofs.Common.{◌≡◌, ℤ, true, ◌&&◌, int_le, ap, subst, ◌∙◌, arith}
use Rattle.std.proofs.lemmas.Int.{ints}
use Rattle.match_model.specs.Numbers.{MEnd, Free, At, MRange, in_range, is_from, is_up_to, ends_ascend}

pub low_in : (r : MRange) (n : ℤ) → r.low ≡ At n → ends_ascend r.low r.high ≡ true → in_range r n ≡ true
low_in r n e up =
    ap (λ x. is_from x n && is_up_to r.high n) e ∙ go r.high (subst (λ x. ends_ascend x r.high ≡ true) e up)
  where
    go : (high : MEnd) → ends_ascend (At n) high ≡ true → (int_le n n && is_up_to high n) ≡ true
    go Free u = itself n
      where
        itself : (n : ℤ) → (int_le n n && true) ≡ true
        itself n = grind (arith, ints)
    go (At b) u = within n b u
      where
        within : (n b : ℤ) → int_le n b ≡ true → (int_le n n && int_le n b) ≡ true
        within n b u = grind (arith, ints)

pub high_in : (r : MRange) (n : ℤ) → r.high ≡ At n → ends_ascend r.low r.high ≡ true → in_range r n ≡ true
high_in r n e up = ap (λ x. is_from r.low n && is_up_to x n) e ∙ go r.low (subst (λ x. ends_ascend r.low x ≡ true) e up)
  where
    go : (low : MEnd) → ends_ascend low (At n) ≡ true → (is_from low n && int_le n n) ≡ true
    go Free u = itself n
      where
        itself : (n : ℤ) → (true && int_le n n) ≡ true
        itself n = grind (arith, ints)
    go (At a) u = within a n u
      where
        within : (a n : ℤ) → int_le a n ≡ true → (int_le a n && int_le n n) ≡ true
        within a n u = grind (arith, ints)
