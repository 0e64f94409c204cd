-- One digit further in a number.
use Rattle.std.proofs.Common.{◌≡◌, ◌≢◌, ℕ, ◌+◌, ◌*◌, ◌<◌, true, false, ◌||◌, ◌==◌, nat_le, List, ◌∷◌, refl, subst, arith}
use Rattle.std.proofs.lemmas.Bool.{eqb-true, lt-ltb, false_from_ne_true}
use Rattle.std.specs.Char.{digit_value, is_digit}
use Rattle.decl_lexer.specs.Numbers.{behind_digits, has_digit, has_other_digit, number_from}

-- what a digit at the front adds
pub record IsDigitStep (radix base c : ℕ) (all cs : List ℕ) : Type 0 where
  pub number : (n : ℕ) → number_from radix base n all ≡ number_from radix base (base * n + digit_value c) cs
  pub some : has_digit radix all ≡ true
  pub others : has_other_digit radix base all ≡ (nat_le base (digit_value c) || has_other_digit radix base cs)
  pub rest : behind_digits radix all ≡ behind_digits radix cs

pub digit_step : (radix base c : ℕ) (all cs : List ℕ) → all ≡ c ∷ cs → c ≢ 95 → digit_value c < radix → IsDigitStep radix base c all cs
digit_step radix base c all cs e ne less =
    let digit : is_digit c radix ≡ true = lt-ltb (digit_value c) radix less in
    let plain : (c == 95) ≡ false = false_from_ne_true (c == 95) (λ same. ne (eqb-true c 95 same)) in
    record {
      number = λ n. rw (e, plain, digit) refl;
      some = rw (e, plain, digit) refl;
      others = rw (e, plain, digit) refl;
      rest = rw (e, plain, digit) refl;
    }

pub no_underscore : (c : ℕ) → digit_value c < 10 → c ≢ 95
no_underscore c less same = let false_one : 36 < 10 = subst (λ (d : ℕ). digit_value d < 10) same less in absurd (omega arith)
