use Rattle.std.proofs.Common.{◌≡◌, ℕ, ◌||◌, length, chars}
use denote.Text.{Utf8}
use denote.Shadow.{shadow}
use Rattle.decl_lexer.specs.Numbers.{behind_digits, has_digit, has_other_digit, number_from, in_128_bits}
use Rattle.decl_lexer.proofs.numbers.read_digits.Given as goal

abbrev pub invariant-loop-first : goal.invariant-loop-first
invariant-loop-first l = record {
  utf8 : shadow (Utf8 l.rest);
  value : (n : ℕ) × (l.value ≡ in_128_bits n) × (number_from l.radix l.base n (chars l.rest) ≡ number_from l.radix l.base 0 (chars l.text));
  some : (l.some || has_digit l.radix (chars l.rest)) ≡ has_digit l.radix (chars l.text);
  others : (l.others || has_other_digit l.radix l.base (chars l.rest)) ≡ has_other_digit l.radix l.base (chars l.text);
  rest : behind_digits l.radix (chars l.rest) ≡ behind_digits l.radix (chars l.text);
}

abbrev pub decreases-loop-first : goal.decreases-loop-first
decreases-loop-first l = length l.rest
