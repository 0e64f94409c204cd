use Rattle.std.proofs.Common.{◌≡◌, length, chars}
use denote.Text.{Utf8}
use denote.Shadow.{shadow}
use Rattle.decl_lexer.specs.Numbers.{behind_digits, number_from}
use Rattle.decl_lexer.proofs.numbers.few_digits.Given as goal

abbrev pub invariant-loop-first : goal.invariant-loop-first
invariant-loop-first l = record {
  utf8 : shadow (Utf8 l.rest);
  number : number_from 10 10 l.number (chars l.rest) ≡ number_from 10 10 0 (chars l.text);
  rest : behind_digits 10 (chars l.rest) ≡ behind_digits 10 (chars l.text);
}

abbrev pub decreases-loop-first : goal.decreases-loop-first
decreases-loop-first l = length l.rest
