use Rattle.std.proofs.Common.{rules, ◌*◌, ◌+◌, chars, sym, ap, ◌∙◌}
use Rattle.decl_lexer.specs.Numbers.{number_from}
use Rattle.decl_lexer.proofs.NumberLemmas.{IsDigitStep, digit_step, no_underscore}
use Rattle.decl_lexer.proofs.numbers.few_digits.Goals as goal

pub loop-first-preserved : goal.loop-first-preserved
loop-first-preserved c =
    let old = c.loop-first.invariant in
    let digit = c.in-Some-to_digit.ensures.value in
    let step : IsDigitStep 10 10 c.in-Some.first (chars c.loop-first.rest.now) (chars c.in-Some.behind.now) =
    digit_step 10 10 c.in-Some.first (chars c.loop-first.rest.now) (chars c.in-Some.behind.now) c.in-Some.ensures.cases (no_underscore c.in-Some.first digit.0) digit.0 in
    record {
      utf8 = search rules;
      number = ap (λ d. number_from 10 10 (10 * c.loop-first.number + d) (chars c.in-Some.behind.now)) digit.1 ∙ sym (step.number c.loop-first.number) ∙ old.number;
      rest = sym step.rest ∙ old.rest;
    }
