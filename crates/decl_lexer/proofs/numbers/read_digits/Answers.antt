use Rattle.std.proofs.Common.{rules, ◌*◌, ◌+◌, ◌||◌, chars, sym, ap, ◌∙◌}
use Rattle.std.proofs.Math.Bool.{or_assoc, or-true}
use Rattle.decl_lexer.specs.Numbers.{number_from}
use Rattle.decl_lexer.proofs.NumberLemmas.{IsDigitStep, digit_step}
use Rattle.decl_lexer.proofs.numbers.read_digits.Goals as goal

pub loop-first-preserved-in-Some-to_digit : goal.loop-first-preserved-in-Some-to_digit
loop-first-preserved-in-Some-to_digit c =
    let old = c.loop-first.invariant in
    let digit = c.in-Some-to_digit.ensures.value in
    let step : IsDigitStep c.args.radix c.args.base c.in-Some.first (chars c.loop-first.rest.now) (chars c.in-Some.behind.now) =
    digit_step c.args.radix c.args.base c.in-Some.first (chars c.loop-first.rest.now) (chars c.in-Some.behind.now) c.in-Some.ensures.cases c.if-first-ne95.true digit.0 in
    record {
      utf8 = search rules;
      value = (
        c.args.base * old.value.0 + c.in-Some-to_digit.digit,
        c.append_digit-value.ensures old.value.0 old.value.1,
        ap (λ d. number_from c.args.radix c.args.base (c.args.base * old.value.0 + d) (chars c.in-Some.behind.now)) digit.1 ∙ sym (step.number old.value.0) ∙ old.value.2,
      );
      some = sym (or-true c.loop-first.some) ∙ ap (λ b. c.loop-first.some || b) (sym step.some) ∙ old.some;
      others = rw (or_assoc, digit.1, ← step.others) old.others;
      rest = sym step.rest ∙ old.rest;
    }
