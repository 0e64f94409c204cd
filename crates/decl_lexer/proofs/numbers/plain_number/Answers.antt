use Rattle.std.proofs.Common.{rules, ◌<◌, ◌^◌, chars, sym, ◌∙◌}
use Rattle.decl_lexer.proofs.PlainLemmas.{plain_decimal}
use Rattle.decl_lexer.proofs.numbers.plain_number.Goals as goal

pub returns-then-starts_other : goal.returns-then-starts_other
returns-then-starts_other c =
    let below : c.in_ok-number.number < 2 ^ 32 = search rules in
    plain_decimal (chars c.args.text.now) (chars c.in_ok-number.rest.now) c.in_ok-number.number below (sym c.starts_other.ensures ∙ c.if-starts_other.true) c.in_ok-number.ensures.number c.in_ok-number.ensures.rest
