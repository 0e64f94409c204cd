use Rattle.std.proofs.Common.{◌∙◌, ◌+◌, ◌*◌, ◌%◌, ℕ, ap, sym}
use Rattle.std.proofs.lemmas.Iterator.{YieldsList-from_chars}
use Rattle.std.proofs.lemmas.Iterator.Consumers.{YieldsList-end}
use Rattle.pattern_lints.specs.Beside.{with_digits}
use Rattle.pattern_lints.proofs.TextNumbers.{next_digit, same_items}
use Rattle.pattern_lints.proofs.hulls.text_number.Goals as goal

pub loop-c-preserved : goal.loop-c-preserved
loop-c-preserved c =
    ap (λ (d : ℕ). (c.loop-c.number * 1099511628211 + d) % 18446744073709551616) c.scalar_value.ensures
    ∙ next_digit c.loop-c.number c.loop-c.yielded c.in-Some.c c.loop-c.invariant

pub returns : goal.returns
returns c =
    let t = YieldsList-end (YieldsList-from_chars c.args.text.now c.utf8.text cc) c.loop-c.yielded _ c.loop-c.yielded_by _ _ c.in-None.is c.next.ensures.steps in
    c.loop-c.invariant ∙ ap (λ cs. with_digits 0 cs % 18446744073709551616) (sym (same_items c.loop-c.yielded) ∙ t.0)
