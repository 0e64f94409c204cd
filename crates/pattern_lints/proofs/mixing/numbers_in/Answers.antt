use Rattle.std.proofs.Common.{◌≡◌, List, true, subst}
use Rattle.match_model.specs.Numbers.{in_range}
use Rattle.range_split.specs.Ranges.{plain_range}
use Rattle.pattern_lints.specs.declared.mixing.Group.{Group}
use Rattle.pattern_lints.specs.Mixing.{first_number, with_digits_of}
use Rattle.pattern_lints.proofs.mixing.numbers_in.Goals as goal

pub returns : goal.returns
returns g c = λ known v position at s m.
    let first = c.args.columns.now.first in
    let r = plain_range c.with_groups.result in
    subst (λ (gs : List Group). in_range r (with_digits_of (first_number first position v) gs position v) ≡ true) c.deref.ensures.value
    (c.with_groups.ensures known (first_number first) (c.first_numbers-first.ensures known) v position at s m)
