use Rattle.std.proofs.Common.{◌≡◌, ℤ, true, sym, ap, subst, ◌∙◌}
use Rattle.std.specs.Prelude.{pos}
use Rattle.match_model.specs.Numbers.{MRange, closed, in_range}
use Rattle.range_split.specs.Numbers.{num_value}
use Rattle.range_split.specs.Ranges.{plain_range}
use Rattle.pattern_lints.specs.Mixing.{mix}
use Rattle.pattern_lints.proofs.BesideLaws.{in-itself}
use Rattle.pattern_lints.proofs.mixing.mixed_numbers.Goals as goal

pub returns : goal.returns
returns c x y first second =
    let r = plain_range c.one_number.result in
    let a : x ≡ num_value c.in-Some.first = c.in-Some.ensures x first in
    let b : y ≡ num_value c.in-Some-only_number.second = c.in-Some-only_number.ensures y second in
    let mixed = pos (mix x y) in
    let same = c.mix.ensures ∙ ap (λ (n : ℤ). mix n (num_value c.in-Some-only_number.second)) (sym a) ∙ ap (mix x) (sym b) in
    subst (λ (s : MRange). in_range s mixed ≡ true) (sym c.one_number.ensures)
    (subst (λ (n : ℤ). in_range (closed n n) mixed ≡ true) (ap pos (sym same)) (in-itself mixed))
