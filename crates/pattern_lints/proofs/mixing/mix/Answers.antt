use Rattle.std.proofs.Common.{◌+◌, ◌*◌, ◌%◌, ℕ, sym, ap, ◌∙◌}
use Rattle.std.specs.Prelude.{nat_abs}
use Rattle.range_split.specs.Numbers.{num_value}
use Rattle.pattern_lints.proofs.Mixed.{mix-ends, size-signed}
use Rattle.pattern_lints.proofs.mixing.mix.Goals as goal

pub returns : goal.returns
returns c =
    let one = c.args.one.now in
    let other = c.args.other.now in
    mix-ends one.size other.size
    ∙ ap (λ (a : ℕ). (a * 1099511628211 + other.size) % 18446744073709551557) (sym (size-signed one.negative one.size))
    ∙ ap (λ (b : ℕ). (nat_abs (num_value one) * 1099511628211 + b) % 18446744073709551557) (sym (size-signed other.negative other.size))
