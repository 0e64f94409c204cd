use Rattle.std.proofs.Common.{◌≡◌, ◌%◌}
use Rattle.pattern_lints.specs.Beside.{with_digits}
use Rattle.pattern_lints.proofs.hulls.text_number.Given as goal

abbrev pub invariant-loop-c : goal.invariant-loop-c
invariant-loop-c l = l.number ≡ with_digits 0 l.yielded % 18446744073709551616
