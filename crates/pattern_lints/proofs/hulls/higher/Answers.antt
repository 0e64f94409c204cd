use Rattle.std.proofs.Common.{◌≡◌, true, subst}
use Rattle.match_model.specs.Numbers.{is_up_to}
use Rattle.range_split.specs.Ends.{plain_end}
use Rattle.range_split.specs.Numbers.{num_value}
use Rattle.pattern_lints.proofs.HullLaws.{up-higher}
use Rattle.pattern_lints.proofs.hulls.higher.Goals as goal

pub returns-clause-first : goal.returns-clause-first
returns-clause-first c = λ x h.
    up-higher (num_value c.in-At.first) (num_value c.greater.result) x c.greater.ensures.first (subst (λ e. is_up_to (plain_end e) x ≡ true) c.in-At.is h)

pub returns-clause-second : goal.returns-clause-second
returns-clause-second c = λ x h.
    up-higher (num_value c.in-At-other.second) (num_value c.greater.result) x c.greater.ensures.second (subst (λ e. is_up_to (plain_end e) x ≡ true) c.in-At-other.is h)
