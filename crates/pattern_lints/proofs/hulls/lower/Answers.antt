use Rattle.std.proofs.Common.{◌≡◌, true, subst}
use Rattle.match_model.specs.Numbers.{is_from}
use Rattle.range_split.specs.Ends.{plain_end}
use Rattle.range_split.specs.Numbers.{num_value}
use Rattle.pattern_lints.proofs.HullLaws.{from-lower}
use Rattle.pattern_lints.proofs.hulls.lower.Goals as goal

pub returns-clause-first : goal.returns-clause-first
returns-clause-first c = λ x h.
    from-lower (num_value c.lesser.result) (num_value c.in-At.first) x c.lesser.ensures.first (subst (λ e. is_from (plain_end e) x ≡ true) c.in-At.is h)

pub returns-clause-second : goal.returns-clause-second
returns-clause-second c = λ x h.
    from-lower (num_value c.lesser.result) (num_value c.in-At-other.second) x c.lesser.ensures.second (subst (λ e. is_from (plain_end e) x ≡ true) c.in-At-other.is h)
