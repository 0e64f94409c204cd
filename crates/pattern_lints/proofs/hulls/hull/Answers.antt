use Rattle.std.proofs.Common.{◌≡◌, ◌∙◌, true, sym, subst}
use Rattle.match_model.specs.Numbers.{MRange, in_range, is_from, is_up_to}
use Rattle.range_split.specs.Ends.{plain_end}
use Rattle.range_split.specs.Ranges.{plain_range, range_of}
use Rattle.pattern_lints.proofs.HullLaws.{wider}
use Rattle.pattern_lints.proofs.hulls.hull.Goals as goal

pub returns-in-Some-clause-first : goal.returns-in-Some-clause-first
returns-in-Some-clause-first c = λ x h.
    let one = plain_range c.args.one.now in
    let low = c.lower-low.result in
    let high = c.higher-high.result in
    subst (λ (r : MRange). in_range r x ≡ true) (sym c.in-Some.ensures.ends)
    (wider one (range_of (plain_end low) (plain_end high)) x
    (λ f. c.lower-low.ensures.first x (subst (λ e. is_from e x ≡ true) (sym c.low.ensures) f))
    (λ f. c.higher-high.ensures.first x (subst (λ e. is_up_to e x ≡ true) (sym c.high.ensures) f)) h)

pub returns-in-Some-clause-second : goal.returns-in-Some-clause-second
returns-in-Some-clause-second c = λ x h.
    let other = plain_range c.args.other.now in
    let low = c.lower-low.result in
    let high = c.higher-high.result in
    subst (λ (r : MRange). in_range r x ≡ true) (sym c.in-Some.ensures.ends)
    (wider other (range_of (plain_end low) (plain_end high)) x
    (λ f. c.lower-low.ensures.second x (subst (λ e. is_from e x ≡ true) (sym c.low-2.ensures) f))
    (λ f. c.higher-high.ensures.second x (subst (λ e. is_up_to e x ≡ true) (sym c.high-2.ensures) f)) h)
