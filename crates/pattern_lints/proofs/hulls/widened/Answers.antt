use Rattle.std.proofs.Common.{◌≡◌, true, sym, ap, subst, ◌∙◌}
use Rattle.std.specs.Option.{option_map}
use Rattle.match_model.specs.Numbers.{MRange, in_range}
use Rattle.range_split.specs.Ranges.{plain_range}
use Rattle.pattern_lints.proofs.HeadParts.{some_same}
use Rattle.pattern_lints.proofs.hulls.widened.Goals as goal

pub returns-in-Some-clause-first : goal.returns-in-Some-clause-first
returns-in-Some-clause-first c = λ r e x h.
    let before = plain_range c.in-Some.before.now in
    let same : before ≡ r = some_same before r (ap (option_map plain_range) c.in-Some.ensures.value ∙ e) in
    c.hull.ensures.first x (subst (λ (s : MRange). in_range s x ≡ true) (sym same) h)
