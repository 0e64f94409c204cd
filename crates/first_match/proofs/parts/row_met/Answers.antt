use Rattle.std.proofs.Common.{◌≡◌, ◌∙◌, true, length, sym, refl}
use Rattle.match_model.specs.Constructors.{LongerShape, covers}
use Rattle.first_match.proofs.MetParts.{ends_met}
use Rattle.first_match.proofs.parts.row_met.Goals as goal

pub returns-in-Longer : goal.returns-in-Longer
returns-in-Longer c =
    let there : covers (LongerShape c.in-Longer.front c.in-Longer.back) (length c.args.items.now) ≡ true =
    rw c.in-Longer.is at (sym c.covers.ensures ∙ c.if-not-covers.false) in
    rw c.in-Longer.is (ends_met c.args.items.now c.in-Longer.front c.in-Longer.back _ there refl)
