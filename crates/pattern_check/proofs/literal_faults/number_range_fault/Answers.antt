use Rattle.std.proofs.Common.{refl}
use Rattle.pattern_check.proofs.TypeLemmas.{numeric_kind}
use Rattle.pattern_check.proofs.literal_faults.number_range_fault.Goals as goal

pub returns : goal.returns
returns c =
    rw (
      c.pick.ensures,
      c.pick-outside.ensures,
      c.pick-empty.ensures,
      c.pick-last.ensures,
      c.ends_fit.ensures,
      c.ends_outside.ensures,
      c.is_empty.ensures,
      numeric_kind c.args.kind,
    ) refl
