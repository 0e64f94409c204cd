use Rattle.std.proofs.Common.{refl}
use Rattle.pattern_check.proofs.form_faults.field_fault.Goals as goal

pub returns : goal.returns
returns c =
    rw (
      c.pick.ensures,
      c.pick-again.ensures,
      c.pick-missing.ensures,
      c.names_no_field.ensures,
      c.in_ok-names_field_twice.ensures,
      c.in_ok-misses_field.ensures,
    ) refl
