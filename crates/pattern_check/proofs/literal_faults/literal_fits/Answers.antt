use Rattle.pattern_check.proofs.literal_faults.literal_fits.Goals as goal

pub returns-in-Str : goal.returns-in-Str
returns-in-Str c = rw c.in-Str.is c.is_shared_text.ensures
