use Rattle.std.proofs.Common.{◌≡◌, ◌≤◌, ◌-◌, vec_len}
use Rattle.match_top.proofs.Fronts.{IsFront}
use Rattle.match_top.proofs.reading.read_rest.Given as goal

abbrev pub invariant-loop-read : goal.invariant-loop-read
invariant-loop-read g l =
    (vec_len l.read ≤ l.most)
    × (g.F.Files.holds l.files ≡ g.F.Files.holds l.fn.files)
    × (g.F.Files.faults l.fn.files ≤ g.F.Files.faults l.files)
    × (g.F.Files.sure l.fn.files → g.F.Files.sure l.files)
    × IsFront (g.F.Files.left l.fn.files) l.read.items (g.F.Files.left l.files)

abbrev pub decreases-loop-read : goal.decreases-loop-read
decreases-loop-read g l = l.most - vec_len l.read
