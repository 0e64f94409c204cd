use Rattle.std.proofs.Common.{ap}
use Rattle.pattern_matrix.specs.Views.{plain_pattern}
use Rattle.usefulness.specs.Cutting.{writes_parts}
use Rattle.usefulness.proofs.Cuts.{parts_written}
use Rattle.usefulness.proofs.cutting.writes_parts.Goals as goal

pub returns-in-Some : goal.returns-in-Some
returns-in-Some g c =
    let written = parts_written c.in-Some.p.now in
    let same = ap (λ h. writes_parts (plain_pattern h)) c.in-Some.is in
    cc
