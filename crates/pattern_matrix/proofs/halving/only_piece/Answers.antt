use Rattle.std.proofs.Common.{◌∙◌}
use Rattle.pattern_matrix.specs.Parts.{plain_spans}
use Rattle.pattern_matrix.proofs.Halves.{one_left}
use Rattle.pattern_matrix.proofs.halving.only_piece.Goals as goal

pub returns-clause-leaves : goal.returns-clause-leaves
returns-clause-leaves c =
    let p = c.args.part in
    let ss = plain_spans c.args.spans.now in
    c.keep_meeting.ensures ∙ one_left ss p.first p.end p.leaves.items c.requires.full c.requires.one
