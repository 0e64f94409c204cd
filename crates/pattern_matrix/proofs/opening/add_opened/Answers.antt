use Rattle.std.proofs.Common.{arith}
use Rattle.std.proofs.lemmas.Grind.{common_steps}
use Rattle.pattern_matrix.specs.Views.{plain_row}
use Rattle.pattern_matrix.proofs.Getting.{got}
use Rattle.pattern_matrix.proofs.opening.add_opened.Goals as goal

pub returns : goal.returns
returns g c =
    let here = got plain_row c.args.rows.now c.args.leaf.now.row c.index-rows-leaf.result c.requires.within c.index-rows-leaf.is in
    rw here (grind (arith, common_steps))
