use Rattle.number_kinds.proofs.Ends.{written_ascends}
use Rattle.number_kinds.proofs.literals.written_range.Goals as goal

pub between-requires : goal.between-requires
between-requires c =
    rw (c.low_end-low.ensures, c.high_end-high.ensures)
    (written_ascends c.args.width c.args.kind c.args.low c.args.high c.args.inclusive c.requires.low_fits c.requires.high_fits c.requires.has_one)
