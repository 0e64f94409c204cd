use Rattle.pat_context.specs.Views.{plain_ctor}
use Rattle.keyed_matrix.proofs.Parts.{part-fits}
use Rattle.keyed_matrix.proofs.columns.part_column.Goals as goal

pub step_to-step-requires-clause-fits : goal.step_to-step-requires-clause-fits
step_to-step-requires-clause-fits g c =
    part-fits (g.C.PatCx.is_type c.args.cx.now) (g.C.PatCx.is_value c.args.cx.now) (g.C.PatCx.context c.args.cx.now) (g.met.C.PatCx.parts c.args.cx.now)
    c.args.column.now.ty (plain_ctor c.args.piece.now) c.args.k c.requires.ty c.requires.belongs c.requires.below
