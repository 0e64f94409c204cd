use Rattle.std.proofs.Common.{◌∙◌, List, ap, set}
use Rattle.witnesses.specs.Views.{tops}
use Rattle.witnesses.specs.declared.witness.Witness.{Witness}
use Rattle.witnesses.proofs.Tops.{put_tops}
use Rattle.witnesses.proofs.stack.put_above.Goals as goal

pub returns : goal.returns
returns c =
    ap (λ (xs : List Witness). tops (set xs c.args.base c.args.w)) c.truncate.ensures.items ∙ put_tops c.args.base c.args.w c.args.open.now.items c.requires
