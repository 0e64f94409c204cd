use Rattle.std.proofs.Common.{refl}
use Rattle.type_table.proofs.FirstFaults.{draft_table}
use Rattle.type_table.proofs.build.finished.Goals as goal

pub returns : goal.returns
returns c = λ items width is none. draft_table items width c.args.draft _ is none refl refl refl refl refl
