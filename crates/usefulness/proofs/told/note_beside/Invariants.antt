use Rattle.usefulness.specs.Memo.{memo_of, AreNotedBeside}
use Rattle.usefulness.proofs.told.note_beside.Given as goal

abbrev pub invariant-loop-one : goal.invariant-loop-one
invariant-loop-one l = AreNotedBeside l.list l.chosen (memo_of l.initial.told) (memo_of l.told)
