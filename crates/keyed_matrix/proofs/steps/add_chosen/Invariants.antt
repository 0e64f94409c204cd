use Rattle.std.proofs.Common.{◌≡◌, ◌++◌, take}
use Rattle.pat_context.specs.Views.{plain_place}
use Rattle.keyed_matrix.specs.Views.{plain_row, plain_rows}
use Rattle.keyed_matrix.specs.Steps.{chosen_rows}
use Rattle.keyed_matrix.specs.Choosing.{plain_choices}
use Rattle.keyed_matrix.proofs.steps.add_chosen.Given as goal

abbrev pub invariant-loop-c : goal.invariant-loop-c
invariant-loop-c g l =
    plain_rows l.all.items ≡ plain_rows l.initial.all.items ++ chosen_rows (plain_place l.place) l.i (plain_row l.row) (plain_choices (take l.c-index l.c-items))
