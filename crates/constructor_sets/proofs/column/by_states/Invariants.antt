use Rattle.std.proofs.Common.{take}
use Rattle.pat_context.specs.Views.{is_sure}
use Rattle.constructor_sets.specs.Columns.{plain_ctors}
use Rattle.constructor_sets.specs.Present.{AreFoundOf}
use Rattle.constructor_sets.proofs.column.by_states.Given as goal

abbrev pub invariant-loop-ctor : goal.invariant-loop-ctor
invariant-loop-ctor g l =
    AreFoundOf (g.C.PatCx.is_value l.cx) (record { type = l.ty; sure = is_sure l.validity }) (plain_ctors l.heads) (take l.ctor-index l.pieces) (plain_ctors l.found.ctors.items) l.found.missing (plain_ctors l.found.gaps.items)
