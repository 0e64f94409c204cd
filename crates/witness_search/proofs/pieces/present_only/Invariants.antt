use Rattle.std.proofs.Common.{◌≡◌, map, take}
use Rattle.constructor_sets.specs.Columns.{plain_ctors, plain_piece}
use Rattle.witness_search.specs.Found.{as_present}
use Rattle.witness_search.proofs.pieces.present_only.Given as goal

abbrev pub invariant-loop-ctor : goal.invariant-loop-ctor
invariant-loop-ctor l = map plain_piece l.pieces.items ≡ as_present (plain_ctors (take l.ctor-index l.ctors))
