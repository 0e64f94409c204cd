use Rattle.std.proofs.Common.{◌≡◌, map, replicate}
use Rattle.match_model.specs.Witness.{AnyOf}
use Rattle.witnesses.specs.Views.{plain_witness}
use Rattle.witnesses.proofs.witness.anys.Given as goal

abbrev pub invariant-loop-place : goal.invariant-loop-place
invariant-loop-place l = map plain_witness l.all.items ≡ replicate l._place AnyOf
