use Rattle.std.proofs.Common.{◌≡◌, map, take, drop, length}
use Rattle.witnesses.specs.Views.{plain_witness, tops}
use Rattle.witnesses.proofs.witness.take_into.Given as goal

abbrev pub invariant-loop-i : goal.invariant-loop-i
invariant-loop-i l =
    record {
      taken : map plain_witness (take l.i l.places.items) ≡ take l.i (tops l.fn.open.items);
      left : tops l.open.items ≡ drop l.i (tops l.fn.open.items);
      size : length l.places.items ≡ length l.fn.places.items;
    }
