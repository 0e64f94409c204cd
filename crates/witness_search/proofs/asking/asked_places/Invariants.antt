use Rattle.std.proofs.Common.{◌≡◌, ◌-◌, ◌++◌, [], length, take}
use Rattle.usefulness.specs.Covering.{asking_columns, asking_rows}
use Rattle.witness_search.specs.Asks.{shown_of}
use Rattle.witness_search.proofs.asking.asked_places.Given as goal

abbrev pub invariant-loop-i : goal.invariant-loop-i
invariant-loop-i g l =
    (asking_columns l.asking ++ shown_of (take (length l.opened.items - l.i) l.opened.items) ≡ shown_of l.opened.items)
    × (asking_rows l.asking ≡ [])
    × (l.asking.next ≡ l.next)
