use Rattle.std.proofs.Common.{◌≡◌, take, get_or, length}
use Rattle.usefulness.specs.Frames.{numbers}
use Rattle.usefulness.specs.States.{plain_opens}
use Rattle.usefulness.specs.Words.{AreNumbered}
use Rattle.usefulness.proofs.telling.places.Given as goal

abbrev pub invariant-loop-i : goal.invariant-loop-i
invariant-loop-i g l = (length l.places.items ≡ l.next) × AreNumbered (λ c. get_or l.places.items c 0) 0 (take l.i (numbers (plain_opens l.columns)))
