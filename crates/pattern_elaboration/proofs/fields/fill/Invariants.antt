use Rattle.std.proofs.Common.{◌≡◌, ◌-◌, drop, length}
use Rattle.pattern_elaboration.specs.Given.{filled}
use Rattle.pattern_elaboration.proofs.fields.fill.Given as goal

abbrev pub invariant-loop-k : goal.invariant-loop-k
invariant-loop-k l = l.parts.items ≡ filled (drop (length l.fields - l.k) l.fields) l.initial.parts.items
