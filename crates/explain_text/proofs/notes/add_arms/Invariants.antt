use Rattle.std.proofs.Common.{◌≡◌, ◌++◌, drop, map, string_bytes}
use Rattle.explain_text.specs.Notes.{arm_line}
use Rattle.explain_text.proofs.notes.add_arms.Given as goal

abbrev pub invariant-loop-arm : goal.invariant-loop-arm
invariant-loop-arm l =
    map string_bytes l.lines.items ++ map arm_line (map string_bytes (drop l.arm-index l.arms))
    ≡ map string_bytes l.initial.lines.items ++ map arm_line (map string_bytes l.arms)
