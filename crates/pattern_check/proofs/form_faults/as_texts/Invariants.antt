use Rattle.std.proofs.Common.{◌≡◌, map, take, string_bytes}
use Rattle.pattern_check.proofs.form_faults.as_texts.Given as goal

abbrev pub invariant-loop-name : goal.invariant-loop-name
invariant-loop-name l = map (λ n. n.now) l.texts.items ≡ map string_bytes (take l.name-index l.names)
