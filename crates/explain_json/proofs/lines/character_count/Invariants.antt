use Rattle.std.proofs.Common.{◌≡◌, ◌≤◌, take, count_by}
use Rattle.explain_lines.specs.Lines.{begins_character}
use Rattle.explain_json.proofs.lines.character_count.Given as goal

abbrev pub invariant-loop-byte : goal.invariant-loop-byte
invariant-loop-byte l =
    record { exact : l.count ≡ count_by begins_character (take l.byte-index l.bytes); few : l.count ≤ l.byte-index }
