use Rattle.std.proofs.Common.{◌≡◌, ◌+◌, drop, length}
use Rattle.explain_lines.specs.Lines.{first_line}
use Rattle.explain_json.proofs.lines.line_length.Given as goal

abbrev pub invariant-loop-byte : goal.invariant-loop-byte
invariant-loop-byte l =
    record { exact : l.count + length (first_line (drop l.byte-index l.bytes)) ≡ length (first_line l.bytes); same : l.count ≡ l.byte-index }
