use Rattle.std.proofs.Common.{◌≡◌, ◌++◌, drop, map, string_bytes}
use Rattle.std.specs.Prelude.{flat_map}
use Rattle.explain_json.specs.Replacements.{put_line}
use Rattle.explain_json.proofs.replacements.push_put_lines.Given as goal

abbrev pub invariant-loop-line : goal.invariant-loop-line
invariant-loop-line l =
    string_bytes l.text ++ flat_map put_line (map string_bytes (drop l.line-index l.lines))
    ≡ string_bytes l.initial.text ++ flat_map put_line (map string_bytes l.lines)
