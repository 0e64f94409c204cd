use Rattle.std.proofs.Common.{◌≡◌, ◌++◌, ◌-◌, false, string_bytes}
use Rattle.serde_json.specs.Written.{items_text}
use Rattle.explain_json.specs.Lines.{lines_items}
use Rattle.explain_json.proofs.lines.push_lines.Given as goal

abbrev pub invariant-loop-i : goal.invariant-loop-i
invariant-loop-i l =
    string_bytes l.text ++ items_text l.later (lines_items (l.more - l.i) l.begin l.end l.rest)
    ≡ string_bytes l.initial.text ++ items_text false (lines_items l.more l.from l.to l.bytes)
