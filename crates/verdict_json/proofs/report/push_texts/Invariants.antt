use Rattle.std.proofs.Common.{◌≡◌, ◌++◌, map, drop, false, string_bytes}
use Rattle.serde_json.specs.Data.{string}
use Rattle.serde_json.specs.View.{items_of}
use Rattle.serde_json.specs.Written.{items_text}
use Rattle.verdict_json.proofs.report.push_texts.Given as goal

abbrev pub invariant-loop-one : goal.invariant-loop-one
invariant-loop-one l =
    string_bytes l.text ++ items_text l.later (items_of (map string (map string_bytes (drop l.one-index l.shown))))
    ≡ string_bytes l.initial.text ++ items_text false (items_of (map string (map string_bytes l.shown)))
