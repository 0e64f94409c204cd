use Rattle.std.proofs.Common.{◌≡◌, ◌++◌, map, drop, false, string_bytes}
use Rattle.serde_json.specs.View.{items_of}
use Rattle.serde_json.specs.Written.{items_text}
use Rattle.witness_text.specs.Trees.{texts_view}
use Rattle.witness_text.specs.Reported.{text_data}
use Rattle.witness_text.proofs.tree.push_texts.Given as goal

abbrev pub invariant-loop-shown : goal.invariant-loop-shown
invariant-loop-shown l =
    string_bytes l.text ++ items_text l.later (items_of (map text_data (texts_view (drop l.shown-index l.texts))))
    ≡ string_bytes l.initial.text ++ items_text false (items_of (map text_data (texts_view l.texts)))
