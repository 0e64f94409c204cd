use Rattle.std.proofs.Common.{◌≡◌, drop}
use Rattle.serde_json.specs.View.{items_view}
use Rattle.explain_tree.specs.Pictures.{entry_from}
use Rattle.explain_tree.proofs.pictures.entry_of.Given as goal

abbrev pub invariant-loop-number : goal.invariant-loop-number
invariant-loop-number l = entry_from l.name l.number (items_view (drop l.number l.entries)) ≡ entry_from l.name 0 (items_view l.entries)
