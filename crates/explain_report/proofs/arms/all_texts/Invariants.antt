use Rattle.std.proofs.Common.{string_bytes}
use Rattle.serde_json.specs.Find.{as_str}
use Rattle.explain_report.proofs.ReadLists.{IsReadTo}
use Rattle.explain_report.proofs.arms.all_texts.Given as goal

abbrev pub invariant-loop-item : goal.invariant-loop-item
invariant-loop-item l = IsReadTo string_bytes as_str l.items l.item-index l.all.items
