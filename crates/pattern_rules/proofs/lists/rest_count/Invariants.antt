use Rattle.std.proofs.Common.{◌≡◌, ◌+◌, ◌≤◌, map, drop}
use Rattle.decl_syntax.specs.Patterns.{pattern_view, patterns_from}
use Rattle.pattern_rules.specs.NodeRules.{rest_count}
use Rattle.pattern_rules.proofs.lists.rest_count.Given as goal

abbrev pub invariant-loop-item : goal.invariant-loop-item
invariant-loop-item l = record {
  counted : l.count + rest_count (patterns_from (map pattern_view (drop l.item-index l.items))) ≡ rest_count (patterns_from (map pattern_view l.items));
  few : l.count ≤ l.item-index;
}
