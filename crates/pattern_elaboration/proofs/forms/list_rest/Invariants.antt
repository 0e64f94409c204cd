use Rattle.std.proofs.Common.{◌≡◌, map, drop}
use Rattle.decl_syntax.specs.Patterns.{pattern_view, patterns_from}
use Rattle.pattern_rules.specs.Resolved.{rest_of}
use Rattle.pattern_elaboration.proofs.forms.list_rest.Given as goal

abbrev pub invariant-loop-item : goal.invariant-loop-item
invariant-loop-item l =
    rest_of (patterns_from (map pattern_view l.items)) ≡ rest_of
    (patterns_from (map pattern_view (drop l.item-index l.items)))
