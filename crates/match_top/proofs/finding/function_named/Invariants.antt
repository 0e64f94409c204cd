use Rattle.std.proofs.Common.{◌≡◌, map, take, None}
use Rattle.decl_syntax.specs.Items.{item_view}
use Rattle.match_top.specs.Outcomes.{function_named}
use Rattle.match_top.specs.Reports.{functions_of}
use Rattle.match_top.proofs.finding.function_named.Given as goal

abbrev pub invariant-loop-number : goal.invariant-loop-number
invariant-loop-number l = function_named (functions_of (map item_view (take l.number l.items))) l.name ≡ None
