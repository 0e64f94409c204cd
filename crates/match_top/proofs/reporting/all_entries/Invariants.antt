use Rattle.std.proofs.Common.{◌≡◌, ◌++◌, map, length}
use Rattle.std.specs.Vec.Iter.{into_iter_items, into_iter_len}
use Rattle.decl_syntax.specs.Items.{item_view}
use Rattle.match_top.specs.Reports.{functions_of}
use Rattle.match_top.specs.Reporting.{ReportsOn, setting_in}
use Rattle.match_top.proofs.reporting.all_entries.Given as goal

abbrev pub ghost-add_item : goal.ghost-add_item
ghost-add_item g a = g.whole

abbrev pub invariant-loop-item : goal.invariant-loop-item
invariant-loop-item g l = (map item_view (l.yielded ++ into_iter_items l.item-iterator) ≡ g.whole)
    × ReportsOn l.command (setting_in l.source g.whole) (functions_of (map item_view l.yielded)) l.so_far
    × (l.number ≡ length l.yielded)
    × (into_iter_len l.item-iterator ≡ length (into_iter_items l.item-iterator))
