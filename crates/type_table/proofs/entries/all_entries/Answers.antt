use Rattle.std.proofs.Common.{map, take, sym, ◌∙◌}
use Rattle.decl_syntax.specs.Items.{item_view}
use Rattle.type_names.specs.Views.{means_in}
use Rattle.type_table.specs.Entries.{entry_below, entry_told, items_told}
use Rattle.type_table.proofs.Declares.{items_more}
use Rattle.type_table.proofs.NodeLemmas.{extends_twice}
use Rattle.type_table.proofs.EntryLemmas.{entries_more, entry_same, entry_still, told_more}
use Rattle.type_table.proofs.entries.all_entries.Goals as goal

pub loop-i-preserved : goal.loop-i-preserved
loop-i-preserved c =
    let old = c.loop-i.nodes.keys in
    let new = c.item_entry.new.nodes.keys in
    let names = means_in c.args.names.now in
    let step = entries_more entry_told entry_below old new c.loop-i.all.items c.push.new.self.items c.in_ok-entry.entry
    (items_told names (map item_view (take c.loop-i.i c.args.items.now))) _
    (entry_same old new c.in_ok-entry.ensures.extends) (entry_still old new c.in_ok-entry.ensures.extends)
    c.loop-i.invariant.below c.loop-i.invariant.told c.in_ok-entry.ensures.below c.in_ok-entry.ensures.told c.in_ok-push.ensures.items in
    record {
      extends = extends_twice c.args.nodes.now.keys old new c.loop-i.invariant.extends c.in_ok-entry.ensures.extends;
      are = c.in_ok-entry.ensures.are;
      declared = items_more c.args.items.now c.loop-i.i c.index-items-i.result c.loop-i-test.true c.index-items-i.is c.loop-i.invariant.declared c.in_ok-entry.ensures.declared;
      below = step.0;
      told = step.1 ∙ sym (told_more names c.args.items.now c.loop-i.i c.index-items-i.result c.loop-i-test.true c.index-items-i.is);
    }
