use Rattle.std.proofs.Common.{map, take, sym, ◌∙◌}
use Rattle.decl_syntax.specs.Items.{variant_view}
use Rattle.type_names.specs.Written.{variant_of}
use Rattle.type_names.specs.Views.{means_in}
use Rattle.type_table.specs.Entries.{variant_below, variant_entry}
use Rattle.type_table.proofs.Declares.{keeps_twice}
use Rattle.type_table.proofs.NodeLemmas.{extends_twice}
use Rattle.type_table.proofs.EntryLemmas.{entries_more, variant_same, variant_still, map_front_more}
use Rattle.type_table.proofs.entries.variant_entries.Goals as goal

pub loop-variant-preserved : goal.loop-variant-preserved
loop-variant-preserved c =
    let old = c.loop-variant.nodes.keys in
    let new = c.variant_entry.new.nodes.keys in
    let names = means_in c.args.names.now in
    let step = entries_more variant_entry variant_below old new c.loop-variant.all.items c.push.new.self.items c.in_ok-entry.entry
    (map (variant_of names) (map variant_view (take c.loop-variant.variant-index c.args.variants.now))) _
    (variant_same old new c.in_ok-entry.ensures.extends) (variant_still old new c.in_ok-entry.ensures.extends)
    c.loop-variant.invariant.below c.loop-variant.invariant.told c.in_ok-entry.ensures.below c.in_ok-entry.ensures.variant c.in_ok-push.ensures.items in
    record {
      extends = extends_twice c.args.nodes.now.keys old new c.loop-variant.invariant.extends c.in_ok-entry.ensures.extends;
      are = c.in_ok-entry.ensures.are;
      declared = keeps_twice c.loop-variant.invariant.declared c.in_ok-entry.ensures.declared;
      below = step.0;
      told = step.1 ∙ sym (map_front_more (variant_of names) variant_view c.args.variants.now c.loop-variant.variant-index c.variant-item.result c.loop-variant-test.true c.variant-item.is);
    }
