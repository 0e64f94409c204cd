use Rattle.std.proofs.Common.{map, take, sym, ◌∙◌}
use Rattle.decl_syntax.specs.Items.{field_view}
use Rattle.type_names.specs.Written.{field_of}
use Rattle.type_names.specs.Views.{means_in}
use Rattle.type_table.specs.Entries.{field_below, field_entry}
use Rattle.type_table.proofs.Declares.{keeps_twice}
use Rattle.type_table.proofs.NodeLemmas.{extends_twice}
use Rattle.type_table.proofs.EntryLemmas.{entries_more, field_same, field_still, map_front_more}
use Rattle.type_table.proofs.entries.field_entries.Goals as goal

pub loop-field-preserved : goal.loop-field-preserved
loop-field-preserved c =
    let old = c.loop-field.nodes.keys in
    let new = c.field_entry.new.nodes.keys in
    let names = means_in c.args.names.now in
    let step = entries_more field_entry field_below old new c.loop-field.all.items c.push.new.self.items c.in_ok-entry.entry
    (map (field_of names) (map field_view (take c.loop-field.field-index c.args.fields.now))) _
    (field_same old new c.in_ok-entry.ensures.extends) (field_still old new c.in_ok-entry.ensures.extends)
    c.loop-field.invariant.below c.loop-field.invariant.told c.in_ok-entry.ensures.below c.in_ok-entry.ensures.field c.in_ok-push.ensures.items in
    record {
      extends = extends_twice c.args.nodes.now.keys old new c.loop-field.invariant.extends c.in_ok-entry.ensures.extends;
      are = c.in_ok-entry.ensures.are;
      declared = keeps_twice c.loop-field.invariant.declared c.in_ok-entry.ensures.declared;
      below = step.0;
      told = step.1 ∙ sym (map_front_more (field_of names) field_view c.args.fields.now c.loop-field.field-index c.field-item.result c.loop-field-test.true c.field-item.is);
    }
