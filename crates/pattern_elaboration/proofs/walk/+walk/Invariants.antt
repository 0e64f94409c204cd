use Rattle.std.proofs.Common.{◌≡◌, ◌+◌, ◌≤◌, ◌^◌, ◌++◌, drop, length}
use Rattle.type_table.specs.Tables.{IsOf, table_type}
use Rattle.pattern_elaboration.specs.Given.{trees, field_trees}
use Rattle.pattern_elaboration.specs.Numbered.{AreMade}
use Rattle.pattern_elaboration.proofs.WalkLists.{PartsLeft}
use Rattle.pattern_elaboration.proofs.WalkFields.{field_list, FieldsLeft}
use Rattle.pattern_elaboration.proofs.WalkItems.{ItemsLeft}
use Rattle.pattern_elaboration.proofs.WalkChoices.{ChoicesLeft}
use Rattle.pattern_elaboration.proofs.Walks.{list_of}
use Rattle.pattern_elaboration.proofs.walk.+walk.Given as goal

abbrev pub invariant-elaborate_parts-loop-item : goal.invariant-elaborate_parts-loop-item
invariant-elaborate_parts-loop-item l = record {
  made : AreMade (IsOf l.table) l.fn.next l.next (field_trees l.written.items);
  left : l.left + l.item-index ≡ length l.items.items;
  small : l.number ≤ l.item-index + 2 ^ 32;
  shown : PartsLeft l.table (table_type l.table l.here.ty) l.here.mode l.variant (list_of l.items.items) l.number
      (list_of (drop l.item-index l.items.items)) l.written.items;
}

abbrev pub invariant-elaborate_fields-loop-field : goal.invariant-elaborate_fields-loop-field
invariant-elaborate_fields-loop-field l = record {
  made : AreMade (IsOf l.table) l.fn.next l.next (field_trees l.written.items);
  shown : FieldsLeft l.table (table_type l.table l.here.ty) l.here.mode l.variant (field_list l.fields.items)
      (field_list (drop l.field-index l.fields.items)) l.written.items;
}

abbrev pub invariant-elaborate_items-loop-item : goal.invariant-elaborate_items-loop-item
invariant-elaborate_items-loop-item l = record {
  made : AreMade (IsOf l.table) l.fn.next l.next (trees l.listed.front.items ++ trees l.listed.back.items);
  left : l.left + l.item-index ≡ length l.items.items;
  small : l.number ≤ l.item-index + length l.items.items + 2 ^ 32;
  shown : ItemsLeft l.table (table_type l.table l.here.ty) l.here.mode (list_of l.items.items) l.behind l.number
      (list_of (drop l.item-index l.items.items)) l.listed.front.items l.listed.back.items;
}

abbrev pub invariant-elaborate_alternatives-loop-alternative : goal.invariant-elaborate_alternatives-loop-alternative
invariant-elaborate_alternatives-loop-alternative l = record {
  made : AreMade (IsOf l.table) l.fn.next l.next (trees l.choices.items);
  shown : ChoicesLeft l.table (table_type l.table l.here.ty) l.here.mode (list_of l.all.items)
      (list_of (drop l.alternative-index l.all.items)) l.choices.items;
}
