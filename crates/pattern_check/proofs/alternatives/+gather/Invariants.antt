use Rattle.std.proofs.Common.{◌≡◌, false, ℕ, ◌+◌, ◌≤◌, ◌^◌, None, List, ◌++◌, map, take, drop, length}
use Rattle.decl_syntax.specs.Patterns.{pattern_view, patterns_from, field_view, fields_from}
use Rattle.decl_syntax.specs.Widths.{pattern_count}
use Rattle.type_table.specs.Lookups.{field_names}
use Rattle.type_table.specs.Tables.{table_program, table_type, fields_of_type, type_variant}
use Rattle.pattern_rules.specs.Settings.{Setting, place}
use Rattle.pattern_rules.specs.Nodes.{part_nodes, field_nodes, item_nodes, alternative_nodes, names_of_all, names_of_fields}
use Rattle.pattern_rules.specs.Faults.{node_rules}
use Rattle.pattern_rules.specs.NodeRules.{is_tuple}
use Rattle.pattern_check.specs.Checking.{IsSettingOf}
use Rattle.pattern_check.specs.Walks.{first_in, types_of_parts}
use Rattle.pattern_check.specs.BoundSets.{bounds_view, AreHeld}
use Rattle.pattern_check.proofs.GatherSteps.{Sofar, Compared}
use Rattle.pattern_check.proofs.alternatives.+gather.Given as goal

abbrev pub invariant-gather_parts-loop-item : goal.invariant-gather_parts-loop-item
invariant-gather_parts-loop-item l = record {
  held : AreHeld l.table l.bounds.keys;
  told : (s : Setting) (before : List (List ℕ)) → IsSettingOf l.table s →
      first_in node_rules s (part_nodes s before (types_of_parts (table_program l.table) (table_type l.table l.here.ty) l.variant) l.here.mode
      (fields_of_type (table_program l.table) (table_type l.table l.here.ty) l.variant) 0 (patterns_from (map pattern_view l.items.items))) ≡ None →
      Sofar s (bounds_view l.table l.fn.bounds.keys) (bounds_view l.table l.bounds.keys) l.found
      (part_nodes s before (types_of_parts (table_program l.table) (table_type l.table l.here.ty) l.variant) l.here.mode
      (fields_of_type (table_program l.table) (table_type l.table l.here.ty) l.variant) 0 (patterns_from (map pattern_view l.items.items)))
      (part_nodes s (before ++ names_of_all s (patterns_from (map pattern_view (take l.item-index l.items.items))))
      (types_of_parts (table_program l.table) (table_type l.table l.here.ty) l.variant) l.here.mode
      (fields_of_type (table_program l.table) (table_type l.table l.here.ty) l.variant) l.number (patterns_from (map pattern_view (drop l.item-index l.items.items))));
  left : l.left + l.item-index ≡ length l.items.items;
  small : l.number ≤ l.item-index + 2 ^ 32;
}

abbrev pub invariant-gather_fields-loop-field : goal.invariant-gather_fields-loop-field
invariant-gather_fields-loop-field l = record {
  held : AreHeld l.table l.bounds.keys;
  told : is_tuple (table_type l.table l.here.ty) ≡ false → (s : Setting) (before : List (List ℕ)) → IsSettingOf l.table s →
      first_in node_rules s (field_nodes s before (types_of_parts (table_program l.table) (table_type l.table l.here.ty) l.variant) l.here.mode
      (field_names (type_variant (table_program l.table) (table_type l.table l.here.ty) l.variant)) (fields_from (map field_view l.fields.items))) ≡ None →
      Sofar s (bounds_view l.table l.fn.bounds.keys) (bounds_view l.table l.bounds.keys) l.found
      (field_nodes s before (types_of_parts (table_program l.table) (table_type l.table l.here.ty) l.variant) l.here.mode
      (field_names (type_variant (table_program l.table) (table_type l.table l.here.ty) l.variant)) (fields_from (map field_view l.fields.items)))
      (field_nodes s (before ++ names_of_fields s (fields_from (map field_view (take l.field-index l.fields.items))))
      (types_of_parts (table_program l.table) (table_type l.table l.here.ty) l.variant) l.here.mode
      (field_names (type_variant (table_program l.table) (table_type l.table l.here.ty) l.variant)) (fields_from (map field_view (drop l.field-index l.fields.items))));
}

abbrev pub invariant-gather_items-loop-item : goal.invariant-gather_items-loop-item
invariant-gather_items-loop-item l = record {
  held : AreHeld l.table l.bounds.keys;
  told : (s : Setting) (before : List (List ℕ)) → IsSettingOf l.table s →
      first_in node_rules s (item_nodes s before (table_type l.table l.fn.here.ty) (pattern_count (patterns_from (map pattern_view l.items.items))) l.fn.here.mode
      (patterns_from (map pattern_view l.items.items))) ≡ None →
      Sofar s (bounds_view l.table l.fn.bounds.keys) (bounds_view l.table l.bounds.keys) l.found
      (item_nodes s before (table_type l.table l.fn.here.ty) (pattern_count (patterns_from (map pattern_view l.items.items))) l.fn.here.mode (patterns_from (map pattern_view l.items.items)))
      (item_nodes s (before ++ names_of_all s (patterns_from (map pattern_view (take l.item-index l.items.items))))
      (table_type l.table l.fn.here.ty) (pattern_count (patterns_from (map pattern_view l.items.items))) l.fn.here.mode (patterns_from (map pattern_view (drop l.item-index l.items.items))));
}

abbrev pub invariant-gather_alternatives-loop-alternative : goal.invariant-gather_alternatives-loop-alternative
invariant-gather_alternatives-loop-alternative l = record {
  held : AreHeld l.table l.bounds.keys;
  first_held : AreHeld l.table l.first.keys;
  told : (s : Setting) (before : List (List ℕ)) → IsSettingOf l.table s →
      first_in node_rules s (alternative_nodes s before (place (table_type l.table l.here.ty) l.here.mode) (patterns_from (map pattern_view l.all.items))) ≡ None →
      Sofar s (bounds_view l.table l.fn.bounds.keys) (bounds_view l.table l.bounds.keys) l.found
      (alternative_nodes s before (place (table_type l.table l.here.ty) l.here.mode) (patterns_from (map pattern_view l.all.items)))
      (alternative_nodes s before (place (table_type l.table l.here.ty) l.here.mode) (patterns_from (map pattern_view (drop l.alternative-index l.all.items))));
  compared : (s : Setting) (before : List (List ℕ)) → IsSettingOf l.table s →
      first_in node_rules s (alternative_nodes s before (place (table_type l.table l.here.ty) l.here.mode) (patterns_from (map pattern_view l.all.items))) ≡ None →
      Compared s (place (table_type l.table l.here.ty) l.here.mode) l.seen l.differ (bounds_view l.table l.first.keys)
      (patterns_from (map pattern_view (take l.alternative-index l.all.items)));
}
