use Rattle.std.proofs.Common.{◌≡◌, ℕ, suc, ◌+◌, ◌-◌, ◌<◌, ◌≤◌, Bool, true, false, if◌then◌else◌, List, [], ◌∷◌, ◌++◌, ◌||◌, ◌^◌, take, drop, get_or, length, option_map, Option, None, refl, sym, ap, subst, ◌∙◌, arith}
use Rattle.std.specs.Rc.{rc_str_bytes}
use Rattle.std.proofs.lemmas.List.{length-drop, take_all}
use Rattle.match_model.specs.Types.{MType}
use Rattle.match_model.specs.RustTypes.{inner_type}
use Rattle.match_model.specs.declared.Mode.{Mode}
use Rattle.match_model.specs.declared.Mode.TheVariants.{Move}
use Rattle.decl_syntax.specs.declared.tree.Pat.{Pat}
use Rattle.decl_syntax.specs.declared.tree.FieldPat.{FieldPat}
use Rattle.decl_syntax.specs.declared.tree.Path as declared_path
use Rattle.decl_syntax.specs.Patterns.{PatternTree, At, Shape, Wild, TupleForm, Brace, Tuple, Group, Slice, Point, Or, bind_shape, path_view, pattern_view, shape_view, fields_from}
use Rattle.decl_syntax.specs.Patterns as patterns
use Rattle.decl_syntax.specs.Widths.{pattern_count}
use Rattle.type_names.specs.Finding.{path_finds}
use Rattle.type_table.specs.Lookups.{field_names}
use Rattle.type_table.specs.Tables.{table_program, table_type, fields_of_type, type_variant}
use Rattle.pattern_rules.specs.Settings.{Setting, place, bottom_type, rest_type}
use Rattle.pattern_rules.specs.Namings.{found_if, is_short, meets, field_number}
use Rattle.pattern_rules.specs.Nodes.{Node, AsItem, Elsewhere, nodes, nodes_within, part_nodes, part_behind, field_nodes, field_standing, item_nodes, slice_item_type, alternative_nodes, is_rest, names_of_all, names_of_fields}
use Rattle.pattern_rules.specs.NodeRules.{is_tuple}
use Rattle.pattern_rules.specs.OtherRules.{BoundName, bound_by}
use Rattle.pattern_rules.specs.Faults.{node_rules}
use Rattle.pattern_check.specs.declared.fault.NodeFault.{NodeFault}
use Rattle.pattern_check.specs.declared.held.Bound.{Bound}
use Rattle.pattern_check.specs.Checking.{IsSettingOf, IsMet}
use Rattle.pattern_check.specs.NodeForms.{node_at}
use Rattle.pattern_check.specs.Walks.{earlier, first_in, types_of_parts}
use Rattle.pattern_check.specs.BoundSets.{bounds_view, bound_list, bounds_of, is_bound, Binds, AreHeld, BoundsAre, BoundsWithin, Told, IsFirst}
use Rattle.pattern_check.proofs.FieldLemmas.{drop_past, if_ok, if_under}
use Rattle.pattern_check.proofs.ListLemmas.{pattern_count-map}
use Rattle.pattern_check.proofs.NamedFields.{met_is_named}
use Rattle.pattern_check.proofs.Shapes.{shape_wild, shape_rest, shape_lit, shape_name, shape_bind, shape_path, shape_form, shape_brace, shape_tuple, shape_group, shape_slice, shape_point, shape_range, shape_or}
use Rattle.pattern_check.proofs.FormWalks.{fine_told, form_nodes, brace_nodes, tuple_nodes}
use Rattle.pattern_check.proofs.WalkSteps.{list_of, fields_of, view_at, parts_here, ways_here, items_here, fields_here, field_name_is}
use Rattle.pattern_check.proofs.SetLemmas.{binds_like}
use Rattle.pattern_check.proofs.BoundNodes.{same_bounds}
use Rattle.pattern_check.proofs.GatherSteps.{Sofar, sofar_here, sofar_step, sofar_end, Compared, compared_step, whole_is, fine_own, fine_below, told_below, told_node, told_leaf, told_ways, told_rest, told_item, earlier_none}
use Rattle.pattern_check.proofs.alternatives.+gather.Goals as goal

pub gather-returns : goal.gather-returns
gather-returns t c =
    let table = c.args.table.now in
    let sh = shape_view c.args.pat.now.kind in
    let from = c.args.pat.now.from in
    let ty = table_type table c.args.here.ty in
    let m = c.args.here.mode in
    let pl = place ty m in
    let old = bounds_view table c.args.bounds.now.keys in
    let mid = bounds_view table c.bind_own.new.bounds.keys in
    let new = bounds_view table c.gather_within.new.bounds.keys in
    record {
      held = c.gather_within.ensures.held;
      told = if_ok c.gather_within.result _ _
          (λ r h st s before is fine.
          let here : first_in node_rules s (nodes s st before pl (At from sh)) ≡ None = ap (λ (p : PatternTree). first_in node_rules s (nodes s st before pl p)) (sym (view_at c.args.pat.now)) ∙ fine in
          let own : Binds old mid (bound_list (bound_by s (node_at from sh st pl before)))
          = subst (λ (u : MType). Binds old mid (bound_list (bound_by s (node_at from sh st (place u m) before)))) (whole_is ty) (c.in_ok-bind_own.ensures.binds s from st before is) in
          subst (λ (p : PatternTree). Told s old new r (nodes s st before pl p)) (sym (view_at c.args.pat.now))
          (told_node s (node_at from sh st pl before) (nodes_within s before pl sh) old mid new r own (h s st before is here)))
          c.gather_within.ensures.told;
    }

pub gather_within-returns-in-Wild : goal.gather_within-returns-in-Wild
gather_within-returns-in-Wild t c =
    let shape = ap shape_view c.in-Wild.is ∙ shape_wild in
    let table = c.args.table.now in
    let old = bounds_view table c.args.bounds.now.keys in
    let pl = place (table_type table c.args.here.ty) c.args.here.mode in
    record {
      held = c.requires.held;
      told = subst (λ (sh : Shape). BoundsWithin table old old c.args.from sh pl None) (sym shape) (λ s st before is fine. told_leaf s (node_at c.args.from _ st pl before) old refl);
    }

pub gather_within-returns-in-Rest : goal.gather_within-returns-in-Rest
gather_within-returns-in-Rest t c =
    let shape = ap shape_view c.in-Rest.is ∙ shape_rest in
    let table = c.args.table.now in
    let old = bounds_view table c.args.bounds.now.keys in
    let pl = place (table_type table c.args.here.ty) c.args.here.mode in
    record {
      held = c.requires.held;
      told = subst (λ (sh : Shape). BoundsWithin table old old c.args.from sh pl None) (sym shape) (λ s st before is fine. told_leaf s (node_at c.args.from _ st pl before) old refl);
    }

pub gather_within-returns-in-Lit : goal.gather_within-returns-in-Lit
gather_within-returns-in-Lit t c =
    let shape = ap shape_view c.in-Lit.is ∙ shape_lit c.in-Lit.field-0 in
    let table = c.args.table.now in
    let old = bounds_view table c.args.bounds.now.keys in
    let pl = place (table_type table c.args.here.ty) c.args.here.mode in
    record {
      held = c.requires.held;
      told = subst (λ (sh : Shape). BoundsWithin table old old c.args.from sh pl None) (sym shape) (λ s st before is fine. told_leaf s (node_at c.args.from _ st pl before) old refl);
    }

pub gather_within-returns-in-Range : goal.gather_within-returns-in-Range
gather_within-returns-in-Range t c =
    let shape = ap shape_view c.in-Range.is ∙ shape_range c.in-Range.field-0 in
    let table = c.args.table.now in
    let old = bounds_view table c.args.bounds.now.keys in
    let pl = place (table_type table c.args.here.ty) c.args.here.mode in
    record {
      held = c.requires.held;
      told = subst (λ (sh : Shape). BoundsWithin table old old c.args.from sh pl None) (sym shape) (λ s st before is fine. told_leaf s (node_at c.args.from _ st pl before) old refl);
    }

pub gather_within-returns-in-Name : goal.gather_within-returns-in-Name
gather_within-returns-in-Name t c =
    let shape = ap shape_view c.in-Name.is ∙ shape_name c.in-Name.field-0 in
    let table = c.args.table.now in
    let old = bounds_view table c.args.bounds.now.keys in
    let pl = place (table_type table c.args.here.ty) c.args.here.mode in
    record {
      held = c.requires.held;
      told = subst (λ (sh : Shape). BoundsWithin table old old c.args.from sh pl None) (sym shape) (λ s st before is fine. told_leaf s (node_at c.args.from _ st pl before) old refl);
    }

pub gather_within-returns-in-Path : goal.gather_within-returns-in-Path
gather_within-returns-in-Path t c =
    let shape = ap shape_view c.in-Path.is ∙ shape_path c.in-Path.field-0 in
    let table = c.args.table.now in
    let old = bounds_view table c.args.bounds.now.keys in
    let pl = place (table_type table c.args.here.ty) c.args.here.mode in
    record {
      held = c.requires.held;
      told = subst (λ (sh : Shape). BoundsWithin table old old c.args.from sh pl None) (sym shape) (λ s st before is fine. told_leaf s (node_at c.args.from _ st pl before) old refl);
    }

pub gather_within-returns-in-None : goal.gather_within-returns-in-None
gather_within-returns-in-None t c =
    let shape = ap shape_view c.in-Bind.is ∙ (shape_bind c.in-Bind.name c.in-Bind.by_ref c.in-Bind.mutable c.in-Bind.sub
    ∙ ap (λ o. bind_shape (rc_str_bytes c.in-Bind.name) c.in-Bind.by_ref c.in-Bind.mutable (option_map (λ b. pattern_view b.value) o)) c.in-None.is) in
    let table = c.args.table.now in
    let old = bounds_view table c.args.bounds.now.keys in
    let pl = place (table_type table c.args.here.ty) c.args.here.mode in
    record {
      held = c.requires.held;
      told = subst (λ (sh : Shape). BoundsWithin table old old c.args.from sh pl None) (sym shape) (λ s st before is fine. told_leaf s (node_at c.args.from _ st pl before) old refl);
    }

pub gather_within-returns-in-Some : goal.gather_within-returns-in-Some
gather_within-returns-in-Some t c =
    let shape = ap shape_view c.in-Bind.is ∙ (shape_bind c.in-Bind.name c.in-Bind.by_ref c.in-Bind.mutable c.in-Bind.sub
    ∙ ap (λ o. bind_shape (rc_str_bytes c.in-Bind.name) c.in-Bind.by_ref c.in-Bind.mutable (option_map (λ b. pattern_view b.value) o)) c.in-Some.is) in
    let table = c.args.table.now in
    let old = bounds_view table c.args.bounds.now.keys in
    let new = bounds_view table c.gather.new.bounds.keys in
    let pl = place (table_type table c.args.here.ty) c.args.here.mode in
    let name = rc_str_bytes c.in-Bind.name in
    record {
      held = c.gather.ensures.held;
      told = if_ok c.gather.result _ _
          (λ r h. subst (λ (sh : Shape). BoundsWithin table old new c.args.from sh pl r) (sym shape)
          (λ s st before is fine.
          let q = pattern_view c.in-Some.sub.value in
          let below = subst (λ (p : Pat). BoundsAre table old new (λ s before. nodes s Elsewhere before pl (pattern_view p)) r) c.deref.ensures (h Elsewhere) in
          told_below s (node_at c.args.from (patterns.BindAs name c.in-Bind.by_ref c.in-Bind.mutable q) st pl before) (nodes s Elsewhere (before ++ name ∷ []) pl q) old new r refl fine
          (below s (before ++ name ∷ []) is)))
          c.gather.ensures.told;
    }

pub gather_within-returns-in-Group : goal.gather_within-returns-in-Group
gather_within-returns-in-Group t c =
    let shape = ap shape_view c.in-Group.is ∙ shape_group c.in-Group.sub in
    let table = c.args.table.now in
    let old = bounds_view table c.args.bounds.now.keys in
    let new = bounds_view table c.gather-in-Group.new.bounds.keys in
    let pl = place (table_type table c.args.here.ty) c.args.here.mode in
    record {
      held = c.gather-in-Group.ensures.held;
      told = if_ok c.gather-in-Group.result _ _
          (λ r h. subst (λ (sh : Shape). BoundsWithin table old new c.args.from sh pl r) (sym shape)
          (λ s st before is fine.
          let q = pattern_view c.in-Group.sub.value in
          let below = subst (λ (p : Pat). BoundsAre table old new (λ s before. nodes s Elsewhere before pl (pattern_view p)) r) c.deref-in-Group.ensures (h Elsewhere) in
          told_below s (node_at c.args.from (Group q) st pl before) (nodes s Elsewhere before pl q) old new r refl fine (below s before is)))
          c.gather-in-Group.ensures.told;
    }

pub gather_within-returns-in-Point : goal.gather_within-returns-in-Point
gather_within-returns-in-Point t c =
    let shape = ap shape_view c.in-Point.is ∙ shape_point c.in-Point.mutable c.in-Point.sub in
    let table = c.args.table.now in
    let old = bounds_view table c.args.bounds.now.keys in
    let new = bounds_view table c.gather-in-Point.new.bounds.keys in
    let ty = table_type table c.args.here.ty in
    let pl = place ty c.args.here.mode in
    record {
      held = c.gather-in-Point.ensures.held;
      told = if_ok c.gather-in-Point.result _ _
          (λ r h. subst (λ (sh : Shape). BoundsWithin table old new c.args.from sh pl r) (sym shape)
          (λ s st before is fine.
          let q = pattern_view c.in-Point.sub.value in
          let there = place (inner_type ty) Move in
          let below = subst (λ (p : Pat). BoundsAre table old new (λ s before. nodes s Elsewhere before there (pattern_view p)) r) c.deref-in-Point.ensures
          (subst (λ (o : Mode). BoundsAre table old new (λ s before. nodes s Elsewhere before (place (inner_type ty) o) (pattern_view c.deref-in-Point.result.now)) r) c.pointed.ensures.mode
          (subst (λ (u : MType). BoundsAre table old new (λ s before. nodes s Elsewhere before (place u c.pointed.result.mode) (pattern_view c.deref-in-Point.result.now)) r) c.pointed.ensures.ty (h Elsewhere))) in
          told_below s (node_at c.args.from (Point c.in-Point.mutable q) st pl before) (nodes s Elsewhere before there q) old new r refl fine (below s before is)))
          c.gather-in-Point.ensures.told;
    }

pub gather_within-returns-in-Or : goal.gather_within-returns-in-Or
gather_within-returns-in-Or t c =
    let shape = ap shape_view c.in-Or.is ∙ shape_or c.in-Or.all in
    let table = c.args.table.now in
    let old = bounds_view table c.args.bounds.now.keys in
    let new = bounds_view table c.gather_alternatives.new.bounds.keys in
    let pl = place (table_type table c.args.here.ty) c.args.here.mode in
    record {
      held = c.gather_alternatives.ensures.held;
      told = if_ok c.gather_alternatives.result _ _ (λ r h. subst (λ (sh : Shape). BoundsWithin table old new c.args.from sh pl r) (sym shape) h) c.gather_alternatives.ensures.told;
    }

pub gather_within-returns-in-Tuple : goal.gather_within-returns-in-Tuple
gather_within-returns-in-Tuple t c =
    let shape = ap shape_view c.in-Tuple.is ∙ shape_tuple c.in-Tuple.items in
    let table = c.args.table.now in
    let old = bounds_view table c.args.bounds.now.keys in
    let new = bounds_view table c.gather_parts-in-Tuple.new.bounds.keys in
    let ty = table_type table c.args.here.ty in
    let m = c.args.here.mode in
    let pl = place ty m in
    record {
      held = c.gather_parts-in-Tuple.ensures.held;
      told = if_ok c.gather_parts-in-Tuple.result _ _
          (λ r h. subst (λ (sh : Shape). BoundsWithin table old new c.args.from sh pl r) (sym shape)
          (λ s st before is fine.
          let qs = list_of c.in-Tuple.items.items in
          let same = tuple_nodes (table_program table) s is.program ty (table_type table c.bottom-in-Tuple.result.ty) m c.bottom-in-Tuple.result.mode c.bottom-in-Tuple.ensures.ty c.bottom-in-Tuple.ensures.mode before qs in
          told_below s (node_at c.args.from (Tuple qs) st pl before) (nodes_within s before pl (Tuple qs)) old new r refl fine
          (subst (λ (ns : List Node). first_in node_rules s ns ≡ None → Told s old new r ns) same (h s before is))))
          c.gather_parts-in-Tuple.ensures.told;
    }

pub gather_within-returns-in-Slice : goal.gather_within-returns-in-Slice
gather_within-returns-in-Slice t c =
    let shape = ap shape_view c.in-Slice.is ∙ shape_slice c.in-Slice.items in
    let table = c.args.table.now in
    let old = bounds_view table c.args.bounds.now.keys in
    let new = bounds_view table c.gather_items.new.bounds.keys in
    let ty = table_type table c.args.here.ty in
    let m = c.args.here.mode in
    let pl = place ty m in
    record {
      held = c.gather_items.ensures.held;
      told = if_ok c.gather_items.result _ _
          (λ r h. subst (λ (sh : Shape). BoundsWithin table old new c.args.from sh pl r) (sym shape)
          (λ s st before is fine.
          let qs = list_of c.in-Slice.items.items in
          let same = ap (λ (u : MType). item_nodes s before u (pattern_count qs) c.bottom-in-Slice.result.mode qs) c.bottom-in-Slice.ensures.ty
          ∙ ap (λ (o : Mode). item_nodes s before (bottom_type ty) (pattern_count qs) o qs) c.bottom-in-Slice.ensures.mode in
          told_below s (node_at c.args.from (Slice qs) st pl before) (nodes_within s before pl (Slice qs)) old new r refl fine
          (subst (λ (ns : List Node). first_in node_rules s ns ≡ None → Told s old new r ns) same (h s before is))))
          c.gather_items.ensures.told;
    }

pub gather_within-returns-in-TupleForm : goal.gather_within-returns-in-TupleForm
gather_within-returns-in-TupleForm t c =
    let path = path_view c.deref-in-TupleForm.result.now in
    let qs = list_of c.in-TupleForm.items.items in
    let shape = ap shape_view c.in-TupleForm.is ∙ (shape_form c.in-TupleForm.path c.in-TupleForm.items ∙ ap (λ (q : declared_path.Path). TupleForm (path_view q) qs) (sym c.deref-in-TupleForm.ensures)) in
    let table = c.args.table.now in
    let old = bounds_view table c.args.bounds.now.keys in
    let new = bounds_view table c.gather_parts.new.bounds.keys in
    let ty = table_type table c.args.here.ty in
    let m = c.args.here.mode in
    let pl = place ty m in
    let u = table_type table c.bottom.result.ty in
    record {
      held = c.gather_parts.ensures.held;
      told = if_ok c.gather_parts.result _ _
          (λ r h. subst (λ (sh : Shape). BoundsWithin table old new c.args.from sh pl r) (sym shape)
          (λ s st before is fine.
          let found = found_if (is_short path) (path_finds s.items path) in
          let f = c.path_found.ensures.is s is in
          let n = node_at c.args.from (TupleForm path qs) st pl before in
          let met : IsMet s found (bottom_type ty) = fine_told s c.args.from st ty m before (TupleForm path qs) (fine_own s n (nodes_within s before pl (TupleForm path qs)) fine) in
          let type = c.types_are_sound.ensures.types c.bottom.result.ty c.bottom.ensures.of in
          let same = form_nodes (table_program table) s is.program found ty u m c.bottom.result.mode c.found_number-variant.result met type c.bottom.ensures.ty c.bottom.ensures.mode
          (c.found_number-variant.ensures found f) before qs in
          told_below s n (nodes_within s before pl (TupleForm path qs)) old new r refl fine
          (subst (λ (ns : List Node). first_in node_rules s ns ≡ None → Told s old new r ns) same (h s before is))))
          c.gather_parts.ensures.told;
    }

pub gather_within-returns-in-Brace : goal.gather_within-returns-in-Brace
gather_within-returns-in-Brace t c =
    let path = path_view c.deref-in-Brace.result.now in
    let fs = fields_from (fields_of c.in-Brace.fields.items) in
    let shape = ap shape_view c.in-Brace.is ∙ (shape_brace c.in-Brace.path c.in-Brace.fields c.in-Brace.rest ∙ ap (λ (q : declared_path.Path). Brace (path_view q) fs c.in-Brace.rest) (sym c.deref-in-Brace.ensures)) in
    let table = c.args.table.now in
    let old = bounds_view table c.args.bounds.now.keys in
    let new = bounds_view table c.gather_fields.new.bounds.keys in
    let ty = table_type table c.args.here.ty in
    let m = c.args.here.mode in
    let pl = place ty m in
    let u = table_type table c.bottom-in-Brace.result.ty in
    record {
      held = c.gather_fields.ensures.held;
      told = if_under c.gather_fields.result (is_tuple u ≡ false) _ _
          (λ r h. subst (λ (sh : Shape). BoundsWithin table old new c.args.from sh pl r) (sym shape)
          (λ s st before is fine.
          let found = found_if (is_short path) (path_finds s.items path) in
          let f = c.path_found-in-Brace.ensures.is s is in
          let n = node_at c.args.from (Brace path fs c.in-Brace.rest) st pl before in
          let met : IsMet s found (bottom_type ty) = fine_told s c.args.from st ty m before (Brace path fs c.in-Brace.rest) (fine_own s n (nodes_within s before pl (Brace path fs c.in-Brace.rest)) fine) in
          let type = c.types_are_sound-in-Brace.ensures.types c.bottom-in-Brace.result.ty c.bottom-in-Brace.ensures.of in
          let plain : is_tuple u ≡ false = met_is_named found u (ap (λ (v : MType). meets found v) c.bottom-in-Brace.ensures.ty ∙ met.met) in
          let same = brace_nodes (table_program table) s is.program found ty u m c.bottom-in-Brace.result.mode c.found_number-variant-in-Brace.result met type c.bottom-in-Brace.ensures.ty c.bottom-in-Brace.ensures.mode
          (c.found_number-variant-in-Brace.ensures found f) before fs in
          told_below s n (nodes_within s before pl (Brace path fs c.in-Brace.rest)) old new r refl fine
          (subst (λ (ns : List Node). first_in node_rules s ns ≡ None → Told s old new r ns) same (h plain s before is))))
          c.gather_fields.ensures.told;
    }

pub gather_parts-part_behind-number-requires : goal.gather_parts-part_behind-number-requires
gather_parts-part_behind-number-requires t c =
    omega (arith, c.loop-item.invariant.small, c.args.items.now.small, c.args.items.now.ok.0)

pub gather_parts-loop-item-preserved : goal.gather_parts-loop-item-preserved
gather_parts-loop-item-preserved t c =
    let table = c.args.table.now in
    let items = c.args.items.now.items in
    let i = c.loop-item.item-index in
    let p = c.item-item.result in
    let at : p ≡ get_or items i p = c.item-item.is ∙ ap (λ (xs : List Pat). get_or xs i p) c.deref-item-items.ensures.value in
    let lt : i < length items = omega arith in
    let old = bounds_view table c.args.bounds.now.keys in
    let cur = bounds_view table c.loop-item.bounds.keys in
    let new = bounds_view table c.gather.new.bounds.keys in
    let program = table_program table in
    let u = table_type table c.args.here.ty in
    let m = c.args.here.mode in
    let parts = fields_of_type program u c.args.variant in
    let n = c.loop-item.number in
    let types : ℕ → MType = λ j. types_of_parts program u c.args.variant j in
    let later = list_of (drop (i + 1) items) in
    let count : c.loop-item.left - 1 ≡ pattern_count later
    = omega (arith, c.loop-item.invariant.left, pattern_count-map pattern_view (drop (i + 1) items), length-drop (i + 1) items) in
    let next : c.part_behind-number.result ≡ part_behind parts n (pattern_view p) later
    = c.part_behind-number.ensures.is
    ∙ (ap (λ (a : ℕ). if is_rest (pattern_view p) then a - (c.loop-item.left - 1) else suc n) c.fields-parts.ensures
    ∙ ap (λ (b : ℕ). if is_rest (pattern_view p) then parts - b else suc n) count) in
    record {
      held = c.in_ok-next.ensures.held;
      told = λ s before is fine.
          let b = before ++ names_of_all s (list_of (take i items)) in
          let here = nodes s Elsewhere b (place (types n) m) (pattern_view p) in
          let after = part_nodes s (before ++ names_of_all s (list_of (take (i + 1) items))) types m parts c.part_behind-number.result later in
          let told : first_in node_rules s here ≡ None → Told s cur new c.in_ok-next.next here
          = subst (λ (v : MType). first_in node_rules s (nodes s Elsewhere b (place v m) (pattern_view p)) ≡ None → Told s cur new c.in_ok-next.next (nodes s Elsewhere b (place v m) (pattern_view p)))
          c.part.ensures.is (c.in_ok-next.ensures.told Elsewhere s b is) in
          subst (λ (o : Option NodeFault). Sofar s old new o (part_nodes s before types m parts 0 (list_of items)) after) (sym c.earlier-found.ensures)
          (sofar_step s old cur new c.loop-item.found c.in_ok-next.next (part_nodes s before types m parts 0 (list_of items)) (part_nodes s b types m parts n (list_of (drop i items))) here after
          (c.loop-item.invariant.told s before is fine) (parts_here s before items i p lt at types m parts n c.part_behind-number.result next) told);
      left = omega (arith, c.loop-item.invariant.left);
      small = c.part_behind-number.ensures.below (i + 1 + 2 ^ 32) (omega (arith, c.loop-item.invariant.small)) (omega (arith, c.fields-parts.type_inv));
    }

pub gather_parts-returns : goal.gather_parts-returns
gather_parts-returns t c =
    let table = c.args.table.now in
    let items = c.args.items.now.items in
    let i = c.loop-item.item-index in
    let le : length items ≤ i = omega arith in
    let old = bounds_view table c.args.bounds.now.keys in
    let cur = bounds_view table c.loop-item.bounds.keys in
    let program = table_program table in
    let u = table_type table c.args.here.ty in
    let m = c.args.here.mode in
    let parts = fields_of_type program u c.args.variant in
    let types : ℕ → MType = λ j. types_of_parts program u c.args.variant j in
    record {
      held = c.loop-item.invariant.held;
      told = λ s before is fine.
          sofar_end s old cur c.loop-item.found (part_nodes s before types m parts 0 (list_of items))
          (part_nodes s (before ++ names_of_all s (list_of (take i items))) types m parts c.loop-item.number (list_of (drop i items)))
          (c.loop-item.invariant.told s before is fine)
          (ap (λ (xs : List Pat). part_nodes s (before ++ names_of_all s (list_of (take i items))) types m parts c.loop-item.number (list_of xs)) (drop_past items i le));
    }

pub gather_fields-loop-field-preserved : goal.gather_fields-loop-field-preserved
gather_fields-loop-field-preserved t c =
    let table = c.args.table.now in
    let fields = c.args.fields.now.items in
    let i = c.loop-field.field-index in
    let f = c.field-item.result in
    let at : f ≡ get_or fields i f = c.field-item.is ∙ ap (λ (xs : List FieldPat). get_or xs i f) c.deref-field-items.ensures.value in
    let lt : i < length fields = omega arith in
    let old = bounds_view table c.args.bounds.now.keys in
    let cur = bounds_view table c.loop-field.bounds.keys in
    let new = bounds_view table c.gather.new.bounds.keys in
    let program = table_program table in
    let u = table_type table c.args.here.ty in
    let m = c.args.here.mode in
    let types : ℕ → MType = λ j. types_of_parts program u c.args.variant j in
    let names = field_names (type_variant program u c.args.variant) in
    record {
      held = c.in_ok-next.ensures.held;
      told = λ plain s before is fine.
          let b = before ++ names_of_fields s (fields_from (fields_of (take i fields))) in
          let st = field_standing f.short in
          let q = pattern_view f.pat in
          let here = nodes s st b (place (types (field_number names (patterns.field_view f).name)) m) q in
          let after = field_nodes s (before ++ names_of_fields s (fields_from (fields_of (take (i + 1) fields)))) types m names (fields_from (fields_of (drop (i + 1) fields))) in
          let type : table_type table c.field_type.result ≡ types (field_number names (patterns.field_view f).name)
          = c.field_type.ensures.is plain ∙ ap (λ (n : List ℕ). types (field_number names n)) (c.deref.ensures.value ∙ sym (field_name_is f)) in
          let told : first_in node_rules s here ≡ None → Told s cur new c.in_ok-next.next here
          = subst (λ (v : MType). first_in node_rules s (nodes s st b (place v m) q) ≡ None → Told s cur new c.in_ok-next.next (nodes s st b (place v m) q)) type (c.in_ok-next.ensures.told st s b is) in
          subst (λ (o : Option NodeFault). Sofar s old new o (field_nodes s before types m names (fields_from (fields_of fields))) after) (sym c.earlier-found.ensures)
          (sofar_step s old cur new c.loop-field.found c.in_ok-next.next (field_nodes s before types m names (fields_from (fields_of fields)))
          (field_nodes s b types m names (fields_from (fields_of (drop i fields)))) here after
          (c.loop-field.invariant.told plain s before is fine) (fields_here s before fields i f lt at types m names) told);
    }

pub gather_fields-returns : goal.gather_fields-returns
gather_fields-returns t c =
    let table = c.args.table.now in
    let fields = c.args.fields.now.items in
    let i = c.loop-field.field-index in
    let le : length fields ≤ i = omega arith in
    let old = bounds_view table c.args.bounds.now.keys in
    let cur = bounds_view table c.loop-field.bounds.keys in
    let program = table_program table in
    let u = table_type table c.args.here.ty in
    let m = c.args.here.mode in
    let types : ℕ → MType = λ j. types_of_parts program u c.args.variant j in
    let names = field_names (type_variant program u c.args.variant) in
    record {
      held = c.loop-field.invariant.held;
      told = λ plain s before is fine.
          sofar_end s old cur c.loop-field.found (field_nodes s before types m names (fields_from (fields_of fields)))
          (field_nodes s (before ++ names_of_fields s (fields_from (fields_of (take i fields)))) types m names (fields_from (fields_of (drop i fields))))
          (c.loop-field.invariant.told plain s before is fine)
          (ap (λ (xs : List FieldPat). field_nodes s (before ++ names_of_fields s (fields_from (fields_of (take i fields)))) types m names (fields_from (fields_of xs))) (drop_past fields i le));
    }

pub gather_items-loop-item-preserved : goal.gather_items-loop-item-preserved
gather_items-loop-item-preserved t c =
    let table = c.args.table.now in
    let items = c.args.items.now.items in
    let i = c.loop-item.item-index in
    let p = c.item-item.result in
    let q = pattern_view p in
    let at : p ≡ get_or items i p = c.item-item.is ∙ ap (λ (xs : List Pat). get_or xs i p) c.deref-item-items.ensures.value in
    let lt : i < length items = omega arith in
    let old = bounds_view table c.args.bounds.now.keys in
    let cur = bounds_view table c.loop-item.bounds.keys in
    let u = table_type table c.args.here.ty in
    let m = c.args.here.mode in
    let count = pattern_count (list_of items) in
    let after : Setting → List (List ℕ) → List Node = λ s before. item_nodes s (before ++ names_of_all s (list_of (take (i + 1) items))) u count m (list_of (drop (i + 1) items)) in
    let step : (new : List BoundName) (r : Option NodeFault) (s : Setting) (before : List (List ℕ)) → IsSettingOf table s → first_in node_rules s (item_nodes s before u count m (list_of items)) ≡ None →
    ((b : List (List ℕ)) → first_in node_rules s (nodes s AsItem b (place (slice_item_type u count q) m) q) ≡ None → Told s cur new r (nodes s AsItem b (place (slice_item_type u count q) m) q)) →
    Sofar s old new (earlier c.loop-item.found r) (item_nodes s before u count m (list_of items)) (after s before)
    = λ new r s before is fine f.
    let b = before ++ names_of_all s (list_of (take i items)) in
    sofar_step s old cur new c.loop-item.found r (item_nodes s before u count m (list_of items)) (item_nodes s b u count m (list_of (drop i items)))
    (nodes s AsItem b (place (slice_item_type u count q) m) q) (after s before) (c.loop-item.invariant.told s before is fine) (items_here s before items i p lt at u count m) (f b) in
    elim c.if-is_rest.branch [
      | goal.gather_items-then-is_rest+in_ok-bind_rest w ↦
          let new = bounds_view table w.bind_rest.new.bounds.keys in
          let keys : c.if-is_rest.bounds.keys ≡ w.bind_rest.new.bounds.keys = ap (λ b. b.keys) w.bounds-is in
          let rest : is_rest q ≡ true = sym c.is_rest.ensures ∙ w.if-is_rest.true in
          let number : w.len.result ≡ count = omega (arith, w.len.ensures, c.args.items.now.ok.0, pattern_count-map pattern_view items) in
          record {
            held = subst (λ (ks : List Bound). AreHeld table ks) (sym keys) w.in_ok-bind_rest.ensures.held;
            told = λ s before is fine.
                subst (λ (ks : List Bound). Sofar s old (bounds_view table ks) c.if-is_rest.found (item_nodes s before u count m (list_of items)) (after s before)) (sym keys)
                (subst (λ (o : Option NodeFault). Sofar s old new o (item_nodes s before u count m (list_of items)) (after s before)) (sym (earlier_none c.loop-item.found) ∙ sym w.found-is)
                (step new None s before is fine
                (λ b f. told_rest s cur new b u count m q rest
                (subst (λ (k : ℕ). Told s cur new None (nodes s AsItem b (place (rest_type u k) m) q)) number (w.in_ok-bind_rest.ensures.told s b is rest)))));
          }
      | goal.gather_items-else-is_rest+in_ok-next w ↦
          let new = bounds_view table w.gather.new.bounds.keys in
          let keys : c.if-is_rest.bounds.keys ≡ w.gather.new.bounds.keys = ap (λ b. b.keys) w.bounds-is in
          let rest : is_rest q ≡ false = sym c.is_rest.ensures ∙ w.if-is_rest.false in
          record {
            held = subst (λ (ks : List Bound). AreHeld table ks) (sym keys) w.in_ok-next.ensures.held;
            told = λ s before is fine.
                subst (λ (ks : List Bound). Sofar s old (bounds_view table ks) c.if-is_rest.found (item_nodes s before u count m (list_of items)) (after s before)) (sym keys)
                (subst (λ (o : Option NodeFault). Sofar s old new o (item_nodes s before u count m (list_of items)) (after s before)) (sym w.earlier-found.ensures ∙ sym w.found-is)
                (step new w.in_ok-next.next s before is fine
                (λ b f. told_item s cur new b u count m q w.in_ok-next.next rest f
                (subst (λ (v : MType). first_in node_rules s (nodes s AsItem b (place v m) q) ≡ None → Told s cur new w.in_ok-next.next (nodes s AsItem b (place v m) q)) c.inner.ensures.is
                (w.in_ok-next.ensures.told AsItem s b is)))));
          }
    ]

pub gather_items-returns : goal.gather_items-returns
gather_items-returns t c =
    let table = c.args.table.now in
    let items = c.args.items.now.items in
    let i = c.loop-item.item-index in
    let le : length items ≤ i = omega arith in
    let old = bounds_view table c.args.bounds.now.keys in
    let cur = bounds_view table c.loop-item.bounds.keys in
    let u = table_type table c.args.here.ty in
    let m = c.args.here.mode in
    let count = pattern_count (list_of items) in
    record {
      held = c.loop-item.invariant.held;
      told = λ s before is fine.
          sofar_end s old cur c.loop-item.found (item_nodes s before u count m (list_of items))
          (item_nodes s (before ++ names_of_all s (list_of (take i items))) u count m (list_of (drop i items)))
          (c.loop-item.invariant.told s before is fine)
          (ap (λ (xs : List Pat). item_nodes s (before ++ names_of_all s (list_of (take i items))) u count m (list_of xs)) (drop_past items i le));
    }

pub gather_alternatives-loop-alternative-preserved : goal.gather_alternatives-loop-alternative-preserved
gather_alternatives-loop-alternative-preserved t c =
    let table = c.args.table.now in
    let items = c.args.all.now.items in
    let i = c.loop-alternative.alternative-index in
    let p = c.alternative-item.result in
    let at : p ≡ get_or items i p = c.alternative-item.is ∙ ap (λ (xs : List Pat). get_or xs i p) c.deref-alternative-items.ensures.value in
    let lt : i < length items = omega arith in
    let pl = place (table_type table c.args.here.ty) c.args.here.mode in
    let old = bounds_view table c.args.bounds.now.keys in
    let cur = bounds_view table c.loop-alternative.bounds.keys in
    let new = bounds_view table c.add_all.new.bounds.keys in
    let none = bounds_view table c.new-own.result.keys in
    let own = bounds_view table c.gather.new.bounds.keys in
    let first = bounds_view table c.loop-alternative.first.keys in
    let next = bounds_view table c.differs.new.first.keys in
    let here : (s : Setting) (before : List (List ℕ)) → List Node = λ s before. nodes s Elsewhere before pl (pattern_view p) in
    let told : (s : Setting) (before : List (List ℕ)) → IsSettingOf table s → first_in node_rules s (here s before) ≡ None → Told s [] own c.in_ok-next.next (here s before)
    = λ s before is fine. subst (λ (bs : List BoundName). Told s bs own c.in_ok-next.next (here s before)) (ap (λ (bs : List Bound). bounds_view table bs) c.new-own.ensures.empty) (c.in_ok-next.ensures.told Elsewhere s before is fine) in
    let added : Binds cur new own = subst (λ (ks : List Bound). Binds cur new (bounds_view table ks)) c.as_slice.ensures.keys c.in_ok-add_all.ensures.binds in
    let compares = subst (λ (ks : List Bound). IsFirst c.loop-alternative.seen first next (bounds_view table ks) c.in_ok-other.other) c.as_slice-in-loop-alternative.ensures.keys c.in_ok-other.ensures.is in
    let differ_is : (c.loop-alternative.differ || c.in_ok-other.other) ≡ c.if-differ.differ
    = elim c.if-differ.branch [
      | goal.gather_alternatives-then-differ w ↦ ap (λ (b : Bool). b || c.in_ok-other.other) w.if-differ.true ∙ (sym w.if-differ.true ∙ sym w.differ-is)
      | goal.gather_alternatives-else-differ w ↦ ap (λ (b : Bool). b || c.in_ok-other.other) w.if-differ.false ∙ sym w.differ-is
    ] in
    record {
      held = c.in_ok-add_all.ensures.held;
      first_held = c.in_ok-other.ensures.held;
      told = λ s before is fine.
          let all = alternative_nodes s before pl (list_of items) in
          let left = alternative_nodes s before pl (list_of (drop i items)) in
          let later = alternative_nodes s before pl (list_of (drop (i + 1) items)) in
          subst (λ (o : Option NodeFault). Sofar s old new o all later) (sym c.earlier-found.ensures)
          (sofar_step s old cur new c.loop-alternative.found c.in_ok-next.next all left (here s before) later
          (c.loop-alternative.invariant.told s before is fine) (ways_here s before items i p lt at pl)
          (λ f. let one = told s before is f in
          record { fault = one.fault; binds = binds_like cur new own (bounds_of s (here s before)) added one.binds }));
      compared = λ s before is fine.
          let so = c.loop-alternative.invariant.told s before is fine in
          let all = alternative_nodes s before pl (list_of items) in
          let left = alternative_nodes s before pl (list_of (drop i items)) in
          let later = alternative_nodes s before pl (list_of (drop (i + 1) items)) in
          let one = told s before is (sofar_here s old cur c.loop-alternative.found all left (here s before) later so (ways_here s before items i p lt at pl)) in
          subst (λ (b : Bool). Compared s pl true b next (list_of (take (i + 1) items))) differ_is
          (compared_step s pl p items i c.loop-alternative.seen c.loop-alternative.differ first next own c.in_ok-other.other lt at
          (c.loop-alternative.invariant.compared s before is fine) compares
          (λ x. one.binds x ∙ ap (λ (bs : List BoundName). is_bound x bs) (same_bounds s Elsewhere Elsewhere before [] pl (pattern_view p))));
    }

pub gather_alternatives-returns : goal.gather_alternatives-returns
gather_alternatives-returns t c =
    let table = c.args.table.now in
    let items = c.args.all.now.items in
    let i = c.loop-alternative.alternative-index in
    let le : length items ≤ i = omega arith in
    let pl = place (table_type table c.args.here.ty) c.args.here.mode in
    let old = bounds_view table c.args.bounds.now.keys in
    let cur = bounds_view table c.loop-alternative.bounds.keys in
    let first = bounds_view table c.loop-alternative.first.keys in
    record {
      held = c.loop-alternative.invariant.held;
      told = λ s st before is fine.
          let qs = list_of items in
          let below = fine_below s (node_at c.args.from (Or qs) st pl before) (alternative_nodes s before pl qs) fine in
          let told = sofar_end s old cur c.loop-alternative.found (alternative_nodes s before pl qs) (alternative_nodes s before pl (list_of (drop i items)))
          (c.loop-alternative.invariant.told s before is below) (ap (λ (xs : List Pat). alternative_nodes s before pl (list_of xs)) (drop_past items i le)) in
          let compared = subst (λ (xs : List Pat). Compared s pl c.loop-alternative.seen c.loop-alternative.differ first (list_of xs)) (take_all i items le) (c.loop-alternative.invariant.compared s before is below) in
          told_ways s old cur pl c.args.from st before qs c.loop-alternative.seen c.loop-alternative.differ first c.loop-alternative.found c.earlier.result
          (c.earlier.ensures ∙ ap (λ (o : Option NodeFault). earlier o c.loop-alternative.found) c.differ_fault.ensures) compared told;
    }
