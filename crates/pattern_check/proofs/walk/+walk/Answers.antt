use Rattle.std.proofs.Common.{◌≡◌, ℕ, suc, ◌+◌, ◌-◌, ◌<◌, ◌≤◌, true, false, if◌then◌else◌, List, [], ◌++◌, ◌^◌, map, take, drop, get_or, length, option_map, Some, None, Bor, refl, sym, ap, subst, ◌∙◌, arith}
use Rattle.std.specs.Rc.{rc_str_bytes}
use Rattle.std.specs.Prelude.{is_some}
use Rattle.match_model.specs.Types.{MType}
use Rattle.match_model.specs.RustTypes.{inner_type}
use Rattle.decl_syntax.specs.declared.tree.Pat.{Pat}
use Rattle.decl_syntax.specs.declared.tree.FieldPat.{FieldPat}
use Rattle.decl_syntax.specs.Patterns.{PatternTree, pattern_view, shape_view, fields_from}
use Rattle.decl_syntax.specs.Widths.{pattern_count}
use Rattle.type_names.specs.NameRules.{is_among}
use Rattle.type_table.specs.Lookups.{field_names}
use Rattle.type_table.specs.Tables.{table_program, table_type, fields_of_type, type_variant}
use Rattle.pattern_rules.specs.Settings.{Setting, place}
use Rattle.pattern_rules.specs.Namings.{field_number}
use Rattle.pattern_rules.specs.Nodes.{Standing, AsItem, Elsewhere, nodes, part_nodes, part_behind, field_nodes, field_standing, item_nodes, alternative_nodes, is_rest, names_bound, names_of_all, names_of_fields}
use Rattle.pattern_rules.specs.Faults.{node_rules}
use Rattle.pattern_check.specs.NodeForms.{standing_view}
use Rattle.pattern_check.specs.Walks.{text_at, Holds, Adds, first_in, own_names, inner_names, inner_nodes, types_of_parts}
use Rattle.pattern_check.proofs.FieldLemmas.{drop_past}
use Rattle.pattern_check.proofs.NameLists.{adds_none, adds_both, holds_adds, aside_step, adds_like}
use Rattle.pattern_check.proofs.WalkSteps.{none_is, some_none, list_of, fields_of, view_at, names_step, names_end, parts_pass, parts_stop, ways_pass, ways_stop, items_pass, items_stop, fields_step, fields_pass, fields_stop, fields_end, field_name_is, item_fault, node_stop, node_pass, names_are}
use Rattle.match_model.specs.declared.Mode.{Mode}
use Rattle.std.proofs.lemmas.List.{length-drop, length-map}
use Rattle.decl_syntax.specs.declared.tree.Path as declared_path
use Rattle.decl_syntax.specs.Patterns.{Shape, TupleForm, Brace, bind_shape, path_view}
use Rattle.type_names.specs.Finding.{path_finds}
use Rattle.pattern_rules.specs.Settings.{bottom_type}
use Rattle.pattern_rules.specs.Namings.{found_if, is_short, meets}
use Rattle.pattern_rules.specs.NodeRules.{is_tuple}
use Rattle.pattern_rules.specs.FirstFault.{least_broken}
use Rattle.match_model.specs.declared.Mode.TheVariants.{Move}
use Rattle.pattern_check.specs.Checking.{IsSettingOf, IsMet}
use Rattle.pattern_check.specs.Walks.{IsFine}
use Rattle.pattern_check.specs.NodeForms.{node_at}
use Rattle.pattern_check.proofs.FieldLemmas.{if_ok, if_under}
use Rattle.pattern_check.proofs.ListLemmas.{pattern_count-map}
use Rattle.pattern_check.proofs.NamedFields.{met_is_named}
use Rattle.pattern_check.proofs.Shapes.{shape_wild, shape_rest, shape_lit, shape_name, shape_bind, shape_path, shape_form, shape_brace, shape_tuple, shape_group, shape_slice, shape_point, shape_range, shape_or}
use Rattle.pattern_check.proofs.FormWalks.{fine_told, form_within, brace_within, tuple_within}
use Rattle.pattern_check.proofs.walk.+walk.Goals as goal

pub walk_pattern-returns-in-Some : goal.walk_pattern-returns-in-Some
walk_pattern-returns-in-Some t c = record {
  fault = λ s before is ed holds.
      let sh = shape_view c.args.pat.now.kind in
      let from = c.args.pat.now.from in
      let st = standing_view c.args.standing in
      let pl = place (table_type c.args.table.now c.args.here.ty) c.args.here.mode in
      let broken : Some c.in-Some.rule ≡ least_broken node_rules s (node_at from sh st pl before)
      = sym c.in-Some.is ∙ c.in_ok-rule.ensures s from before is ed (c.in_ok-twice.ensures.twice s from st pl before is holds) in
      node_stop s st before pl from sh c.in-Some.rule broken
      ∙ ap (λ (p : PatternTree). first_in node_rules s (nodes s st before pl p)) (sym (view_at c.args.pat.now));
  names = λ e. absurd (some_none (Some (record { rule = c.in-Some.rule; at = c.args.pat.now.from })) refl e);
}

pub walk_pattern-returns : goal.walk_pattern-returns
walk_pattern-returns t c =
    let sh = shape_view c.args.pat.now.kind in
    let from = c.args.pat.now.from in
    let st = standing_view c.args.standing in
    let ty = table_type c.args.table.now c.args.here.ty in
    let pl = place ty c.args.here.mode in
    let old = map text_at c.args.names.now.keys in
    let mid = map text_at c.bind_own.new.names.keys in
    let new = map text_at c.walk_within.new.names.keys in
    record {
      fault = if_ok c.walk_within.result _ _
          (λ r h s before is ed holds.
          let none : None ≡ least_broken node_rules s (node_at from sh st pl before)
          = sym c.in_default.is ∙ c.in_ok-rule.ensures s from before is ed (c.in_ok-twice.ensures.twice s from st pl before is holds) in
          let fine = fine_told s from st ty c.args.here.mode before sh none in
          let below : r ≡ first_in node_rules s (inner_nodes s (before ++ own_names s sh) pl sh)
          = h s (before ++ own_names s sh) is ed (holds_adds old mid (own_names s sh) before holds (c.in_ok-twice.ensures.adds s is)) fine in
          node_pass s st before pl from sh r none below
          ∙ ap (λ (p : PatternTree). first_in node_rules s (nodes s st before pl p)) (sym (view_at c.args.pat.now)))
          c.walk_within.ensures.fault;
      names = if_ok c.walk_within.result _ _
          (λ r h e s is.
          let both : Adds old new (own_names s sh ++ inner_names s sh) = adds_both old mid new (own_names s sh) (inner_names s sh) (c.in_ok-twice.ensures.adds s is) (h e s is) in
          subst (λ (ns : List (List ℕ)). Adds old new ns) (names_are s sh ∙ sym (ap (λ (p : PatternTree). names_bound s p) (view_at c.args.pat.now))) both)
          c.walk_within.ensures.names;
    }

pub walk_within-returns-in-Wild : goal.walk_within-returns-in-Wild
walk_within-returns-in-Wild t c =
    let shape = ap shape_view c.in-Wild.is ∙ shape_wild in
    let old = map text_at c.args.names.now.keys in
    record {
      fault = λ s before is ed holds fine. rw shape refl;
      names = λ e s is. subst (λ (sh : Shape). Adds old old (inner_names s sh)) (sym shape) (adds_none old);
    }

pub walk_within-returns-in-Rest : goal.walk_within-returns-in-Rest
walk_within-returns-in-Rest t c =
    let shape = ap shape_view c.in-Rest.is ∙ shape_rest in
    let old = map text_at c.args.names.now.keys in
    record {
      fault = λ s before is ed holds fine. rw shape refl;
      names = λ e s is. subst (λ (sh : Shape). Adds old old (inner_names s sh)) (sym shape) (adds_none old);
    }

pub walk_within-returns-in-Lit : goal.walk_within-returns-in-Lit
walk_within-returns-in-Lit t c =
    let shape = ap shape_view c.in-Lit.is ∙ shape_lit c.in-Lit.field-0 in
    let old = map text_at c.args.names.now.keys in
    record {
      fault = λ s before is ed holds fine. rw shape refl;
      names = λ e s is. subst (λ (sh : Shape). Adds old old (inner_names s sh)) (sym shape) (adds_none old);
    }

pub walk_within-returns-in-Range : goal.walk_within-returns-in-Range
walk_within-returns-in-Range t c =
    let shape = ap shape_view c.in-Range.is ∙ shape_range c.in-Range.field-0 in
    let old = map text_at c.args.names.now.keys in
    record {
      fault = λ s before is ed holds fine. rw shape refl;
      names = λ e s is. subst (λ (sh : Shape). Adds old old (inner_names s sh)) (sym shape) (adds_none old);
    }

pub walk_within-returns-in-Name : goal.walk_within-returns-in-Name
walk_within-returns-in-Name t c =
    let shape = ap shape_view c.in-Name.is ∙ shape_name c.in-Name.field-0 in
    let old = map text_at c.args.names.now.keys in
    record {
      fault = λ s before is ed holds fine. rw shape refl;
      names = λ e s is. subst (λ (sh : Shape). Adds old old (inner_names s sh)) (sym shape) (adds_none old);
    }

pub walk_within-returns-in-Path : goal.walk_within-returns-in-Path
walk_within-returns-in-Path t c =
    let shape = ap shape_view c.in-Path.is ∙ shape_path c.in-Path.field-0 in
    let old = map text_at c.args.names.now.keys in
    record {
      fault = λ s before is ed holds fine. rw shape refl;
      names = λ e s is. subst (λ (sh : Shape). Adds old old (inner_names s sh)) (sym shape) (adds_none old);
    }

pub walk_within-returns-in-None : goal.walk_within-returns-in-None
walk_within-returns-in-None t c =
    let shape = ap shape_view c.in-Bind.is ∙ (shape_bind c.in-Bind.name c.in-Bind.by_ref c.in-Bind.mutable c.in-Bind.sub
    ∙ ap (λ o. bind_shape (rc_str_bytes c.in-Bind.name) c.in-Bind.by_ref c.in-Bind.mutable (option_map (λ b. pattern_view b.value) o)) c.in-None.is) in
    let old = map text_at c.args.names.now.keys in
    record {
      fault = λ s before is ed holds fine. rw shape refl;
      names = λ e s is. subst (λ (sh : Shape). Adds old old (inner_names s sh)) (sym shape) (adds_none old);
    }

pub walk_within-returns-in-Some : goal.walk_within-returns-in-Some
walk_within-returns-in-Some t c =
    let shape = ap shape_view c.in-Bind.is ∙ (shape_bind c.in-Bind.name c.in-Bind.by_ref c.in-Bind.mutable c.in-Bind.sub
    ∙ ap (λ o. bind_shape (rc_str_bytes c.in-Bind.name) c.in-Bind.by_ref c.in-Bind.mutable (option_map (λ b. pattern_view b.value) o)) c.in-Some.is) in
    let ty = table_type c.args.table.now c.args.here.ty in
    let m = c.args.here.mode in
    let old = map text_at c.args.names.now.keys in
    let new = map text_at c.walk_pattern.new.names.keys in
    record {
      fault = if_ok c.walk_pattern.result _ _
          (λ r h s before is ed holds fine. rw shape (h s before is ed holds ∙ ap (λ (q : Pat). first_in node_rules s (nodes s Elsewhere before (place ty m) (pattern_view q))) c.deref.ensures))
          c.walk_pattern.ensures.fault;
      names = if_ok c.walk_pattern.result _ _
          (λ r h e s is. rw shape (subst (λ (q : Pat). Adds old new (names_bound s (pattern_view q))) c.deref.ensures (h e s is)))
          c.walk_pattern.ensures.names;
    }

pub walk_within-returns-in-Group : goal.walk_within-returns-in-Group
walk_within-returns-in-Group t c =
    let shape = ap shape_view c.in-Group.is ∙ shape_group c.in-Group.sub in
    let ty = table_type c.args.table.now c.args.here.ty in
    let m = c.args.here.mode in
    let old = map text_at c.args.names.now.keys in
    let new = map text_at c.walk_pattern-in-Group.new.names.keys in
    record {
      fault = if_ok c.walk_pattern-in-Group.result _ _
          (λ r h s before is ed holds fine. rw shape (h s before is ed holds ∙ ap (λ (q : Pat). first_in node_rules s (nodes s Elsewhere before (place ty m) (pattern_view q))) c.deref-in-Group.ensures))
          c.walk_pattern-in-Group.ensures.fault;
      names = if_ok c.walk_pattern-in-Group.result _ _
          (λ r h e s is. rw shape (subst (λ (q : Pat). Adds old new (names_bound s (pattern_view q))) c.deref-in-Group.ensures (h e s is)))
          c.walk_pattern-in-Group.ensures.names;
    }

pub walk_within-returns-in-Or : goal.walk_within-returns-in-Or
walk_within-returns-in-Or t c =
    let shape = ap shape_view c.in-Or.is ∙ (shape_or c.in-Or.all) in
    let ty = table_type c.args.table.now c.args.here.ty in
    let m = c.args.here.mode in
    record {
      fault = if_ok c.walk_alternatives.result _ _
          (λ r h s before is ed holds fine. rw shape (h s before is ed holds))
          c.walk_alternatives.ensures.fault;
      names = if_ok c.walk_alternatives.result _ _ (λ r h e s is. rw shape (h e s is)) c.walk_alternatives.ensures.names;
    }

pub walk_within-returns-in-Point : goal.walk_within-returns-in-Point
walk_within-returns-in-Point t c =
    let shape = ap shape_view c.in-Point.is ∙ shape_point c.in-Point.mutable c.in-Point.sub in
    let ty = table_type c.args.table.now c.args.here.ty in
    let m = c.args.here.mode in
    let old = map text_at c.args.names.now.keys in
    let new = map text_at c.walk_pattern-in-Point.new.names.keys in
    record {
      fault = if_ok c.walk_pattern-in-Point.result _ _
          (λ r h s before is ed holds fine.
          rw shape
          (h s before is ed holds
          ∙ (ap (λ (u : MType). first_in node_rules s (nodes s Elsewhere before (place u c.pointed.result.mode) (pattern_view c.deref-in-Point.result.now))) c.pointed.ensures.ty
          ∙ (ap (λ (o : Mode). first_in node_rules s (nodes s Elsewhere before (place (inner_type ty) o) (pattern_view c.deref-in-Point.result.now))) c.pointed.ensures.mode
          ∙ ap (λ (q : Pat). first_in node_rules s (nodes s Elsewhere before (place (inner_type ty) Move) (pattern_view q))) c.deref-in-Point.ensures))))
          c.walk_pattern-in-Point.ensures.fault;
      names = if_ok c.walk_pattern-in-Point.result _ _
          (λ r h e s is. rw shape (subst (λ (q : Pat). Adds old new (names_bound s (pattern_view q))) c.deref-in-Point.ensures (h e s is)))
          c.walk_pattern-in-Point.ensures.names;
    }

pub walk_within-returns-in-Tuple : goal.walk_within-returns-in-Tuple
walk_within-returns-in-Tuple t c =
    let shape = ap shape_view c.in-Tuple.is ∙ (shape_tuple c.in-Tuple.items) in
    let ty = table_type c.args.table.now c.args.here.ty in
    let m = c.args.here.mode in
    record {
      fault = if_ok c.walk_parts-in-Tuple.result _ _
          (λ r h s before is ed holds fine.
          rw shape
          (tuple_within (table_program c.args.table.now) s is.program ty (table_type c.args.table.now c.bottom-in-Tuple.result.ty) m c.bottom-in-Tuple.result.mode c.bottom-in-Tuple.ensures.ty c.bottom-in-Tuple.ensures.mode
          before (list_of c.in-Tuple.items.items) r (h s before is ed holds)))
          c.walk_parts-in-Tuple.ensures.fault;
      names = if_ok c.walk_parts-in-Tuple.result _ _ (λ r h e s is. rw shape (h e s is)) c.walk_parts-in-Tuple.ensures.names;
    }

pub walk_within-returns-in-Slice : goal.walk_within-returns-in-Slice
walk_within-returns-in-Slice t c =
    let shape = ap shape_view c.in-Slice.is ∙ (shape_slice c.in-Slice.items) in
    let ty = table_type c.args.table.now c.args.here.ty in
    let m = c.args.here.mode in
    record {
      fault = if_ok c.walk_items.result _ _
          (λ r h s before is ed holds fine.
          let items = list_of c.in-Slice.items.items in
          rw shape
          (h s before is ed holds
          ∙ (ap (λ (u : MType). first_in node_rules s (item_nodes s before u (pattern_count items) c.bottom-in-Slice.result.mode items)) c.bottom-in-Slice.ensures.ty
          ∙ ap (λ (o : Mode). first_in node_rules s (item_nodes s before (bottom_type ty) (pattern_count items) o items)) c.bottom-in-Slice.ensures.mode)))
          c.walk_items.ensures.fault;
      names = if_ok c.walk_items.result _ _ (λ r h e s is. rw shape (h e s is)) c.walk_items.ensures.names;
    }

pub walk_within-returns-in-TupleForm : goal.walk_within-returns-in-TupleForm
walk_within-returns-in-TupleForm t c =
    let path = path_view c.deref-in-TupleForm.result.now in
    let shape = ap shape_view c.in-TupleForm.is ∙ (shape_form c.in-TupleForm.path c.in-TupleForm.items ∙ ap (λ (q : declared_path.Path). TupleForm (path_view q) (list_of c.in-TupleForm.items.items)) (sym c.deref-in-TupleForm.ensures)) in
    let ty = table_type c.args.table.now c.args.here.ty in
    let m = c.args.here.mode in
    let old = map text_at c.args.names.now.keys in
    let u = table_type c.args.table.now c.bottom.result.ty in
    record {
      fault = if_ok c.walk_parts.result _ _
          (λ r h s before is ed holds fine.
          let found = found_if (is_short path) (path_finds s.items path) in
          let f = c.path_found.ensures.is s is in
          let met : IsMet s found (bottom_type ty) = subst (λ (sh : Shape). IsFine s sh ty) shape fine in
          let type = c.types_are_sound.ensures.types c.bottom.result.ty c.bottom.ensures.of in
          rw shape
          (form_within (table_program c.args.table.now) s is.program found ty u m c.bottom.result.mode c.found_number-variant.result met type c.bottom.ensures.ty c.bottom.ensures.mode
          (c.found_number-variant.ensures found f) before (list_of c.in-TupleForm.items.items) r (h s before is ed holds)))
          c.walk_parts.ensures.fault;
      names = if_ok c.walk_parts.result _ _ (λ r h e s is. rw shape (h e s is)) c.walk_parts.ensures.names;
    }

pub walk_within-returns-in-Brace : goal.walk_within-returns-in-Brace
walk_within-returns-in-Brace t c =
    let path = path_view c.deref-in-Brace.result.now in
    let shape = ap shape_view c.in-Brace.is ∙ (shape_brace c.in-Brace.path c.in-Brace.fields c.in-Brace.rest ∙ ap (λ (q : declared_path.Path). Brace (path_view q) (fields_from (fields_of c.in-Brace.fields.items)) c.in-Brace.rest) (sym c.deref-in-Brace.ensures)) in
    let ty = table_type c.args.table.now c.args.here.ty in
    let m = c.args.here.mode in
    let old = map text_at c.args.names.now.keys in
    let u = table_type c.args.table.now c.bottom-in-Brace.result.ty in
    record {
      fault = if_under c.walk_fields.result (is_tuple u ≡ false) _ _
          (λ r h s before is ed holds fine.
          let found = found_if (is_short path) (path_finds s.items path) in
          let f = c.path_found-in-Brace.ensures.is s is in
          let met : IsMet s found (bottom_type ty) = subst (λ (sh : Shape). IsFine s sh ty) shape fine in
          let type = c.types_are_sound-in-Brace.ensures.types c.bottom-in-Brace.result.ty c.bottom-in-Brace.ensures.of in
          let plain : is_tuple u ≡ false = met_is_named found u (ap (λ (v : MType). meets found v) c.bottom-in-Brace.ensures.ty ∙ met.met) in
          rw shape
          (brace_within (table_program c.args.table.now) s is.program found ty u m c.bottom-in-Brace.result.mode c.found_number-variant-in-Brace.result met type c.bottom-in-Brace.ensures.ty c.bottom-in-Brace.ensures.mode
          (c.found_number-variant-in-Brace.ensures found f) before (fields_from (fields_of c.in-Brace.fields.items)) r (h plain s before is ed holds)))
          c.walk_fields.ensures.fault;
      names = if_ok c.walk_fields.result _ _ (λ r h e s is. rw shape (h e s is)) c.walk_fields.ensures.names;
    }

pub walk_parts-part_behind-number-requires : goal.walk_parts-part_behind-number-requires
walk_parts-part_behind-number-requires t c =
    omega (arith, c.loop-item.invariant.small, c.args.items.now.small, c.args.items.now.ok.0)

pub walk_parts-loop-item-preserved : goal.walk_parts-loop-item-preserved
walk_parts-loop-item-preserved t c =
    let items = c.args.items.now.items in
    let i = c.loop-item.item-index in
    let p = c.item-item.result in
    let at : p ≡ get_or items i p = c.item-item.is ∙ ap (λ (xs : List Pat). get_or xs i p) c.deref-item-items.ensures.value in
    let lt : i < length items = omega arith in
    let old = map text_at c.args.names.now.keys in
    let cur = map text_at c.loop-item.names.keys in
    let new = map text_at c.walk_pattern.new.names.keys in
    let program = table_program c.args.table.now in
    let u = table_type c.args.table.now c.args.here.ty in
    let m = c.args.here.mode in
    let parts = fields_of_type program u c.args.variant in
    let n = c.loop-item.number in
    let types : ℕ → MType = λ j. types_of_parts program u c.args.variant j in
    let later = list_of (drop (i + 1) items) in
    let none : c.in_ok-fault.fault ≡ None = none_is c.in_ok-fault.fault (sym c.is_some.ensures ∙ c.if-is_some.false) in
    let count : c.loop-item.left - 1 ≡ pattern_count later
    = omega (arith, c.loop-item.invariant.left, pattern_count-map pattern_view (drop (i + 1) items), length-drop (i + 1) items) in
    let next : c.part_behind-number.result ≡ part_behind parts n (pattern_view p) later
    = c.part_behind-number.ensures.is
    ∙ (ap (λ (a : ℕ). if is_rest (pattern_view p) then a - (c.loop-item.left - 1) else suc n) c.fields-parts.ensures
    ∙ ap (λ (b : ℕ). if is_rest (pattern_view p) then parts - b else suc n) count) in
    record {
      names = λ s is.
          subst (λ (ns : List (List ℕ)). Adds old new ns) (names_step s items i p lt at)
          (adds_both old cur new (names_of_all s (list_of (take i items))) (names_bound s (pattern_view p)) (c.loop-item.invariant.names s is) (c.in_ok-fault.ensures.names none s is));
      fault = λ s before is ed holds.
          let b = before ++ names_of_all s (list_of (take i items)) in
          let here : None ≡ first_in node_rules s (nodes s Elsewhere b (place (types n) m) (pattern_view p))
          = sym none ∙ (c.in_ok-fault.ensures.fault s b is ed (holds_adds old cur (names_of_all s (list_of (take i items))) before holds (c.loop-item.invariant.names s is))
          ∙ ap (λ (v : MType). first_in node_rules s (nodes s Elsewhere b (place v m) (pattern_view p))) c.part.ensures.is) in
          c.loop-item.invariant.fault s before is ed holds
          ∙ parts_pass s before items i p lt at types m parts n c.part_behind-number.result next here;
      left = omega (arith, c.loop-item.invariant.left);
      small = c.part_behind-number.ensures.below (i + 1 + 2 ^ 32) (omega (arith, c.loop-item.invariant.small)) (omega (arith, c.fields-parts.type_inv));
    }

pub walk_parts-returns-then-is_some : goal.walk_parts-returns-then-is_some
walk_parts-returns-then-is_some t c =
    let items = c.args.items.now.items in
    let i = c.loop-item.item-index in
    let p = c.item-item.result in
    let at : p ≡ get_or items i p = c.item-item.is ∙ ap (λ (xs : List Pat). get_or xs i p) c.deref-item-items.ensures.value in
    let lt : i < length items = omega arith in
    let old = map text_at c.args.names.now.keys in
    let cur = map text_at c.loop-item.names.keys in
    let program = table_program c.args.table.now in
    let u = table_type c.args.table.now c.args.here.ty in
    let m = c.args.here.mode in
    let parts = fields_of_type program u c.args.variant in
    let n = c.loop-item.number in
    let types : ℕ → MType = λ j. types_of_parts program u c.args.variant j in
    let later = list_of (drop (i + 1) items) in
    let some : is_some c.in_ok-fault.fault ≡ true = sym c.is_some.ensures ∙ c.if-is_some.true in
    record {
      fault = λ s before is ed holds.
          let b = before ++ names_of_all s (list_of (take i items)) in
          let here : c.in_ok-fault.fault ≡ first_in node_rules s (nodes s Elsewhere b (place (types n) m) (pattern_view p))
          = c.in_ok-fault.ensures.fault s b is ed (holds_adds old cur (names_of_all s (list_of (take i items))) before holds (c.loop-item.invariant.names s is))
          ∙ ap (λ (v : MType). first_in node_rules s (nodes s Elsewhere b (place v m) (pattern_view p))) c.part.ensures.is in
          parts_stop s before items i p lt at types m parts n (part_behind parts n (pattern_view p) later) refl c.in_ok-fault.fault some here
          ∙ sym (c.loop-item.invariant.fault s before is ed holds);
      names = λ e. absurd (some_none c.in_ok-fault.fault some e);
    }

pub walk_parts-returns : goal.walk_parts-returns
walk_parts-returns t c =
    let items = c.args.items.now.items in
    let i = c.loop-item.item-index in
    let le : length items ≤ i = omega arith in
    let old = map text_at c.args.names.now.keys in
    let cur = map text_at c.loop-item.names.keys in
    let program = table_program c.args.table.now in
    let u = table_type c.args.table.now c.args.here.ty in
    record {
      fault = λ s before is ed holds.
          sym (c.loop-item.invariant.fault s before is ed holds
          ∙ ap (λ (xs : List Pat). first_in node_rules s (part_nodes s (before ++ names_of_all s (list_of (take i items))) (types_of_parts program u c.args.variant) c.args.here.mode
          (fields_of_type program u c.args.variant) c.loop-item.number (list_of xs))) (drop_past items i le));
      names = λ e s is. subst (λ (ns : List (List ℕ)). Adds old cur ns) (names_end s items i le) (c.loop-item.invariant.names s is);
    }

pub walk_items-loop-item-preserved : goal.walk_items-loop-item-preserved
walk_items-loop-item-preserved t c =
    let items = c.args.items.now.items in
    let i = c.loop-item.item-index in
    let p = c.item-item.result in
    let at : p ≡ get_or items i p = c.item-item.is ∙ ap (λ (xs : List Pat). get_or xs i p) c.deref-item-items.ensures.value in
    let lt : i < length items = omega arith in
    let old = map text_at c.args.names.now.keys in
    let cur = map text_at c.loop-item.names.keys in
    let new = map text_at c.walk_pattern.new.names.keys in
    let u = table_type c.args.table.now c.args.here.ty in
    let m = c.args.here.mode in
    let count = pattern_count (list_of items) in
    let none : c.in_ok-fault.fault ≡ None = none_is c.in_ok-fault.fault (sym c.is_some.ensures ∙ c.if-is_some.false) in
    record {
      names = λ s is.
          subst (λ (ns : List (List ℕ)). Adds old new ns) (names_step s items i p lt at)
          (adds_both old cur new (names_of_all s (list_of (take i items))) (names_bound s (pattern_view p)) (c.loop-item.invariant.names s is) (c.in_ok-fault.ensures.names none s is));
      fault = λ s before is ed holds.
          let b = before ++ names_of_all s (list_of (take i items)) in
          let told = c.in_ok-fault.ensures.fault s b is ed (holds_adds old cur (names_of_all s (list_of (take i items))) before holds (c.loop-item.invariant.names s is))
          ∙ ap (λ (v : MType). first_in node_rules s (nodes s AsItem b (place v m) (pattern_view p))) c.inner.ensures.is in
          c.loop-item.invariant.fault s before is ed holds
          ∙ items_pass s before items i p lt at u count m (sym none ∙ (told ∙ item_fault s b u count m (pattern_view p)));
    }

pub walk_items-returns-then-is_some : goal.walk_items-returns-then-is_some
walk_items-returns-then-is_some t c =
    let items = c.args.items.now.items in
    let i = c.loop-item.item-index in
    let p = c.item-item.result in
    let at : p ≡ get_or items i p = c.item-item.is ∙ ap (λ (xs : List Pat). get_or xs i p) c.deref-item-items.ensures.value in
    let lt : i < length items = omega arith in
    let old = map text_at c.args.names.now.keys in
    let cur = map text_at c.loop-item.names.keys in
    let u = table_type c.args.table.now c.args.here.ty in
    let m = c.args.here.mode in
    let count = pattern_count (list_of items) in
    let some : is_some c.in_ok-fault.fault ≡ true = sym c.is_some.ensures ∙ c.if-is_some.true in
    record {
      fault = λ s before is ed holds.
          let b = before ++ names_of_all s (list_of (take i items)) in
          let told = c.in_ok-fault.ensures.fault s b is ed (holds_adds old cur (names_of_all s (list_of (take i items))) before holds (c.loop-item.invariant.names s is))
          ∙ ap (λ (v : MType). first_in node_rules s (nodes s AsItem b (place v m) (pattern_view p))) c.inner.ensures.is in
          items_stop s before items i p lt at u count m c.in_ok-fault.fault some (told ∙ item_fault s b u count m (pattern_view p))
          ∙ sym (c.loop-item.invariant.fault s before is ed holds);
      names = λ e. absurd (some_none c.in_ok-fault.fault some e);
    }

pub walk_items-returns : goal.walk_items-returns
walk_items-returns t c =
    let items = c.args.items.now.items in
    let i = c.loop-item.item-index in
    let le : length items ≤ i = omega arith in
    let old = map text_at c.args.names.now.keys in
    let cur = map text_at c.loop-item.names.keys in
    let u = table_type c.args.table.now c.args.here.ty in
    record {
      fault = λ s before is ed holds.
          sym (c.loop-item.invariant.fault s before is ed holds
          ∙ ap (λ (xs : List Pat). first_in node_rules s (item_nodes s (before ++ names_of_all s (list_of (take i items))) u (pattern_count (list_of items)) c.args.here.mode (list_of xs))) (drop_past items i le));
      names = λ e s is. subst (λ (ns : List (List ℕ)). Adds old cur ns) (names_end s items i le) (c.loop-item.invariant.names s is);
    }

pub walk_fields-loop-field-preserved : goal.walk_fields-loop-field-preserved
walk_fields-loop-field-preserved t c =
    let fields = c.args.fields.now.items in
    let i = c.loop-field.field-index in
    let f = c.field-item.result in
    let at : f ≡ get_or fields i f = c.field-item.is ∙ ap (λ (xs : List FieldPat). get_or xs i f) c.deref-field-items.ensures.value in
    let lt : i < length fields = omega arith in
    let old = map text_at c.args.names.now.keys in
    let cur = map text_at c.loop-field.names.keys in
    let new = map text_at c.walk_pattern.new.names.keys in
    let program = table_program c.args.table.now in
    let u = table_type c.args.table.now c.args.here.ty in
    let m = c.args.here.mode in
    let types : ℕ → MType = λ j. types_of_parts program u c.args.variant j in
    let names = field_names (type_variant program u c.args.variant) in
    let none : c.in_ok-fault.fault ≡ None = none_is c.in_ok-fault.fault (sym c.is_some.ensures ∙ c.if-is_some.false) in
    record {
      names = λ s is.
          subst (λ (ns : List (List ℕ)). Adds old new ns) (fields_step s [] fields i f lt at)
          (adds_both old cur new (names_of_fields s (fields_from (fields_of (take i fields)))) (names_bound s (pattern_view f.pat)) (c.loop-field.invariant.names s is) (c.in_ok-fault.ensures.names none s is));
      fault = λ plain s before is ed holds.
          let b = before ++ names_of_fields s (fields_from (fields_of (take i fields))) in
          let told = c.in_ok-fault.ensures.fault s b is ed (holds_adds old cur (names_of_fields s (fields_from (fields_of (take i fields)))) before holds (c.loop-field.invariant.names s is))
          ∙ (ap (λ (st : Standing). first_in node_rules s (nodes s st b (place (table_type c.args.table.now c.field_type.result) m) (pattern_view f.pat))) c.field_standing.ensures
          ∙ ap (λ (v : MType). first_in node_rules s (nodes s (field_standing f.short) b (place v m) (pattern_view f.pat)))
          (c.field_type.ensures.is plain ∙ ap (λ (n : List ℕ). types (field_number names n)) (c.deref.ensures.value ∙ sym (field_name_is f)))) in
          c.loop-field.invariant.fault plain s before is ed holds
          ∙ fields_pass s before fields i f lt at types m names (sym none ∙ told);
    }

pub walk_fields-returns-then-is_some : goal.walk_fields-returns-then-is_some
walk_fields-returns-then-is_some t c =
    let fields = c.args.fields.now.items in
    let i = c.loop-field.field-index in
    let f = c.field-item.result in
    let at : f ≡ get_or fields i f = c.field-item.is ∙ ap (λ (xs : List FieldPat). get_or xs i f) c.deref-field-items.ensures.value in
    let lt : i < length fields = omega arith in
    let old = map text_at c.args.names.now.keys in
    let cur = map text_at c.loop-field.names.keys in
    let new = map text_at c.walk_pattern.new.names.keys in
    let program = table_program c.args.table.now in
    let u = table_type c.args.table.now c.args.here.ty in
    let m = c.args.here.mode in
    let types : ℕ → MType = λ j. types_of_parts program u c.args.variant j in
    let names = field_names (type_variant program u c.args.variant) in
    let some : is_some c.in_ok-fault.fault ≡ true = sym c.is_some.ensures ∙ c.if-is_some.true in
    record {
      fault = λ plain s before is ed holds.
          let b = before ++ names_of_fields s (fields_from (fields_of (take i fields))) in
          let told = c.in_ok-fault.ensures.fault s b is ed (holds_adds old cur (names_of_fields s (fields_from (fields_of (take i fields)))) before holds (c.loop-field.invariant.names s is))
          ∙ (ap (λ (st : Standing). first_in node_rules s (nodes s st b (place (table_type c.args.table.now c.field_type.result) m) (pattern_view f.pat))) c.field_standing.ensures
          ∙ ap (λ (v : MType). first_in node_rules s (nodes s (field_standing f.short) b (place v m) (pattern_view f.pat)))
          (c.field_type.ensures.is plain ∙ ap (λ (n : List ℕ). types (field_number names n)) (c.deref.ensures.value ∙ sym (field_name_is f)))) in
          fields_stop s before fields i f lt at types m names c.in_ok-fault.fault some told
          ∙ sym (c.loop-field.invariant.fault plain s before is ed holds);
      names = λ e. absurd (some_none c.in_ok-fault.fault some e);
    }

pub walk_fields-returns : goal.walk_fields-returns
walk_fields-returns t c =
    let fields = c.args.fields.now.items in
    let i = c.loop-field.field-index in
    let le : length fields ≤ i = omega arith in
    let old = map text_at c.args.names.now.keys in
    let cur = map text_at c.loop-field.names.keys in
    let program = table_program c.args.table.now in
    let u = table_type c.args.table.now c.args.here.ty in
    record {
      fault = λ plain s before is ed holds.
          sym (c.loop-field.invariant.fault plain s before is ed holds
          ∙ ap (λ (xs : List FieldPat). first_in node_rules s (field_nodes s (before ++ names_of_fields s (fields_from (fields_of (take i fields)))) (types_of_parts program u c.args.variant) c.args.here.mode
          (field_names (type_variant program u c.args.variant)) (fields_from (fields_of xs)))) (drop_past fields i le));
      names = λ e s is. subst (λ (ns : List (List ℕ)). Adds old cur ns) (fields_end s fields i le) (c.loop-field.invariant.names s is);
    }

pub walk_alternatives-loop-alternative-preserved : goal.walk_alternatives-loop-alternative-preserved
walk_alternatives-loop-alternative-preserved t c =
    let items = c.args.all.now.items in
    let i = c.loop-alternative.alternative-index in
    let p = c.alternative-item.result in
    let at : p ≡ get_or items i p = c.alternative-item.is ∙ ap (λ (xs : List Pat). get_or xs i p) c.deref-alternative-items.ensures.value in
    let lt : i < length items = omega arith in
    let pl = place (table_type c.args.table.now c.args.here.ty) c.args.here.mode in
    let none : c.in_ok-fault.fault ≡ None = none_is c.in_ok-fault.fault (sym c.is_some.ensures ∙ c.if-is_some.false) in
    let old = map text_at c.args.names.now.keys in
    let cur = map text_at c.loop-alternative.names.keys in
    let mid = map text_at c.walk_pattern.new.names.keys in
    let as_many : c.len-count.result ≡ length old = c.len-count.ensures.len ∙ sym (length-map c.args.names.now.keys text_at) in
    let grown : (s : Setting) → IsSettingOf c.args.table.now s → Adds old mid (names_bound s (pattern_view p)) = λ s is. subst (λ (ns : List (List ℕ)). Adds ns mid (names_bound s (pattern_view p))) c.loop-alternative.invariant.names (c.in_ok-fault.ensures.names none s is) in
    let kept_first : take (length old) mid ≡ old = (grown (record { items = c.requires.file.0; width = c.requires.file.1; edition = c.args.edition }) c.requires.file.2).kept in
    record {
      names = c.in_ok-set_aside.ensures.names ∙ (ap (λ (n : ℕ). take n mid) as_many ∙ kept_first);
      aside = λ s q is.
          let more : map text_at c.set_aside.new.aside.items ≡ map text_at c.loop-alternative.aside.items ++ drop (length old) mid
          = c.in_ok-set_aside.ensures.aside ∙ ap (λ (n : ℕ). map text_at c.loop-alternative.aside.items ++ drop n mid) as_many in
          ap (λ (ns : List (List ℕ)). is_among q (old ++ ns)) more
          ∙ (aside_step old mid (map text_at c.loop-alternative.aside.items) (names_of_all s (list_of (take i items))) (names_bound s (pattern_view p)) q (grown s is) (c.loop-alternative.invariant.aside s q is)
          ∙ ap (λ (ns : List (List ℕ)). is_among q (old ++ ns)) (names_step s items i p lt at));
      fault = λ s before is ed holds.
          let kept : Holds cur before = subst (λ (ns : List (List ℕ)). Holds ns before) (sym c.loop-alternative.invariant.names) holds in
          c.loop-alternative.invariant.fault s before is ed holds
          ∙ ways_pass s before items i p lt at pl (sym none ∙ c.in_ok-fault.ensures.fault s before is ed kept);
    }

pub walk_alternatives-returns-then-is_some : goal.walk_alternatives-returns-then-is_some
walk_alternatives-returns-then-is_some t c =
    let items = c.args.all.now.items in
    let i = c.loop-alternative.alternative-index in
    let p = c.alternative-item.result in
    let at : p ≡ get_or items i p = c.alternative-item.is ∙ ap (λ (xs : List Pat). get_or xs i p) c.deref-alternative-items.ensures.value in
    let lt : i < length items = omega arith in
    let pl = place (table_type c.args.table.now c.args.here.ty) c.args.here.mode in
    let some : is_some c.in_ok-fault.fault ≡ true = sym c.is_some.ensures ∙ c.if-is_some.true in
    record {
      fault = λ s before is ed holds.
          let kept : Holds (map text_at c.loop-alternative.names.keys) before = subst (λ (ns : List (List ℕ)). Holds ns before) (sym c.loop-alternative.invariant.names) holds in
          ways_stop s before items i p lt at pl c.in_ok-fault.fault some (c.in_ok-fault.ensures.fault s before is ed kept)
          ∙ sym (c.loop-alternative.invariant.fault s before is ed holds);
      names = λ e. absurd (some_none c.in_ok-fault.fault some e);
    }

pub walk_alternatives-returns : goal.walk_alternatives-returns
walk_alternatives-returns t c =
    let items = c.args.all.now.items in
    let i = c.loop-alternative.alternative-index in
    let le : length items ≤ i = omega arith in
    let old = map text_at c.args.names.now.keys in
    let new = map text_at c.put_back.new.names.keys in
    let pl = place (table_type c.args.table.now c.args.here.ty) c.args.here.mode in
    record {
      fault = λ s before is ed holds.
          sym (c.loop-alternative.invariant.fault s before is ed holds
          ∙ ap (λ (xs : List Pat). first_in node_rules s (alternative_nodes s before pl (list_of xs))) (drop_past items i le));
      names = λ e s is.
          let put : Adds old new (map text_at c.loop-alternative.aside.items)
          = subst (λ (ns : List (List ℕ)). Adds ns new (map text_at c.loop-alternative.aside.items)) c.loop-alternative.invariant.names
          (subst (λ (ks : List (Bor (List ℕ))). Adds (map text_at c.loop-alternative.names.keys) new (map text_at ks)) c.deref.ensures.value c.in_ok-put_back.ensures) in
          adds_like old new (map text_at c.loop-alternative.aside.items) (names_of_all s (list_of items)) put
          (λ q. c.loop-alternative.invariant.aside s q is ∙ ap (λ (ns : List (List ℕ)). is_among q (old ++ ns)) (names_end s items i le));
    }
