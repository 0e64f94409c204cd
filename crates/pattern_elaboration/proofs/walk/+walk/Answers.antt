use Rattle.std.proofs.Common.{◌≡◌, ℕ, suc, ◌+◌, ◌-◌, ◌<◌, ◌≤◌, ◌^◌, true, false, if◌then◌else◌, List, [], ◌++◌, map, drop, get_or, length, option_map, IfOk, Result, sym, ap, subst, ◌∙◌, arith}
use Rattle.std.specs.Rc.{rc_str_bytes}
use Rattle.std.proofs.lemmas.List.{append-nil}
use Rattle.match_model.specs.declared.Mode.{Mode}
use Rattle.match_model.specs.declared.Mode.TheVariants.{Move}
use Rattle.match_model.specs.Types.{MType}
use Rattle.match_model.specs.RustTypes.{inner_type}
use Rattle.match_model.specs.ArenaPatterns.{WholePart}
use Rattle.decl_syntax.specs.declared.tree.Path as declared_path
use Rattle.decl_syntax.specs.declared.tree.RangePat as declared_range
use Rattle.decl_syntax.specs.declared.tree.Pat.{Pat}
use Rattle.decl_syntax.specs.declared.tree.FieldPat.{FieldPat}
use Rattle.decl_syntax.specs.Patterns.{PatternTree, Shape, Wild, Rest, Literal, Name, Bind, BindAs, Path, TupleForm, Brace, Tuple, Group, Slice, Point, Range, Or, bind_shape, lit_view, path_view, pattern_view, shape_view}
use Rattle.no_memory.specs.declared.NoMemory.{NoMemory}
use Rattle.pattern_arena.specs.declared.pattern.DePat.{DePat}
use Rattle.pattern_arena.specs.Trees.{tree}
use Rattle.type_table.specs.declared.table.TyId.{TyId}
use Rattle.type_table.specs.declared.table.TypeTable.{TypeTable}
use Rattle.type_table.specs.Lookups.{field_names as names_of_variant}
use Rattle.type_table.specs.Tables.{IsOf, table_program, table_type, fields_of_type, type_variant}
use Rattle.pattern_rules.specs.Namings.{found_by, field_number}
use Rattle.pattern_rules.specs.Nodes.{is_rest}
use Rattle.pattern_rules.specs.Builders.{Built, point}
use Rattle.pattern_rules.specs.Builders as builders
use Rattle.pattern_rules.specs.Resolved.{rest_of}
use Rattle.pattern_rules.specs.Elaborated.{with_bound}
use Rattle.pattern_rules.specs.Shown.{settled}
use Rattle.pattern_elaboration.specs.Given.{trees, given, field_trees, given_fields}
use Rattle.pattern_elaboration.specs.Numbered.{AreMade}
use Rattle.pattern_elaboration.specs.Placed.{wrapped}
use Rattle.pattern_elaboration.specs.Rests.{fixed}
use Rattle.pattern_elaboration.specs.Walking.{plain, PatternShown, ShapeShown, PartsShown, FieldsShown, ItemsShown, item_count}
use Rattle.pattern_elaboration.specs.Written.{built, built_parts, built_fields, built_choices}
use Rattle.pattern_elaboration.proofs.FormsShown.{tuple_form_shown, brace_shown, tuple_is, tuple_within, tuple_shown, row_is, row_shown}
use Rattle.pattern_elaboration.proofs.Numbering.{made_none, made_one}
use Rattle.pattern_elaboration.proofs.Shapes.{shape_wild, shape_rest, shape_lit, shape_name, shape_bind, shape_path, shape_form, shape_brace, shape_tuple, shape_group, shape_slice, shape_point, shape_range, shape_or}
use Rattle.pattern_elaboration.proofs.WalkLists.{shown_at, fields_made, trees_made, part_pushed, part_skipped}
use Rattle.pattern_elaboration.proofs.WalkFields.{field_list, field_pushed}
use Rattle.pattern_elaboration.proofs.WalkItems.{ItemsLeft, items_none, items_all, item_skipped, item_put, put_made}
use Rattle.pattern_elaboration.proofs.WalkChoices.{shown_list, choice_pushed, or_shown}
use Rattle.pattern_elaboration.proofs.Walks.{if_ok, list_of, view_at, drop_past}
use Rattle.pattern_elaboration.proofs.walk.+walk.Goals as goal

-- the same of another form that is the same
as_shape : (table : TypeTable) (t : MType) (m : Mode) (from : ℕ) (r : Result (DePat TyId) NoMemory)
    (sh other : Shape) → sh ≡ other →
    IfOk r (ShapeShown table t m from other) → IfOk r (ShapeShown table t m from sh)
as_shape table t m from r sh other e h = subst (λ x. IfOk r (ShapeShown table t m from x)) (sym e) h

pub elaborate_pattern-returns : goal.elaborate_pattern-returns
elaborate_pattern-returns t c = record {
  shown = subst (λ (p : PatternTree). IfOk c.elaborate_kind.result (PatternShown c.args.table.now
      (table_type c.args.table.now c.args.here.ty) c.args.here.mode p)) (sym (view_at c.args.pat.now))
      c.elaborate_kind.ensures.shown;
  made = c.elaborate_kind.ensures.made;
}

pub elaborate_kind-returns-in-Wild : goal.elaborate_kind-returns-in-Wild
elaborate_kind-returns-in-Wild t c = record {
  shown = as_shape c.args.table.now (table_type c.args.table.now c.args.here.ty) c.args.here.mode c.args.from
      c.wildcard.result (shape_view c.args.kind.now) Wild (ap shape_view c.in-Wild.is ∙ shape_wild)
      (if_ok c.wildcard.result _ _ (λ p h s is fit. h) c.wildcard.ensures.shown);
  made = c.wildcard.ensures.made;
}

pub elaborate_kind-returns-in-Rest : goal.elaborate_kind-returns-in-Rest
elaborate_kind-returns-in-Rest t c = record {
  shown = as_shape c.args.table.now (table_type c.args.table.now c.args.here.ty) c.args.here.mode c.args.from
      c.wildcard-in-Rest.result (shape_view c.args.kind.now) Rest (ap shape_view c.in-Rest.is ∙ shape_rest)
      (if_ok c.wildcard-in-Rest.result _ _ (λ p h s is fit. h) c.wildcard-in-Rest.ensures.shown);
  made = c.wildcard-in-Rest.ensures.made;
}

pub elaborate_kind-returns-in-Lit : goal.elaborate_kind-returns-in-Lit
elaborate_kind-returns-in-Lit t c = record {
  shown = as_shape c.args.table.now (table_type c.args.table.now c.args.here.ty) c.args.here.mode c.args.from
      c.literal.result (shape_view c.args.kind.now) (Literal (lit_view c.in-Lit.lit))
      (ap shape_view c.in-Lit.is ∙ shape_lit c.in-Lit.lit) (c.literal.ensures.shown c.args.from);
  made = c.literal.ensures.made;
}

pub elaborate_kind-returns-in-Path : goal.elaborate_kind-returns-in-Path
elaborate_kind-returns-in-Path t c = record {
  shown = as_shape c.args.table.now (table_type c.args.table.now c.args.here.ty) c.args.here.mode c.args.from
      c.path_form.result (shape_view c.args.kind.now) (Path (path_view c.in-Path.path))
      (ap shape_view c.in-Path.is ∙ shape_path c.in-Path.path) (c.path_form.ensures.shown c.args.from);
  made = c.path_form.ensures.made;
}

pub elaborate_kind-returns-in-Tuple : goal.elaborate_kind-returns-in-Tuple
elaborate_kind-returns-in-Tuple t c = record {
  shown = as_shape c.args.table.now (table_type c.args.table.now c.args.here.ty) c.args.here.mode c.args.from
      c.elaborate_tuple.result (shape_view c.args.kind.now) (Tuple (list_of c.in-Tuple.items.items))
      (ap shape_view c.in-Tuple.is ∙ shape_tuple c.in-Tuple.items) (c.elaborate_tuple.ensures.shown c.args.from);
  made = c.elaborate_tuple.ensures.made;
}

pub elaborate_kind-returns-in-Slice : goal.elaborate_kind-returns-in-Slice
elaborate_kind-returns-in-Slice t c = record {
  shown = as_shape c.args.table.now (table_type c.args.table.now c.args.here.ty) c.args.here.mode c.args.from
      c.elaborate_slice.result (shape_view c.args.kind.now) (Slice (list_of c.in-Slice.items.items))
      (ap shape_view c.in-Slice.is ∙ shape_slice c.in-Slice.items) (c.elaborate_slice.ensures.shown c.args.from);
  made = c.elaborate_slice.ensures.made;
}

pub elaborate_kind-returns-in-Or : goal.elaborate_kind-returns-in-Or
elaborate_kind-returns-in-Or t c = record {
  shown = as_shape c.args.table.now (table_type c.args.table.now c.args.here.ty) c.args.here.mode c.args.from
      c.elaborate_or.result (shape_view c.args.kind.now) (Or (list_of c.in-Or.all.items))
      (ap shape_view c.in-Or.is ∙ shape_or c.in-Or.all) (c.elaborate_or.ensures.shown c.args.from);
  made = c.elaborate_or.ensures.made;
}

pub elaborate_bound-returns : goal.elaborate_bound-returns
elaborate_bound-returns t c = record {
  shown = λ s is fit. c.in_ok-made.ensures.shown (table_type c.args.table.now)
      ∙ ap (with_bound (record { name = c.args.name.now; mode = c.args.mode; part = WholePart }))
      (c.in_ok-pattern.ensures.shown s is fit);
  made = c.in_ok-made.ensures.made c.args.table.now c.args.next.now c.elaborate_pattern.new.next
      c.in_ok-pattern.ensures.made;
}

pub elaborate_point-returns : goal.elaborate_point-returns
elaborate_point-returns t c = record {
  shown = λ from mutable s is fit.
      ap (settled (table_type c.args.table.now) 0) c.in_ok-made.ensures.tree
      ∙ ap (point (table_type c.args.table.now c.args.here.ty))
      (shown_at c.args.table.now (inner_type (table_type c.args.table.now c.args.here.ty))
      (table_type c.args.table.now c.inner.result) Move (pattern_view c.args.sub.now) c.in_ok-pattern.pattern
      c.in_ok-pattern.ensures.shown c.inner.ensures.is s is fit);
  made = c.in_ok-made.ensures.made c.args.table.now c.args.next.now c.requires.of
      (made_one (IsOf c.args.table.now) c.args.next.now c.elaborate_pattern.new.next (tree c.in_ok-pattern.pattern)
      c.in_ok-pattern.ensures.made);
}

pub elaborate_tuple_form-returns : goal.elaborate_tuple_form-returns
elaborate_tuple_form-returns t c = record {
  shown = λ from s is fit.
      tuple_form_shown c.args.table.now s is (found_by s (TupleForm (path_view c.args.path.now)
      (list_of c.args.items.now.items))) (table_type c.args.table.now c.args.here.ty)
      (table_type c.args.table.now c.in_ok-peeled.peeled.place.ty) c.args.here.mode c.in_ok-peeled.peeled.place.mode
      c.found_number-variant.result
      (map (table_type c.args.table.now) c.in_ok-peeled.peeled.levels.items) fit.0
      (c.types_are_sound.ensures.types c.in_ok-peeled.peeled.place.ty c.in_ok-peeled.ensures.of)
      c.in_ok-peeled.ensures.ty
      (c.found_number-variant.ensures (found_by s (TupleForm (path_view c.args.path.now)
      (list_of c.args.items.now.items))) (c.path_found.ensures.is s is)) c.in_ok-peeled.ensures.through
      (list_of c.args.items.now.items) c.deref.result.now (plain c.args.table.now c.in_ok-made.made)
      (subst (λ (fs : List (ℕ × DePat TyId)). PartsShown c.args.table.now
      (table_type c.args.table.now c.in_ok-peeled.peeled.place.ty) c.in_ok-peeled.peeled.place.mode
      c.found_number-variant.result
      (list_of c.args.items.now.items) fs) (sym c.deref.ensures.value) c.in_ok-fields.ensures.shown) fit.1
      c.in_ok-made.ensures.shown;
  made = c.in_ok-made.ensures.made c.args.next.now
      (subst (λ (fs : List (ℕ × DePat TyId)). AreMade (IsOf c.args.table.now) c.args.next.now
      c.elaborate_parts.new.next (field_trees fs)) (sym c.deref.ensures.value) c.in_ok-fields.ensures.made);
}

pub elaborate_brace-returns : goal.elaborate_brace-returns
elaborate_brace-returns t c = record {
  shown = λ from rest s is fit.
      brace_shown c.args.table.now s is (found_by s (Brace (path_view c.args.path.now)
      (field_list c.args.fields.now.items) rest)) (table_type c.args.table.now c.args.here.ty)
      (table_type c.args.table.now c.in_ok-peeled.peeled.place.ty) c.args.here.mode c.in_ok-peeled.peeled.place.mode
      c.found_number-variant.result
      (map (table_type c.args.table.now) c.in_ok-peeled.peeled.levels.items) fit.0
      (c.types_are_sound.ensures.types c.in_ok-peeled.peeled.place.ty c.in_ok-peeled.ensures.of)
      c.in_ok-peeled.ensures.ty
      (c.found_number-variant.ensures (found_by s (Brace (path_view c.args.path.now)
      (field_list c.args.fields.now.items) rest)) (c.path_found.ensures.is s is)) c.in_ok-peeled.ensures.through
      (field_list c.args.fields.now.items) c.deref.result.now (plain c.args.table.now c.in_ok-made.made)
      (subst (λ (fs : List (ℕ × DePat TyId)). FieldsShown c.args.table.now
      (table_type c.args.table.now c.in_ok-peeled.peeled.place.ty) c.in_ok-peeled.peeled.place.mode
      c.found_number-variant.result
      (field_list c.args.fields.now.items) fs) (sym c.deref.ensures.value) c.in_ok-fields.ensures.shown) fit.1
      c.in_ok-made.ensures.shown;
  made = c.in_ok-made.ensures.made c.args.next.now
      (subst (λ (fs : List (ℕ × DePat TyId)). AreMade (IsOf c.args.table.now) c.args.next.now
      c.elaborate_fields.new.next (field_trees fs)) (sym c.deref.ensures.value) c.in_ok-fields.ensures.made);
}

pub elaborate_tuple-returns : goal.elaborate_tuple-returns
elaborate_tuple-returns t c = record {
  shown = λ from s is fit.
      let items : ItemsShown c.args.table.now (table_type c.args.table.now c.in_ok-peeled.peeled.place.ty)
      c.in_ok-peeled.peeled.place.mode (list_of c.args.items.now.items) c.deref-2.result.now c.deref-3.result.now
      = subst (λ (xs : List (DePat TyId)). ItemsShown c.args.table.now
      (table_type c.args.table.now c.in_ok-peeled.peeled.place.ty) c.in_ok-peeled.peeled.place.mode
      (list_of c.args.items.now.items) xs c.deref-3.result.now)
      (sym c.deref-2.ensures.value)
      (subst (λ (xs : List (DePat TyId)). ItemsShown c.args.table.now
      (table_type c.args.table.now c.in_ok-peeled.peeled.place.ty) c.in_ok-peeled.peeled.place.mode
      (list_of c.args.items.now.items)
      c.in_ok-listed.listed.front.items xs) (sym c.deref-3.ensures.value) c.in_ok-listed.ensures.shown) in
      let within = tuple_within c.args.table.now s is (table_type c.args.table.now c.args.here.ty)
      (table_type c.args.table.now c.in_ok-peeled.peeled.place.ty) c.args.here.mode
      c.in_ok-peeled.peeled.place.mode (map (table_type c.args.table.now) c.in_ok-peeled.peeled.levels.items)
      c.in_ok-peeled.ensures.ty c.in_ok-peeled.ensures.through
      (list_of c.args.items.now.items) c.deref-2.result.now c.deref-3.result.now fit.0 items fit.1 in
      let tuple = tuple_is c.args.table.now s is (table_type c.args.table.now c.args.here.ty)
      (table_type c.args.table.now c.in_ok-peeled.peeled.place.ty) c.args.here.mode
      c.in_ok-peeled.peeled.place.mode (map (table_type c.args.table.now) c.in_ok-peeled.peeled.levels.items)
      c.in_ok-peeled.ensures.ty c.in_ok-peeled.ensures.through
      (list_of c.args.items.now.items) c.deref-2.result.now c.deref-3.result.now fit.0 in
      tuple_shown c.args.table.now s is (table_type c.args.table.now c.args.here.ty)
      (table_type c.args.table.now c.in_ok-peeled.peeled.place.ty) c.args.here.mode
      c.in_ok-peeled.peeled.place.mode (map (table_type c.args.table.now) c.in_ok-peeled.peeled.levels.items)
      c.in_ok-peeled.ensures.ty c.in_ok-peeled.ensures.through
      (list_of c.args.items.now.items) c.deref-2.result.now c.deref-3.result.now fit.0 items fit.1
      (plain c.args.table.now c.in_ok-made.made)
      (c.in_ok-made.ensures.shown tuple within
      ∙ ap (λ (xs : List Pat). wrapped (map (table_type c.args.table.now) c.in_ok-peeled.peeled.levels.items)
      (builders.list_of (table_program c.args.table.now)
      (fixed (given (table_type c.args.table.now) c.deref-2.result.now))
      (rest_of (list_of xs)) (fixed (given (table_type c.args.table.now) c.deref-3.result.now))
      (table_type c.args.table.now c.in_ok-peeled.peeled.place.ty) c.in_ok-peeled.peeled.place.mode))
      c.deref.ensures.value);
  made = c.in_ok-made.ensures.made c.args.next.now
      (subst (λ (xs : List (DePat TyId)). AreMade (IsOf c.args.table.now) c.args.next.now c.elaborate_items.new.next
      (trees xs ++ trees c.deref-3.result.now)) (sym c.deref-2.ensures.value)
      (subst (λ (xs : List (DePat TyId)). AreMade (IsOf c.args.table.now) c.args.next.now c.elaborate_items.new.next
      (trees c.in_ok-listed.listed.front.items ++ trees xs)) (sym c.deref-3.ensures.value)
      c.in_ok-listed.ensures.made));
}

pub elaborate_slice-returns : goal.elaborate_slice-returns
elaborate_slice-returns t c = record {
  shown = λ from s is fit.
      let items : ItemsShown c.args.table.now (table_type c.args.table.now c.in_ok-peeled.peeled.place.ty)
      c.in_ok-peeled.peeled.place.mode (list_of c.args.items.now.items) c.deref-2.result.now c.deref-3.result.now
      = subst (λ (xs : List (DePat TyId)). ItemsShown c.args.table.now
      (table_type c.args.table.now c.in_ok-peeled.peeled.place.ty) c.in_ok-peeled.peeled.place.mode
      (list_of c.args.items.now.items) xs c.deref-3.result.now)
      (sym c.deref-2.ensures.value)
      (subst (λ (xs : List (DePat TyId)). ItemsShown c.args.table.now
      (table_type c.args.table.now c.in_ok-peeled.peeled.place.ty) c.in_ok-peeled.peeled.place.mode
      (list_of c.args.items.now.items)
      c.in_ok-listed.listed.front.items xs) (sym c.deref-3.ensures.value) c.in_ok-listed.ensures.shown) in
      let row = row_is c.args.table.now s is (table_type c.args.table.now c.args.here.ty)
      (table_type c.args.table.now c.in_ok-peeled.peeled.place.ty) c.args.here.mode
      c.in_ok-peeled.peeled.place.mode (map (table_type c.args.table.now) c.in_ok-peeled.peeled.levels.items)
      c.in_ok-peeled.ensures.ty c.in_ok-peeled.ensures.through
      (list_of c.args.items.now.items) c.deref-2.result.now c.deref-3.result.now fit.0 in
      row_shown c.args.table.now s is (table_type c.args.table.now c.args.here.ty)
      (table_type c.args.table.now c.in_ok-peeled.peeled.place.ty) c.args.here.mode
      c.in_ok-peeled.peeled.place.mode (map (table_type c.args.table.now) c.in_ok-peeled.peeled.levels.items)
      c.in_ok-peeled.ensures.ty c.in_ok-peeled.ensures.through
      (list_of c.args.items.now.items) c.deref-2.result.now c.deref-3.result.now fit.0 items fit.1
      (plain c.args.table.now c.in_ok-made.made)
      (c.in_ok-made.ensures.shown row
      ∙ ap (λ (xs : List Pat). wrapped (map (table_type c.args.table.now) c.in_ok-peeled.peeled.levels.items)
      (builders.list_of (table_program c.args.table.now)
      (fixed (given (table_type c.args.table.now) c.deref-2.result.now))
      (rest_of (list_of xs)) (fixed (given (table_type c.args.table.now) c.deref-3.result.now))
      (table_type c.args.table.now c.in_ok-peeled.peeled.place.ty) c.in_ok-peeled.peeled.place.mode))
      c.deref.ensures.value);
  made = c.in_ok-made.ensures.made c.args.next.now
      (subst (λ (xs : List (DePat TyId)). AreMade (IsOf c.args.table.now) c.args.next.now c.elaborate_items.new.next
      (trees xs ++ trees c.deref-3.result.now)) (sym c.deref-2.ensures.value)
      (subst (λ (xs : List (DePat TyId)). AreMade (IsOf c.args.table.now) c.args.next.now c.elaborate_items.new.next
      (trees c.in_ok-listed.listed.front.items ++ trees xs)) (sym c.deref-3.ensures.value)
      c.in_ok-listed.ensures.made));
}

pub elaborate_parts-part_behind-following-requires : goal.elaborate_parts-part_behind-following-requires
elaborate_parts-part_behind-following-requires t c = omega (
  arith,
  c.loop-item.invariant.small,
  c.args.items.now.small,
  c.args.items.now.ok.0,
)

pub elaborate_parts-loop-item-init : goal.elaborate_parts-loop-item-init
elaborate_parts-loop-item-init t c = record {
  made = subst (λ (fs : List (ℕ × DePat TyId)). AreMade (IsOf c.args.table.now) c.args.next.now c.args.next.now
      (field_trees fs)) (sym c.new-written.ensures.items) (made_none (IsOf c.args.table.now) c.args.next.now);
  left = omega (arith, c.len-left.ensures);
  small = omega arith;
  shown = λ s types parts is same fields fit. (
    fit,
    ap (λ (fs : List (ℕ × DePat TyId)). given_fields (table_type c.args.table.now) fs ++ built_parts s types
        parts 0 c.args.here.mode (list_of c.args.items.now.items)) c.new-written.ensures.items,
  );
}

pub elaborate_parts-loop-item-preserved-then-is_rest : goal.elaborate_parts-loop-item-preserved-then-is_rest
elaborate_parts-loop-item-preserved-then-is_rest t c =
    let items = c.args.items.now.items in
    let i = c.loop-item.item-index in
    let p = c.item-item.result in
    let at : p ≡ get_or items i p = c.item-item.is ∙ ap (λ (xs : List Pat). get_or xs i p)
    c.deref-item-items.ensures.value in
    let lt : i < length items = omega arith in
    let u = table_type c.args.table.now c.args.here.ty in
    let rest : is_rest (pattern_view p) ≡ true = sym c.is_rest.ensures ∙ c.if-is_rest.true in
    let count : (c.loop-item.left - 1) + (i + 1) ≡ length items = omega (arith, c.loop-item.invariant.left) in
    let next : c.part_behind-following.result
    ≡ (if is_rest (pattern_view p) then fields_of_type (table_program c.args.table.now) u c.args.variant -
    (c.loop-item.left - 1) else suc c.loop-item.number)
    = c.part_behind-following.ensures.is ∙ ap (λ (a : ℕ). if is_rest (pattern_view p) then a - (c.loop-item.left - 1)
    else suc c.loop-item.number) c.fields-parts.ensures in
    record {
      made = c.loop-item.invariant.made;
      left = omega (arith, c.loop-item.invariant.left);
      small = c.part_behind-following.ensures.below (i + 1 + 2 ^ 32) (omega (arith, c.loop-item.invariant.small))
          (omega (arith, c.fields-parts.type_inv));
      shown = part_skipped c.args.table.now u c.args.here.mode c.args.variant items i c.loop-item.number
          c.part_behind-following.result (c.loop-item.left - 1) p c.loop-item.written.items lt at count next rest
          c.loop-item.invariant.shown;
    }

pub elaborate_parts-loop-item-preserved : goal.elaborate_parts-loop-item-preserved
elaborate_parts-loop-item-preserved t c =
    let items = c.args.items.now.items in
    let i = c.loop-item.item-index in
    let p = c.item-item.result in
    let at : p ≡ get_or items i p = c.item-item.is ∙ ap (λ (xs : List Pat). get_or xs i p)
    c.deref-item-items.ensures.value in
    let lt : i < length items = omega arith in
    let u = table_type c.args.table.now c.args.here.ty in
    let plain_item : is_rest (pattern_view p) ≡ false = sym c.is_rest.ensures ∙ c.if-is_rest.false in
    let count : (c.loop-item.left - 1) + (i + 1) ≡ length items = omega (arith, c.loop-item.invariant.left) in
    let next : c.part_behind-following.result
    ≡ (if is_rest (pattern_view p) then fields_of_type (table_program c.args.table.now) u c.args.variant -
    (c.loop-item.left - 1) else suc c.loop-item.number)
    = c.part_behind-following.ensures.is ∙ ap (λ (a : ℕ). if is_rest (pattern_view p) then a - (c.loop-item.left - 1)
    else suc c.loop-item.number) c.fields-parts.ensures in
    record {
      made = fields_made c.args.table.now c.args.next.now c.loop-item.next c.elaborate_pattern.new.next
          c.loop-item.number c.loop-item.written.items c.put_field.new.fields.items c.in_ok-made.made
          c.in_ok-put_field.ensures
          c.loop-item.invariant.made c.in_ok-made.ensures.made;
      left = omega (arith, c.loop-item.invariant.left);
      small = c.part_behind-following.ensures.below (i + 1 + 2 ^ 32) (omega (arith, c.loop-item.invariant.small))
          (omega (arith, c.fields-parts.type_inv));
      shown = part_pushed c.args.table.now u c.args.here.mode c.args.variant items i c.loop-item.number
          c.part_behind-following.result (c.loop-item.left - 1) p c.loop-item.written.items lt at count next
          c.put_field.new.fields.items c.in_ok-made.made (table_type c.args.table.now c.part.result)
          c.in_ok-put_field.ensures plain_item c.part.ensures.is c.in_ok-made.ensures.shown
          c.loop-item.invariant.shown;
    }

pub elaborate_parts-returns : goal.elaborate_parts-returns
elaborate_parts-returns t c =
    let items = c.args.items.now.items in
    let i = c.loop-item.item-index in
    let le : length items ≤ i = omega arith in
    record {
      shown = λ s types parts is same fields fit.
          let inv = c.loop-item.invariant.shown s types parts is same fields fit in
          sym (append-nil (given_fields (table_type c.args.table.now) c.loop-item.written.items))
          ∙ (ap (λ (xs : List Pat). given_fields (table_type c.args.table.now) c.loop-item.written.items ++
          built_parts s types parts c.loop-item.number c.args.here.mode (list_of xs)) (sym (drop_past items i le))
          ∙ inv.1);
      made = c.loop-item.invariant.made;
    }

pub elaborate_fields-loop-field-init : goal.elaborate_fields-loop-field-init
elaborate_fields-loop-field-init t c = record {
  made = subst (λ (fs : List (ℕ × DePat TyId)). AreMade (IsOf c.args.table.now) c.args.next.now c.args.next.now
      (field_trees fs)) (sym c.new-written.ensures.items) (made_none (IsOf c.args.table.now) c.args.next.now);
  shown = λ s types names is same tuple named fit. (
    fit,
    ap (λ (fs : List (ℕ × DePat TyId)). given_fields (table_type c.args.table.now) fs ++ built_fields s types
        names c.args.here.mode (field_list c.args.fields.now.items)) c.new-written.ensures.items,
  );
}

pub elaborate_fields-loop-field-preserved : goal.elaborate_fields-loop-field-preserved
elaborate_fields-loop-field-preserved t c =
    let fields = c.args.fields.now.items in
    let i = c.loop-field.field-index in
    let f = c.field-item.result in
    let at : f ≡ get_or fields i f = c.field-item.is ∙ ap (λ (xs : List FieldPat). get_or xs i f)
    c.deref-field-items.ensures.value in
    let lt : i < length fields = omega arith in
    let u = table_type c.args.table.now c.args.here.ty in
    record {
      made = fields_made c.args.table.now c.args.next.now c.loop-field.next c.elaborate_pattern.new.next
          c.field_number-number.result c.loop-field.written.items c.put_field.new.fields.items c.in_ok-made.made
          c.in_ok-put_field.ensures
          c.loop-field.invariant.made c.in_ok-made.ensures.made;
      shown = field_pushed c.args.table.now u c.args.here.mode c.args.variant fields i c.field_number-number.result f
          c.loop-field.written.items c.put_field.new.fields.items c.in_ok-made.made
          (table_type c.args.table.now c.part.result) lt at
          (λ plain. c.field_number-number.ensures plain
          ∙ ap (λ (n : List ℕ). field_number (names_of_variant (type_variant (table_program c.args.table.now) u
          c.args.variant)) n) c.deref.ensures.value)
          c.in_ok-put_field.ensures c.part.ensures.is c.in_ok-made.ensures.shown c.loop-field.invariant.shown;
    }

pub elaborate_fields-returns : goal.elaborate_fields-returns
elaborate_fields-returns t c =
    let fields = c.args.fields.now.items in
    let i = c.loop-field.field-index in
    let le : length fields ≤ i = omega arith in
    record {
      shown = λ s types names is same tuple named fit.
          let inv = c.loop-field.invariant.shown s types names is same tuple named fit in
          sym (append-nil (given_fields (table_type c.args.table.now) c.loop-field.written.items))
          ∙ (ap (λ (xs : List FieldPat). given_fields (table_type c.args.table.now) c.loop-field.written.items ++
          built_fields s types names c.args.here.mode (field_list xs)) (sym (drop_past fields i le)) ∙ inv.1);
      made = c.loop-field.invariant.made;
    }

pub elaborate_items-part_behind-following-requires : goal.elaborate_items-part_behind-following-requires
elaborate_items-part_behind-following-requires t c = omega (
  arith,
  c.loop-item.invariant.small,
  c.args.items.now.small,
  c.args.items.now.ok.0,
)

pub elaborate_items-loop-item-init : goal.elaborate_items-loop-item-init
elaborate_items-loop-item-init t c = record {
  made = subst (λ (ps : List (DePat TyId)). AreMade (IsOf c.args.table.now) c.args.next.now c.args.next.now
      (trees ps ++ trees c.new-2.result.items)) (sym c.new.ensures.items)
      (subst (λ (ps : List (DePat TyId)). AreMade (IsOf c.args.table.now) c.args.next.now c.args.next.now (trees ps))
      (sym c.new-2.ensures.items) (made_none (IsOf c.args.table.now) c.args.next.now));
  left = omega (arith, c.len-left.ensures);
  small = omega arith;
  shown = subst (λ (ps : List (DePat TyId)). ItemsLeft c.args.table.now (table_type c.args.table.now c.args.here.ty)
      c.args.here.mode (list_of c.args.items.now.items) false 0 (list_of c.args.items.now.items) ps
      c.new-2.result.items)
      (sym c.new.ensures.items)
      (subst (λ (ps : List (DePat TyId)). ItemsLeft c.args.table.now (table_type c.args.table.now c.args.here.ty)
      c.args.here.mode (list_of c.args.items.now.items) false 0 (list_of c.args.items.now.items) [] ps)
      (sym c.new-2.ensures.items) (items_none c.args.table.now (table_type c.args.table.now c.args.here.ty)
      c.args.here.mode (list_of c.args.items.now.items)));
}

pub elaborate_items-loop-item-preserved-then-is_rest : goal.elaborate_items-loop-item-preserved-then-is_rest
elaborate_items-loop-item-preserved-then-is_rest t c =
    let items = c.args.items.now.items in
    let i = c.loop-item.item-index in
    let p = c.item-item.result in
    let at : p ≡ get_or items i p = c.item-item.is ∙ ap (λ (xs : List Pat). get_or xs i p)
    c.deref-item-items.ensures.value in
    let lt : i < length items = omega arith in
    let u = table_type c.args.table.now c.args.here.ty in
    let rest : is_rest (pattern_view p) ≡ true = sym c.is_rest.ensures ∙ c.if-is_rest.true in
    let count : (c.loop-item.left - 1) + (i + 1) ≡ length items = omega (arith, c.loop-item.invariant.left) in
    let all : c.len.result ≡ length items = omega (arith, c.len.ensures, c.args.items.now.ok.0) in
    let parts : c.item_count-parts.result ≡ item_count (table_program c.args.table.now) u (length items)
    = c.item_count-parts.ensures.is ∙ ap (λ (n : ℕ). item_count (table_program c.args.table.now) u n) all in
    let next : c.part_behind-following.result
    ≡ (if is_rest (pattern_view p) then item_count (table_program c.args.table.now) u (length items) -
    (c.loop-item.left - 1) else suc c.loop-item.number)
    = c.part_behind-following.ensures.is ∙ ap (λ (a : ℕ). if is_rest (pattern_view p) then a - (c.loop-item.left - 1)
    else suc c.loop-item.number) parts in
    record {
      made = c.loop-item.invariant.made;
      left = omega (arith, c.loop-item.invariant.left);
      small = c.part_behind-following.ensures.below (i + 1 + length items + 2 ^ 32)
          (omega (arith, c.loop-item.invariant.small)) (omega (arith, c.item_count-parts.ensures.few, all));
      shown = item_skipped c.args.table.now u c.args.here.mode items i c.loop-item.number
          c.part_behind-following.result (c.loop-item.left - 1) p lt at count next
          c.loop-item.behind c.loop-item.listed.front.items c.loop-item.listed.back.items rest
          c.loop-item.invariant.shown;
    }

pub elaborate_items-loop-item-preserved : goal.elaborate_items-loop-item-preserved
elaborate_items-loop-item-preserved t c =
    let items = c.args.items.now.items in
    let i = c.loop-item.item-index in
    let p = c.item-item.result in
    let at : p ≡ get_or items i p = c.item-item.is ∙ ap (λ (xs : List Pat). get_or xs i p)
    c.deref-item-items.ensures.value in
    let lt : i < length items = omega arith in
    let u = table_type c.args.table.now c.args.here.ty in
    let plain_item : is_rest (pattern_view p) ≡ false = sym c.is_rest.ensures ∙ c.if-is_rest.false in
    let count : (c.loop-item.left - 1) + (i + 1) ≡ length items = omega (arith, c.loop-item.invariant.left) in
    let all : c.len.result ≡ length items = omega (arith, c.len.ensures, c.args.items.now.ok.0) in
    let parts : c.item_count-parts.result ≡ item_count (table_program c.args.table.now) u (length items)
    = c.item_count-parts.ensures.is ∙ ap (λ (n : ℕ). item_count (table_program c.args.table.now) u n) all in
    let next : c.part_behind-following.result
    ≡ (if is_rest (pattern_view p) then item_count (table_program c.args.table.now) u (length items) -
    (c.loop-item.left - 1) else suc c.loop-item.number)
    = c.part_behind-following.ensures.is ∙ ap (λ (a : ℕ). if is_rest (pattern_view p) then a - (c.loop-item.left - 1)
    else suc c.loop-item.number) parts in
    record {
      made = put_made c.args.table.now c.args.next.now c.loop-item.next c.elaborate_pattern.new.next
          c.loop-item.behind c.loop-item.listed.front.items c.loop-item.listed.back.items
          c.put.new.listed.front.items c.put.new.listed.back.items c.in_ok-made.made c.in_ok-put.ensures.front
          c.in_ok-put.ensures.back c.loop-item.invariant.made c.in_ok-made.ensures.made;
      left = omega (arith, c.loop-item.invariant.left);
      small = c.part_behind-following.ensures.below (i + 1 + length items + 2 ^ 32)
          (omega (arith, c.loop-item.invariant.small)) (omega (arith, c.item_count-parts.ensures.few, all));
      shown = item_put c.args.table.now u c.args.here.mode items i c.loop-item.number c.part_behind-following.result
          (c.loop-item.left - 1) p c.loop-item.behind
          c.loop-item.listed.front.items c.loop-item.listed.back.items c.put.new.listed.front.items
          c.put.new.listed.back.items c.in_ok-made.made (table_type c.args.table.now c.item_type.result)
          lt at count next plain_item c.in_ok-put.ensures.front c.in_ok-put.ensures.back c.item_type.ensures.is
          c.in_ok-made.ensures.shown c.loop-item.invariant.shown;
    }

pub elaborate_items-returns : goal.elaborate_items-returns
elaborate_items-returns t c =
    let items = c.args.items.now.items in
    let i = c.loop-item.item-index in
    let le : length items ≤ i = omega arith in
    record {
      shown = items_all c.args.table.now (table_type c.args.table.now c.args.here.ty) c.args.here.mode (list_of items)
          (list_of (drop i items)) c.loop-item.behind c.loop-item.number
          c.loop-item.listed.front.items c.loop-item.listed.back.items (ap (λ (xs : List Pat). list_of xs)
          (drop_past items i le)) c.loop-item.invariant.shown;
      made = c.loop-item.invariant.made;
    }

pub elaborate_or-returns : goal.elaborate_or-returns
elaborate_or-returns t c = record {
  shown = λ from s is fit.
      or_shown c.args.table.now s c.args.here.ty c.elaborate_alternatives.new.next c.args.here.mode
      (list_of c.args.all.now.items) c.in_ok-choices.choices.now (tree c.in_ok-made.made)
      c.in_ok-made.ensures.tree (c.in_ok-choices.ensures.shown s is fit);
  made = c.in_ok-made.ensures.made c.args.table.now c.args.next.now c.requires.of c.in_ok-choices.ensures.made;
}

pub elaborate_alternatives-loop-alternative-init : goal.elaborate_alternatives-loop-alternative-init
elaborate_alternatives-loop-alternative-init t c = record {
  made = subst (λ (ps : List (DePat TyId)). AreMade (IsOf c.args.table.now) c.args.next.now c.args.next.now
      (trees ps)) (sym c.in_ok-choices.ensures) (made_none (IsOf c.args.table.now) c.args.next.now);
  shown = λ s is fit. (
    fit,
    ap (λ (ps : List (DePat TyId)). shown_list c.args.table.now ps ++ built_choices s
        (table_type c.args.table.now c.args.here.ty) c.args.here.mode (list_of c.args.all.now.items))
        c.in_ok-choices.ensures,
  );
}

pub elaborate_alternatives-loop-alternative-preserved : goal.elaborate_alternatives-loop-alternative-preserved
elaborate_alternatives-loop-alternative-preserved t c =
    let items = c.args.all.now.items in
    let i = c.loop-alternative.alternative-index in
    let p = c.alternative-item.result in
    let at : p ≡ get_or items i p = c.alternative-item.is ∙ ap (λ (xs : List Pat). get_or xs i p)
    c.deref-alternative-items.ensures.value in
    let lt : i < length items = omega arith in
    let u = table_type c.args.table.now c.args.here.ty in
    record {
      made = trees_made c.args.table.now c.args.next.now c.loop-alternative.next c.standing_as.new.next
          c.loop-alternative.choices.items c.push.new.self.items c.in_ok-made.made c.in_ok-push.ensures.items
          c.loop-alternative.invariant.made (c.in_ok-made.ensures.made c.args.table.now c.loop-alternative.next
          c.in_ok-pattern.ensures.made);
      shown = choice_pushed c.args.table.now u c.args.here.mode items i p c.loop-alternative.choices.items
          c.push.new.self.items c.in_ok-pattern.pattern c.in_ok-made.made lt at c.in_ok-push.ensures.items
          (c.in_ok-made.ensures.stands (table_type c.args.table.now)) c.in_ok-pattern.ensures.shown
          c.loop-alternative.invariant.shown;
    }

pub elaborate_alternatives-returns : goal.elaborate_alternatives-returns
elaborate_alternatives-returns t c =
    let items = c.args.all.now.items in
    let i = c.loop-alternative.alternative-index in
    let le : length items ≤ i = omega arith in
    let u = table_type c.args.table.now c.args.here.ty in
    rw c.place_list.ensures record {
      shown = λ s is fit.
          let inv = c.loop-alternative.invariant.shown s is fit in
          sym (append-nil (shown_list c.args.table.now c.loop-alternative.choices.items))
          ∙ (ap (λ (xs : List Pat). shown_list c.args.table.now c.loop-alternative.choices.items ++ built_choices s u
          c.args.here.mode (list_of xs)) (sym (drop_past items i le)) ∙ inv.1);
      made = c.loop-alternative.invariant.made;
    }

pub elaborate_kind-returns-in-Range : goal.elaborate_kind-returns-in-Range
elaborate_kind-returns-in-Range t c = record {
  shown = as_shape c.args.table.now (table_type c.args.table.now c.args.here.ty) c.args.here.mode c.args.from
      c.range_pattern.result (shape_view c.args.kind.now)
      (Range (option_map lit_view c.deref.result.now.low) (option_map lit_view c.deref.result.now.high)
      c.deref.result.now.closed)
      (ap shape_view c.in-Range.is ∙ (shape_range c.in-Range.range ∙ ap (λ (r : declared_range.RangePat). Range
      (option_map lit_view r.low) (option_map lit_view r.high) r.closed) (sym c.deref.ensures)))
      c.range_pattern.ensures.shown;
  made = c.range_pattern.ensures.made;
}

pub elaborate_kind-returns-in-Name : goal.elaborate_kind-returns-in-Name
elaborate_kind-returns-in-Name t c = record {
  shown = as_shape c.args.table.now (table_type c.args.table.now c.args.here.ty) c.args.here.mode c.args.from
      c.bare_name.result (shape_view c.args.kind.now)
      (Name c.deref-in-Name.result.now)
      (ap shape_view c.in-Name.is ∙ (shape_name c.in-Name.name ∙ ap Name (sym c.deref-in-Name.ensures.value)))
      (c.bare_name.ensures.shown c.args.from);
  made = c.bare_name.ensures.made;
}

pub elaborate_kind-returns-in-Some : goal.elaborate_kind-returns-in-Some
elaborate_kind-returns-in-Some t c = record {
  shown = as_shape c.args.table.now (table_type c.args.table.now c.args.here.ty) c.args.here.mode c.args.from
      c.elaborate_bound.result (shape_view c.args.kind.now)
      (BindAs c.deref-in-Some.result.now c.in-Bind.by_ref c.in-Bind.mutable (pattern_view c.deref-in-Some-2.result.now))
      (ap shape_view c.in-Bind.is ∙ (shape_bind c.in-Bind.name c.in-Bind.by_ref c.in-Bind.mutable c.in-Bind.sub
      ∙ (ap (λ o. bind_shape (rc_str_bytes c.in-Bind.name) c.in-Bind.by_ref c.in-Bind.mutable
      (option_map (λ b. pattern_view b.value) o)) c.in-Some.is
      ∙ (ap (λ (n : List ℕ). BindAs n c.in-Bind.by_ref c.in-Bind.mutable (pattern_view c.in-Some.sub.value))
      (sym c.deref-in-Some.ensures.value)
      ∙ ap (λ (q : Pat). BindAs c.deref-in-Some.result.now c.in-Bind.by_ref c.in-Bind.mutable (pattern_view q))
      (sym c.deref-in-Some-2.ensures)))))
      (if_ok c.elaborate_bound.result _ _
      (λ p h s is fit. h s is fit
      ∙ ap (λ (o : Mode). with_bound (record { name = c.deref-in-Some.result.now; mode = o; part = WholePart })
      (built s (table_type c.args.table.now c.args.here.ty) c.args.here.mode
      (pattern_view c.deref-in-Some-2.result.now))) c.written_mode.ensures)
      c.elaborate_bound.ensures.shown);
  made = c.elaborate_bound.ensures.made;
}

pub elaborate_kind-returns-in-None : goal.elaborate_kind-returns-in-None
elaborate_kind-returns-in-None t c = record {
  shown = as_shape c.args.table.now (table_type c.args.table.now c.args.here.ty) c.args.here.mode c.args.from
      c.binding.result (shape_view c.args.kind.now)
      (Bind c.deref-in-None.result.now c.in-Bind.by_ref c.in-Bind.mutable)
      (ap shape_view c.in-Bind.is ∙ (shape_bind c.in-Bind.name c.in-Bind.by_ref c.in-Bind.mutable c.in-Bind.sub
      ∙ (ap (λ o. bind_shape (rc_str_bytes c.in-Bind.name) c.in-Bind.by_ref c.in-Bind.mutable
      (option_map (λ b. pattern_view b.value) o)) c.in-None.is
      ∙ ap (λ (n : List ℕ). Bind n c.in-Bind.by_ref c.in-Bind.mutable) (sym c.deref-in-None.ensures.value))))
      (c.binding.ensures.shown c.args.from);
  made = c.binding.ensures.made;
}

pub elaborate_kind-returns-in-TupleForm : goal.elaborate_kind-returns-in-TupleForm
elaborate_kind-returns-in-TupleForm t c = record {
  shown = as_shape c.args.table.now (table_type c.args.table.now c.args.here.ty) c.args.here.mode c.args.from
      c.elaborate_tuple_form.result (shape_view c.args.kind.now)
      (TupleForm (path_view c.deref-in-TupleForm.result.now) (list_of c.in-TupleForm.items.items))
      (ap shape_view c.in-TupleForm.is ∙ (shape_form c.in-TupleForm.path c.in-TupleForm.items
      ∙ ap (λ (q : declared_path.Path). TupleForm (path_view q) (list_of c.in-TupleForm.items.items))
      (sym c.deref-in-TupleForm.ensures)))
      (c.elaborate_tuple_form.ensures.shown c.args.from);
  made = c.elaborate_tuple_form.ensures.made;
}

pub elaborate_kind-returns-in-Brace : goal.elaborate_kind-returns-in-Brace
elaborate_kind-returns-in-Brace t c = record {
  shown = as_shape c.args.table.now (table_type c.args.table.now c.args.here.ty) c.args.here.mode c.args.from
      c.elaborate_brace.result (shape_view c.args.kind.now)
      (Brace (path_view c.deref-in-Brace.result.now) (field_list c.in-Brace.fields.items) c.in-Brace.rest)
      (ap shape_view c.in-Brace.is ∙ (shape_brace c.in-Brace.path c.in-Brace.fields c.in-Brace.rest
      ∙ ap (λ (q : declared_path.Path). Brace (path_view q) (field_list c.in-Brace.fields.items) c.in-Brace.rest)
      (sym c.deref-in-Brace.ensures)))
      (c.elaborate_brace.ensures.shown c.args.from c.in-Brace.rest);
  made = c.elaborate_brace.ensures.made;
}

pub elaborate_kind-returns-in-Group : goal.elaborate_kind-returns-in-Group
elaborate_kind-returns-in-Group t c = record {
  shown = as_shape c.args.table.now (table_type c.args.table.now c.args.here.ty) c.args.here.mode c.args.from
      c.elaborate_pattern.result (shape_view c.args.kind.now)
      (Group (pattern_view c.deref-in-Group.result.now))
      (ap shape_view c.in-Group.is ∙ (shape_group c.in-Group.sub ∙ ap (λ (q : Pat). Group (pattern_view q))
      (sym c.deref-in-Group.ensures)))
      (if_ok c.elaborate_pattern.result _ _ (λ p h s is fit. h s is fit) c.elaborate_pattern.ensures.shown);
  made = c.elaborate_pattern.ensures.made;
}

pub elaborate_kind-returns-in-Point : goal.elaborate_kind-returns-in-Point
elaborate_kind-returns-in-Point t c = record {
  shown = as_shape c.args.table.now (table_type c.args.table.now c.args.here.ty) c.args.here.mode c.args.from
      c.elaborate_point.result (shape_view c.args.kind.now)
      (Point c.in-Point.mutable (pattern_view c.deref-in-Point.result.now))
      (ap shape_view c.in-Point.is ∙ (shape_point c.in-Point.mutable c.in-Point.sub
      ∙ ap (λ (q : Pat). Point c.in-Point.mutable (pattern_view q)) (sym c.deref-in-Point.ensures)))
      (c.elaborate_point.ensures.shown c.args.from c.in-Point.mutable);
  made = c.elaborate_point.ensures.made;
}
