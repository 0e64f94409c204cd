use Rattle.std.proofs.Common.{List, ℕ, None, map, option_map, sym, ap, subst, ◌∙◌, IfOk}
use Rattle.decl_syntax.specs.declared.tree.Path as declared_path
use Rattle.decl_syntax.specs.declared.tree.RangePat as declared_range
use Rattle.decl_syntax.specs.declared.tree.Pat.{Pat}
use Rattle.decl_syntax.specs.declared.tree.FieldPat.{FieldPat}
use Rattle.decl_syntax.specs.Patterns.{Shape, Name, TupleForm, Brace, Tuple, Slice, Range, bind_shape, lit_view, path_view, pattern_view, field_view, shape_view, patterns_from, fields_from}
use Rattle.type_table.specs.Tables.{table_type}
use Rattle.pattern_check.specs.NodeForms.{standing_view, OwnFaultIs}
use Rattle.pattern_check.proofs.OwnFaults.{wild_none, rest_none, group_none, or_none}
use Rattle.pattern_check.proofs.Shapes.{shape_wild, shape_rest, shape_lit, shape_name, shape_bind, shape_path, shape_form, shape_brace, shape_tuple, shape_group, shape_slice, shape_point, shape_range, shape_or}
use Rattle.pattern_check.proofs.own_fault.least_broken.Goals as goal

pub returns-in-Wild : goal.returns-in-Wild
returns-in-Wild c =
    let st = standing_view c.args.standing in
    let t = table_type c.args.table.now c.args.place.ty in
    let shape = ap shape_view c.in-Wild.is ∙ shape_wild in
    subst (λ (sh : Shape). OwnFaultIs c.args.table.now c.args.edition sh st t c.args.place.mode c.args.twice None) (sym shape)
    (λ s at before is e tw. wild_none s at st t c.args.place.mode before)

pub returns-in-Rest : goal.returns-in-Rest
returns-in-Rest c =
    let st = standing_view c.args.standing in
    let t = table_type c.args.table.now c.args.place.ty in
    let shape = ap shape_view c.in-Rest.is ∙ shape_rest in
    subst (λ (sh : Shape). OwnFaultIs c.args.table.now c.args.edition sh st t c.args.place.mode c.args.twice None) (sym shape)
    (λ s at before is e tw. rest_none s at st t c.args.place.mode before)

pub returns-in-Group : goal.returns-in-Group
returns-in-Group c =
    let st = standing_view c.args.standing in
    let t = table_type c.args.table.now c.args.place.ty in
    let shape = ap shape_view c.in-Group.is ∙ shape_group c.in-Group.field-0 in
    subst (λ (sh : Shape). OwnFaultIs c.args.table.now c.args.edition sh st t c.args.place.mode c.args.twice None) (sym shape)
    (λ s at before is e tw. group_none s at st t c.args.place.mode before (pattern_view c.in-Group.field-0.value))

pub returns-in-Or : goal.returns-in-Or
returns-in-Or c =
    let st = standing_view c.args.standing in
    let t = table_type c.args.table.now c.args.place.ty in
    let shape = ap shape_view c.in-Or.is ∙ shape_or c.in-Or.field-0 in
    subst (λ (sh : Shape). OwnFaultIs c.args.table.now c.args.edition sh st t c.args.place.mode c.args.twice None) (sym shape)
    (λ s at before is e tw. or_none s at st t c.args.place.mode before (patterns_from (map pattern_view c.in-Or.field-0.items)))

pub returns-in-Lit : goal.returns-in-Lit
returns-in-Lit c =
    let st = standing_view c.args.standing in
    let t = table_type c.args.table.now c.args.place.ty in
    let shape = ap shape_view c.in-Lit.is ∙ shape_lit c.in-Lit.lit in
    subst (λ (sh : Shape). OwnFaultIs c.args.table.now c.args.edition sh st t c.args.place.mode c.args.twice c.literal_fault.result) (sym shape)
    (c.literal_fault.ensures c.args.edition st c.args.place.mode c.args.twice)

pub returns-in-Range : goal.returns-in-Range
returns-in-Range c =
    let st = standing_view c.args.standing in
    let t = table_type c.args.table.now c.args.place.ty in
    let shape = ap shape_view c.in-Range.is ∙ (shape_range c.in-Range.range ∙ ap (λ (r : declared_range.RangePat). Range (option_map lit_view r.low) (option_map lit_view r.high) r.closed) (sym c.deref.ensures)) in
    subst (λ (sh : Shape). OwnFaultIs c.args.table.now c.args.edition sh st t c.args.place.mode c.args.twice c.range_fault.result) (sym shape)
    (c.range_fault.ensures c.args.edition c.args.place.mode c.args.twice)

pub returns-in-Name : goal.returns-in-Name
returns-in-Name c =
    let st = standing_view c.args.standing in
    let t = table_type c.args.table.now c.args.place.ty in
    let shape = ap shape_view c.in-Name.is ∙ (shape_name c.in-Name.name ∙ ap (λ (n : List ℕ). Name n) (sym c.deref-in-Name.ensures.value)) in
    subst (λ (sh : Shape). OwnFaultIs c.args.table.now c.args.edition sh st t c.args.place.mode c.args.twice c.name_fault.result) (sym shape)
    (c.name_fault.ensures c.args.edition c.args.place.mode)

pub returns-in-Bind : goal.returns-in-Bind
returns-in-Bind c =
    let st = standing_view c.args.standing in
    let t = table_type c.args.table.now c.args.place.ty in
    let shape = ap shape_view c.in-Bind.is ∙ (shape_bind c.in-Bind.name c.in-Bind.by_ref c.in-Bind.mutable c.in-Bind.sub ∙ ap (λ (n : List ℕ). bind_shape n c.in-Bind.by_ref c.in-Bind.mutable (option_map (λ b. pattern_view b.value) c.in-Bind.sub)) (sym c.deref-in-Bind.ensures.value)) in
    subst (λ (sh : Shape). OwnFaultIs c.args.table.now c.args.edition sh st t c.args.place.mode c.args.twice c.binding_fault.result) (sym shape)
    (c.binding_fault.ensures c.in-Bind.by_ref c.in-Bind.mutable (option_map (λ b. pattern_view b.value) c.in-Bind.sub) t c.is_written.ensures)

pub returns-in-Path : goal.returns-in-Path
returns-in-Path c =
    let st = standing_view c.args.standing in
    let t = table_type c.args.table.now c.args.place.ty in
    let shape = ap shape_view c.in-Path.is ∙ shape_path c.in-Path.path in
    subst (λ (sh : Shape). OwnFaultIs c.args.table.now c.args.edition sh st t c.args.place.mode c.args.twice c.path_fault.result) (sym shape)
    (c.path_fault.ensures c.args.edition st c.args.place.mode c.args.twice)

pub returns-in-TupleForm : goal.returns-in-TupleForm
returns-in-TupleForm c =
    let st = standing_view c.args.standing in
    let t = table_type c.args.table.now c.args.place.ty in
    let shape = ap shape_view c.in-TupleForm.is ∙ (shape_form c.in-TupleForm.path c.in-TupleForm.items ∙ (ap (λ (p : declared_path.Path). TupleForm (path_view p) (patterns_from (map pattern_view c.in-TupleForm.items.items))) (sym c.deref-in-TupleForm.ensures) ∙ ap (λ (ps : List Pat). TupleForm (path_view c.deref-in-TupleForm.result.now) (patterns_from (map pattern_view ps))) (sym c.deref-in-TupleForm-2.ensures.value))) in
    subst (λ (sh : Shape). OwnFaultIs c.args.table.now c.args.edition sh st t c.args.place.mode c.args.twice c.tuple_form_fault.result) (sym shape)
    (c.tuple_form_fault.ensures c.args.edition st c.args.place.mode c.args.twice)

pub returns-in-Tuple : goal.returns-in-Tuple
returns-in-Tuple c =
    let st = standing_view c.args.standing in
    let t = table_type c.args.table.now c.args.place.ty in
    let shape = ap shape_view c.in-Tuple.is ∙ (shape_tuple c.in-Tuple.items ∙ ap (λ (ps : List Pat). Tuple (patterns_from (map pattern_view ps))) (sym c.deref-in-Tuple.ensures.value)) in
    subst (λ (sh : Shape). OwnFaultIs c.args.table.now c.args.edition sh st t c.args.place.mode c.args.twice c.tuple_fault.result) (sym shape)
    (c.tuple_fault.ensures c.args.edition st c.args.place.mode c.args.twice)

pub returns-in-Slice : goal.returns-in-Slice
returns-in-Slice c =
    let st = standing_view c.args.standing in
    let t = table_type c.args.table.now c.args.place.ty in
    let shape = ap shape_view c.in-Slice.is ∙ (shape_slice c.in-Slice.items ∙ ap (λ (ps : List Pat). Slice (patterns_from (map pattern_view ps))) (sym c.deref-in-Slice.ensures.value)) in
    subst (λ (sh : Shape). OwnFaultIs c.args.table.now c.args.edition sh st t c.args.place.mode c.args.twice c.slice_fault.result) (sym shape)
    (c.slice_fault.ensures c.args.edition st c.args.place.mode c.args.twice)

pub returns-in-Point : goal.returns-in-Point
returns-in-Point c =
    let st = standing_view c.args.standing in
    let t = table_type c.args.table.now c.args.place.ty in
    let shape = ap shape_view c.in-Point.is ∙ shape_point c.in-Point.mutable c.in-Point.inner in
    subst (λ (sh : Shape). OwnFaultIs c.args.table.now c.args.edition sh st t c.args.place.mode c.args.twice c.point_fault.result) (sym shape)
    (c.point_fault.ensures st (pattern_view c.in-Point.inner.value) c.args.twice)

pub returns-in-Brace : goal.returns-in-Brace
returns-in-Brace c =
    let st = standing_view c.args.standing in
    let t = table_type c.args.table.now c.args.place.ty in
    let shape = ap shape_view c.in-Brace.is ∙ (shape_brace c.in-Brace.path c.in-Brace.fields c.in-Brace.rest ∙ (ap (λ (p : declared_path.Path). Brace (path_view p) (fields_from (map field_view c.in-Brace.fields.items)) c.in-Brace.rest) (sym c.deref-in-Brace.ensures) ∙ ap (λ (fs : List FieldPat). Brace (path_view c.deref-in-Brace.result.now) (fields_from (map field_view fs)) c.in-Brace.rest) (sym c.deref-in-Brace-2.ensures.value))) in
    subst (λ (sh : Shape). IfOk c.brace_fault.result (OwnFaultIs c.args.table.now c.args.edition sh st t c.args.place.mode c.args.twice)) (sym shape)
    (c.brace_fault.ensures c.args.edition st c.args.place.mode c.args.twice)
