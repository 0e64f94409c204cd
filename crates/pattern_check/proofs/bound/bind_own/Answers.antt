use Rattle.std.proofs.Common.{ℕ, List, map, option_map, refl, sym, ap, subst, ◌∙◌}
use Rattle.decl_syntax.specs.Patterns.{Shape, pattern_view, shape_view}
use Rattle.pattern_check.specs.Walks.{text_at, Adds, own_names}
use Rattle.pattern_check.proofs.NameLists.{adds_none}
use Rattle.pattern_check.proofs.FieldLemmas.{if_ok}
use Rattle.decl_syntax.specs.Patterns.{Name, bind_shape}
use Rattle.pattern_rules.specs.Namings.{is_path_name}
use Rattle.pattern_check.proofs.BoundLemmas.{bare_twice, written_twice, written_names}
use Rattle.pattern_check.proofs.Shapes.{shape_wild, shape_rest, shape_lit, shape_name, shape_bind, shape_path, shape_form, shape_brace, shape_tuple, shape_group, shape_slice, shape_point, shape_range, shape_or}
use Rattle.pattern_check.proofs.bound.bind_own.Goals as goal

pub returns-in-Wild : goal.returns-in-Wild
returns-in-Wild c =
    let shape = ap shape_view c.in-Wild.is ∙ shape_wild in
    record {
      twice = λ s at standing p before is h. rw shape refl;
      adds = λ s is. subst (λ (sh : Shape). Adds (map text_at c.args.names.now.keys) (map text_at c.args.names.now.keys) (own_names s sh)) (sym shape) (adds_none (map text_at c.args.names.now.keys));
    }

pub returns-in-Rest : goal.returns-in-Rest
returns-in-Rest c =
    let shape = ap shape_view c.in-Rest.is ∙ shape_rest in
    record {
      twice = λ s at standing p before is h. rw shape refl;
      adds = λ s is. subst (λ (sh : Shape). Adds (map text_at c.args.names.now.keys) (map text_at c.args.names.now.keys) (own_names s sh)) (sym shape) (adds_none (map text_at c.args.names.now.keys));
    }

pub returns-in-Lit : goal.returns-in-Lit
returns-in-Lit c =
    let shape = ap shape_view c.in-Lit.is ∙ shape_lit c.in-Lit.field-0 in
    record {
      twice = λ s at standing p before is h. rw shape refl;
      adds = λ s is. subst (λ (sh : Shape). Adds (map text_at c.args.names.now.keys) (map text_at c.args.names.now.keys) (own_names s sh)) (sym shape) (adds_none (map text_at c.args.names.now.keys));
    }

pub returns-in-Range : goal.returns-in-Range
returns-in-Range c =
    let shape = ap shape_view c.in-Range.is ∙ shape_range c.in-Range.field-0 in
    record {
      twice = λ s at standing p before is h. rw shape refl;
      adds = λ s is. subst (λ (sh : Shape). Adds (map text_at c.args.names.now.keys) (map text_at c.args.names.now.keys) (own_names s sh)) (sym shape) (adds_none (map text_at c.args.names.now.keys));
    }

pub returns-in-Path : goal.returns-in-Path
returns-in-Path c =
    let shape = ap shape_view c.in-Path.is ∙ shape_path c.in-Path.field-0 in
    record {
      twice = λ s at standing p before is h. rw shape refl;
      adds = λ s is. subst (λ (sh : Shape). Adds (map text_at c.args.names.now.keys) (map text_at c.args.names.now.keys) (own_names s sh)) (sym shape) (adds_none (map text_at c.args.names.now.keys));
    }

pub returns-in-TupleForm : goal.returns-in-TupleForm
returns-in-TupleForm c =
    let shape = ap shape_view c.in-TupleForm.is ∙ shape_form c.in-TupleForm.path c.in-TupleForm.items in
    record {
      twice = λ s at standing p before is h. rw shape refl;
      adds = λ s is. subst (λ (sh : Shape). Adds (map text_at c.args.names.now.keys) (map text_at c.args.names.now.keys) (own_names s sh)) (sym shape) (adds_none (map text_at c.args.names.now.keys));
    }

pub returns-in-Brace : goal.returns-in-Brace
returns-in-Brace c =
    let shape = ap shape_view c.in-Brace.is ∙ shape_brace c.in-Brace.path c.in-Brace.fields c.in-Brace.rest in
    record {
      twice = λ s at standing p before is h. rw shape refl;
      adds = λ s is. subst (λ (sh : Shape). Adds (map text_at c.args.names.now.keys) (map text_at c.args.names.now.keys) (own_names s sh)) (sym shape) (adds_none (map text_at c.args.names.now.keys));
    }

pub returns-in-Tuple : goal.returns-in-Tuple
returns-in-Tuple c =
    let shape = ap shape_view c.in-Tuple.is ∙ shape_tuple c.in-Tuple.field-0 in
    record {
      twice = λ s at standing p before is h. rw shape refl;
      adds = λ s is. subst (λ (sh : Shape). Adds (map text_at c.args.names.now.keys) (map text_at c.args.names.now.keys) (own_names s sh)) (sym shape) (adds_none (map text_at c.args.names.now.keys));
    }

pub returns-in-Group : goal.returns-in-Group
returns-in-Group c =
    let shape = ap shape_view c.in-Group.is ∙ shape_group c.in-Group.field-0 in
    record {
      twice = λ s at standing p before is h. rw shape refl;
      adds = λ s is. subst (λ (sh : Shape). Adds (map text_at c.args.names.now.keys) (map text_at c.args.names.now.keys) (own_names s sh)) (sym shape) (adds_none (map text_at c.args.names.now.keys));
    }

pub returns-in-Slice : goal.returns-in-Slice
returns-in-Slice c =
    let shape = ap shape_view c.in-Slice.is ∙ shape_slice c.in-Slice.field-0 in
    record {
      twice = λ s at standing p before is h. rw shape refl;
      adds = λ s is. subst (λ (sh : Shape). Adds (map text_at c.args.names.now.keys) (map text_at c.args.names.now.keys) (own_names s sh)) (sym shape) (adds_none (map text_at c.args.names.now.keys));
    }

pub returns-in-Point : goal.returns-in-Point
returns-in-Point c =
    let shape = ap shape_view c.in-Point.is ∙ shape_point c.in-Point.mutable c.in-Point.inner in
    record {
      twice = λ s at standing p before is h. rw shape refl;
      adds = λ s is. subst (λ (sh : Shape). Adds (map text_at c.args.names.now.keys) (map text_at c.args.names.now.keys) (own_names s sh)) (sym shape) (adds_none (map text_at c.args.names.now.keys));
    }

pub returns-in-Or : goal.returns-in-Or
returns-in-Or c =
    let shape = ap shape_view c.in-Or.is ∙ shape_or c.in-Or.field-0 in
    record {
      twice = λ s at standing p before is h. rw shape refl;
      adds = λ s is. subst (λ (sh : Shape). Adds (map text_at c.args.names.now.keys) (map text_at c.args.names.now.keys) (own_names s sh)) (sym shape) (adds_none (map text_at c.args.names.now.keys));
    }

pub returns-in-Name : goal.returns-in-Name
returns-in-Name c =
    let n = c.deref.result.now in
    let shape = ap shape_view c.in-Name.is ∙ (shape_name c.in-Name.name ∙ ap (λ (m : List ℕ). Name m) (sym c.deref.ensures.value)) in
    record {
      twice = if_ok c.bind_bare.result _ _
          (λ b h s at standing p before is holds.
          rw shape (h s is ∙ bare_twice (is_path_name s n) n (map text_at c.args.names.now.keys) before holds s at standing p refl))
          c.bind_bare.ensures.twice;
      adds = if_ok c.bind_bare.result _ _ (λ b h s is. rw shape (h s is)) c.bind_bare.ensures.adds;
    }

pub returns-in-Bind : goal.returns-in-Bind
returns-in-Bind c =
    let n = c.deref-in-Bind.result.now in
    let sub = option_map (λ b. pattern_view b.value) c.in-Bind.sub in
    let shape = ap shape_view c.in-Bind.is ∙ (shape_bind c.in-Bind.name c.in-Bind.by_ref c.in-Bind.mutable c.in-Bind.sub
    ∙ ap (λ (m : List ℕ). bind_shape m c.in-Bind.by_ref c.in-Bind.mutable sub) (sym c.deref-in-Bind.ensures.value)) in
    record {
      twice = if_ok c.bind.result _ _
          (λ b h s at standing p before is holds. rw shape (h ∙ (holds n ∙ written_twice n c.in-Bind.by_ref c.in-Bind.mutable sub s at standing p before)))
          c.bind.ensures.twice;
      adds = if_ok c.bind.result _ _ (λ b h s is. rw shape (rw (written_names n c.in-Bind.by_ref c.in-Bind.mutable sub s) h)) c.bind.ensures.adds;
    }
