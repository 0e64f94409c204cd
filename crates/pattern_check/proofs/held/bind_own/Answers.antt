use Rattle.std.proofs.Common.{ℕ, List, [], ◌∷◌, option_map, sym, ap, subst, ◌∙◌}
use Rattle.decl_syntax.specs.Patterns.{Shape, Name, bind_shape, pattern_view, shape_view}
use Rattle.type_table.specs.Tables.{table_type}
use Rattle.pattern_rules.specs.Settings.{place}
use Rattle.match_model.specs.declared.Mode.{Mode}
use Rattle.pattern_rules.specs.OtherRules.{BoundName, bound_by}
use Rattle.pattern_check.specs.NodeForms.{node_at}
use Rattle.pattern_check.specs.BoundSets.{shortened, bounds_view, bound_list, Binds}
use Rattle.pattern_check.proofs.SetLemmas.{binds_none, written_bound}
use Rattle.pattern_check.proofs.FieldLemmas.{if_ok}
use Rattle.pattern_check.proofs.Shapes.{shape_wild, shape_rest, shape_lit, shape_name, shape_bind, shape_path, shape_form, shape_brace, shape_tuple, shape_group, shape_slice, shape_point, shape_range, shape_or}
use Rattle.pattern_check.proofs.held.bind_own.Goals as goal

pub returns-in-Wild : goal.returns-in-Wild
returns-in-Wild c =
    let shape = ap shape_view c.in-Wild.is ∙ shape_wild in
    let old = bounds_view c.args.table.now c.args.bounds.now.keys in
    record {
      held = c.requires.held;
      binds = λ s at st before is. rw shape (binds_none old);
    }

pub returns-in-Rest : goal.returns-in-Rest
returns-in-Rest c =
    let shape = ap shape_view c.in-Rest.is ∙ shape_rest in
    let old = bounds_view c.args.table.now c.args.bounds.now.keys in
    record {
      held = c.requires.held;
      binds = λ s at st before is. rw shape (binds_none old);
    }

pub returns-in-Lit : goal.returns-in-Lit
returns-in-Lit c =
    let shape = ap shape_view c.in-Lit.is ∙ shape_lit c.in-Lit.field-0 in
    let old = bounds_view c.args.table.now c.args.bounds.now.keys in
    record {
      held = c.requires.held;
      binds = λ s at st before is. rw shape (binds_none old);
    }

pub returns-in-Range : goal.returns-in-Range
returns-in-Range c =
    let shape = ap shape_view c.in-Range.is ∙ shape_range c.in-Range.field-0 in
    let old = bounds_view c.args.table.now c.args.bounds.now.keys in
    record {
      held = c.requires.held;
      binds = λ s at st before is. rw shape (binds_none old);
    }

pub returns-in-Path : goal.returns-in-Path
returns-in-Path c =
    let shape = ap shape_view c.in-Path.is ∙ shape_path c.in-Path.field-0 in
    let old = bounds_view c.args.table.now c.args.bounds.now.keys in
    record {
      held = c.requires.held;
      binds = λ s at st before is. rw shape (binds_none old);
    }

pub returns-in-TupleForm : goal.returns-in-TupleForm
returns-in-TupleForm c =
    let shape = ap shape_view c.in-TupleForm.is ∙ shape_form c.in-TupleForm.path c.in-TupleForm.items in
    let old = bounds_view c.args.table.now c.args.bounds.now.keys in
    record {
      held = c.requires.held;
      binds = λ s at st before is. rw shape (binds_none old);
    }

pub returns-in-Brace : goal.returns-in-Brace
returns-in-Brace c =
    let shape = ap shape_view c.in-Brace.is ∙ shape_brace c.in-Brace.path c.in-Brace.fields c.in-Brace.rest in
    let old = bounds_view c.args.table.now c.args.bounds.now.keys in
    record {
      held = c.requires.held;
      binds = λ s at st before is. rw shape (binds_none old);
    }

pub returns-in-Tuple : goal.returns-in-Tuple
returns-in-Tuple c =
    let shape = ap shape_view c.in-Tuple.is ∙ shape_tuple c.in-Tuple.field-0 in
    let old = bounds_view c.args.table.now c.args.bounds.now.keys in
    record {
      held = c.requires.held;
      binds = λ s at st before is. rw shape (binds_none old);
    }

pub returns-in-Group : goal.returns-in-Group
returns-in-Group c =
    let shape = ap shape_view c.in-Group.is ∙ shape_group c.in-Group.field-0 in
    let old = bounds_view c.args.table.now c.args.bounds.now.keys in
    record {
      held = c.requires.held;
      binds = λ s at st before is. rw shape (binds_none old);
    }

pub returns-in-Slice : goal.returns-in-Slice
returns-in-Slice c =
    let shape = ap shape_view c.in-Slice.is ∙ shape_slice c.in-Slice.field-0 in
    let old = bounds_view c.args.table.now c.args.bounds.now.keys in
    record {
      held = c.requires.held;
      binds = λ s at st before is. rw shape (binds_none old);
    }

pub returns-in-Point : goal.returns-in-Point
returns-in-Point c =
    let shape = ap shape_view c.in-Point.is ∙ shape_point c.in-Point.mutable c.in-Point.inner in
    let old = bounds_view c.args.table.now c.args.bounds.now.keys in
    record {
      held = c.requires.held;
      binds = λ s at st before is. rw shape (binds_none old);
    }

pub returns-in-Or : goal.returns-in-Or
returns-in-Or c =
    let shape = ap shape_view c.in-Or.is ∙ shape_or c.in-Or.field-0 in
    let old = bounds_view c.args.table.now c.args.bounds.now.keys in
    record {
      held = c.requires.held;
      binds = λ s at st before is. rw shape (binds_none old);
    }

pub returns-in-Name : goal.returns-in-Name
returns-in-Name c =
    let shape = ap shape_view c.in-Name.is ∙ (shape_name c.in-Name.name ∙ ap (λ (m : List ℕ). Name m) (sym c.deref.ensures.value)) in
    record {
      held = c.bind_bare.ensures.held;
      binds = if_ok c.bind_bare.result _ _ (λ r h s at st before is. rw shape (h s is)) c.bind_bare.ensures.binds;
    }

pub returns-in-Bind : goal.returns-in-Bind
returns-in-Bind c =
    let table = c.args.table.now in
    let n = c.deref-in-Bind.result.now in
    let by_ref = c.in-Bind.by_ref in
    let mutable = c.in-Bind.mutable in
    let m = c.args.here.mode in
    let sub = option_map (λ b. pattern_view b.value) c.in-Bind.sub in
    let shape = ap shape_view c.in-Bind.is ∙ (shape_bind c.in-Bind.name by_ref mutable c.in-Bind.sub
    ∙ ap (λ (k : List ℕ). bind_shape k by_ref mutable sub) (sym c.deref-in-Bind.ensures.value)) in
    let old = bounds_view table c.args.bounds.now.keys in
    let new = bounds_view table c.bind.new.bounds.keys in
    let t = shortened (table_type table c.args.here.ty) c.args.taken in
    record {
      held = c.bind.ensures.held;
      binds = if_ok c.bind.result _ _
          (λ r h s at st before is.
          subst (λ (sh : Shape). Binds old new (bound_list (bound_by s (node_at at sh st (place t m) before)))) (sym shape)
          (subst (λ (bs : List BoundName). Binds old new bs) (sym (written_bound n by_ref mutable sub s at st (place t m) before))
          (subst (λ (o : Mode). Binds old new (record { name = n; type = t; mode = o } ∷ [])) c.written_mode-mode.ensures h)))
          c.bind.ensures.binds;
    }
