use Rattle.std.proofs.Common.{◌≡◌, ◌∙◌, List, length, reverse, subst, refl, sym, ap, map, arith}
use Rattle.std.specs.List.{All}
use Rattle.std.proofs.lemmas.List.{length-map}
use Rattle.match_model.specs.Lowering.{ctors_at}
use Rattle.pat_context.specs.Views.{plain_ctor}
use Rattle.pat_context.specs.declared.ctor.Ctor.{Ctor}
use Rattle.constructor_sets.specs.Columns.{plain_ctors}
use Rattle.constructor_sets.specs.Spans.{AreSpans}
use Rattle.pattern_matrix.specs.Halving.{AreLeafSpans}
use Rattle.pattern_matrix.specs.Parts.{plain_spans, IsFull}
use Rattle.pattern_matrix.specs.Sparse.{columns_from}
use Rattle.keyed_matrix.specs.Deciding.{table_decides}
use Rattle.keyed_matrix.specs.Steps.{AreLonger}
use Rattle.keyed_matrix.specs.Views.{plain_rows}
use Rattle.tree_eval.specs.Nodes.{plain_branch}
use Rattle.tree_eval.specs.Trees.{table_trees}
use Rattle.tree_eval.specs.declared.tree.Case.TheVariants.{Else}
use Rattle.decision_tree.specs.declared.frames.Frame.TheVariants.{Switch}
use Rattle.decision_tree.specs.declared.frames.Looked.{Looked}
use Rattle.decision_tree.specs.Cuts.{column_leaves, mirrored}
use Rattle.decision_tree.specs.Matrices.{matrix_columns, matrix_rows}
use Rattle.decision_tree.specs.Waiting.{Awaits, IsCutOf}
use Rattle.decision_tree.proofs.Cuts.{cut-begun}
use Rattle.decision_tree.proofs.Knowing.{dropped-scope}
use Rattle.decision_tree.proofs.Beginning.{left-begun, else-begun}
use Rattle.decision_tree.proofs.Going.{without-cut}
use Rattle.decision_tree.proofs.Looking.{within, read, longer, is-type, sharp, dropped-at}
use Rattle.decision_tree.proofs.Turning.{last-first, found-at}
use Rattle.decision_tree.proofs.lowering.begin_switch.Goals as goal

pub ctors_at-requires : goal.ctors_at-requires
ctors_at-requires g c =
    let cx = c.args.cx.now in
    let IsType = g.C.PatCx.is_type cx in
    let context = g.C.PatCx.context cx in
    let V = g.C.PatCx.is_value cx in
    let decides = table_decides c.args.decisions.now in
    let frames = reverse c.args.frames.now.items in
    let now = table_trees c.args.table.now in
    let values = g.met.C.PatCx.values cx in
    let e = c.args.e in
    let i = c.args.i in
    let o = c.requires.1.1 in
    subst (λ rs. AreLonger i (plain_rows rs)) (sym c.deref.ensures.value)
    (longer IsType context V values decides i e o.column o.ready o.there)

pub index-requires : goal.index-requires
index-requires g c = omega (arith, c.args.e.columns.ok.0, within c.args.e c.args.i c.requires.1.1.column c.requires.1.1.there)

pub index-requires-2 : goal.index-requires-2
index-requires-2 g c = omega (arith, c.args.e.columns.ok.0, within c.args.e c.args.i c.requires.1.1.column c.requires.1.1.there)

pub present-requires-clause-ty : goal.present-requires-clause-ty
present-requires-clause-ty g c =
    let cx = c.args.cx.now in
    let IsType = g.C.PatCx.is_type cx in
    let context = g.C.PatCx.context cx in
    let V = g.C.PatCx.is_value cx in
    let decides = table_decides c.args.decisions.now in
    let frames = reverse c.args.frames.now.items in
    let now = table_trees c.args.table.now in
    let values = g.met.C.PatCx.values cx in
    let e = c.args.e in
    let i = c.args.i in
    let o = c.requires.1.1 in
    is-type IsType context V values decides i e o.column o.ready o.there c.index.result.now c.index.ensures

pub present-requires-clause-heads : goal.present-requires-clause-heads
present-requires-clause-heads g c =
    let cx = c.args.cx.now in
    let IsType = g.C.PatCx.is_type cx in
    let context = g.C.PatCx.context cx in
    let V = g.C.PatCx.is_value cx in
    let decides = table_decides c.args.decisions.now in
    let frames = reverse c.args.frames.now.items in
    let now = table_trees c.args.table.now in
    let values = g.met.C.PatCx.values cx in
    let e = c.args.e in
    let i = c.args.i in
    let o = c.requires.1.1 in
    sharp IsType context V values decides i e o.column o.ready o.there c.index.result.now c.index.ensures
    (plain_ctors c.deref-2.result.now)
    (ap plain_ctors c.deref-2.ensures.value ∙ c.in_ok-ctors.ensures ∙ ap (λ rs. ctors_at i (plain_rows rs)) c.deref.ensures.value)

pub row_spans-requires-clause-longer : goal.row_spans-requires-clause-longer
row_spans-requires-clause-longer g c =
    let cx = c.args.cx.now in
    let IsType = g.C.PatCx.is_type cx in
    let context = g.C.PatCx.context cx in
    let V = g.C.PatCx.is_value cx in
    let decides = table_decides c.args.decisions.now in
    let values = g.met.C.PatCx.values cx in
    let o = c.requires.1.1 in
    subst (λ rs. AreLonger c.args.i (plain_rows rs)) (sym c.deref-3.ensures.value)
    (longer IsType context V values decides c.args.i c.args.e o.column o.ready o.there)

pub row_spans-requires-clause-spans : goal.row_spans-requires-clause-spans
row_spans-requires-clause-spans g c =
    let f = c.in_ok-found.found in
    let heads : plain_ctors c.deref-2.result.now ≡ ctors_at c.args.i (plain_rows c.deref-3.result.now) =
    ap plain_ctors c.deref-2.ensures.value ∙ c.in_ok-ctors.ensures
    ∙ ap (λ rs. ctors_at c.args.i (plain_rows rs)) (c.deref.ensures.value ∙ sym c.deref-3.ensures.value) in
    subst (λ ss. AreSpans (plain_ctors c.deref-4.result.now) (ctors_at c.args.i (plain_rows c.deref-3.result.now)) (plain_spans ss))
    (sym c.deref-5.ensures.value)
    (subst (λ ks. AreSpans (plain_ctors ks) (ctors_at c.args.i (plain_rows c.deref-3.result.now)) (plain_spans f.spans.items))
    (sym c.deref-4.ensures.value)
    (subst (λ hs. AreSpans (plain_ctors f.ctors.items) hs (plain_spans f.spans.items)) heads c.in_ok-found.ensures.each))

pub dropped-requires-clause-within : goal.dropped-requires-clause-within
dropped-requires-clause-within g c = within c.args.e c.args.i c.requires.1.1.column c.requires.1.1.there

pub returns-then-found-clause-turn : goal.returns-then-found-clause-turn
returns-then-found-clause-turn g c =
    let cx = c.args.cx.now in
    let IsType = g.C.PatCx.is_type cx in
    let context = g.C.PatCx.context cx in
    let V = g.C.PatCx.is_value cx in
    let decides = table_decides c.args.decisions.now in
    let frames = reverse c.args.frames.now.items in
    let now = table_trees c.args.table.now in
    let values = g.met.C.PatCx.values cx in
    let e = c.args.e in
    let i = c.args.i in
    let o = c.requires.1.1 in
    let f = c.in_ok-found.found in
    let next = c.in_ok-next.next in
    let l : Looked g.row.C-Ty.Denot = record { matrix = e; column = i; pieces = f.ctors; spans = c.in_ok-spans.spans; todo = c.in_ok-todo.todo; cases = c.new.result } in
    let n : c.len.result ≡ length (plain_ctors f.ctors.items) =
    omega (arith, c.len.ensures, f.ctors.ok.0, length-map f.ctors.items plain_ctor) in
    let cut : IsCutOf l = cut-begun i (matrix_rows e) (plain_ctors f.ctors.items) c.in_ok-spans.spans.items c.in_ok-todo.todo.items
    c.in_ok-spans.ensures.0
    (subst (λ ks. AreLeafSpans (plain_ctors ks) (column_leaves i (matrix_rows e)) c.in_ok-spans.ensures.0) c.deref-4.ensures.value
    (subst (λ rs. AreLeafSpans (plain_ctors c.deref-4.result.now) (column_leaves i (plain_rows rs)) c.in_ok-spans.ensures.0)
    c.deref-3.ensures.value c.in_ok-spans.ensures.1))
    (subst (λ (ks : List Ctor). plain_spans c.in_ok-spans.spans.items ≡ map (mirrored (length (plain_ctors ks))) c.in_ok-spans.ensures.0)
    c.deref-4.ensures.value c.in_ok-spans.ensures.2)
    (c.in_ok-todo.ensures.pieces ∙ ap (columns_from 0) n)
    (subst (λ ss. All (IsFull ss) c.in_ok-todo.todo.items) c.deref-6.ensures.value c.in_ok-todo.ensures.full) in
    let found = found-at IsType context V decides g.root c.index.result.now c.index-2.result.now o.column (plain_ctors c.deref-2.result.now)
    (ctors_at i (matrix_rows e)) (plain_ctors f.ctors.items) (plain_ctors f.gaps.items) f.missing
    (read e i o.column o.there c.index.result.now c.index.ensures)
    (read e i o.column o.there c.index-2.result.now c.index-2.ensures)
    (ap plain_ctors c.deref-2.ensures.value ∙ c.in_ok-ctors.ensures ∙ ap (λ rs. ctors_at i (plain_rows rs)) c.deref.ensures.value)
    c.in_ok-found.ensures.found in
    let over = dropped-at context decides i e next o.column o.there c.in_ok-next.ensures.dropped in (
      c.in_ok-next.ensures.good,
      subst (λ fs. Awaits IsType context V decides g.root fs now (matrix_columns next) (matrix_rows next))
          (sym (last-first c.args.frames.now.items c.push.new.self.items (Switch l Else) c.in_ok-push.ensures.items))
          (else-begun IsType context V decides g.root frames now l o (plain_ctors f.gaps.items) f.missing found c.tables_are_built.ensures
          (ap (map plain_branch) c.new.ensures.items) cut c.if-found.true Else (matrix_columns next) (matrix_rows next) refl over.0
          over.1),
      dropped-scope IsType context V decides g.root i e next o.scope c.in_ok-next.ensures.dropped,
    )

pub next_case-requires : goal.next_case-requires
next_case-requires g c κs inside =
    let cx = c.args.cx.now in
    let IsType = g.C.PatCx.is_type cx in
    let context = g.C.PatCx.context cx in
    let V = g.C.PatCx.is_value cx in
    let decides = table_decides c.args.decisions.now in
    let frames = reverse c.args.frames.now.items in
    let now = table_trees c.args.table.now in
    let values = g.met.C.PatCx.values cx in
    let e = c.args.e in
    let i = c.args.i in
    let o = c.requires.1.1 in
    let f = c.in_ok-found.found in
    let l : Looked g.row.C-Ty.Denot = record { matrix = e; column = i; pieces = f.ctors; spans = c.in_ok-spans.spans; todo = c.in_ok-todo.todo; cases = c.new.result } in
    let n : c.len.result ≡ length (plain_ctors f.ctors.items) =
    omega (arith, c.len.ensures, f.ctors.ok.0, length-map f.ctors.items plain_ctor) in
    let cut : IsCutOf l = cut-begun i (matrix_rows e) (plain_ctors f.ctors.items) c.in_ok-spans.spans.items c.in_ok-todo.todo.items
    c.in_ok-spans.ensures.0
    (subst (λ ks. AreLeafSpans (plain_ctors ks) (column_leaves i (matrix_rows e)) c.in_ok-spans.ensures.0) c.deref-4.ensures.value
    (subst (λ rs. AreLeafSpans (plain_ctors c.deref-4.result.now) (column_leaves i (plain_rows rs)) c.in_ok-spans.ensures.0)
    c.deref-3.ensures.value c.in_ok-spans.ensures.1))
    (subst (λ (ks : List Ctor). plain_spans c.in_ok-spans.spans.items ≡ map (mirrored (length (plain_ctors ks))) c.in_ok-spans.ensures.0)
    c.deref-4.ensures.value c.in_ok-spans.ensures.2)
    (c.in_ok-todo.ensures.pieces ∙ ap (columns_from 0) n)
    (subst (λ ss. All (IsFull ss) c.in_ok-todo.todo.items) c.deref-6.ensures.value c.in_ok-todo.ensures.full) in
    let found = found-at IsType context V decides g.root c.index.result.now c.index-2.result.now o.column (plain_ctors c.deref-2.result.now)
    (ctors_at i (matrix_rows e)) (plain_ctors f.ctors.items) (plain_ctors f.gaps.items) f.missing
    (read e i o.column o.there c.index.result.now c.index.ensures)
    (read e i o.column o.there c.index-2.result.now c.index-2.ensures)
    (ap plain_ctors c.deref-2.ensures.value ∙ c.in_ok-ctors.ensures ∙ ap (λ rs. ctors_at i (plain_rows rs)) c.deref.ensures.value)
    c.in_ok-found.ensures.found in (
      inside.0,
      (
        inside.1,
        left-begun IsType context V decides g.root frames now l o (plain_ctors f.gaps.items) f.missing found c.tables_are_built.ensures
            (ap (map plain_branch) c.new.ensures.items) cut c.if-found.false,
      ),
    )

pub else_first-requires : goal.else_first-requires
else_first-requires g c κs inside =
    let cx = c.args.cx.now in
    let IsType = g.C.PatCx.is_type cx in
    let context = g.C.PatCx.context cx in
    let V = g.C.PatCx.is_value cx in
    let decides = table_decides c.args.decisions.now in
    let frames = reverse c.args.frames.now.items in
    let now = table_trees c.args.table.now in
    let values = g.met.C.PatCx.values cx in
    let e = c.args.e in
    let i = c.args.i in
    let o = c.requires.1.1 in
    let f = c.in_ok-found.found in
    let l : Looked g.row.C-Ty.Denot = record { matrix = e; column = i; pieces = f.ctors; spans = c.in_ok-spans.spans; todo = c.in_ok-todo.todo; cases = c.new.result } in
    let n : c.len.result ≡ length (plain_ctors f.ctors.items) =
    omega (arith, c.len.ensures, f.ctors.ok.0, length-map f.ctors.items plain_ctor) in
    let cut : IsCutOf l = cut-begun i (matrix_rows e) (plain_ctors f.ctors.items) c.in_ok-spans.spans.items c.in_ok-todo.todo.items
    c.in_ok-spans.ensures.0
    (subst (λ ks. AreLeafSpans (plain_ctors ks) (column_leaves i (matrix_rows e)) c.in_ok-spans.ensures.0) c.deref-4.ensures.value
    (subst (λ rs. AreLeafSpans (plain_ctors c.deref-4.result.now) (column_leaves i (plain_rows rs)) c.in_ok-spans.ensures.0)
    c.deref-3.ensures.value c.in_ok-spans.ensures.1))
    (subst (λ (ks : List Ctor). plain_spans c.in_ok-spans.spans.items ≡ map (mirrored (length (plain_ctors ks))) c.in_ok-spans.ensures.0)
    c.deref-4.ensures.value c.in_ok-spans.ensures.2)
    (c.in_ok-todo.ensures.pieces ∙ ap (columns_from 0) n)
    (subst (λ ss. All (IsFull ss) c.in_ok-todo.todo.items) c.deref-6.ensures.value c.in_ok-todo.ensures.full) in
    let found = found-at IsType context V decides g.root c.index.result.now c.index-2.result.now o.column (plain_ctors c.deref-2.result.now)
    (ctors_at i (matrix_rows e)) (plain_ctors f.ctors.items) (plain_ctors f.gaps.items) f.missing
    (read e i o.column o.there c.index.result.now c.index.ensures)
    (read e i o.column o.there c.index-2.result.now c.index-2.ensures)
    (ap plain_ctors c.deref-2.ensures.value ∙ c.in_ok-ctors.ensures ∙ ap (λ rs. ctors_at i (plain_rows rs)) c.deref.ensures.value)
    c.in_ok-found.ensures.found in (
      inside.0,
      (
        inside.1,
        (
          omega (arith, c.len-then-found.ensures, c.if-len-eq1.true, f.ctors.ok.0),
          record {
            column = o.column;
            there = o.there;
            ready = o.ready;
            scope = o.scope;
            pieces = found.pieces;
            are = found.split.are.listed;
            still = found.present;
            none = ap (map plain_branch) c.new.ensures.items;
            cut = cut;
            awaits = λ columns rows over order. without-cut IsType context V decides g.root frames now l Else columns rows
                (else-begun IsType context V decides g.root frames now l o (plain_ctors f.gaps.items) f.missing found
                c.tables_are_built.ensures (ap (map plain_branch) c.new.ensures.items) cut c.if-found.true Else columns rows refl over order);
          },
        ),
      ),
    )
