use Rattle.std.proofs.Common.{◌∙◌, ◌∷◌, [], inl, map, reverse, subst, refl, sym, ap, arith}
use Rattle.match_model.specs.Lowering.{ctors_at}
use Rattle.pat_context.specs.Views.{plain_ctor}
use Rattle.constructor_sets.specs.Columns.{plain_ctors, plain_piece}
use Rattle.keyed_matrix.specs.Deciding.{table_decides}
use Rattle.keyed_matrix.specs.Steps.{AreLonger}
use Rattle.keyed_matrix.specs.Views.{plain_rows}
use Rattle.tree_eval.specs.Trees.{table_trees}
use Rattle.decision_tree.specs.Matrices.{matrix_rows}
use Rattle.decision_tree.proofs.Knowing.{entered-scope}
use Rattle.decision_tree.proofs.Looking.{within, read, longer, is-type, heads, first-are, some-piece}
use Rattle.decision_tree.proofs.Turning.{listed-at, opened-turn}
use Rattle.decision_tree.proofs.lowering.open_column.Goals as goal

pub ctors_at-requires : goal.ctors_at-requires
ctors_at-requires g c =
    let cx = c.args.cx.now in
    let IsType = g.C.PatCx.is_type cx in
    let context = g.C.PatCx.context cx in
    let V = g.C.PatCx.is_value cx in
    let decides = table_decides c.args.decisions.now in
    let frames = reverse c.args.frames.now.items in
    let now = table_trees c.args.table.now in
    let values = g.met.C.PatCx.values cx in
    let e = c.args.e in
    let i = c.args.i in
    let o = c.requires.1.1 in
    subst (λ rs. AreLonger i (plain_rows rs)) (sym c.deref.ensures.value)
    (longer IsType context V values decides i e o.column o.ready o.there)

pub index-requires : goal.index-requires
index-requires g c = omega (arith, c.args.e.columns.ok.0, within c.args.e c.args.i c.requires.1.1.column c.requires.1.1.there)

pub index-requires-2 : goal.index-requires-2
index-requires-2 g c = omega (arith, c.args.e.columns.ok.0, within c.args.e c.args.i c.requires.1.1.column c.requires.1.1.there)

pub split_column-requires-clause-ty : goal.split_column-requires-clause-ty
split_column-requires-clause-ty g c =
    let cx = c.args.cx.now in
    let IsType = g.C.PatCx.is_type cx in
    let context = g.C.PatCx.context cx in
    let V = g.C.PatCx.is_value cx in
    let decides = table_decides c.args.decisions.now in
    let frames = reverse c.args.frames.now.items in
    let now = table_trees c.args.table.now in
    let values = g.met.C.PatCx.values cx in
    let e = c.args.e in
    let i = c.args.i in
    let o = c.requires.1.1 in
    is-type IsType context V values decides i e o.column o.ready o.there c.index.result.now c.index.ensures

pub split_column-requires-clause-column : goal.split_column-requires-clause-column
split_column-requires-clause-column g c =
    let cx = c.args.cx.now in
    let IsType = g.C.PatCx.is_type cx in
    let context = g.C.PatCx.context cx in
    let V = g.C.PatCx.is_value cx in
    let decides = table_decides c.args.decisions.now in
    let frames = reverse c.args.frames.now.items in
    let now = table_trees c.args.table.now in
    let values = g.met.C.PatCx.values cx in
    let e = c.args.e in
    let i = c.args.i in
    let o = c.requires.1.1 in
    heads IsType context V values decides i e o.column o.ready o.there c.index.result.now c.index.ensures
    (plain_ctors c.deref-2.result.now)
    (ap plain_ctors c.deref-2.ensures.value ∙ c.in_ok-ctors.ensures ∙ ap (λ rs. ctors_at i (plain_rows rs)) c.deref.ensures.value)

pub index-requires-3 : goal.index-requires-3
index-requires-3 g c =
    let cx = c.args.cx.now in
    let IsType = g.C.PatCx.is_type cx in
    let context = g.C.PatCx.context cx in
    let V = g.C.PatCx.is_value cx in
    let decides = table_decides c.args.decisions.now in
    let frames = reverse c.args.frames.now.items in
    let now = table_trees c.args.table.now in
    let values = g.met.C.PatCx.values cx in
    let e = c.args.e in
    let i = c.args.i in
    let o = c.requires.1.1 in
    let items = c.in_ok-split.split.pieces.items in
    let listed = listed-at IsType context V decides g.root c.index.result.now c.index-2.result.now o.column (plain_ctors c.deref-2.result.now)
    (ctors_at i (matrix_rows e)) (map plain_piece items)
    (read e i o.column o.there c.index.result.now c.index.ensures)
    (ap plain_ctors c.deref-2.ensures.value ∙ c.in_ok-ctors.ensures ∙ ap (λ rs. ctors_at i (plain_rows rs)) c.deref.ensures.value)
    c.in_ok-split.ensures in
    omega (arith, c.in_ok-split.split.pieces.ok.0, some-piece (context.set_of o.column.type) (ctors_at i (matrix_rows e)) items o.kind listed)

pub entered-requires-clause-within : goal.entered-requires-clause-within
entered-requires-clause-within g c = within c.args.e c.args.i c.requires.1.1.column c.requires.1.1.there

pub entered-requires-clause-piece : goal.entered-requires-clause-piece
entered-requires-clause-piece g c =
    let cx = c.args.cx.now in
    let IsType = g.C.PatCx.is_type cx in
    let context = g.C.PatCx.context cx in
    let V = g.C.PatCx.is_value cx in
    let decides = table_decides c.args.decisions.now in
    let frames = reverse c.args.frames.now.items in
    let now = table_trees c.args.table.now in
    let values = g.met.C.PatCx.values cx in
    let e = c.args.e in
    let i = c.args.i in
    let o = c.requires.1.1 in
    let items = c.in_ok-split.split.pieces.items in
    let p = plain_ctor c.index-3.result.now.ctor in
    let listed = listed-at IsType context V decides g.root c.index.result.now c.index-2.result.now o.column (plain_ctors c.deref-2.result.now)
    (ctors_at i (matrix_rows e)) (map plain_piece items)
    (read e i o.column o.there c.index.result.now c.index.ensures)
    (ap plain_ctors c.deref-2.ensures.value ∙ c.in_ok-ctors.ensures ∙ ap (λ rs. ctors_at i (plain_rows rs)) c.deref.ensures.value)
    c.in_ok-split.ensures in
    record {
      column = o.column;
      there = o.there;
      pieces = p ∷ [];
      are = first-are (context.set_of o.column.type) (ctors_at i (matrix_rows e)) items c.index-3.result.now o.kind listed
          c.index-3.ensures;
      among = inl refl;
    }

pub lower_thin-requires : goal.lower_thin-requires
lower_thin-requires g c κs inside =
    let cx = c.args.cx.now in
    let IsType = g.C.PatCx.is_type cx in
    let context = g.C.PatCx.context cx in
    let V = g.C.PatCx.is_value cx in
    let decides = table_decides c.args.decisions.now in
    let frames = reverse c.args.frames.now.items in
    let now = table_trees c.args.table.now in
    let values = g.met.C.PatCx.values cx in
    let e = c.args.e in
    let i = c.args.i in
    let o = c.requires.1.1 in
    let items = c.in_ok-split.split.pieces.items in
    let p = plain_ctor c.index-3.result.now.ctor in
    let listed = listed-at IsType context V decides g.root c.index.result.now c.index-2.result.now o.column (plain_ctors c.deref-2.result.now)
    (ctors_at i (matrix_rows e)) (map plain_piece items)
    (read e i o.column o.there c.index.result.now c.index.ensures)
    (ap plain_ctors c.deref-2.ensures.value ∙ c.in_ok-ctors.ensures ∙ ap (λ rs. ctors_at i (plain_rows rs)) c.deref.ensures.value)
    c.in_ok-split.ensures in (
      inside.0,
      (
        inside.1,
        (
          c.in_ok-next.ensures.good,
          opened-turn IsType context V decides g.root frames now i e c.in_ok-next.next p o
              (first-are (context.set_of o.column.type) (ctors_at i (matrix_rows e)) items c.index-3.result.now o.kind listed
              c.index-3.ensures) c.in_ok-next.ensures.entered,
          entered-scope IsType context V decides g.root (g.met.C.PatCx.parts cx) values i e c.in_ok-next.next p o.scope o.ready
              (record {
                column = o.column;
                there = o.there;
                pieces = p ∷ [];
                are = first-are (context.set_of o.column.type) (ctors_at i (matrix_rows e)) items c.index-3.result.now o.kind
                    listed c.index-3.ensures;
                among = inl refl;
              }) c.in_ok-next.ensures.entered,
        ),
      ),
    )
