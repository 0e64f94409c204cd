use Rattle.std.proofs.Common.{◌≡◌, ◌<◌, ◌∙◌, ◌∷◌, suc, [], reverse, subst, sym, ap, length, arith}
use Rattle.std.specs.List.{All}
use Rattle.std.proofs.lemmas.List.{length-map}
use Rattle.match_model.specs.Steps.{specialise_head, rows_at}
use Rattle.pat_context.specs.Views.{plain_ctor}
use Rattle.constructor_sets.specs.Columns.{plain_ctors}
use Rattle.constructor_sets.specs.Spans.{plain_span}
use Rattle.pattern_matrix.specs.Halving.{leaves_with}
use Rattle.pattern_matrix.specs.Parts.{plain_spans}
use Rattle.pattern_matrix.specs.Sparse.{columns_from}
use Rattle.keyed_matrix.specs.Deciding.{table_decides}
use Rattle.keyed_matrix.specs.Steps.{AreLonger}
use Rattle.keyed_matrix.specs.Views.{plain_row, plain_rows}
use Rattle.tree_eval.specs.Trees.{table_trees}
use Rattle.decision_tree.specs.declared.frames.Frame.TheVariants.{Others}
use Rattle.decision_tree.specs.Matrices.{matrix_columns, matrix_rows}
use Rattle.decision_tree.specs.Cuts.{listed_at, AreCut}
use Rattle.decision_tree.specs.Cutting.{IsCutPart, AreLed}
use Rattle.decision_tree.specs.Fronts.{IsFront}
use Rattle.decision_tree.specs.Waiting.{Awaits}
use Rattle.decision_tree.proofs.Cuts.{next-number, next-spans, next-front, led-within}
use Rattle.decision_tree.proofs.Knowing.{entered-scope, dropped-scope}
use Rattle.decision_tree.proofs.LastCases.{others-begun, piece-of}
use Rattle.decision_tree.proofs.Looking.{read, longer, within}
use Rattle.decision_tree.proofs.Turning.{last-first, one-there}
use Rattle.decision_tree.proofs.lowering.else_first.Goals as goal

pub next_cut-requires-clause-longer : goal.next_cut-requires-clause-longer
next_cut-requires-clause-longer g c =
    let cx = c.args.cx.now in
    let l = c.args.looked in
    let o = c.requires.1.1.1 in
    subst (λ rs. AreLonger l.column (plain_rows rs)) (sym c.deref.ensures.value)
    (longer (g.C.PatCx.is_type cx) (g.C.PatCx.context cx) (g.C.PatCx.is_value cx) (g.met.C.PatCx.values cx)
    (table_decides c.args.decisions.now) l.column l.matrix o.column o.ready o.there)

pub next_cut-requires-clause-spans : goal.next_cut-requires-clause-spans
next_cut-requires-clause-spans g c =
    let cx = c.args.cx.now in
    let IsType = g.C.PatCx.is_type cx in
    let context = g.C.PatCx.context cx in
    let V = g.C.PatCx.is_value cx in
    let decides = table_decides c.args.decisions.now in
    let frames = reverse c.args.frames.now.items in
    let now = table_trees c.args.table.now in
    let l = c.args.looked in
    let i = l.column in
    let o = c.requires.1.1.1 in
    let piece = c.index-piece.result.now in
    let p = plain_ctor piece in
    let single : plain_ctors l.pieces.items ≡ p ∷ [] =
    one-there l.pieces.items piece c.requires.1.1.0 c.index-piece.ensures in
    let rows = matrix_rows l.matrix in
    let spans = l.spans.items in
    let todo = l.todo.items in
    let cut : AreCut i rows (p ∷ []) spans todo = subst (λ ks. AreCut i rows ks spans todo) single o.cut in
    let many : length spans ≡ length l.matrix.rows.items =
    sym (length-map spans plain_span) ∙ next-spans i rows [] p spans todo cut ∙ length-map l.matrix.rows.items plain_row in
    ap length c.deref-2.ensures.value ∙ many ∙ ap length (sym c.deref.ensures.value)

pub next_cut-requires-clause-parts : goal.next_cut-requires-clause-parts
next_cut-requires-clause-parts g c =
    let l = c.args.looked in
    let o = c.requires.1.1.1 in
    subst (λ ss. All (IsCutPart l.column (plain_rows c.deref.result.now) ss) l.todo.items) (sym c.deref-2.ensures.value)
    (subst (λ rs. All (IsCutPart l.column (plain_rows rs) l.spans.items) l.todo.items) (sym c.deref.ensures.value) o.cut.parts)

pub index-requires : goal.index-requires
index-requires g c =
    let l = c.args.looked in
    let o = c.requires.1.1.1 in
    omega (arith, l.matrix.columns.ok.0, within l.matrix l.column o.column o.there)

pub entered_among-requires-clause-within : goal.entered_among-requires-clause-within
entered_among-requires-clause-within g c =
    let l = c.args.looked in
    let o = c.requires.1.1.1 in
    within l.matrix l.column o.column o.there

pub entered_among-requires-clause-piece : goal.entered_among-requires-clause-piece
entered_among-requires-clause-piece g c =
    let cx = c.args.cx.now in
    let IsType = g.C.PatCx.is_type cx in
    let context = g.C.PatCx.context cx in
    let V = g.C.PatCx.is_value cx in
    let decides = table_decides c.args.decisions.now in
    let frames = reverse c.args.frames.now.items in
    let now = table_trees c.args.table.now in
    let l = c.args.looked in
    let i = l.column in
    let o = c.requires.1.1.1 in
    let piece = c.index-piece.result.now in
    let p = plain_ctor piece in
    let single : plain_ctors l.pieces.items ≡ p ∷ [] =
    one-there l.pieces.items piece c.requires.1.1.0 c.index-piece.ensures in
    piece-of IsType context V decides g.root frames now l p o single

pub entered_among-requires-clause-numbers : goal.entered_among-requires-clause-numbers
entered_among-requires-clause-numbers g c =
    let cx = c.args.cx.now in
    let IsType = g.C.PatCx.is_type cx in
    let context = g.C.PatCx.context cx in
    let V = g.C.PatCx.is_value cx in
    let decides = table_decides c.args.decisions.now in
    let frames = reverse c.args.frames.now.items in
    let now = table_trees c.args.table.now in
    let l = c.args.looked in
    let i = l.column in
    let o = c.requires.1.1.1 in
    let piece = c.index-piece.result.now in
    let p = plain_ctor piece in
    let single : plain_ctors l.pieces.items ≡ p ∷ [] =
    one-there l.pieces.items piece c.requires.1.1.0 c.index-piece.ensures in
    let rows = matrix_rows l.matrix in
    let spans = l.spans.items in
    let todo = l.todo.items in
    let cut : AreCut i rows (p ∷ []) spans todo = subst (λ ks. AreCut i rows ks spans todo) single o.cut in
    let numbers = c.in_ok-numbers.numbers.items in
    let led : AreLed i rows numbers (leaves_with (plain_spans spans) (length cut.gone)) =
    subst (λ ss. AreLed i rows numbers (leaves_with (plain_spans ss) (length cut.gone))) c.deref-2.ensures.value
    (subst (λ rs. AreLed i (plain_rows rs) numbers (leaves_with (plain_spans c.deref-2.result.now) (length cut.gone)))
    c.deref.ensures.value
    (c.in_ok-numbers.ensures.rows (length cut.gone) (columns_from (suc (length cut.gone)) 0)
    (next-number i rows [] p spans todo cut))) in
    let long : length rows ≡ length l.matrix.rows.items = length-map l.matrix.rows.items plain_row in
    subst (All (λ k. k < length l.matrix.rows.items)) (sym c.deref-3.ensures.value)
    (subst (λ n. All (λ k. k < n) numbers) long (led-within i rows [] p spans todo cut numbers led))

pub entered_among-requires-clause-whole : goal.entered_among-requires-clause-whole
entered_among-requires-clause-whole g c = λ n place.
    let cx = c.args.cx.now in
    let IsType = g.C.PatCx.is_type cx in
    let context = g.C.PatCx.context cx in
    let V = g.C.PatCx.is_value cx in
    let decides = table_decides c.args.decisions.now in
    let frames = reverse c.args.frames.now.items in
    let now = table_trees c.args.table.now in
    let l = c.args.looked in
    let i = l.column in
    let o = c.requires.1.1.1 in
    let piece = c.index-piece.result.now in
    let p = plain_ctor piece in
    let single : plain_ctors l.pieces.items ≡ p ∷ [] =
    one-there l.pieces.items piece c.requires.1.1.0 c.index-piece.ensures in
    let rows = matrix_rows l.matrix in
    let spans = l.spans.items in
    let todo = l.todo.items in
    let cut : AreCut i rows (p ∷ []) spans todo = subst (λ ks. AreCut i rows ks spans todo) single o.cut in
    let numbers = c.in_ok-numbers.numbers.items in
    let led : AreLed i rows numbers (leaves_with (plain_spans spans) (length cut.gone)) =
    subst (λ ss. AreLed i rows numbers (leaves_with (plain_spans ss) (length cut.gone))) c.deref-2.ensures.value
    (subst (λ rs. AreLed i (plain_rows rs) numbers (leaves_with (plain_spans c.deref-2.result.now) (length cut.gone)))
    c.deref.ensures.value
    (c.in_ok-numbers.ensures.rows (length cut.gone) (columns_from (suc (length cut.gone)) 0)
    (next-number i rows [] p spans todo cut))) in
    let long : AreLonger i rows = longer IsType context V (g.met.C.PatCx.values cx) decides i l.matrix o.column o.ready o.there in
    subst (λ xs. IsFront (listed_at (specialise_head p n) place i rows xs) (rows_at (specialise_head p n) place i rows))
    (sym c.deref-3.ensures.value) (next-front i rows [] p spans todo cut long numbers led n place)

pub into_dropped-requires-clause-within : goal.into_dropped-requires-clause-within
into_dropped-requires-clause-within g c =
    let l = c.args.looked in
    let o = c.requires.1.1.1 in
    within l.matrix l.column o.column o.there

pub returns : goal.returns
returns g c =
    let cx = c.args.cx.now in
    let IsType = g.C.PatCx.is_type cx in
    let context = g.C.PatCx.context cx in
    let V = g.C.PatCx.is_value cx in
    let decides = table_decides c.args.decisions.now in
    let frames = reverse c.args.frames.now.items in
    let now = table_trees c.args.table.now in
    let l = c.args.looked in
    let i = l.column in
    let o = c.requires.1.1.1 in
    let piece = c.index-piece.result.now in
    let p = plain_ctor piece in
    let single : plain_ctors l.pieces.items ≡ p ∷ [] =
    one-there l.pieces.items piece c.requires.1.1.0 c.index-piece.ensures in
    let next = c.in_ok-next.next in
    let others = c.in_ok-others.others in
    let place = c.index.result.now.place in
    let case = c.in_ok-case.case in (
      c.in_ok-others.ensures.good,
      subst (λ fs. Awaits IsType context V decides g.root fs now (matrix_columns others) (matrix_rows others))
          (sym (last-first c.args.frames.now.items c.push.new.self.items (Others place case next) c.in_ok-push.ensures.items))
          (others-begun IsType context V decides g.root frames now l p place case next others o single
          (λ d there. ap (λ q. q.place) (read l.matrix i d there c.index.result.now c.index.ensures)) c.in_ok-case.ensures
          c.in_ok-next.ensures.entered c.in_ok-next.ensures.good
          (entered-scope IsType context V decides g.root (g.met.C.PatCx.parts cx) (g.met.C.PatCx.values cx) i l.matrix next p
          o.scope o.ready (piece-of IsType context V decides g.root frames now l p o single) c.in_ok-next.ensures.entered)
          c.in_ok-others.ensures.dropped),
      dropped-scope IsType context V decides g.root i l.matrix others o.scope c.in_ok-others.ensures.dropped,
    )
