use Rattle.std.proofs.Common.{◌≡◌, ◌<◌, ◌∙◌, ◌∷◌, ◌++◌, suc, [], reverse, subst, refl, sym, ap, map, length, arith}
use Rattle.std.specs.Global.{Vec}
use Rattle.std.specs.List.{All}
use Rattle.std.proofs.lemmas.Bool.{eqb-true}
use Rattle.std.proofs.lemmas.List.{length-map}
use Rattle.match_model.specs.Steps.{specialise_head, rows_at}
use Rattle.pat_context.specs.Views.{plain_ctor}
use Rattle.constructor_sets.specs.Columns.{plain_ctors}
use Rattle.constructor_sets.specs.Spans.{plain_span}
use Rattle.pattern_matrix.specs.Halving.{leaves_with}
use Rattle.pattern_matrix.specs.Parts.{plain_spans, pieces_left}
use Rattle.pattern_matrix.specs.declared.halving.Part.{Part}
use Rattle.pattern_matrix.specs.Sparse.{columns_from}
use Rattle.keyed_matrix.specs.Deciding.{table_decides}
use Rattle.keyed_matrix.specs.Steps.{AreLonger}
use Rattle.keyed_matrix.specs.Views.{plain_row, plain_rows}
use Rattle.tree_eval.specs.Nodes.{plain_branch}
use Rattle.tree_eval.specs.Trees.{table_trees}
use Rattle.decision_tree.specs.declared.frames.Frame.TheVariants.{Switch}
use Rattle.decision_tree.specs.declared.frames.Looked.{Looked}
use Rattle.decision_tree.specs.Matrices.{matrix_columns, matrix_rows}
use Rattle.decision_tree.specs.Cuts.{listed_at, AreCut}
use Rattle.decision_tree.specs.Cutting.{IsCutPart, AreLed}
use Rattle.decision_tree.specs.Fronts.{IsFront}
use Rattle.decision_tree.specs.Waiting.{Awaits, IsCutOf, IsLeft}
use Rattle.decision_tree.proofs.Cuts.{next-number, next-spans, next-front, next-idle, led-within, cut-next}
use Rattle.decision_tree.proofs.IdleCases.{idle-some, idle-one}
use Rattle.decision_tree.proofs.Knowing.{entered-scope}
use Rattle.decision_tree.proofs.Fronts.{front-leads}
use Rattle.decision_tree.proofs.Going.{leads-more, piece-begun}
use Rattle.decision_tree.proofs.Looking.{read, longer, entered-at}
use Rattle.decision_tree.proofs.Turning.{last-first, map-snoc, left-last, left-none, left-within, none-there, piece-there}
use Rattle.decision_tree.proofs.lowering.next_case.Goals as goal

pub entered_among-requires-clause-piece : goal.entered_among-requires-clause-piece
entered_among-requires-clause-piece g c =
    let cx = c.args.cx.now in
    let IsType = g.C.PatCx.is_type cx in
    let context = g.C.PatCx.context cx in
    let V = g.C.PatCx.is_value cx in
    let decides = table_decides c.args.decisions.now in
    let frames = reverse c.args.frames.now.items in
    let now = table_trees c.args.table.now in
    let l = c.args.looked in
    let new = c.pop.new.self.items in
    let piece = c.in-Some.piece in
    let cases = map plain_branch l.cases.items in
    piece-there IsType context V decides g.root frames now l.matrix l.column (plain_ctors new) (plain_ctor piece) cases
    (left-last IsType context V decides g.root frames now l.matrix l.column l.pieces.items new piece cases c.in-Some.ensures.items c.requires.1.1.0)

pub next_cut-requires-clause-longer : goal.next_cut-requires-clause-longer
next_cut-requires-clause-longer g c =
    let cx = c.args.cx.now in
    let l = c.args.looked in
    let k = c.requires.1.1.0.5 in
    subst (λ rs. AreLonger l.column (plain_rows rs)) (sym c.deref.ensures.value)
    (longer (g.C.PatCx.is_type cx) (g.C.PatCx.context cx) (g.C.PatCx.is_value cx) (g.met.C.PatCx.values cx)
    (table_decides c.args.decisions.now) l.column l.matrix k.column k.ready k.there)

pub next_cut-requires-clause-spans : goal.next_cut-requires-clause-spans
next_cut-requires-clause-spans g c =
    let l = c.args.looked in
    let new = c.pop.new.self.items in
    let p = plain_ctor c.in-Some.piece in
    let cut : AreCut l.column (matrix_rows l.matrix) (plain_ctors new ++ p ∷ []) l.spans.items l.todo.items =
    subst (λ ks. AreCut l.column (matrix_rows l.matrix) ks l.spans.items l.todo.items)
    (map-snoc plain_ctor new l.pieces.items c.in-Some.piece c.in-Some.ensures.items) c.requires.1.1.1 in
    let many : length l.spans.items ≡ length l.matrix.rows.items =
    sym (length-map l.spans.items plain_span)
    ∙ next-spans l.column (matrix_rows l.matrix) (plain_ctors new) p l.spans.items l.todo.items cut
    ∙ length-map l.matrix.rows.items plain_row in
    ap length c.deref-in-Some.ensures.value ∙ many ∙ ap length (sym c.deref.ensures.value)

pub next_cut-requires-clause-parts : goal.next_cut-requires-clause-parts
next_cut-requires-clause-parts g c =
    let l = c.args.looked in
    let was : c.replace-todo.result.items ≡ l.todo.items = ap (λ (v : Vec Part). v.items) c.replace-todo.ensures.value in
    subst (λ ss. All (IsCutPart l.column (plain_rows c.deref.result.now) ss) c.replace-todo.result.items)
    (sym c.deref-in-Some.ensures.value)
    (subst (λ rs. All (IsCutPart l.column (plain_rows rs) l.spans.items) c.replace-todo.result.items) (sym c.deref.ensures.value)
    (subst (All (IsCutPart l.column (matrix_rows l.matrix) l.spans.items)) (sym was) c.requires.1.1.1.parts))

pub entered_among-requires-clause-numbers : goal.entered_among-requires-clause-numbers
entered_among-requires-clause-numbers g c =
    let l = c.args.looked in
    let new = c.pop.new.self.items in
    let piece = c.in-Some.piece in
    let cut : AreCut l.column (matrix_rows l.matrix) (plain_ctors new ++ plain_ctor piece ∷ []) l.spans.items l.todo.items =
    subst (λ ks. AreCut l.column (matrix_rows l.matrix) ks l.spans.items l.todo.items)
    (map-snoc plain_ctor new l.pieces.items piece c.in-Some.ensures.items) c.requires.1.1.1 in
    let i = l.column in
    let rows = matrix_rows l.matrix in
    let spans = l.spans.items in
    let todo = l.todo.items in
    let ks = plain_ctors new in
    let p = plain_ctor piece in
    let numbers = c.in_ok-numbers-in-Some.numbers.items in
    let was : c.replace-todo.result.items ≡ todo = ap (λ (v : Vec Part). v.items) c.replace-todo.ensures.value in
    let led : AreLed i rows numbers (leaves_with (plain_spans spans) (length cut.gone)) =
    subst (λ ss. AreLed i rows numbers (leaves_with (plain_spans ss) (length cut.gone))) c.deref-in-Some.ensures.value
    (subst (λ rs. AreLed i (plain_rows rs) numbers (leaves_with (plain_spans c.deref-in-Some.result.now) (length cut.gone)))
    c.deref.ensures.value
    (c.in_ok-numbers-in-Some.ensures.rows (length cut.gone) (columns_from (suc (length cut.gone)) (length ks))
    (ap pieces_left was ∙ next-number i rows ks p spans todo cut))) in
    let long : length rows ≡ length l.matrix.rows.items = length-map l.matrix.rows.items plain_row in
    subst (All (λ k. k < length l.matrix.rows.items)) (sym c.deref-in-Some-2.ensures.value)
    (subst (λ n. All (λ k. k < n) numbers) long (led-within i rows ks p spans todo cut numbers led))

pub entered_among-requires-clause-whole : goal.entered_among-requires-clause-whole
entered_among-requires-clause-whole g c = λ n place.
    let cx = c.args.cx.now in
    let l = c.args.looked in
    let new = c.pop.new.self.items in
    let piece = c.in-Some.piece in
    let cut : AreCut l.column (matrix_rows l.matrix) (plain_ctors new ++ plain_ctor piece ∷ []) l.spans.items l.todo.items =
    subst (λ ks. AreCut l.column (matrix_rows l.matrix) ks l.spans.items l.todo.items)
    (map-snoc plain_ctor new l.pieces.items piece c.in-Some.ensures.items) c.requires.1.1.1 in
    let i = l.column in
    let rows = matrix_rows l.matrix in
    let spans = l.spans.items in
    let todo = l.todo.items in
    let ks = plain_ctors new in
    let p = plain_ctor piece in
    let k = c.requires.1.1.0.5 in
    let numbers = c.in_ok-numbers-in-Some.numbers.items in
    let was : c.replace-todo.result.items ≡ todo = ap (λ (v : Vec Part). v.items) c.replace-todo.ensures.value in
    let led : AreLed i rows numbers (leaves_with (plain_spans spans) (length cut.gone)) =
    subst (λ ss. AreLed i rows numbers (leaves_with (plain_spans ss) (length cut.gone))) c.deref-in-Some.ensures.value
    (subst (λ rs. AreLed i (plain_rows rs) numbers (leaves_with (plain_spans c.deref-in-Some.result.now) (length cut.gone)))
    c.deref.ensures.value
    (c.in_ok-numbers-in-Some.ensures.rows (length cut.gone) (columns_from (suc (length cut.gone)) (length ks))
    (ap pieces_left was ∙ next-number i rows ks p spans todo cut))) in
    let long : AreLonger i rows = longer (g.C.PatCx.is_type cx) (g.C.PatCx.context cx) (g.C.PatCx.is_value cx)
    (g.met.C.PatCx.values cx) (table_decides c.args.decisions.now) i l.matrix k.column k.ready k.there in
    subst (λ xs. IsFront (listed_at (specialise_head p n) place i rows xs) (rows_at (specialise_head p n) place i rows))
    (sym c.deref-in-Some-2.ensures.value) (next-front i rows ks p spans todo cut long numbers led n place)

pub lower_thin-requires : goal.lower_thin-requires
lower_thin-requires g c κs inside =
    let cx = c.args.cx.now in
    let IsType = g.C.PatCx.is_type cx in
    let context = g.C.PatCx.context cx in
    let V = g.C.PatCx.is_value cx in
    let decides = table_decides c.args.decisions.now in
    let frames = reverse c.args.frames.now.items in
    let now = table_trees c.args.table.now in
    let old = c.args.looked in
    let piece = c.in-Some.piece in
    let p = plain_ctor piece in
    let next = c.in_ok-next-in-Some.next in
    let case = c.in_ok-case-in-Some.case in
    let cases = map plain_branch old.cases.items in
    let l : Looked g.row.C-Ty.Denot = record { matrix = old.matrix; column = old.column; pieces = c.pop.new.self; spans = old.spans; todo = c.next_cut.new.todo; cases = old.cases } in
    let cut : AreCut old.column (matrix_rows old.matrix) (plain_ctors c.pop.new.self.items ++ p ∷ []) old.spans.items old.todo.items =
    subst (λ ks. AreCut old.column (matrix_rows old.matrix) ks old.spans.items old.todo.items)
    (map-snoc plain_ctor c.pop.new.self.items old.pieces.items piece c.in-Some.ensures.items) c.requires.1.1.1 in
    let was : c.replace-todo.result.items ≡ old.todo.items = ap (λ (v : Vec Part). v.items) c.replace-todo.ensures.value in
    let left : IsCutOf l = cut-next old.column (matrix_rows old.matrix) (plain_ctors c.pop.new.self.items) p old.spans.items
    old.todo.items cut c.next_cut.new.todo.items
    (c.in_ok-numbers-in-Some.ensures.left (length cut.gone)
    (columns_from (suc (length cut.gone)) (length (plain_ctors c.pop.new.self.items)))
    (ap pieces_left was
    ∙ next-number old.column (matrix_rows old.matrix) (plain_ctors c.pop.new.self.items) p old.spans.items old.todo.items cut))
    (subst (λ ss. All (IsCutPart old.column (matrix_rows old.matrix) ss) c.next_cut.new.todo.items) c.deref-in-Some.ensures.value
    (subst (λ rs. All (IsCutPart old.column (plain_rows rs) c.deref-in-Some.result.now) c.next_cut.new.todo.items) c.deref.ensures.value
    c.in_ok-numbers-in-Some.ensures.parts)) in (
      inside.0,
      (
        inside.1,
        (
          c.in_ok-next-in-Some.ensures.good,
          subst (λ fs. Awaits IsType context V decides g.root fs now (matrix_columns next) (matrix_rows next))
              (sym (last-first c.args.frames.now.items c.push.new.self.items (Switch l case) c.in_ok-push-in-Some.ensures.items))
              (leads-more IsType context V decides g.root (Switch l case ∷ frames) now (matrix_columns next) (matrix_columns next)
              (matrix_rows next) c.in_ok-next-in-Some.ensures.entered.whole
              (front-leads IsType context V decides g.root (matrix_columns next) (matrix_rows next)
              c.in_ok-next-in-Some.ensures.entered.whole c.in_ok-next-in-Some.ensures.entered.front)
              (piece-begun IsType context V decides g.root frames now l case (plain_ctors c.pop.new.self.items) p (matrix_columns next)
              c.in_ok-next-in-Some.ensures.entered.whole
              (left-last IsType context V decides g.root frames now old.matrix old.column old.pieces.items c.pop.new.self.items piece cases
              c.in-Some.ensures.items c.requires.1.1.0) refl c.in_ok-case-in-Some.ensures
              (λ d there. entered-at context decides old.column old.matrix next d there p c.in_ok-next-in-Some.ensures.entered) left)),
          entered-scope IsType context V decides g.root (g.met.C.PatCx.parts cx) (g.met.C.PatCx.values cx) old.column old.matrix
              next p c.requires.1.1.0.5.scope c.requires.1.1.0.5.ready
              (piece-there IsType context V decides g.root frames now old.matrix old.column (plain_ctors c.pop.new.self.items) p cases
              (left-last IsType context V decides g.root frames now old.matrix old.column old.pieces.items c.pop.new.self.items piece cases
              c.in-Some.ensures.items c.requires.1.1.0)) c.in_ok-next-in-Some.ensures.entered,
        ),
      ),
    )

pub index-requires : goal.index-requires
index-requires g c =
    let cx = c.args.cx.now in
    let IsType = g.C.PatCx.is_type cx in
    let context = g.C.PatCx.context cx in
    let V = g.C.PatCx.is_value cx in
    let decides = table_decides c.args.decisions.now in
    let frames = reverse c.args.frames.now.items in
    let now = table_trees c.args.table.now in
    let l = c.args.looked in
    omega (
      arith,
      l.matrix.columns.ok.0,
      left-within IsType context V decides g.root frames now l.matrix l.column (plain_ctors l.pieces.items)
          (map plain_branch l.cases.items) c.requires.1.1.0,
    )

pub entered_among-requires-clause-within : goal.entered_among-requires-clause-within
entered_among-requires-clause-within g c =
    let cx = c.args.cx.now in
    let IsType = g.C.PatCx.is_type cx in
    let context = g.C.PatCx.context cx in
    let V = g.C.PatCx.is_value cx in
    let decides = table_decides c.args.decisions.now in
    let frames = reverse c.args.frames.now.items in
    let now = table_trees c.args.table.now in
    let l = c.args.looked in
    left-within IsType context V decides g.root frames now l.matrix l.column (plain_ctors l.pieces.items)
    (map plain_branch l.cases.items) c.requires.1.1.0

pub last_case-requires : goal.last_case-requires
last_case-requires g c κs inside =
    let cx = c.args.cx.now in
    let IsType = g.C.PatCx.is_type cx in
    let context = g.C.PatCx.context cx in
    let V = g.C.PatCx.is_value cx in
    let decides = table_decides c.args.decisions.now in
    let frames = reverse c.args.frames.now.items in
    let now = table_trees c.args.table.now in
    let l = c.args.looked in
    let new = c.pop.new.self in
    let piece = c.in-Some.piece in
    let p = plain_ctor piece in
    let cases = map plain_branch l.cases.items in
    let none = none-there new.items (omega (arith, eqb-true new.len 0 (sym c.is_empty.ensures ∙ c.if-is_empty.true), new.ok.0)) in (
      inside.0,
      (
        inside.1,
        subst (λ ks. IsLeft IsType context V decides g.root frames now l.matrix l.column (ks ++ p ∷ []) cases) none
            (left-last IsType context V decides g.root frames now l.matrix l.column l.pieces.items new.items piece cases
            c.in-Some.ensures.items c.requires.1.1.0),
      ),
    )

pub finish_switch-requires : goal.finish_switch-requires
finish_switch-requires g c κs inside =
    let cx = c.args.cx.now in
    let IsType = g.C.PatCx.is_type cx in
    let context = g.C.PatCx.context cx in
    let V = g.C.PatCx.is_value cx in
    let decides = table_decides c.args.decisions.now in
    let frames = reverse c.args.frames.now.items in
    let now = table_trees c.args.table.now in
    let l = c.args.looked in
    let cases = map plain_branch l.cases.items in (
      inside.0,
      (
        inside.1,
        (
          l.matrix,
          l.column,
          λ d there. ap (λ q. q.place) (read l.matrix l.column d there c.index.result.now c.index.ensures),
          left-none IsType context V decides g.root frames now l.matrix l.column l.pieces.items cases
              (omega (arith, l.pieces.ok.0, c.in-None.ensures.cases.0)) c.requires.1.1.0,
        ),
      ),
    )

pub is_idle_alone-requires-clause-longer : goal.is_idle_alone-requires-clause-longer
is_idle_alone-requires-clause-longer g c =
    let cx = c.args.cx.now in
    let l = c.args.looked in
    let k = c.requires.1.1.0.5 in
    longer (g.C.PatCx.is_type cx) (g.C.PatCx.context cx) (g.C.PatCx.is_value cx) (g.met.C.PatCx.values cx)
    (table_decides c.args.decisions.now) l.column l.matrix k.column k.ready k.there

pub is_idle_alone-requires-clause-within : goal.is_idle_alone-requires-clause-within
is_idle_alone-requires-clause-within g c =
    let l = c.args.looked in
    let new = c.pop.new.self.items in
    let i = l.column in
    let rows = matrix_rows l.matrix in
    let spans = l.spans.items in
    let todo = l.todo.items in
    let ks = plain_ctors new in
    let p = plain_ctor c.in-Some.piece in
    let numbers = c.in_ok-numbers-in-Some.numbers.items in
    let cut : AreCut i rows (ks ++ p ∷ []) spans todo =
    subst (λ qs. AreCut i rows qs spans todo) (map-snoc plain_ctor new l.pieces.items c.in-Some.piece c.in-Some.ensures.items)
    c.requires.1.1.1 in
    let was : c.replace-todo.result.items ≡ todo = ap (λ (v : Vec Part). v.items) c.replace-todo.ensures.value in
    let led : AreLed i rows numbers (leaves_with (plain_spans spans) (length cut.gone)) =
    subst (λ ss. AreLed i rows numbers (leaves_with (plain_spans ss) (length cut.gone))) c.deref-in-Some.ensures.value
    (subst (λ rs. AreLed i (plain_rows rs) numbers (leaves_with (plain_spans c.deref-in-Some.result.now) (length cut.gone)))
    c.deref.ensures.value
    (c.in_ok-numbers-in-Some.ensures.rows (length cut.gone) (columns_from (suc (length cut.gone)) (length ks))
    (ap pieces_left was ∙ next-number i rows ks p spans todo cut))) in
    let long : length rows ≡ length l.matrix.rows.items = length-map l.matrix.rows.items plain_row in
    subst (λ n. All (λ k. k < n) numbers) long (led-within i rows ks p spans todo cut numbers led)

pub index-k-requires : goal.index-k-requires
index-k-requires g c =
    let l = c.args.looked in
    let numbers = c.in_ok-numbers-in-Some.numbers in
    omega (
      arith,
      numbers.ok.0,
      idle-some l.column (matrix_rows l.matrix) numbers.items (sym c.is_idle_alone.ensures ∙ c.if-is_idle_alone.true),
    )

pub take_case-requires : goal.take_case-requires
take_case-requires g c κs inside =
    let cx = c.args.cx.now in
    let IsType = g.C.PatCx.is_type cx in
    let context = g.C.PatCx.context cx in
    let V = g.C.PatCx.is_value cx in
    let decides = table_decides c.args.decisions.now in
    let frames = reverse c.args.frames.now.items in
    let now = table_trees c.args.table.now in
    let old = c.args.looked in
    let new = c.pop.new.self.items in
    let i = old.column in
    let rows = matrix_rows old.matrix in
    let spans = old.spans.items in
    let todo = old.todo.items in
    let ks = plain_ctors new in
    let p = plain_ctor c.in-Some.piece in
    let numbers = c.in_ok-numbers-in-Some.numbers.items in
    let k = c.index-k.result.now in
    let cut : AreCut i rows (ks ++ p ∷ []) spans todo =
    subst (λ qs. AreCut i rows qs spans todo) (map-snoc plain_ctor new old.pieces.items c.in-Some.piece c.in-Some.ensures.items)
    c.requires.1.1.1 in
    let was : c.replace-todo.result.items ≡ todo = ap (λ (v : Vec Part). v.items) c.replace-todo.ensures.value in
    let next : pieces_left c.replace-todo.result.items ≡ length cut.gone ∷ columns_from (suc (length cut.gone)) (length ks) =
    ap pieces_left was ∙ next-number i rows ks p spans todo cut in
    let led : AreLed i rows numbers (leaves_with (plain_spans spans) (length cut.gone)) =
    subst (λ ss. AreLed i rows numbers (leaves_with (plain_spans ss) (length cut.gone))) c.deref-in-Some.ensures.value
    (subst (λ rs. AreLed i (plain_rows rs) numbers (leaves_with (plain_spans c.deref-in-Some.result.now) (length cut.gone)))
    c.deref.ensures.value
    (c.in_ok-numbers-in-Some.ensures.rows (length cut.gone) (columns_from (suc (length cut.gone)) (length ks)) next)) in
    let alone = sym c.is_idle_alone.ensures ∙ c.if-is_idle_alone.true in (
      inside.0,
      (
        inside.1,
        (
          left-last IsType context V decides g.root frames now old.matrix i old.pieces.items new c.in-Some.piece
              (map plain_branch old.cases.items) c.in-Some.ensures.items c.requires.1.1.0,
          (
            cut-next i rows ks p spans todo cut c.next_cut.new.todo.items
                (c.in_ok-numbers-in-Some.ensures.left (length cut.gone) (columns_from (suc (length cut.gone)) (length ks)) next)
                (subst (λ ss. All (IsCutPart i rows ss) c.next_cut.new.todo.items) c.deref-in-Some.ensures.value
                (subst (λ rs. All (IsCutPart i (plain_rows rs) c.deref-in-Some.result.now) c.next_cut.new.todo.items)
                c.deref.ensures.value c.in_ok-numbers-in-Some.ensures.parts)),
            next-idle i rows ks p spans todo cut numbers led alone k (idle-one i rows numbers k alone c.index-k.ensures),
          ),
        ),
      ),
    )
