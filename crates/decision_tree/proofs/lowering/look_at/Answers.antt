use Rattle.std.proofs.Common.{◌∙◌, true, false, reverse, subst, sym, ap, arith}
use Rattle.match_model.specs.DecisionTrees.{is_switchless}
use Rattle.match_model.specs.Lowering.{all_wild_at}
use Rattle.keyed_matrix.specs.Deciding.{table_decides}
use Rattle.keyed_matrix.specs.Steps.{AreLonger}
use Rattle.keyed_matrix.specs.Views.{plain_rows}
use Rattle.tree_eval.specs.Trees.{table_trees}
use Rattle.decision_tree.proofs.Knowing.{dropped-scope, expanded-scope}
use Rattle.decision_tree.proofs.Looking.{within, read, longer, is-type, expanded-there}
use Rattle.decision_tree.proofs.Turning.{dropped-turn, opened}
use Rattle.decision_tree.proofs.lowering.look_at.Goals as goal

pub are_wild-requires : goal.are_wild-requires
are_wild-requires g c =
    let cx = c.args.cx.now in
    let IsType = g.C.PatCx.is_type cx in
    let context = g.C.PatCx.context cx in
    let V = g.C.PatCx.is_value cx in
    let decides = table_decides c.args.decisions.now in
    let frames = reverse c.args.frames.now.items in
    let now = table_trees c.args.table.now in
    let values = g.met.C.PatCx.values cx in
    let m = c.args.m in
    let e = c.in_ok-e.e in
    let i = c.args.i in
    let f = c.requires.1.1.0 in
    let there = expanded-there context decides i m e f.column f.there c.in_ok-e.ensures.expanded in
    subst (λ rs. AreLonger i (plain_rows rs)) (sym c.deref.ensures.value)
    (longer IsType context V values decides i e f.column c.in_ok-e.ensures.ready there)

pub into_dropped-requires-clause-within : goal.into_dropped-requires-clause-within
into_dropped-requires-clause-within g c =
    let cx = c.args.cx.now in
    let IsType = g.C.PatCx.is_type cx in
    let context = g.C.PatCx.context cx in
    let V = g.C.PatCx.is_value cx in
    let decides = table_decides c.args.decisions.now in
    let frames = reverse c.args.frames.now.items in
    let now = table_trees c.args.table.now in
    let values = g.met.C.PatCx.values cx in
    let m = c.args.m in
    let e = c.in_ok-e.e in
    let i = c.args.i in
    let f = c.requires.1.1.0 in
    let there = expanded-there context decides i m e f.column f.there c.in_ok-e.ensures.expanded in
    within e i f.column there

pub returns-then-are_wild-clause-turn : goal.returns-then-are_wild-clause-turn
returns-then-are_wild-clause-turn g c =
    let cx = c.args.cx.now in
    let IsType = g.C.PatCx.is_type cx in
    let context = g.C.PatCx.context cx in
    let V = g.C.PatCx.is_value cx in
    let decides = table_decides c.args.decisions.now in
    let frames = reverse c.args.frames.now.items in
    let now = table_trees c.args.table.now in
    let values = g.met.C.PatCx.values cx in
    let m = c.args.m in
    let e = c.in_ok-e.e in
    let i = c.args.i in
    let f = c.requires.1.1.0 in
    let there = expanded-there context decides i m e f.column f.there c.in_ok-e.ensures.expanded in (
      c.in_ok-next.ensures.good,
      dropped-turn IsType context V decides g.root frames now i m e c.in_ok-next.next f c.in_ok-e.ensures.expanded
          (ap (λ rs. all_wild_at i (plain_rows rs)) (sym c.deref.ensures.value) ∙ sym c.are_wild.ensures ∙ c.if-are_wild.true)
          c.in_ok-next.ensures.dropped c.requires.1.1.1.1.0,
      dropped-scope IsType context V decides g.root i e c.in_ok-next.next
          (expanded-scope IsType context V decides g.root i m e c.requires.1.1.1.1.1 c.in_ok-e.ensures.expanded)
          c.in_ok-next.ensures.dropped,
    )

pub index-requires : goal.index-requires
index-requires g c =
    let cx = c.args.cx.now in
    let IsType = g.C.PatCx.is_type cx in
    let context = g.C.PatCx.context cx in
    let V = g.C.PatCx.is_value cx in
    let decides = table_decides c.args.decisions.now in
    let frames = reverse c.args.frames.now.items in
    let now = table_trees c.args.table.now in
    let values = g.met.C.PatCx.values cx in
    let m = c.args.m in
    let e = c.in_ok-e.e in
    let i = c.args.i in
    let f = c.requires.1.1.0 in
    let there = expanded-there context decides i m e f.column f.there c.in_ok-e.ensures.expanded in
    omega (arith, e.columns.ok.0, within e i f.column there)

pub set-set-requires : goal.set-set-requires
set-set-requires g c =
    let cx = c.args.cx.now in
    let IsType = g.C.PatCx.is_type cx in
    let context = g.C.PatCx.context cx in
    let V = g.C.PatCx.is_value cx in
    let decides = table_decides c.args.decisions.now in
    let frames = reverse c.args.frames.now.items in
    let now = table_trees c.args.table.now in
    let values = g.met.C.PatCx.values cx in
    let m = c.args.m in
    let e = c.in_ok-e.e in
    let i = c.args.i in
    let f = c.requires.1.1.0 in
    let there = expanded-there context decides i m e f.column f.there c.in_ok-e.ensures.expanded in
    is-type IsType context V values decides i e f.column c.in_ok-e.ensures.ready there c.index.result.now c.index.ensures

pub open_column-requires : goal.open_column-requires
open_column-requires g c κs inside =
    let cx = c.args.cx.now in
    let IsType = g.C.PatCx.is_type cx in
    let context = g.C.PatCx.context cx in
    let V = g.C.PatCx.is_value cx in
    let decides = table_decides c.args.decisions.now in
    let frames = reverse c.args.frames.now.items in
    let now = table_trees c.args.table.now in
    let values = g.met.C.PatCx.values cx in
    let m = c.args.m in
    let e = c.in_ok-e.e in
    let i = c.args.i in
    let f = c.requires.1.1.0 in
    let there = expanded-there context decides i m e f.column f.there c.in_ok-e.ensures.expanded in (
      inside.0,
      (
        inside.1,
        opened IsType context V decides g.root frames now i m e true f c.in_ok-e.ensures.expanded c.in_ok-e.ensures.ready
            (expanded-scope IsType context V decides g.root i m e c.requires.1.1.1.1.1 c.in_ok-e.ensures.expanded)
            (ap (λ rs. all_wild_at i (plain_rows rs)) (sym c.deref.ensures.value) ∙ sym c.are_wild.ensures ∙ c.if-are_wild.false)
            (ap (λ d. is_switchless (context.set_of d.type)) (sym (read e i f.column there c.index.result.now c.index.ensures))
            ∙ ap is_switchless (sym c.set-set.ensures) ∙ sym c.is_switchless.ensures ∙ c.if-is_switchless.true) c.requires.1.1.1.1.0,
      ),
    )

pub begin_switch-requires : goal.begin_switch-requires
begin_switch-requires g c κs inside =
    let cx = c.args.cx.now in
    let IsType = g.C.PatCx.is_type cx in
    let context = g.C.PatCx.context cx in
    let V = g.C.PatCx.is_value cx in
    let decides = table_decides c.args.decisions.now in
    let frames = reverse c.args.frames.now.items in
    let now = table_trees c.args.table.now in
    let values = g.met.C.PatCx.values cx in
    let m = c.args.m in
    let e = c.in_ok-e.e in
    let i = c.args.i in
    let f = c.requires.1.1.0 in
    let there = expanded-there context decides i m e f.column f.there c.in_ok-e.ensures.expanded in (
      inside.0,
      (
        inside.1,
        opened IsType context V decides g.root frames now i m e false f c.in_ok-e.ensures.expanded c.in_ok-e.ensures.ready
            (expanded-scope IsType context V decides g.root i m e c.requires.1.1.1.1.1 c.in_ok-e.ensures.expanded)
            (ap (λ rs. all_wild_at i (plain_rows rs)) (sym c.deref.ensures.value) ∙ sym c.are_wild.ensures ∙ c.if-are_wild.false)
            (ap (λ d. is_switchless (context.set_of d.type)) (sym (read e i f.column there c.index.result.now c.index.ensures))
            ∙ ap is_switchless (sym c.set-set.ensures) ∙ sym c.is_switchless.ensures ∙ c.if-is_switchless.false) c.requires.1.1.1.1.0,
      ),
    )
