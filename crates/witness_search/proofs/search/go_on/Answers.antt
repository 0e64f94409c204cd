use Rattle.std.proofs.Common.{◌++◌, ◌∷◌, ◌≤◌, [], List, map, length, sym, subst, reverse, arith}
use Rattle.witnesses.specs.declared.stack.Stack.{Stack}
use Rattle.witnesses.specs.Views.{plain_stack}
use Rattle.pattern_matrix.specs.Columns.{plain_column}
use Rattle.witness_search.specs.Askable.{IsAskable}
use Rattle.witness_search.specs.Found.{IsEnterable}
use Rattle.witness_search.specs.Turns.{Accepts, Ends}
use Rattle.witness_search.specs.declared.apart.Apart.{Apart}
use Rattle.witness_search.specs.declared.opened.Opened.{Opened}
use Rattle.witness_search.proofs.Going.{at_piece}
use Rattle.witness_search.proofs.Turning.{walked_all}
use Rattle.witness_search.proofs.search.go_on.Goals as goal

pub returns-then-walk-len : goal.returns-then-walk-len
returns-then-walk-len g c =
    let cx = c.args.cx.now in
    let w = c.args.walk in
    let opened = c.args.opened.now.items in
    let fs = reverse c.args.frames.now.items in
    let done : length w.cut.pieces.items ≤ w.done = omega (arith, c.len.ensures, c.if-walk-len.true, w.cut.pieces.ok.0) in
    subst (λ (os : List (Opened g.row.C-Ty.Denot)). Accepts (g.C.PatCx.is_type cx) (g.C.PatCx.context cx) (g.C.PatCx.is_value cx) g.root fs os (map plain_stack c.in_ok-all.all.items)) (sym c.in_ok-all.ensures.opened)
    (subst (λ (ws : List Stack). Accepts (g.C.PatCx.is_type cx) (g.C.PatCx.context cx) (g.C.PatCx.is_value cx) g.root fs (opened ++ w.e.place ∷ []) (map plain_stack ws)) (sym c.in_ok-all.ensures.all)
    (c.requires.1.1.1.1 (map plain_stack w.all.items) (walked_all (g.C.PatCx.is_type cx) (g.C.PatCx.context cx) (g.C.PatCx.is_value cx) opened w done c.requires.1.1.0)))

pub pass_piece-requires-clause-enterable : goal.pass_piece-requires-clause-enterable
pass_piece-requires-clause-enterable g c =
    let cx = c.args.cx.now in
    let w = c.args.walk in
    at_piece (λ q. IsEnterable (g.C.PatCx.context cx) (plain_column w.e.place.column) q.0) w.cut.pieces.items w.done c.index-piece.result.now (omega (arith, c.len.ensures, c.if-walk-len.false, w.cut.pieces.ok.0))
    c.index-piece.ensures c.requires.1.1.0.cut.enterable

pub returns-in_ok-passed-in_default : goal.returns-in_ok-passed-in_default
returns-in_ok-passed-in_default g c =
    let cx = c.args.cx.now in (
      c.in_ok-passed-in_default.ensures.gone c.args.opened.now.items c.requires.1.1.0,
      subst (λ (x : Apart g.row.C-Ty.Denot). IsAskable (g.C.PatCx.is_value cx) g.root.arms c.args.opened.now.items x) (sym c.in_ok-passed-in_default.ensures.e) c.requires.1.1.1.0,
      subst (λ (x : Apart g.row.C-Ty.Denot). Ends (g.C.PatCx.is_type cx) (g.C.PatCx.context cx) (g.C.PatCx.is_value cx) g.root (reverse c.args.frames.now.items) c.args.opened.now.items x) (sym c.in_ok-passed-in_default.ensures.e) c.requires.1.1.1.1,
    )
