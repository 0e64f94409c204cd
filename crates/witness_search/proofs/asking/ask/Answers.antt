use Rattle.std.proofs.Common.{List, ap, subst, sym, ◌∙◌}
use Rattle.pattern_matrix.specs.Views.{plain_rows}
use Rattle.pattern_matrix.specs.declared.rows.Row.{Row}
use Rattle.usefulness.specs.Covering.{asking_columns, asking_rows, IsAsking, AreAllTaken}
use Rattle.witness_search.specs.Asks.{shown_of, listed_of}
use Rattle.witness_search.proofs.Questions.{asked_well, answered}
use Rattle.witness_search.proofs.asking.ask.Goals as goal

pub is_covered-requires-clause-asking : goal.is_covered-requires-clause-asking
is_covered-requires-clause-asking g c =
    let cx = c.args.cx.now in
    let IsType = g.C.PatCx.is_type cx in
    let IsValue = g.C.PatCx.is_value cx in
    let context = g.C.PatCx.context cx in
    let asks = c.requires.1.1.0 in
    let opened = c.args.opened.now.items in
    let rows = c.args.rows.now.items in
    let asking = c.in_ok-asking.asking in
    let told = c.in_ok-asking.ensures in
    let same = told.rows ∙ ap (λ (rs : List (Row g.row.C-Ty.Denot)). listed_of (plain_rows rs)) c.deref.ensures.value in
    subst (λ arms. IsAsking IsType IsValue context arms asking.next (asking_columns asking) (asking_rows asking)) (sym asks.same)
    (subst (λ n. IsAsking IsType IsValue context g.arms n (asking_columns asking) (asking_rows asking)) (sym told.next)
    (subst (λ shown. IsAsking IsType IsValue context g.arms c.args.next shown (asking_rows asking)) (sym told.columns)
    (subst (λ hs. IsAsking IsType IsValue context g.arms c.args.next (shown_of opened) hs) (sym same)
    (asked_well IsType IsValue context g.arms c.args.next opened (plain_rows rows) asks.made c.requires.1.1.1.0 c.requires.1.1.1.1))))

pub returns-clause-none : goal.returns-clause-none
returns-clause-none g c =
    let cx = c.args.cx.now in
    let IsType = g.C.PatCx.is_type cx in
    let IsValue = g.C.PatCx.is_value cx in
    let opened = c.args.opened.now.items in
    let rows = c.args.rows.now.items in
    let asking = c.in_ok-asking.asking in
    let told = c.in_ok-asking.ensures in
    let same = told.rows ∙ ap (λ (rs : List (Row g.row.C-Ty.Denot)). listed_of (plain_rows rs)) c.deref.ensures.value in
    λ yes.
    answered IsType IsValue (g.C.PatCx.context cx) (g.met.C.PatCx.values cx) (g.met.C.PatCx.parts cx) (g.C.PatCx.empty_of cx) (g.C.PatCx.variant_empty_of cx) (g.met.C.PatCx.empty cx) (g.met.C.PatCx.unsure cx)
    g.arms c.args.next opened (plain_rows rows) c.requires.1.1.0.made c.requires.1.1.1.0 c.requires.1.1.1.1
    (subst (λ shown. AreAllTaken IsValue shown (listed_of (plain_rows rows))) told.columns (subst (AreAllTaken IsValue (asking_columns asking)) same (c.in_ok-covered.ensures.covered yes)))
