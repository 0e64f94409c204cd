use Rattle.std.proofs.Common.{sym, subst, reverse}
use Rattle.pattern_matrix.specs.Columns.{plain_column}
use Rattle.pattern_matrix.specs.Halving.{leaf_ctors}
use Rattle.pattern_matrix.specs.Views.{plain_rows, plain_leaves}
use Rattle.witness_search.specs.Askable.{IsAskable}
use Rattle.witness_search.specs.Opened.{places_of, numbers_of}
use Rattle.witness_search.specs.Turns.{Ends}
use Rattle.witness_search.specs.declared.apart.Apart.{Apart}
use Rattle.witness_search.proofs.Stepping.{apart_sharp}
use Rattle.witness_search.proofs.Turning.{missing_look}
use Rattle.witness_search.proofs.search.split_place.Goals as goal

pub found_at-requires-clause-ty : goal.found_at-requires-clause-ty
found_at-requires-clause-ty g c = c.requires.1.1.0.type

pub found_at-requires-clause-heads : goal.found_at-requires-clause-heads
found_at-requires-clause-heads g c =
    let cx = c.args.cx.now in
    let e = c.args.e in
    let others = c.args.opened.now.items in
    apart_sharp (g.C.PatCx.is_type cx) (g.C.PatCx.context cx) e.next e.place.number (plain_column e.place.column) (numbers_of others) (places_of others) (plain_rows e.rows.items) (plain_leaves e.leaves.items)
    (leaf_ctors (plain_leaves e.leaves.items)) c.requires.1.1.0

pub returns-in_ok-put_frame : goal.returns-in_ok-put_frame
returns-in_ok-put_frame g c =
    let cx = c.args.cx.now in (
      c.in_ok-behind.ensures.well,
      c.in_ok-behind.ensures.askable g.root.arms c.requires.1.1.1.0,
      missing_look (g.C.PatCx.is_type cx) (g.C.PatCx.context cx) (g.C.PatCx.is_value cx) g.root c.args.frames.now.items c.put_frame.new.frames.items c.args.opened.now.items c.args.e c.in_ok-found.found (plain_rows c.in_ok-behind.behind.items)
          c.in_ok-put_frame.ensures c.requires.1.1.0 c.in_ok-found.ensures c.if-found.true c.requires.1.1.1.0 c.requires.1.1.1.1 c.in_ok-behind.ensures.behind,
    )

pub returns-in_ok-walk : goal.returns-in_ok-walk
returns-in_ok-walk g c =
    let cx = c.args.cx.now in (
      c.in_ok-walk.ensures.gone,
      subst (λ (x : Apart g.row.C-Ty.Denot). IsAskable (g.C.PatCx.is_value cx) g.root.arms c.args.opened.now.items x) (sym c.in_ok-walk.ensures.e) c.requires.1.1.1.0,
      subst (λ (x : Apart g.row.C-Ty.Denot). Ends (g.C.PatCx.is_type cx) (g.C.PatCx.context cx) (g.C.PatCx.is_value cx) g.root (reverse c.args.frames.now.items) c.args.opened.now.items x) (sym c.in_ok-walk.ensures.e) c.requires.1.1.1.1,
    )
