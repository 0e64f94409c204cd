use Rattle.std.proofs.Common.{◌≡◌, List, arith, subst, sym}
use Rattle.pat_context.specs.Views.{plain_ctor}
use Rattle.pattern_matrix.specs.Opening.{opened_rows}
use Rattle.pattern_matrix.specs.Sparse.{AreBelow, leaves_listed}
use Rattle.pattern_matrix.specs.Views.{plain_rows, plain_leaves}
use Rattle.pattern_matrix.specs.declared.rows.Leaf.{Leaf}
use Rattle.pattern_matrix.specs.declared.rows.Row.{Row}
use Rattle.witness_search.specs.Opened.{places_of, numbers_of}
use Rattle.witness_search.proofs.Steps.{entered_well, entered_ready, entered_back, parts_ready, numbers_ready, rows_ready, rows_given}
use Rattle.witness_search.proofs.apart.enter_piece.Goals as goal

pub piece_rows-requires : goal.piece_rows-requires
piece_rows-requires g c =
    let cx = c.args.cx.now in
    let e = c.args.e.now in
    let others = c.args.opened.now.items in
    let piece = plain_ctor c.args.ctor.now in
    let found = c.args.leaves.now in
    record {
      numbers = numbers_ready (g.C.PatCx.is_type cx) (g.C.PatCx.context cx) (g.C.PatCx.is_value cx) e piece found c.deref-2.result.now c.deref-2.ensures.value c.requires.leaves;
      within = rows_ready (g.C.PatCx.is_type cx) (g.C.PatCx.context cx) (g.C.PatCx.is_value cx) others e c.deref.result.now c.deref-2.result.now c.deref.ensures.value c.deref-2.ensures.value c.requires.apart;
      parts = parts_ready (g.C.PatCx.is_type cx) (g.C.PatCx.context cx) (g.C.PatCx.is_value cx) (g.met.C.PatCx.parts cx) others e piece c.in_ok-count.count found c.deref-2.result.now c.deref-2.ensures.value
          c.requires.apart c.requires.ctor c.in_ok-count.ensures.count c.requires.leaves;
      fits = omega (arith, c.in_ok-count.ensures.few, c.requires.room);
    }

pub returns-clause-well : goal.returns-clause-well
returns-clause-well g c =
    let cx = c.args.cx.now in
    let e = c.args.e.now in
    let others = c.args.opened.now.items in
    let now = c.open_parts.new.opened.items in
    let piece = plain_ctor c.args.ctor.now in
    let new = plain_rows c.in_ok-rows.rows.items in
    let n = c.in_ok-count.count in
    entered_well (g.C.PatCx.is_type cx) (g.C.PatCx.context cx) (g.C.PatCx.is_value cx) (g.met.C.PatCx.parts cx) others e piece new n (numbers_of now) (places_of now)
    c.requires.apart c.requires.ctor c.in_ok-count.ensures.count c.in_ok-count.ensures.numbers c.in_ok-count.ensures.places
    (rows_given (g.C.PatCx.is_type cx) (g.C.PatCx.context cx) (g.C.PatCx.is_value cx) (g.met.C.PatCx.parts cx) others e piece n c.args.leaves.now c.deref.result.now c.deref-2.result.now new c.deref.ensures.value c.deref-2.ensures.value
    c.requires.apart c.requires.ctor c.in_ok-count.ensures.count c.requires.leaves c.in_ok-rows.ensures.rows)
    (c.in_ok-rows.ensures.within (subst (λ (rs : List (Row g.row.C-Ty.Denot)). AreBelow e.next (plain_rows rs)) (sym c.deref.ensures.value) c.requires.apart.below))

pub returns-clause-askable : goal.returns-clause-askable
returns-clause-askable g c =
    let cx = c.args.cx.now in
    let e = c.args.e.now in
    let now = c.open_parts.new.opened.items in
    let new = plain_rows c.in_ok-rows.rows.items in
    let here : List (Row g.row.C-Ty.Denot) → List (Leaf g.row.C-Ty.Denot) → Type 0 =
    λ rs ls. new ≡ opened_rows e.place.number e.next c.in_ok-count.count (plain_rows rs) (leaves_listed (plain_leaves ls) c.args.leaves.now) in
    λ arms valued known. entered_ready (g.C.PatCx.is_type cx) (g.C.PatCx.context cx) (g.C.PatCx.is_value cx) (g.met.C.PatCx.values cx) (g.met.C.PatCx.parts cx) arms
    c.args.opened.now.items e (plain_ctor c.args.ctor.now) new c.in_ok-count.count (numbers_of now) (places_of now) c.args.leaves.now c.requires.apart c.requires.ctor c.requires.leaves
    c.in_ok-count.ensures.count c.in_ok-count.ensures.numbers c.in_ok-count.ensures.places
    (subst (here e.rows.items) c.deref-2.ensures.value (subst (λ (rs : List (Row g.row.C-Ty.Denot)). here rs c.deref-2.result.now) c.deref.ensures.value c.in_ok-rows.ensures.opened)) valued known

pub returns-clause-back : goal.returns-clause-back
returns-clause-back g c =
    let cx = c.args.cx.now in
    let e = c.args.e.now in
    let others = c.args.opened.now.items in
    let now = c.open_parts.new.opened.items in
    let piece = plain_ctor c.args.ctor.now in
    let new = plain_rows c.in_ok-rows.rows.items in
    let n = c.in_ok-count.count in
    entered_back (g.C.PatCx.is_type cx) (g.C.PatCx.context cx) (g.C.PatCx.is_value cx) others e piece new n (numbers_of now) (places_of now)
    c.in_ok-count.ensures.count c.in_ok-count.ensures.numbers c.in_ok-count.ensures.places
    (rows_given (g.C.PatCx.is_type cx) (g.C.PatCx.context cx) (g.C.PatCx.is_value cx) (g.met.C.PatCx.parts cx) others e piece n c.args.leaves.now c.deref.result.now c.deref-2.result.now new c.deref.ensures.value c.deref-2.ensures.value
    c.requires.apart c.requires.ctor c.in_ok-count.ensures.count c.requires.leaves c.in_ok-rows.ensures.rows)
