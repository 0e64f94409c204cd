use Rattle.std.proofs.Common.{rules, ◌≡◌, ◌<◌, ◌++◌, ◌∷◌, [], map, refl, ap, sym, subst, ◌∙◌, arith, append-nil, append_assoc}
use Rattle.std.proofs.lemmas.Option.{IfSome_then}
use Rattle.std.specs.List.{All}
use Rattle.pattern_arena.specs.Trees.{plain_arm}
use Rattle.pattern_matrix.specs.HeadLists.{kept_heads}
use Rattle.pattern_matrix.specs.Views.{plain_heads}
use Rattle.usefulness.specs.Behind.{row_asked}
use Rattle.usefulness.specs.Covering.{asking_columns, asking_rows, scope_asked}
use Rattle.usefulness.specs.Frames.{numbers, IsHeadIn, IsRowIn}
use Rattle.usefulness.specs.States.{child_views, is_noted, plain_asked, IsListed}
use Rattle.usefulness.proofs.AskedFirst.{row_more, last_more, next_holds, first_passes, first_fit}
use Rattle.usefulness.proofs.AskedRows.{row_in, last_in}
use Rattle.usefulness.proofs.FirstRows.{none_left}
use Rattle.usefulness.proofs.Steps.{listed_first}
use Rattle.usefulness.proofs.behind.first_frame.Goals as goal

pub loop-heads-init : goal.loop-heads-init
loop-heads-init g c =
    let none = c.in_ok-listing in (
      listed_first (scope_asked (map plain_arm c.args.reached.now.arms.now)) c.args.reached.now (numbers (asking_columns c.args.asking)) none.listing c.requires.scope none.ensures.rows none.ensures.closed none.ensures.kept,
      search rules,
    )

pub list_row-requires-clause-arm : goal.list_row-requires-clause-arm
list_row-requires-clause-arm g c =
    let low : 0 < 2 = omega arith in
    subst (λ s. c.row_asked.result.row.arm < s.arms) (sym c.loop-heads.invariant.0.known) (subst (λ x. x.row.arm < 2) (sym c.row_asked.ensures) low)

pub list_row-requires-clause-kept : goal.list_row-requires-clause-kept
list_row-requires-clause-kept g c = c.loop-heads.invariant.0.kept

pub loop-heads-preserved : goal.loop-heads-preserved
loop-heads-preserved g c =
    let a = c.args.asking in
    let arms = map plain_arm c.args.reached.now.arms.now in
    let scope = scope_asked arms in
    let old = is_noted c.args.reached.now in
    let columns = numbers (asking_columns a) in
    let loop = c.loop-heads in
    let heads = c.in-Some.heads in
    let rest = c.next.new.self.rest.items in
    let next = c.in-Some.ensures.steps.0 in
    let known = next_holds (λ h. plain_heads (kept_heads h)) (λ hs. All (IsHeadIn scope columns) hs) a.rows.items loop.yielded loop.heads-iterator.rest.items rest heads c.requires.asking.heads loop.invariant.1 next in (
      subst (λ through. IsListed scope old c.list_row.new.reached columns through c.list_row.new.listing)
          (row_more (λ h. plain_heads (kept_heads h)) loop.yielded heads (plain_asked c.row_asked.result) c.row_asked.ensures)
          (c.in_ok-list_row.ensures scope old columns (map row_asked (map (λ h. plain_heads (kept_heads h)) loop.yielded)) loop.invariant.0
          (subst (IsRowIn scope columns) (sym c.row_asked.ensures) (row_in arms columns (plain_heads (kept_heads heads)) known))),
      append_assoc loop.yielded (heads ∷ []) rest ∙ ap (λ ys. loop.yielded ++ ys) (sym next) ∙ loop.invariant.1,
    )

pub list_row-requires-2-clause-arm : goal.list_row-requires-2-clause-arm
list_row-requires-2-clause-arm g c =
    let low : 1 < 2 = omega arith in
    subst (λ s. c.last_asked.result.row.arm < s.arms) (sym c.loop-heads.invariant.0.known) (subst (λ x. x.row.arm < 2) (sym c.last_asked.ensures) low)

pub list_row-requires-2-clause-kept : goal.list_row-requires-2-clause-kept
list_row-requires-2-clause-kept g c = c.loop-heads.invariant.0.kept

pub finish-requires : goal.finish-requires
finish-requires g c =
    let a = c.args.asking in
    let arms = map plain_arm c.args.reached.now.arms.now in
    let scope = scope_asked arms in
    let old = is_noted c.args.reached.now in
    let columns = numbers (asking_columns a) in
    let loop = c.loop-heads in
    let now = c.list_row-2.new.reached in
    let listing = c.list_row-2.new.listing in
    let rest = loop.heads-iterator.rest in
    let end = c.in-None.ensures.steps.0 in
    let ok = rest.ok.0 in
    let all : loop.yielded ≡ a.rows.items = sym (append-nil loop.yielded) ∙ ap (λ ys. loop.yielded ++ ys) (sym (none_left rest.items (omega (arith, end, ok)))) ∙ loop.invariant.1 in
    let listed =
    subst (λ through. IsListed scope old now columns through listing)
    (last_more (map (λ h. plain_heads (kept_heads h)) loop.yielded) (asking_rows a) (plain_asked c.last_asked.result) (ap (map (λ h. plain_heads (kept_heads h))) all) c.last_asked.ensures)
    (c.in_ok-list_row-2.ensures scope old columns (map row_asked (map (λ h. plain_heads (kept_heads h)) loop.yielded)) loop.invariant.0 (subst (IsRowIn scope columns) (sym c.last_asked.ensures) (last_in arms columns))) in
    record { kept = listed.kept }

pub returns-clause-scope : goal.returns-clause-scope
returns-clause-scope g c =
    let a = c.args.asking in
    let arms = map plain_arm c.args.reached.now.arms.now in
    let scope = scope_asked arms in
    let old = is_noted c.args.reached.now in
    let columns = numbers (asking_columns a) in
    let loop = c.loop-heads in
    let now = c.list_row-2.new.reached in
    let listing = c.list_row-2.new.listing in
    let rest = loop.heads-iterator.rest in
    let end = c.in-None.ensures.steps.0 in
    let ok = rest.ok.0 in
    let all : loop.yielded ≡ a.rows.items = sym (append-nil loop.yielded) ∙ ap (λ ys. loop.yielded ++ ys) (sym (none_left rest.items (omega (arith, end, ok)))) ∙ loop.invariant.1 in
    let listed =
    subst (λ through. IsListed scope old now columns through listing)
    (last_more (map (λ h. plain_heads (kept_heads h)) loop.yielded) (asking_rows a) (plain_asked c.last_asked.result) (ap (map (λ h. plain_heads (kept_heads h))) all) c.last_asked.ensures)
    (c.in_ok-list_row-2.ensures scope old columns (map row_asked (map (λ h. plain_heads (kept_heads h)) loop.yielded)) loop.invariant.0 (subst (IsRowIn scope columns) (sym c.last_asked.ensures) (last_in arms columns))) in
    listed.known

pub returns-clause-good : goal.returns-clause-good
returns-clause-good g c =
    let a = c.args.asking in
    let arms = map plain_arm c.args.reached.now.arms.now in
    let scope = scope_asked arms in
    let old = is_noted c.args.reached.now in
    let columns = numbers (asking_columns a) in
    let loop = c.loop-heads in
    let now = c.list_row-2.new.reached in
    let listing = c.list_row-2.new.listing in
    let rest = loop.heads-iterator.rest in
    let end = c.in-None.ensures.steps.0 in
    let ok = rest.ok.0 in
    let all : loop.yielded ≡ a.rows.items = sym (append-nil loop.yielded) ∙ ap (λ ys. loop.yielded ++ ys) (sym (none_left rest.items (omega (arith, end, ok)))) ∙ loop.invariant.1 in
    let listed =
    subst (λ through. IsListed scope old now columns through listing)
    (last_more (map (λ h. plain_heads (kept_heads h)) loop.yielded) (asking_rows a) (plain_asked c.last_asked.result) (ap (map (λ h. plain_heads (kept_heads h))) all) c.last_asked.ensures)
    (c.in_ok-list_row-2.ensures scope old columns (map row_asked (map (λ h. plain_heads (kept_heads h)) loop.yielded)) loop.invariant.0 (subst (IsRowIn scope columns) (sym c.last_asked.ensures) (last_in arms columns))) in
    IfSome_then c.finish.result c.finish.ensures.good (λ f good. good scope c.requires.asking.columns listed.rows)

pub returns-clause-fit : goal.returns-clause-fit
returns-clause-fit g c =
    let cx = c.args.cx.now in
    let IsType = g.C.PatCx.is_type cx in
    let IsValue = g.C.PatCx.is_value cx in
    let context = g.C.PatCx.context cx in
    let a = c.args.asking in
    let arms = map plain_arm c.args.reached.now.arms.now in
    let scope = scope_asked arms in
    let old = is_noted c.args.reached.now in
    let columns = numbers (asking_columns a) in
    let loop = c.loop-heads in
    let now = c.list_row-2.new.reached in
    let listing = c.list_row-2.new.listing in
    let rest = loop.heads-iterator.rest in
    let end = c.in-None.ensures.steps.0 in
    let ok = rest.ok.0 in
    let all : loop.yielded ≡ a.rows.items = sym (append-nil loop.yielded) ∙ ap (λ ys. loop.yielded ++ ys) (sym (none_left rest.items (omega (arith, end, ok)))) ∙ loop.invariant.1 in
    let listed =
    subst (λ through. IsListed scope old now columns through listing)
    (last_more (map (λ h. plain_heads (kept_heads h)) loop.yielded) (asking_rows a) (plain_asked c.last_asked.result) (ap (map (λ h. plain_heads (kept_heads h))) all) c.last_asked.ensures)
    (c.in_ok-list_row-2.ensures scope old columns (map row_asked (map (λ h. plain_heads (kept_heads h)) loop.yielded)) loop.invariant.0 (subst (IsRowIn scope columns) (sym c.last_asked.ensures) (last_in arms columns))) in
    first_fit IsType IsValue context arms a.next (asking_columns a) (asking_rows a) c.requires.asking old now listing (child_views c.finish.result) c.requires.none listed c.finish.ensures.views

pub returns-clause-passes : goal.returns-clause-passes
returns-clause-passes g c =
    let cx = c.args.cx.now in
    let IsType = g.C.PatCx.is_type cx in
    let IsValue = g.C.PatCx.is_value cx in
    let context = g.C.PatCx.context cx in
    let a = c.args.asking in
    let arms = map plain_arm c.args.reached.now.arms.now in
    let scope = scope_asked arms in
    let old = is_noted c.args.reached.now in
    let columns = numbers (asking_columns a) in
    let loop = c.loop-heads in
    let now = c.list_row-2.new.reached in
    let listing = c.list_row-2.new.listing in
    let rest = loop.heads-iterator.rest in
    let end = c.in-None.ensures.steps.0 in
    let ok = rest.ok.0 in
    let all : loop.yielded ≡ a.rows.items = sym (append-nil loop.yielded) ∙ ap (λ ys. loop.yielded ++ ys) (sym (none_left rest.items (omega (arith, end, ok)))) ∙ loop.invariant.1 in
    let listed =
    subst (λ through. IsListed scope old now columns through listing)
    (last_more (map (λ h. plain_heads (kept_heads h)) loop.yielded) (asking_rows a) (plain_asked c.last_asked.result) (ap (map (λ h. plain_heads (kept_heads h))) all) c.last_asked.ensures)
    (c.in_ok-list_row-2.ensures scope old columns (map row_asked (map (λ h. plain_heads (kept_heads h)) loop.yielded)) loop.invariant.0 (subst (IsRowIn scope columns) (sym c.last_asked.ensures) (last_in arms columns))) in
    first_passes IsType IsValue context arms a.next (asking_columns a) (asking_rows a) c.requires.asking old now listing (child_views c.finish.result) c.requires.none listed c.finish.ensures.views
