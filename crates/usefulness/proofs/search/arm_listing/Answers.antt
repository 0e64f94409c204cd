use Rattle.std.proofs.Common.{◌<◌, ◌∷◌, [], map, take, sym, subst}
use Rattle.pattern_arena.specs.Trees.{plain_arm}
use Rattle.pattern_matrix.specs.Starting.{starting_rows}
use Rattle.usefulness.specs.Frames.{IsRowIn}
use Rattle.usefulness.specs.Scope.{scope_for}
use Rattle.usefulness.specs.Starting.{wanted_all}
use Rattle.usefulness.specs.States.{IsListed, is_noted, plain_asked}
use Rattle.usefulness.proofs.Steps.{listed_first}
use Rattle.usefulness.proofs.FirstRows.{arm_in, arm_more}
use Rattle.usefulness.proofs.search.arm_listing.Goals as goal

pub loop-i-init : goal.loop-i-init
loop-i-init g c =
    let none = c.in_ok-listing in
    listed_first (scope_for (map plain_arm c.args.arms.now)) c.args.reached.now (0 ∷ []) none.listing c.requires.scope none.ensures.rows none.ensures.closed none.ensures.kept

pub list_row-requires-clause-arm : goal.list_row-requires-clause-arm
list_row-requires-clause-arm g c =
    let loop = c.loop-i in
    let a = c.index-arms-i.result in
    let row = arm_in plain_arm c.args.arms.now loop.i a c.loop-i-test.true c.index-arms-i.is in
    subst (λ s. c.arm_row-asked.result.row.arm < s.arms) (sym loop.invariant.known)
    (subst (λ x. x.row.arm < (scope_for (map plain_arm c.args.arms.now)).arms) (sym c.arm_row-asked.ensures) row.arm)

pub list_row-requires-clause-kept : goal.list_row-requires-clause-kept
list_row-requires-clause-kept g c = c.loop-i.invariant.kept

pub loop-i-preserved : goal.loop-i-preserved
loop-i-preserved g c =
    let loop = c.loop-i in
    let arms = c.args.arms.now in
    let a = c.index-arms-i.result in
    let scope = scope_for (map plain_arm arms) in
    let old = is_noted c.args.reached.now in
    let row = arm_in plain_arm arms loop.i a c.loop-i-test.true c.index-arms-i.is in
    subst (λ through. IsListed scope old c.list_row.new.reached (0 ∷ []) through c.list_row.new.listing)
    (arm_more plain_arm arms loop.i a (plain_asked c.arm_row-asked.result) c.loop-i-test.true c.index-arms-i.is c.arm_row-asked.ensures)
    (c.in_ok-list_row.ensures scope old (0 ∷ []) (wanted_all (starting_rows 0 (map plain_arm (take loop.i arms)))) loop.invariant
    (subst (IsRowIn scope (0 ∷ [])) (sym c.arm_row-asked.ensures) row))
