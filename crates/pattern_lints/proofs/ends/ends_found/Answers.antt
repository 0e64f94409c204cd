use Rattle.std.proofs.Common.{rules, refl, sym, ap, subst, ◌∙◌, ◌+◌, map, get_or, Some, arith}
use Rattle.range_split.specs.Ends.{plain_end}
use Rattle.pattern_arena.specs.Trees.{plain_arm}
use Rattle.pattern_lints.specs.declared.ends.RangeEnd.{RangeEnd}
use Rattle.pattern_lints.specs.Finding.{range_view}
use Rattle.pattern_lints.specs.Ends.{AreEndsTo, AreBounded}
use Rattle.pattern_lints.proofs.Tries.{in-at}
use Rattle.pattern_lints.proofs.Whole.{in-arm}
use Rattle.pattern_lints.proofs.EndList.{mapped-at, mapped-below, below-mapped, ends-pass, ends-push, ends-all, bounded-push}
use Rattle.pattern_lints.proofs.ends.ends_found.Goals as goal
use Rattle.pattern_lints.proofs.ends.ends_found.Goals.{in-At+in_ok-push, in_default}

pub offset_bounds-arms-range : goal.offset_bounds-arms-range
offset_bounds-arms-range g c =
    let fs = map range_view c.args.found.now in
    let r = c.index-found-index.result in
    let at = mapped-at range_view c.args.found.now c.loop-index.index r c.loop-index-test.true ∙ ap (λ z. Some (range_view z)) (sym c.index-found-index.is) in
    let arm = in-arm (map plain_arm c.args.arms.now) fs (range_view r) c.requires.found (in-at fs c.loop-index.index (range_view r) at) in
    let less = below-mapped plain_arm c.args.arms.now r.arm arm.arm arm.there in
    omega (arith, less)

pub bounds-arms-range : goal.bounds-arms-range
bounds-arms-range g c =
    let fs = map range_view c.args.found.now in
    let r = c.index-found-index.result in
    let at = mapped-at range_view c.args.found.now c.loop-index.index r c.loop-index-test.true ∙ ap (λ z. Some (range_view z)) (sym c.index-found-index.is) in
    let arm = in-arm (map plain_arm c.args.arms.now) fs (range_view r) c.requires.found (in-at fs c.loop-index.index (range_view r) at) in
    below-mapped plain_arm c.args.arms.now r.arm arm.arm arm.there

pub loop-index-preserved : goal.loop-index-preserved
loop-index-preserved g c =
    let fs = map range_view c.args.found.now in
    let arms = map plain_arm c.args.arms.now in
    let columns = c.args.columns.now in
    let side = c.args.side in
    let i = c.loop-index.index in
    let r = c.index-found-index.result in
    let at = mapped-at range_view c.args.found.now i r c.loop-index-test.true ∙ ap (λ z. Some (range_view z)) (sym c.index-found-index.is) in
    let arm = in-arm arms fs (range_view r) c.requires.found (in-at fs i (range_view r) at) in
    let less = below-mapped plain_arm c.args.arms.now r.arm arm.arm arm.there in
    elim c.match-end_of.branch [
      | in-At+in_ok-push w ↦
          let e : RangeEnd = record { place = r.place; number = w.in-At.number; from = w.bounds_beside.result.0; to = w.bounds_beside.result.1; index = i } in
          let there = mapped-at plain_arm c.args.arms.now r.arm w.index-arms-range.result less in
          subst (λ (v : _). AreEndsTo side fs (i + 1) v.items × AreBounded arms columns fs v.items) (sym w.ends-is)
          (subst (λ xs. AreEndsTo side fs (i + 1) xs × AreBounded arms columns fs xs) (sym w.in_ok-push.ensures.items) (
            ends-push side fs i c.loop-index.ends.items (range_view r) e at refl refl (sym c.end_of.ensures ∙ ap plain_end w.in-At.is) c.loop-index.invariant.0,
            bounded-push arms columns fs c.loop-index.ends.items (range_view r) (plain_arm (get_or c.args.arms.now r.arm w.index-arms-range.result)) e at there w.bounds_beside.ensures c.loop-index.invariant.1,
          ))
      | in_default w ↦
          subst (λ (v : _). AreEndsTo side fs (i + 1) v.items × AreBounded arms columns fs v.items) (sym w.ends-is)
          (ends-pass side fs i c.loop-index.ends.items (range_view r) at (search rules) c.loop-index.invariant.0, c.loop-index.invariant.1)
    ]

pub returns-clause-ends : goal.returns-clause-ends
returns-clause-ends g c =
    ends-all c.args.side (map range_view c.args.found.now) c.loop-index.index c.loop-index.ends.items
    (mapped-below range_view c.args.found.now c.loop-index.index (search rules)) c.loop-index.invariant.0

pub bounds_beside-requires : goal.bounds_beside-requires
bounds_beside-requires g c = λ place own e.
    let fs = map range_view c.args.found.now in
    let arms = c.args.arms.now in
    let r = c.index-found-index.result in
    let at = mapped-at range_view c.args.found.now c.loop-index.index r c.loop-index-test.true ∙ ap (λ z. Some (range_view z)) (sym c.index-found-index.is) in
    let arm = in-arm (map plain_arm arms) fs (range_view r) c.requires.found (in-at fs c.loop-index.index (range_view r) at) in
    let less = below-mapped plain_arm arms r.arm arm.arm arm.there in
    c.requires.known place own e r.arm (plain_arm (get_or arms r.arm c.index-arms-range.result)) (mapped-at plain_arm arms r.arm c.index-arms-range.result less)
