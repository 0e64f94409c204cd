use Rattle.std.proofs.Common.{◌<◌, rules, refl, sym, ap, ◌∙◌, get_or, subst, map, take, arith}
use Rattle.pat_context.specs.Views.{plain_ctor}
use Rattle.pattern_arena.specs.Trees.{tree, placed_subs}
use Rattle.pattern_lints.specs.Spots.{spot_below, spots_in}
use Rattle.pattern_lints.specs.Finding.{Notes}
use Rattle.pattern_lints.specs.Meeting.{pattern_size}
use Rattle.pattern_lints.proofs.Noting.{notes-none, notes-below}
use Rattle.pattern_lints.proofs.PlacedMeets.{placed_sub}
use Rattle.pattern_lints.proofs.Sizes.{sub_smaller}
use Rattle.pattern_lints.proofs.Walking.{walk-more, walk-all}
use Rattle.pattern_lints.proofs.spots.+walking.Goals as goal

pub find_below-returns-then-has_none : goal.find_below-returns-then-has_none
find_below-returns-then-has_none g t c =
    let a = c.args.finding.now in
    subst (λ xs. Notes a a c.args.place (map (spot_below (plain_ctor c.args.ctor.now) c.args.i) xs)) (sym (c.has_none.ensures c.if-has_none.true)) (notes-none a c.args.place)

pub find_below-returns : goal.find_below-returns
find_below-returns g t c =
    let opened = c.place_below.new.finding in
    let inner = c.find_in.new.finding in
    notes-below c.args.finding.now opened (record opened { path = c.push.new.self }) inner (record inner { path = c.pop.new.self }) c.args.place (plain_ctor c.args.ctor.now) c.args.i c.in_ok-below.below
    (spots_in (tree c.args.sub.now)) c.in_ok-below.ensures refl refl refl c.in_ok-push.ensures.items c.in_ok-find_in.ensures refl refl refl c.pop.ensures.rest

pub find_parts-loop-i-preserved : goal.find_parts-loop-i-preserved
find_parts-loop-i-preserved g t c =
    let subs = placed_subs c.args.p.now in
    let i = c.loop-i.i in
    walk-more c.args.finding.now c.loop-i.finding c.find_below.new.finding c.args.place c.args.p.now (get_or subs i c.index-p-i.result) i c.loop-i-test.true (ap (get_or subs i) c.index-p-i.is)
    c.loop-i.invariant c.in_ok-find_below.ensures

pub find_parts-returns : goal.find_parts-returns
find_parts-returns g t c =
    walk-all c.args.finding.now c.loop-i.finding c.args.place c.args.p.now c.loop-i.i (search rules) c.loop-i.invariant

pub find_parts-find_below-requires : goal.find_parts-find_below-requires
find_parts-find_below-requires g t c κs within =
    let p = c.args.p.now in
    let there = placed_sub p c.index-p-i.result c.loop-i.i c.loop-i-test.true c.index-p-i.is in
    let less = subst (λ q. pattern_size (tree q) < pattern_size (tree p)) c.index-p-i.is (sub_smaller (tree p) c.loop-i.i (tree c.index-p-i.result) there) in
    (omega (arith, c.decreases, less), within)

pub find_in-find_parts-requires : goal.find_in-find_parts-requires
find_in-find_parts-requires g t c κs within =
    let less = c.in_ok-at.ensures.size in
    (omega (arith, c.decreases, less), within)

pub find_below-find_in-requires : goal.find_below-find_in-requires
find_below-find_in-requires g t c κs within = (omega (arith, c.decreases), within)

pub find_in-returns : goal.find_in-returns
find_in-returns g t c =
    let last = c.find_parts.new.finding in
    let length-is = ap (λ n. take n last.path.items) (c.len-length.ensures ∙ c.args.finding.now.path.ok.0) in
    c.in_ok-at.ensures.finds.found last (record last { path = c.truncate.new.self }) c.in_ok-find_parts.ensures refl refl refl (c.truncate.ensures.items ∙ length-is)
