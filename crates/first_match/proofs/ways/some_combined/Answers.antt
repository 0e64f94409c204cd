use Rattle.std.proofs.Common.{◌≤◌, map, drop, length, take, arith}
use Rattle.std.proofs.lemmas.List.{length-map}
use Rattle.first_match.specs.Bound.{all_both}
use Rattle.first_match.specs.Names.{names_held}
use Rattle.first_match.proofs.Turns.{all_combined, full_stays}
use Rattle.first_match.proofs.ways.some_combined.Goals as goal

pub returns-then-len-most : goal.returns-then-len-most
returns-then-len-most c =
    let firsts = c.args.firsts.now in
    let i = c.loop-first.first-index in
    let seconds = map (λ w. names_held w.items) c.args.seconds.now in
    let now = map (λ w. names_held w.items) c.loop-first.all.items in
    let long : c.args.most ≤ length now =
    omega (arith, c.if-len-most.true, c.len.ensures, c.loop-first.all.ok.0, length-map c.loop-first.all.items (λ w. names_held w.items)) in
    full_stays c.args.most now (all_both (map (λ w. names_held w.items) (take i firsts)) seconds)
    (all_both (map (λ w. names_held w.items) (drop i firsts)) seconds) _ c.loop-first.invariant long
    (all_combined (λ w. names_held w.items) firsts i seconds)
