use Rattle.std.proofs.Common.{◌≤◌, ◌++◌, map, drop, length, take, arith}
use Rattle.std.proofs.lemmas.List.{length-map}
use Rattle.match_model.specs.Ways.{bindings_of_both}
use Rattle.first_match.specs.Names.{names_held}
use Rattle.first_match.proofs.Turns.{each_mapped, full_stays}
use Rattle.first_match.proofs.ways.add_joined.Goals as goal

pub returns-then-len-most : goal.returns-then-len-most
returns-then-len-most c =
    let ways = c.args.ways.now in
    let i = c.loop-way.way-index in
    let join = bindings_of_both (names_held c.args.first.now) in
    let old = map (λ w. names_held w.items) c.args.all.now.items in
    let now = map (λ w. names_held w.items) c.loop-way.all.items in
    let long : c.args.most ≤ length now =
    omega (arith, c.if-len-most.true, c.len.ensures, c.loop-way.all.ok.0, length-map c.loop-way.all.items (λ w. names_held w.items)) in
    full_stays c.args.most now (old ++ map join (map (λ w. names_held w.items) (take i ways)))
    (map join (map (λ w. names_held w.items) (drop i ways))) _ c.loop-way.invariant long
    (each_mapped (λ w. names_held w.items) join old ways i)
