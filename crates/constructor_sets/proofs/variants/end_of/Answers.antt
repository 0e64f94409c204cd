use Rattle.std.proofs.Common.{◌≤◌, ◌<◌, rules, arith, get_or, subst}
use Rattle.std.specs.List.{All}
use Rattle.std.proofs.lemmas.Grind.{common_steps}
use Rattle.std.proofs.lemmas.List.{take_all}
use Rattle.constructor_sets.proofs.Tables.{higher_end}
use Rattle.constructor_sets.proofs.variants.end_of.Goals as goal

pub loop-k-preserved : goal.loop-k-preserved
loop-k-preserved c =
    let few : c.max-end.result ≤ 4294967296 = first_of (search rules, grind (arith, common_steps)) in
    let up : c.loop-k.end ≤ c.max-end.result = first_of (search rules, grind (arith, common_steps)) in
    let own : get_or c.args.numbers.now c.loop-k.k-index 0 < c.max-end.result = first_of (search rules, grind (arith, common_steps)) in
    (few, higher_end c.args.numbers.now c.loop-k.k-index c.loop-k.end c.max-end.result c.loop-k-test.true up own c.loop-k.invariant.1)

pub returns-clause-below : goal.returns-clause-below
returns-clause-below c = subst (All (λ k. k < c.loop-k.end)) (take_all c.loop-k.k-index c.args.numbers.now c.loop-k-test.false) c.loop-k.invariant.1
