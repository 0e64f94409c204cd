use Rattle.std.proofs.Common.{arith, ap, ◌∙◌, ◌||◌, ◌<◌, length}
use Rattle.std.specs.Prelude.{nat_eq}
use Rattle.constructor_sets.proofs.RowLengths.{place_marked}
use Rattle.constructor_sets.proofs.lengths.mark.Goals as goal

pub returns-clause-marked : goal.returns-clause-marked
returns-clause-marked c =
    let marks = c.make_room.new.marks.items in
    let within : c.args.place < length marks = omega (arith, c.in_ok-make_room.ensures.count) in
    λ n. place_marked marks c.args.place n within ∙ ap (λ b. b || nat_eq c.args.place n) (c.in_ok-make_room.ensures.same n)
