use Rattle.std.proofs.Common.{refl}
use Rattle.range_split.specs.Cuts.{plain_cuts}
use Rattle.constructor_sets.specs.declared.column.Found.{Found}
use Rattle.constructor_sets.proofs.Walking.{adds_split}
use Rattle.constructor_sets.proofs.numbers.add_numbers.Goals as goal

pub add_pieces-requires : goal.add_pieces-requires
add_pieces-requires c = c.in_ok-cuts.ensures.order

pub returns : goal.returns
returns c =
    let cuts = c.in_ok-cuts.cuts in
    let found : Found = record { ctors = c.reserve.new.self; missing = c.args.found.now.missing; gaps = c.args.found.now.gaps } in
    adds_split c.args.whole.now c.args.heads.now cuts.begun (plain_cuts cuts.places.items) c.args.found.now found c.add_pieces.new.found c.in_ok-cuts.ensures c.reserve.ensures.items refl refl
    c.in_ok-add_pieces.ensures
