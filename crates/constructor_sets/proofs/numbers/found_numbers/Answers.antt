use Rattle.std.proofs.Common.{false, refl}
use Rattle.pat_context.specs.Views.{is_sure}
use Rattle.constructor_sets.specs.declared.column.Found.{Found}
use Rattle.constructor_sets.proofs.Walking.{rooms_of_first, rooms_of_second, one_found, both_found}
use Rattle.constructor_sets.proofs.numbers.found_numbers.Goals as goal

pub add_numbers-requires : goal.add_numbers-requires
add_numbers-requires g c =
    let cx = c.args.cx.now in
    rooms_of_first (g.C.PatCx.is_type cx) (g.C.PatCx.is_value cx) (g.C.PatCx.context cx) (g.met.C.PatCx.values cx) c.args.ty c.args.first.now c.args.second.now c.args.heads.now c.requires.ty c.requires.set c.requires.heads

pub add_numbers-requires-in-Some : goal.add_numbers-requires-in-Some
add_numbers-requires-in-Some g c =
    let cx = c.args.cx.now in
    rooms_of_second (g.C.PatCx.is_type cx) (g.C.PatCx.is_value cx) (g.C.PatCx.context cx) (g.met.C.PatCx.values cx) c.args.ty c.args.first.now c.args.second.now c.args.heads.now c.requires.ty c.requires.set c.requires.heads
    c.in-Some.second c.in-Some.is

pub returns-in-None : goal.returns-in-None
returns-in-None g c =
    let cx = c.args.cx.now in
    let found : Found = record { ctors = c.new.result; missing = false; gaps = c.new-2.result } in
    one_found (g.C.PatCx.is_type cx) (g.C.PatCx.is_value cx) (g.C.PatCx.context cx) (g.met.C.PatCx.values cx) c.args.ty c.args.first.now c.args.second.now c.args.heads.now c.requires.ty c.requires.set c.requires.heads
    (g.met.C.PatCx.parts cx) (g.met.C.PatCx.unsure cx) (is_sure c.args.validity) found c.add_numbers.new.found c.in-None.is c.new.ensures.items refl c.new-2.ensures.items c.in_ok-add_numbers.ensures

pub returns-in_ok-add_numbers-in-Some : goal.returns-in_ok-add_numbers-in-Some
returns-in_ok-add_numbers-in-Some g c =
    let cx = c.args.cx.now in
    let found : Found = record { ctors = c.new.result; missing = false; gaps = c.new-2.result } in
    both_found (g.C.PatCx.is_type cx) (g.C.PatCx.is_value cx) (g.C.PatCx.context cx) (g.met.C.PatCx.values cx) c.args.ty c.args.first.now c.args.second.now c.args.heads.now c.requires.ty c.requires.set c.requires.heads
    (g.met.C.PatCx.parts cx) (g.met.C.PatCx.unsure cx) (is_sure c.args.validity) found c.add_numbers.new.found c.add_numbers-in-Some.new.found c.in-Some.second c.in-Some.is
    c.new.ensures.items refl c.new-2.ensures.items c.in_ok-add_numbers.ensures c.in_ok-add_numbers-in-Some.ensures
