use Rattle.std.proofs.Common.{◌∙◌, ◌≡◌, ◌≤◌, ◌<◌, ◌∷◌, arith, ap, sym, subst, drop, min, length}
use Rattle.match_model.specs.Witness.{MWitness}
use Rattle.pat_context.specs.Views.{plain_ctor}
use Rattle.witnesses.specs.Views.{plain_names, tops}
use Rattle.witnesses.specs.Rooms.{parts_of_witness, filled}
use Rattle.witnesses.proofs.Tops.{length-tops}
use Rattle.witnesses.proofs.Filling.{room_parts, wrapped_is}
use Rattle.witnesses.proofs.stack.Stack.wrap.Goals as goal

pub wrap_top-requires-clause-fits : goal.wrap_top-requires-clause-fits
wrap_top-requires-clause-fits c =
    let some : 0 < c.min-count.result = omega arith in
    subst (λ (x : MWitness). parts_of_witness x ≤ c.min-count.result) (sym c.in_ok-room.ensures) (room_parts (plain_ctor c.args.ctor.now) (plain_names c.args.others.now) c.min-count.result some)

pub returns-in_ok-wrap_top-clause-wrapped : goal.returns-in_ok-wrap_top-clause-wrapped
returns-in_ok-wrap_top-clause-wrapped c =
    let us = tops c.args.self.now.«open».items in
    let some : 0 < c.min-count.result = omega arith in
    let long = length-tops c.args.self.now.«open».items in
    let count : c.min-count.result ≡ min c.args.arity (length us) = omega (arith, long, c.min-count.ensures, c.len.ensures, c.args.self.now.«open».ok.0) in
    wrapped_is (plain_ctor c.args.ctor.now) (plain_names c.args.others.now) c.min-count.result c.args.arity us _ some count
    (c.in_ok-wrap_top.ensures.wrapped ∙ ap (λ (x : MWitness). filled x us ∷ drop c.min-count.result us) c.in_ok-room.ensures)
