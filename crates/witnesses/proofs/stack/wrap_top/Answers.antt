use Rattle.std.proofs.Common.{◌∙◌, ◌+◌, ◌-◌, ◌≡◌, ◌∷◌, List, arith, ap, sym, subst, take, length}
use Rattle.match_model.specs.Witness.{MWitness}
use Rattle.witnesses.specs.Views.{plain_witness, tops}
use Rattle.witnesses.specs.Rooms.{parts_of_witness, filled}
use Rattle.witnesses.specs.declared.witness.Witness.{Witness}
use Rattle.witnesses.specs.declared.witness.Witness.TheVariants as w
use Rattle.witnesses.proofs.Tops.{length-tops}
use Rattle.witnesses.proofs.Filling.{BelowTops, put_below, left_below, filled_taken}
use Rattle.witnesses.proofs.stack.wrap_top.Goals as goal

pub put_above-requires : goal.put_above-requires
put_above-requires c =
    let xs = c.args.«open».now.items in
    let base = c.len.result - c.args.count in
    let e : base + c.args.count ≡ length xs = omega (arith, c.len.ensures, c.args.«open».now.ok.0) in
    let long = length-tops xs in
    let b = subst (λ (ys : List Witness). BelowTops c.args.count (tops xs) (tops ys)) (sym c.in_ok-insert.ensures.items) (put_below xs c.args.count base w.Any e) in
    (left_below c.fill-new.new.«open».items c.args.count base (parts_of_witness (plain_witness c.args.room)) (tops xs) (tops c.insert.new.self.items) b c.requires.fits (omega (arith, e, long)) c.fill-new.ensures.left).0

pub returns-clause-wrapped : goal.returns-clause-wrapped
returns-clause-wrapped c =
    let xs = c.args.«open».now.items in
    let room = plain_witness c.args.room in
    let base = c.len.result - c.args.count in
    let e : base + c.args.count ≡ length xs = omega (arith, c.len.ensures, c.args.«open».now.ok.0) in
    let long = length-tops xs in
    let b = subst (λ (ys : List Witness). BelowTops c.args.count (tops xs) (tops ys)) (sym c.in_ok-insert.ensures.items) (put_below xs c.args.count base w.Any e) in
    let left = left_below c.fill-new.new.«open».items c.args.count base (parts_of_witness room) (tops xs) (tops c.insert.new.self.items) b c.requires.fits (omega (arith, e, long)) c.fill-new.ensures.left in
    let same : filled room (tops c.insert.new.self.items) ≡ filled room (tops xs) =
    filled_taken room c.args.count (tops c.insert.new.self.items) c.requires.fits ∙ ap (filled room) b.top ∙ sym (filled_taken room c.args.count (tops xs) c.requires.fits) in
    c.put_above.ensures
    ∙ ap (λ (x : MWitness). x ∷ tops (take base c.fill-new.new.«open».items)) (c.fill-new.ensures.filled ∙ same)
    ∙ ap (λ (us : List MWitness). filled room (tops xs) ∷ us) left.1
