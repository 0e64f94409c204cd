use Rattle.std.proofs.Common.{◌<◌, ◌∙◌, length, subst, sym, arith}
use Rattle.std.proofs.lemmas.Bool.{eqb-true}
use Rattle.keyed_matrix.specs.Views.{plain_rows}
use Rattle.keyed_matrix.proofs.RowSteps.{longer-row}
use Rattle.decision_tree.specs.Cutting.{AreLed}
use Rattle.decision_tree.proofs.Enough.{empty-led, open-led, taken-led, some-length}
use Rattle.decision_tree.proofs.cutting.first_alone.Goals as goal

pub takes_pieces-requires : goal.takes_pieces-requires
takes_pieces-requires g c =
    let rows = c.args.rows.now in
    let numbers = c.args.numbers.items in
    let k = c.index.result.now in
    let some : 0 < length numbers = omega (arith, some-length c.args.numbers.len (sym c.is_empty.ensures ∙ c.if-is_empty.false), c.args.numbers.ok.0) in
    let below : k < length rows = subst (λ q. q < length rows) (sym c.index.ensures) (c.requires.within 0 k some) in
    longer-row c.args.i rows k c.index-rows-index.result c.requires.longer below c.index-rows-index.is

pub returns-then-is_empty : goal.returns-then-is_empty
returns-then-is_empty g c = λ all h.
    empty-led c.args.i c.args.rows.now c.args.numbers.items all (omega (arith, eqb-true c.args.numbers.len 0 (sym c.is_empty.ensures ∙ c.if-is_empty.true), c.args.numbers.ok.0)) h

pub returns-then-not-takes_pieces : goal.returns-then-not-takes_pieces
returns-then-not-takes_pieces g c = λ all h.
    let rows = c.args.rows.now in
    let numbers = c.args.numbers.items in
    let k = c.index.result.now in
    let some : 0 < length numbers = omega (arith, some-length c.args.numbers.len (sym c.is_empty.ensures ∙ c.if-is_empty.false), c.args.numbers.ok.0) in
    let below : k < length rows = subst (λ q. q < length rows) (sym c.index.ensures) (c.requires.within 0 k some) in
    open-led c.args.i rows numbers all k c.index-rows-index.result some c.index.ensures below c.index-rows-index.is
    (sym c.takes_pieces.ensures ∙ c.if-not-takes_pieces.true) h

pub returns : goal.returns
returns g c = λ all h.
    let rows = c.args.rows.now in
    let numbers = c.args.numbers.items in
    let k = c.index.result.now in
    let some : 0 < length numbers = omega (arith, some-length c.args.numbers.len (sym c.is_empty.ensures ∙ c.if-is_empty.false), c.args.numbers.ok.0) in
    let below : k < length rows = subst (λ q. q < length rows) (sym c.index.ensures) (c.requires.within 0 k some) in
    subst (λ xs. AreLed c.args.i (plain_rows rows) xs all) (sym c.truncate.ensures.items)
    (taken-led c.args.i rows numbers all k c.index-rows-index.result some c.index.ensures below c.index-rows-index.is
    (sym c.takes_pieces.ensures ∙ c.if-not-takes_pieces.false) h)
