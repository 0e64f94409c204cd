use Rattle.std.proofs.Common.{◌∙◌, sym, refl, inl, inr}
use Rattle.slice_split.proofs.Below.{list_any-each_below}
use Rattle.pat_context.specs.Views.{is_sure}
use Rattle.constructor_sets.specs.Numbered.{is_valued, is_listed, is_left_out}
use Rattle.constructor_sets.proofs.Numbering.{listed_there, unlisted_there, left_is, left_not, none_more, walked_none, walked_on, walked_past}
use Rattle.constructor_sets.proofs.variants.leaves_out.Goals as goal
use Rattle.constructor_sets.proofs.variants.leaves_out.Goals.{then-stands_at, else-stands_at+else-is_valued}

pub loop-k-init : goal.loop-k-init
loop-k-init g c = (refl, walked_none c.args.numbers.now)

pub loop-k-preserved : goal.loop-k-preserved
loop-k-preserved g c =
    let empty = g.C.PatCx.variant_empty_of c.args.cx.now c.args.ty in
    let sure = is_sure c.args.validity in
    let numbers = c.args.numbers.now in
    let k = c.loop-k.k in
    let place = c.loop-k.place in
    elim c.if-stands_at.branch [
      | then-stands_at w ↦ (
        none_more (is_left_out empty sure numbers) k c.loop-k.invariant.0
            (left_not (is_valued empty sure k) (is_listed numbers k) (inr (listed_there numbers place k (sym c.stands_at.ensures ∙ w.if-stands_at.true)))),
        rw w.place-is (walked_on numbers place k c.requires.ascending c.loop-k.invariant.1 (sym c.stands_at.ensures ∙ w.if-stands_at.true)),
      )
      | else-stands_at+else-is_valued w ↦ (
        none_more (is_left_out empty sure numbers) k c.loop-k.invariant.0 (left_not (is_valued empty sure k) (is_listed numbers k) (inl (sym w.is_valued.ensures ∙ w.if-is_valued.false))),
        rw w.place-is (walked_past numbers place k c.loop-k.invariant.1 (sym c.stands_at.ensures ∙ w.if-stands_at.false)),
      )
    ]

pub returns-then-is_valued : goal.returns-then-is_valued
returns-then-is_valued g c =
    let empty = g.C.PatCx.variant_empty_of c.args.cx.now c.args.ty in
    let sure = is_sure c.args.validity in
    let numbers = c.args.numbers.now in
    let k = c.loop-k.k in
    sym
    (list_any-each_below (is_left_out empty sure numbers) (λ k. k) c.args.count k c.loop-k-test.true
    (left_is (is_valued empty sure k) (is_listed numbers k) (sym c.is_valued.ensures ∙ c.if-is_valued.true)
    (unlisted_there numbers c.loop-k.place k c.requires.ascending c.loop-k.invariant.1 (sym c.stands_at.ensures ∙ c.if-stands_at.false))))
