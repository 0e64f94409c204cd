use Rattle.std.proofs.Common.{◌∙◌, [], List, reverse, sym, subst, rules}
use Rattle.witness_search.specs.Askable.{AreAskable}
use Rattle.witness_search.specs.Opened.{places_of, numbers_of}
use Rattle.witness_search.specs.Turns.{IsTurn, IsWanted}
use Rattle.witness_search.specs.Wells.{IsWell}
use Rattle.witness_search.specs.declared.frames.Frame.{Frame}
use Rattle.witness_search.specs.declared.frames.Turn.TheVariants.{Look}
use Rattle.witness_search.proofs.Questions.{first_asks}
use Rattle.witness_search.proofs.search.stacks_of.Goals as goal

pub loop-step-init : goal.loop-step-init
loop-step-init g c =
    let cx = c.args.cx.now in
    let IsType = g.C.PatCx.is_type cx in
    let IsValue = g.C.PatCx.is_value cx in
    let context = g.C.PatCx.context cx in
    let opened = c.args.opened.items in
    let rows = c.in_ok-rows.rows in
    let same = sym c.in_ok-rows.ensures in
    let asked = c.requires.1.1.1.1.1 in
    let arms = c.none-asks.ensures.arms ∙ sym asked.0 in (
      subst (λ (fs : List (Frame g.row.C-Ty.Denot)). IsTurn IsType context IsValue g.root (reverse fs) opened (Look rows 1)) (sym c.new-frames.ensures.items) (
        subst (λ rs. IsWell IsType context 1 (numbers_of opened) (places_of opened) rs) same c.requires.1.1.0,
        subst (λ rs. AreAskable IsValue g.root.arms (numbers_of opened) (places_of opened) rs) same c.requires.1.1.1.0,
        subst (λ rs. IsWanted IsType context IsValue g.root [] opened rs) same c.requires.1.1.1.1.0,
      ),
      first_asks IsType IsValue context g.root.arms c.none-asks.result c.none-asks.ensures.new arms asked.1.0 asked.1.1,
    )

pub step-requires : goal.step-requires
step-requires g c κs within = (search rules, (search rules, (c.loop-step.invariant.0, c.loop-step.invariant.1)))

pub returns-in-Done : goal.returns-in-Done
returns-in-Done g c = rw c.in-Done.is at c.loop-step.invariant.0
