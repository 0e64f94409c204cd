use Rattle.std.proofs.Common.{◌≡◌, ℤ, ◌+◌, Bool, List, [], ◌∷◌, drop, refl, subst, ap, ◌∙◌}
use Rattle.std.specs.Prelude.{IsTrue}
use Rattle.std.proofs.lemmas.List.{drop_all}
use Rattle.match_model.specs.Numbers.{MEnd, MRange, is_up_to}
use Rattle.range_split.specs.declared.cut.Cut.{Cut}
use Rattle.range_split.specs.Ends.{plain_end}
use Rattle.range_split.specs.Ranges.{plain_range, range_of}
use Rattle.range_split.specs.Cuts.{plain_cut, plain_cuts, cut_number, Rise}
use Rattle.range_split.specs.Walks.{pieces_from}
use Rattle.range_split.proofs.Splits.{All-unmap}
use Rattle.range_split.proofs.Steps.{not_walked, front_of, at_front}
use Rattle.constructor_sets.proofs.Walking.{Handed, adds_none, handed_more, handed_out}
use Rattle.constructor_sets.proofs.numbers.add_pieces.Goals as goal

pub pass-piece-requires-clause-from : goal.pass-piece-requires-clause-from
pass-piece-requires-clause-from c =
    let front = front_of c.args.cuts.now.places.items c.deref-cut-items.result.now c.loop-cut.cut-index c.cut-item.result c.deref-cut-items.ensures.value c.loop-cut-test.true c.cut-item.is in
    (subst (λ (cs : List Cut). Rise (plain_end c.loop-cut.walk.low) (plain_cuts cs)) front c.loop-cut.invariant.walked.rises).0

pub loop-cut-init : goal.loop-cut-init
loop-cut-init c = record {
  done = [];
  walked = not_walked (plain_range c.args.whole.now).high (plain_range c.args.whole.now).low c.args.cuts.now.begun c.new-walk.result c.args.cuts.now.places.items [] refl c.new-walk.ensures.low c.new-walk.ensures.begun
      c.new-walk.ensures.ended c.requires.rising c.args.whole.now.ascending c.requires.few;
  adds = adds_none c.args.found.now;
}

pub loop-cut-preserved : goal.loop-cut-preserved
loop-cut-preserved c =
    let items = c.args.cuts.now.places.items in
    let i = c.loop-cut.cut-index in
    let cut = c.cut-item.result in
    let high = (plain_range c.args.whole.now).high in
    let all : List (MRange × Bool) = pieces_from (plain_range c.args.whole.now).low high c.args.cuts.now.begun 0 (plain_cuts items) in
    let front : drop i items ≡ cut ∷ drop (i + 1) items = front_of items c.deref-cut-items.result.now i cut c.deref-cut-items.ensures.value c.loop-cut-test.true c.cut-item.is in
    let inside : IsTrue (is_up_to high (cut_number cut)) =
    at_front (λ (x : Cut). IsTrue (is_up_to high (cut_number x))) items c.deref-cut-items.result.now i cut c.deref-cut-items.ensures.value c.loop-cut-test.true c.cut-item.is
    (All-unmap (λ (x : ℤ × Bool). IsTrue (is_up_to high x.0)) plain_cut items c.requires.inside) in
    handed_more high all c.loop-cut.walk c.pass-piece.new.self cut (drop (i + 1) items) i c.pass-piece.result c.args.found.now c.loop-cut.found c.add_range.new.found
    (subst (λ (cs : List Cut). Handed high all c.loop-cut.walk cs i c.args.found.now c.loop-cut.found) front c.loop-cut.invariant) c.pass-piece.ensures inside c.in_ok-add_range.ensures

pub returns : goal.returns
returns c =
    let items = c.args.cuts.now.places.items in
    let i = c.loop-cut.cut-index in
    let high = (plain_range c.args.whole.now).high in
    let all : List (MRange × Bool) = pieces_from (plain_range c.args.whole.now).low high c.args.cuts.now.begun 0 (plain_cuts items) in
    let none : drop i items ≡ [] = subst (λ (xs : List Cut). drop i xs ≡ []) c.deref-cut-items.ensures.value (drop_all i c.deref-cut-items.result.now c.loop-cut-test.false) in
    handed_out high all c.loop-cut.walk (drop i items) i c.last-last.result c.args.found.now c.loop-cut.found c.add_range-2.new.found c.loop-cut.invariant none
    (c.last-last.ensures.range ∙ ap (λ (x : MEnd). range_of (plain_end c.loop-cut.walk.low) x) c.high.ensures) c.last-last.ensures.flag
    c.in_ok-add_range-2.ensures
