use Rattle.std.proofs.Common.{◌≡◌, ℤ, ◌+◌, Bool, List, [], ◌∷◌, ◌++◌, drop, ◌∙◌, ap, subst, Vec, Global}
use Rattle.std.specs.Prelude.{IsTrue}
use Rattle.std.specs.Option.{option_to_list}
use Rattle.std.proofs.lemmas.List.{drop_all, map-append}
use Rattle.match_model.specs.Numbers.{MEnd, MRange, is_up_to}
use Rattle.range_split.specs.declared.cut.Cut.{Cut}
use Rattle.range_split.specs.declared.range.Range.{Range}
use Rattle.range_split.specs.Ends.{plain_end}
use Rattle.range_split.specs.Ranges.{plain_range}
use Rattle.range_split.specs.Cuts.{plain_cut, plain_cuts, cut_number, Rise}
use Rattle.range_split.specs.Splits.{plain_pieces}
use Rattle.range_split.specs.Ranges.{range_of}
use Rattle.range_split.specs.Walks.{pieces_from}
use Rattle.range_split.proofs.Splits.{All-unmap}
use Rattle.range_split.proofs.Steps.{Walked, not_walked, walked_past, walked_out, one_handed, none_handed, front_of, at_front}
use Rattle.range_split.proofs.pieces.pieces_between.Goals as goal
use Rattle.range_split.proofs.pieces.pieces_between.Goals.{in-Some+in_ok-push-in-Some, in-None}

pub pass-requires-clause-from : goal.pass-requires-clause-from
pass-requires-clause-from c =
    let front = front_of c.args.cuts.now.places.items c.deref-cut-items.result.now c.loop-cut.cut-index c.cut-item.result c.deref-cut-items.ensures.value c.loop-cut-test.true c.cut-item.is in
    (subst (λ (cs : List Cut). Rise (plain_end c.loop-cut.walk.low) (plain_cuts cs)) front c.loop-cut.invariant.rises).0

pub loop-cut-init : goal.loop-cut-init
loop-cut-init c =
    not_walked (plain_range c.args.whole.now).high (plain_range c.args.whole.now).low c.args.cuts.now.begun c.new-walk.result c.args.cuts.now.places.items (plain_pieces c.in_ok-pieces.pieces.items)
    (ap plain_pieces c.in_ok-pieces.ensures.items) c.new-walk.ensures.low c.new-walk.ensures.begun c.new-walk.ensures.ended c.requires.rising c.args.whole.now.ascending c.requires.few

pub loop-cut-preserved : goal.loop-cut-preserved
loop-cut-preserved c =
    let items = c.args.cuts.now.places.items in
    let i = c.loop-cut.cut-index in
    let cut = c.cut-item.result in
    let high = (plain_range c.args.whole.now).high in
    let all : List (MRange × Bool) = pieces_from (plain_range c.args.whole.now).low high c.args.cuts.now.begun 0 (plain_cuts items) in
    let front : drop i items ≡ cut ∷ drop (i + 1) items = front_of items c.deref-cut-items.result.now i cut c.deref-cut-items.ensures.value c.loop-cut-test.true c.cut-item.is in
    let inside : IsTrue (is_up_to high (cut_number cut)) =
    at_front (λ (x : Cut). IsTrue (is_up_to high (cut_number x))) items c.deref-cut-items.result.now i cut c.deref-cut-items.ensures.value c.loop-cut-test.true c.cut-item.is
    (All-unmap (λ (x : ℤ × Bool). IsTrue (is_up_to high x.0)) plain_cut items c.requires.inside) in
    let handed : plain_pieces c.match-pass.pieces.items ≡ plain_pieces c.loop-cut.pieces.items ++ plain_pieces (option_to_list c.pass.result) =
    elim c.match-pass.branch [
      | in-Some+in_ok-push-in-Some w ↦
          one_handed c.loop-cut.pieces.items c.match-pass.pieces.items c.pass.result w.in-Some.piece w.in-Some.is
          (ap (λ (v : Vec (Range × Bool) Global). v.items) w.pieces-is ∙ w.in_ok-push-in-Some.ensures.items)
      | in-None w ↦ none_handed c.loop-cut.pieces.items c.match-pass.pieces.items c.pass.result w.in-None.is (ap (λ (v : Vec (Range × Bool) Global). v.items) w.pieces-is)
    ] in
    walked_past high all (plain_pieces c.loop-cut.pieces.items) (plain_pieces c.match-pass.pieces.items) c.loop-cut.walk c.pass.new.self cut (drop (i + 1) items) i c.pass.result
    (subst (λ (cs : List Cut). Walked high all (plain_pieces c.loop-cut.pieces.items) c.loop-cut.walk cs i) front c.loop-cut.invariant) c.pass.ensures inside handed

pub returns : goal.returns
returns c =
    let items = c.args.cuts.now.places.items in
    let i = c.loop-cut.cut-index in
    let walk = c.loop-cut.walk in
    let high = (plain_range c.args.whole.now).high in
    let all : List (MRange × Bool) = pieces_from (plain_range c.args.whole.now).low high c.args.cuts.now.begun 0 (plain_cuts items) in
    let last = c.last.result in
    let none : drop i items ≡ [] = subst (λ (xs : List Cut). drop i xs ≡ []) c.deref-cut-items.ensures.value (drop_all i c.deref-cut-items.result.now c.loop-cut-test.false) in
    walked_out high all (plain_pieces c.loop-cut.pieces.items) (plain_pieces c.push-2.new.self.items) walk (drop i items) i last c.loop-cut.invariant none
    (ap (λ (r : MRange). (r, last.1) ∷ []) (c.last.ensures.range ∙ ap (λ (x : MEnd). range_of (plain_end walk.low) x) c.high.ensures)
    ∙ ap (λ b. (range_of (plain_end walk.low) high, b) ∷ []) c.last.ensures.flag)
    (ap plain_pieces c.in_ok-push.ensures.items ∙ map-append (λ (p : Range × Bool). (plain_range p.0, p.1)) c.loop-cut.pieces.items (last ∷ []))
