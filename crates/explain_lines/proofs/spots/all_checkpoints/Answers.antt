use Rattle.std.proofs.Common.{◌+◌, [], arith}
use Rattle.std.proofs.lemmas.List.Elements.{All-same, All-nil}
use Rattle.explain_lines.specs.Steps.{IsSpotOf}
use Rattle.explain_lines.proofs.LineSteps.{place_is, is_spot, all_pushed}
use Rattle.explain_lines.proofs.spots.all_checkpoints.Goals as goal

pub loop-spot-init : goal.loop-spot-init
loop-spot-init c =
    let text = c.args.text.now in
    let one = is_spot text c.origin-spot.result 0 (c.origin-spot.ensures text) (omega arith) in
    record {
      all = all_pushed text c.new-spots.result.items _ c.origin-spot.result c.in_ok-push.ensures.items
          (All-same (IsSpotOf text) c.new-spots.result.items [] c.new-spots.ensures.items (All-nil (IsSpotOf text))) one;
      here = one;
    }

pub loop-spot-smaller : goal.loop-spot-smaller
loop-spot-smaller c =
    omega (arith, place_is c.args.text.now c.advance-spot.result (c.loop-spot.spot.at + 256) c.advance-spot.ensures)

pub loop-spot-preserved : goal.loop-spot-preserved
loop-spot-preserved c =
    let text = c.args.text.now in
    let one = is_spot text c.advance-spot.result (c.loop-spot.spot.at + 256) c.advance-spot.ensures (omega arith) in
    record {
      all = all_pushed text c.loop-spot.spots.items _ c.advance-spot.result c.in_ok-push-2.ensures.items c.loop-spot.invariant.all one;
      here = one;
    }
