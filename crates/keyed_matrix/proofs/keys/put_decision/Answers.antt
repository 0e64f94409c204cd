use Rattle.std.proofs.Common.{◌≡◌, ◌<◌, ◌≤◌, map, length, ap, ◌∙◌, arith}
use Rattle.keyed_matrix.specs.KeyLists.{put_decision}
use Rattle.keyed_matrix.specs.Deciding.{plain_decision}
use Rattle.keyed_matrix.proofs.Putting.{put-known, put-here, put-last}
use Rattle.keyed_matrix.proofs.keys.put_decision.Goals as goal

pub returns-then-index-decided : goal.returns-then-index-decided
returns-then-index-decided c =
    let d = c.args.decided in
    let xs = c.loop-i.key.items in
    let same : c.index.result.now.number ≡ d.number = omega arith in
    let within : c.loop-i.i < length xs = omega arith in
    put-known d xs c.loop-i.i c.loop-i.invariant.1 c.index.result.now within c.index.ensures same
    ∙ ap (λ ys. put_decision (plain_decision d) (map plain_decision ys)) c.loop-i.invariant.0

pub returns-then-decided-index : goal.returns-then-decided-index
returns-then-decided-index c =
    let d = c.args.decided in
    let xs = c.loop-i.key.items in
    let less : d.number < c.index-in-loop-i.result.now.number = omega arith in
    let within : c.loop-i.i < length xs = omega arith in
    ap (map plain_decision) c.in_ok-insert.ensures.items
    ∙ put-here d xs c.loop-i.i c.loop-i.invariant.1 c.index-in-loop-i.result.now within c.index-in-loop-i.ensures less
    ∙ ap (λ ys. put_decision (plain_decision d) (map plain_decision ys)) c.loop-i.invariant.0

pub returns : goal.returns
returns c =
    let d = c.args.decided in
    let xs = c.loop-i.key.items in
    let over : length xs ≤ c.loop-i.i = omega arith in
    ap (map plain_decision) c.in_ok-push.ensures.items
    ∙ put-last d xs c.loop-i.i c.loop-i.invariant.1 over
    ∙ ap (λ ys. put_decision (plain_decision d) (map plain_decision ys)) c.loop-i.invariant.0
