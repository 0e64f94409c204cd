use Rattle.std.proofs.Common.{arith}
use Rattle.constructor_sets.proofs.FirstBytes.{one_more, below_weight, has_room}
use Rattle.constructor_sets.proofs.texts.first_bytes.Goals as goal

pub overflow_mul-begin : goal.overflow_mul-begin
overflow_mul-begin c =
    let room = has_room c.loop-place.place c.loop-place.begin 0 (omega (arith, c.loop-place-test.true)) c.loop-place.invariant.1 (omega arith) in
    record { fits = omega (arith, room) }

pub overflow_add-begin : goal.overflow_add-begin
overflow_add-begin c =
    record { fits = has_room c.loop-place.place c.loop-place.begin c.byte_at.result (omega (arith, c.loop-place-test.true)) c.loop-place.invariant.1 c.byte_at.ensures.less }

pub loop-place-preserved : goal.loop-place-preserved
loop-place-preserved c = (
  one_more c.loop-place.place c.loop-place.begin c.byte_at.result c.args.bytes.now c.loop-place.invariant.0 c.byte_at.ensures.byte,
  below_weight c.loop-place.place c.loop-place.begin c.byte_at.result c.loop-place.invariant.1 c.byte_at.ensures.less,
)
