use Rattle.std.proofs.Common.{ℕ, List, [], map, length, Bor, arith}
use Rattle.pattern_check.specs.Walks.{text_at}
use Rattle.pattern_check.proofs.NameLists.{copied, copied_all}
use Rattle.std.proofs.Common.{get_or, ◌<◌}
use Rattle.std.proofs.lemmas.List.{get_or_default}
use Rattle.pattern_check.proofs.bound.copy_from.Goals as goal

pub loop-i-preserved : goal.loop-i-preserved
loop-i-preserved c =
    let d : Bor (List ℕ) = record { ref_ptr = (0, 0); now = [] } in
    let x : Bor (List ℕ) = get_or c.args.names.now c.loop-i.i d in
    let lt : c.loop-i.i < length c.args.names.now = omega arith in
    rw c.in_ok-push.ensures.items
    (copied c.args.names.now c.loop-i.list.items c.loop-i.i x _ lt (get_or_default c.args.names.now c.loop-i.i d x lt) c.loop-i.invariant)

pub returns : goal.returns
returns c =
    copied_all c.args.names.now (map text_at c.loop-i.list.items) _ c.loop-i.i (omega arith) c.loop-i.invariant
