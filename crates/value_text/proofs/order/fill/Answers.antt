use Rattle.std.proofs.Common.{◌≡◌, ℕ, ◌≤◌, ◌<◌, Option, Some, None, refl, sym, ap, subst, ◌∙◌, length}
use Rattle.std.proofs.lemmas.List.{length-set}
use Rattle.std.specs.Prelude.{slice_get}
use Rattle.value_text.proofs.Orders.{IsFilled, filled_none, filled_more, filled_past, filled_twice, filled_all, slot_at, some_there, none_there, none_left}
use Rattle.value_text.proofs.order.fill.Goals as goal

pub loop-i-init : goal.loop-i-init
loop-i-init g c = record { filled = filled_none _ _ _ c.requires; count = refl }

pub returns-then-is_some : goal.returns-then-is_some
returns-then-is_some g c =
    let there = some_there c.index.result.now c.if-is_some.ensures in
    let at = slot_at c.loop-i.slots.items c.in-Some.i c.index.result.now (subst (λ n. c.in-Some.i < n) (c.len.ensures ∙ c.loop-i.slots.ok.0) c.if-i-len.true) c.index.ensures in
    filled_twice _ _ _ c.in-Some.i c.in-Some.thing _ c.loop-i.slots.items c.in-Some.ensures.items c.loop-i.invariant.filled there.0 (at ∙ ap Some there.1)

pub loop-i-preserved-else-is_some-2 : goal.loop-i-preserved-else-is_some-2
loop-i-preserved-else-is_some-2 g c =
    let empty = none_there c.index.result.now c.if-is_some.ensures in
    let at = slot_at c.loop-i.slots.items c.in-Some.i c.index.result.now (subst (λ n. c.in-Some.i < n) (c.len.ensures ∙ c.loop-i.slots.ok.0) c.if-i-len.true) c.index.ensures in
    record {
      filled = filled_more _ _ _ c.in-Some.i c.in-Some.thing _ c.loop-i.slots.items c.in-Some.ensures.items c.loop-i.invariant.filled (at ∙ ap Some empty);
      count = length-set c.loop-i.slots.items c.in-Some.i (Some c.in-Some.thing) ∙ c.loop-i.invariant.count;
    }

pub loop-i-preserved : goal.loop-i-preserved
loop-i-preserved g c =
    let past = subst (λ n. n ≤ c.in-Some.i) (c.len.ensures ∙ (c.loop-i.slots.ok.0 ∙ c.loop-i.invariant.count)) c.if-i-len.false in
    record {
      filled = filled_past _ _ _ c.in-Some.i c.in-Some.thing _ c.loop-i.slots.items c.in-Some.ensures.items c.loop-i.invariant.filled past;
      count = c.loop-i.invariant.count;
    }

pub returns : goal.returns
returns g c = filled_all _ c.loop-i.given.items _ c.loop-i.slots.items (none_left c.loop-i.given.items c.loop-i.given.len c.loop-i.given.ok.0 c.in_default.ensures.cases.0) c.loop-i.invariant.filled
