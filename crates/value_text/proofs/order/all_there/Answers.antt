use Rattle.std.proofs.Common.{◌≡◌, Some, None, sym, ap, ◌∙◌, ◌++◌, ◌∷◌, map, append-nil}
use Rattle.value_text.specs.Fields.{all_some}
use Rattle.value_text.proofs.Orders.{every_some, some_none, none_left}
use Rattle.value_text.proofs.order.all_there.Goals as goal

pub returns-in-None-slot : goal.returns-in-None-slot
returns-in-None-slot g c =
    let xs = c.loop-slot.all.items in
    let os = c.next.new.self.rest.items in
    sym (ap all_some (sym c.loop-slot.invariant)
    ∙ (ap (λ ls. all_some (map Some xs ++ ls)) c.in-Some.ensures.steps.0
    ∙ (ap (λ l. all_some (map Some xs ++ l ∷ os)) c.in-None-slot.is ∙ some_none xs os)))

pub returns : goal.returns
returns g c =
    let xs = c.loop-slot.all.items in
    let rest = c.loop-slot.slot-iterator.rest in
    sym (ap all_some (sym c.loop-slot.invariant)
    ∙ (ap (λ ls. all_some (map Some xs ++ ls)) (none_left rest.items rest.len rest.ok.0 c.in-None.ensures.steps.0)
    ∙ (ap all_some (append-nil (map Some xs)) ∙ every_some xs)))
