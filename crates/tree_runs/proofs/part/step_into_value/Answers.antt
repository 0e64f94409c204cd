use Rattle.std.proofs.Common.{◌≡◌, ◌∙◌, ap, sym, map, slice_get, nat_eq}
use Rattle.match_model.specs.Values.{MValue, Node, values_of}
use Rattle.tree_eval.specs.declared.value.Value.{fold-roll-Value}
use Rattle.tree_eval.specs.declared.value.Value.TheOpen as v
use Rattle.tree_eval.specs.declared.value.Value.TheVariants.{rolls-Node}
use Rattle.match_model.specs.Places.{found_if}
use Rattle.tree_eval.specs.Views.{value_step, plain_value}
use Rattle.tree_runs.proofs.Entered.{field_entered}
use Rattle.tree_runs.proofs.part.step_into_value.Goals as goal

pub returns-in-Node-Field : goal.returns-in-Node-Field
returns-in-Node-Field c =
    let node : plain_value c.args.value.now
    ≡ Node c.in-Node-Field.variant (values_of (map plain_value c.in-Node-Field.parts.items)) =
    ap plain_value (c.in-Node-Field.is-0 ∙ sym (rolls-Node c.in-Node-Field.variant c.in-Node-Field.parts))
    ∙ fold-roll-Value MValue value_step (v.Node c.in-Node-Field.variant c.in-Node-Field.parts) in
    rw (c.in-Node-Field.is-1, node)
    (c.field_at.ensures
    ∙ ap (λ vs. found_if (nat_eq c.in-Node-Field.named c.in-Node-Field.variant)
    (slice_get (map plain_value vs) c.in-Node-Field.part)) c.deref-in-Node-Field.ensures.value
    ∙ sym (field_entered c.in-Node-Field.named c.in-Node-Field.variant c.in-Node-Field.part
    (map plain_value c.in-Node-Field.parts.items)))
