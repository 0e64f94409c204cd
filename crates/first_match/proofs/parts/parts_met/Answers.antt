use Rattle.std.proofs.Common.{◌≡◌, ◌∙◌, ap, sym, map, nat_eq}
use Rattle.match_model.specs.Places.{some_if}
use Rattle.match_model.specs.Values.{MValue, Node, Row, values_of}
use Rattle.slice_split.specs.Shapes.{plain_shape}
use Rattle.tree_eval.specs.declared.value.Value.{fold-roll-Value}
use Rattle.tree_eval.specs.declared.value.Value.TheOpen as v
use Rattle.tree_eval.specs.declared.value.Value.TheVariants.{rolls-Node, rolls-Row}
use Rattle.tree_eval.specs.Views.{value_step, plain_value}
use Rattle.first_match.specs.Parts.{row_met}
use Rattle.first_match.proofs.MetParts.{single_met, variant_met, items_met}
use Rattle.first_match.proofs.parts.parts_met.Goals as goal

pub returns-in-Node-Single : goal.returns-in-Node-Single
returns-in-Node-Single c =
    let at = c.in-Node-Single in
    let node : plain_value c.args.value.now ≡ Node at.variant (values_of (map plain_value at.parts.items)) =
    ap plain_value (at.is-0 ∙ sym (rolls-Node at.variant at.parts))
    ∙ fold-roll-Value MValue value_step (v.Node at.variant at.parts) in
    rw (at.is-1, node)
    (c.all_if.ensures
    ∙ ap (λ vs. some_if (nat_eq at.variant 0) (map plain_value vs)) c.deref.ensures.value
    ∙ single_met at.variant (map plain_value at.parts.items))

pub returns-in-Node-Variant : goal.returns-in-Node-Variant
returns-in-Node-Variant c =
    let at = c.in-Node-Variant in
    let node : plain_value c.args.value.now ≡ Node at.variant (values_of (map plain_value at.parts.items)) =
    ap plain_value (at.is-0 ∙ sym (rolls-Node at.variant at.parts))
    ∙ fold-roll-Value MValue value_step (v.Node at.variant at.parts) in
    rw (at.is-1, node)
    (c.all_if-in-Node-Variant.ensures
    ∙ ap (λ vs. some_if (nat_eq at.variant at.k) (map plain_value vs)) c.deref-in-Node-Variant.ensures.value
    ∙ variant_met at.k at.variant (map plain_value at.parts.items))

pub returns-in-Row-Row : goal.returns-in-Row-Row
returns-in-Row-Row c =
    let at = c.in-Row-Row in
    let row : plain_value c.args.value.now ≡ Row (values_of (map plain_value at.items.items)) =
    ap plain_value (at.is-0 ∙ sym (rolls-Row at.items)) ∙ fold-roll-Value MValue value_step (v.Row at.items) in
    rw (at.is-1, row)
    (c.row_met.ensures
    ∙ ap (λ vs. row_met (plain_shape at.shape) (map plain_value vs)) c.deref-in-Row-Row.ensures.value
    ∙ items_met (plain_shape at.shape) (map plain_value at.items.items))
