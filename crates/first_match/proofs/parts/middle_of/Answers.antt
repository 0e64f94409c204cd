use Rattle.std.proofs.Common.{◌-◌, ◌∙◌, ap, sym, length, refl}
use Rattle.match_model.specs.Values.{MValue, Row, values_of}
use Rattle.tree_eval.specs.declared.value.Value.{fold-roll-Value}
use Rattle.tree_eval.specs.declared.value.Value.TheOpen as v
use Rattle.tree_eval.specs.declared.value.Value.TheVariants.{rolls-Row}
use Rattle.tree_eval.specs.Views.{value_step, plain_value}
use Rattle.first_match.proofs.MetParts.{between_ends}
use Rattle.first_match.proofs.parts.middle_of.Goals as goal

pub returns : goal.returns
returns c =
    let copied = c.in_ok-copied.copied in
    ap plain_value (sym (rolls-Row copied)) ∙ fold-roll-Value MValue value_step (v.Row copied)
    ∙ ap (λ vs. Row (values_of vs)) c.in_ok-copied.ensures
    ∙ between_ends c.args.items.now c.args.front c.args.back c.min-from.result _ _ c.min-from.ensures
    (ap (λ n. length c.args.items.now - n) c.min.ensures) refl
