use Rattle.std.proofs.Common.{◌≡◌, ◌∙◌, ap, sym, map, subst, IfOk}
use Rattle.match_model.specs.ArenaPatterns.{MiddlePart}
use Rattle.match_model.specs.ArenaWays.{bound_part}
use Rattle.match_model.specs.Matching.{middle_of}
use Rattle.match_model.specs.Values.{MValue, Row, values_of}
use Rattle.tree_eval.specs.declared.value.Value.{Value, fold-roll-Value}
use Rattle.tree_eval.specs.declared.value.Value.TheOpen as v
use Rattle.tree_eval.specs.declared.value.Value.TheVariants.{rolls-Row}
use Rattle.tree_eval.specs.Views.{value_step, plain_value}
use Rattle.first_match.proofs.MetParts.{middle_bound}
use Rattle.first_match.proofs.parts.part_held.Goals as goal

pub returns-in-Middle-Row : goal.returns-in-Middle-Row
returns-in-Middle-Row c =
    let at = c.in-Middle-Row in
    let row : plain_value c.args.value.now ≡ Row (values_of (map plain_value at.items.items)) =
    ap plain_value (at.is-1 ∙ sym (rolls-Row at.items)) ∙ fold-roll-Value MValue value_step (v.Row at.items) in
    let same : middle_of at.front at.back (map plain_value c.deref.result.now)
    ≡ bound_part (MiddlePart at.front at.back) (Row (values_of (map plain_value at.items.items))) =
    ap (λ vs. middle_of at.front at.back (map plain_value vs)) c.deref.ensures.value
    ∙ middle_bound at.front at.back (map plain_value at.items.items) in
    rw (at.is-0, row) (subst (λ (w : MValue). IfOk c.middle_of.result (λ (u : Value). plain_value u ≡ w)) same c.middle_of.ensures)
