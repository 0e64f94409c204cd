use Rattle.std.proofs.Common.{◌≡◌, ◌∙◌, ◌∷◌, [], sym, ap}
use Rattle.match_model.specs.Values.{MValue, Point}
use Rattle.pat_context.specs.Views.{plain_ctor}
use Rattle.pattern_arena.specs.Trees.{placed_subs}
use Rattle.tree_eval.specs.declared.value.Value.{fold-roll-Value}
use Rattle.tree_eval.specs.declared.value.Value.TheOpen as v
use Rattle.tree_eval.specs.declared.value.Value.TheVariants.{rolls-Point}
use Rattle.tree_eval.specs.Views.{value_step, plain_value}
use Rattle.first_match.proofs.Bound.{inner_point}
use Rattle.first_match.proofs.Joined.{no_names}
use Rattle.first_match.proofs.ways.behind_one.Goals as goal

pub returns-then-is_empty-clause-ways : goal.returns-then-is_empty-clause-ways
returns-then-is_empty-clause-ways g c =
    let p = c.args.at.pattern.now in
    let q = c.in-Some.pattern.now in
    let inner = c.in-Point-Point.inner in
    let point : plain_value c.args.at.value.now ≡ Point c.in-Point-Point.mutable-1 (plain_value inner.value) =
    ap plain_value (c.in-Point-Point.is-1 ∙ sym (rolls-Point c.in-Point-Point.mutable-1 inner))
    ∙ fold-roll-Value MValue value_step (v.Point c.in-Point-Point.mutable-1 inner) in
    let alone : placed_subs p ≡ q ∷ [] =
    c.in-Some.ensures.cases.0 ∙ ap (λ qs. q ∷ qs) (no_names c.in-Some.rest.now (sym c.is_empty.ensures ∙ c.if-is_empty.true)) in
    rw (point, c.deref.ensures) (inner_point p q c.in-Point-Point.mutable-1 (plain_value inner.value) (ap plain_ctor c.in-Point-Point.is-0) alone)
