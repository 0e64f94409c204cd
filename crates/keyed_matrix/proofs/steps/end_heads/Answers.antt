use Rattle.std.proofs.Common.{◌≡◌, ◌-◌, ◌++◌, List, map, take, drop, Some, ap, ◌∙◌, arith}
use Rattle.match_model.specs.Rows.{Head}
use Rattle.pattern_arena.specs.declared.pattern.DePat.{DePat}
use Rattle.pattern_arena.specs.Trees.{tree}
use Rattle.keyed_matrix.specs.Views.{plain_heads}
use Rattle.keyed_matrix.proofs.RowSteps.{ends-between}
use Rattle.keyed_matrix.proofs.steps.end_heads.Goals as goal

pub returns : goal.returns
returns g c =
    let subs = c.args.subs.now in
    let first = plain_heads c.add_subs.new.heads.items in
    let between = plain_heads c.add_wilds.new.all.items in
    let gap = c.saturating_sub-gap.result in
    let heads : List (DePat g.row.T.Denot) → List (Head g.row.T.Denot) = λ xs. map (λ q. Some (tree q)) xs in
    let gap-is : gap ≡ c.args.count - c.args.front - c.args.back = omega (arith, c.saturating_sub.ensures, c.saturating_sub-gap.ensures) in
    ends-between subs c.args.front c.args.back c.args.count gap first between (plain_heads c.add_subs-2.new.heads.items) gap-is
    (c.in_ok-add_subs.ensures ∙ ap (λ xs. plain_heads xs ++ heads c.split_at.result.0.now) c.in_ok-heads.ensures.items
    ∙ ap heads (c.split_at.ensures.front ∙ ap (λ n. take n subs) c.min-cut.ensures))
    c.in_ok-add_wilds.ensures
    (c.in_ok-add_subs-2.ensures ∙ ap (λ xs. between ++ heads xs) (c.split_at.ensures.back ∙ ap (λ n. drop n subs) c.min-cut.ensures))
