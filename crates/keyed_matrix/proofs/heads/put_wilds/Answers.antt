use Rattle.std.proofs.Common.{◌∷◌, ◌++◌, ◌+◌, ◌∙◌, take, drop, ap, sym}
use Rattle.std.specs.List.{swap_remove}
use Rattle.match_model.specs.Rows.{wildcards}
use Rattle.keyed_matrix.specs.Views.{plain_heads}
use Rattle.keyed_matrix.specs.declared.rows.HeadRun.TheVariants.{Wilds}
use Rattle.keyed_matrix.proofs.HeadRuns.{heads-append, swapped-in}
use Rattle.keyed_matrix.proofs.heads.put_wilds.Goals as goal

pub returns-then-count-eq0 : goal.returns-then-count-eq0
returns-then-count-eq0 g c =
    let xs = c.args.heads.now.items in
    let k = c.args.k in
    ap plain_heads c.remove-before.ensures.by_index.2 ∙ heads-append (take k xs) (drop (k + 1) xs)
    ∙ ap (λ n. plain_heads (take k xs) ++ (wildcards n ++ plain_heads (drop (k + 1) xs))) (sym c.if-count-eq0.true)

pub returns-in_ok-push : goal.returns-in_ok-push
returns-in_ok-push g c =
    let xs = c.args.heads.now.items in
    let k = c.args.k in
    ap plain_heads (c.swap_remove-before.ensures.items
    ∙ ap (λ ys. swap_remove ys k c.swap_remove-before.result) c.in_ok-push.ensures.items
    ∙ swapped-in xs k (Wilds c.args.count) c.swap_remove-before.result c.requires)
    ∙ heads-append (take k xs) (Wilds c.args.count ∷ drop (k + 1) xs)
