use Rattle.std.proofs.Common.{◌++◌, ◌+◌, ap, ◌∙◌, take, drop, append_assoc}
use Rattle.match_model.specs.Rows.{wildcards}
use Rattle.keyed_matrix.specs.Views.{plain_heads}
use Rattle.keyed_matrix.proofs.HeadRuns.{rest-of, heads-append}
use Rattle.keyed_matrix.proofs.heads.with_wilds.Goals as goal

pub returns : goal.returns
returns g c =
    let xs = c.args.heads.now in
    let k = c.args.k in
    let count = c.args.count in
    let front = plain_heads (take k xs) in
    let one = c.in_ok-extend_from_slice.ensures.items ∙ ap (λ ys. ys ++ take k xs) c.in_ok-all.ensures.items in
    let two = c.in_ok-add_wild_run.ensures ∙ ap (λ ys. plain_heads ys ++ wildcards count) one in
    ap plain_heads c.in_ok-extend_from_slice-2.ensures.items ∙ heads-append c.add_wild_run.new.all.items _
    ∙ (λ j. two j ++ plain_heads (rest-of k xs j))
    ∙ append_assoc front (wildcards count) (plain_heads (drop (k + 1) xs))
