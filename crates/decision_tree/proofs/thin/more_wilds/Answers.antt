use Rattle.std.proofs.Common.{◌++◌, ◌∙◌, None, replicate, ap, sym, append_assoc}
use Rattle.match_model.specs.Rows.{Head}
use Rattle.keyed_matrix.specs.Views.{plain_heads}
use Rattle.keyed_matrix.proofs.HeadRuns.{both-wilds}
use Rattle.decision_tree.proofs.thin.more_wilds.Goals as goal

pub returns-in-Some : goal.returns-in-Some
returns-in-Some g c =
    let none : Head g.row.T.Denot = None in
    let old = plain_heads c.args.all.now.items in
    ap (λ n. old ++ replicate n none) c.in-Some.ensures.1
    ∙ ap (λ ws. old ++ ws) (both-wilds c.args.waiting c.args.count none)
    ∙ sym (append_assoc old (replicate c.args.waiting none) (replicate c.args.count none))
