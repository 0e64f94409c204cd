use Rattle.std.proofs.Common.{◌∙◌, ap, sym, ◌++◌, string_bytes}
use Rattle.witness_text.proofs.Adding.{five_added}
use Rattle.tree_text.specs.Trees.{branch_view}
use Rattle.tree_text.proofs.Written.{branch_written}
use Rattle.tree_text.proofs.node.push_branch.Goals as goal

pub returns : goal.returns
unfolding lib.Utf8.encode
returns c =
    five_added _ _ _ _ _ _ _ _ _ _ _ c.in_ok-push.ensures.bytes c.in_ok-push_case.ensures c.in_ok-push-2.ensures.bytes c.in_ok-push_count.ensures
    c.in_ok-push-3.ensures.bytes
    ∙ ap (λ z. string_bytes c.args.text.now ++ z) (sym (branch_written (branch_view c.args.branch.now)))
