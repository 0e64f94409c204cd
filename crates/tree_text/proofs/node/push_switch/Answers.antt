use Rattle.std.proofs.Common.{◌∙◌, ap, sym, ◌++◌, map, string_bytes}
use Rattle.pat_context.specs.Places.{steps_of}
use Rattle.pat_context.specs.Views.{plain_place}
use Rattle.witness_text.proofs.Adding.{five_added}
use Rattle.tree_text.specs.Trees.{branch_view}
use Rattle.tree_text.proofs.Written.{switch_written}
use Rattle.tree_text.proofs.node.push_switch.Goals as goal

pub returns : goal.returns
unfolding lib.Utf8.encode
returns c =
    five_added _ _ _ _ _ _ _ _ _ _ _ c.in_ok-push_str.ensures.bytes c.in_ok-push_place.ensures c.in_ok-push_str-2.ensures.bytes c.in_ok-push_branches.ensures
    c.in_ok-push.ensures.bytes
    ∙ ap (λ z. string_bytes c.args.text.now ++ z) (sym (switch_written (plain_place (steps_of c.args.place.now)) (map branch_view c.args.cases.now)))
