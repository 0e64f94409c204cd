use Rattle.std.proofs.Common.{◌∙◌, ap, sym, ◌++◌, string_bytes}
use Rattle.witness_text.specs.Trees.{witness_view}
use Rattle.witness_text.specs.Texts.{pattern_text}
use Rattle.witness_text.specs.Reported.{tree_data}
use Rattle.witness_text.proofs.Adding.{five_added}
use Rattle.witness_text.proofs.Written.{entry_written}
use Rattle.witness_text.proofs.report.push_entry.Goals as goal

pub returns : goal.returns
unfolding lib.Utf8.encode
returns c =
    five_added _ _ _ _ _ _ _ _ _ _ _ c.in_ok-push_str.ensures.bytes c.in_ok-push_pattern_text.ensures c.in_ok-push_str-2.ensures.bytes c.in_ok-push_tree.ensures
    c.in_ok-push.ensures.bytes
    ∙ ap (λ z. string_bytes c.args.text.now ++ z) (sym (entry_written (pattern_text (witness_view c.args.witness.now)) (tree_data (witness_view c.args.witness.now))))
