use Rattle.std.proofs.Common.{◌∙◌, ap, sym, ◌++◌, string_bytes}
use Rattle.witness_text.specs.Trees.{name_view}
use Rattle.witness_text.specs.Texts.{name_text}
use Rattle.witness_text.proofs.Adding.{two_added}
use Rattle.witness_text.proofs.Written.{unit_written}
use Rattle.witness_text.proofs.tree.push_unit.Goals as goal

pub returns : goal.returns
returns c =
    two_added _ _ _ _ _ c.in_ok-push_node_start.ensures c.in_ok-push_str.ensures.bytes
    ∙ ap (λ z. string_bytes c.args.text.now ++ z) (sym (unit_written (name_text (name_view c.args.name.now))))
