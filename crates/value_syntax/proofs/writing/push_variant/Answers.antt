use Rattle.witness_text.proofs.Adding.{three_added}
use Rattle.value_syntax.proofs.writing.push_variant.Goals as goal

pub returns : goal.returns
returns c = three_added _ _ _ _ _ _ _ c.in_ok-push_name.ensures c.in_ok-push_str.ensures.bytes
    c.in_ok-push_name-2.ensures
