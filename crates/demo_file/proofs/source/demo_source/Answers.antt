use Rattle.std.proofs.Common.{◌∙◌, ap, arith}
use Rattle.demo_file.proofs.Pieces.{piece_added, pieces_added}
use Rattle.demo_file.specs.Generated.{item_text}
use Rattle.demo_file.proofs.source.demo_source.Goals as goal

pub loop-item-preserved : goal.loop-item-preserved
loop-item-preserved c =
    piece_added item_text _ _ _ _ _ (omega arith) c.in_ok-push_item.ensures c.loop-item.invariant

pub returns : goal.returns
returns c =
    ap (λ v. v.items) c.into_bytes.ensures.value
    ∙ pieces_added item_text _ _ _ _ (omega arith) c.loop-item.invariant
