use Rattle.std.proofs.Common.{arith}
use Rattle.demo_file.proofs.Pieces.{piece_added, pieces_added}
use Rattle.demo_file.specs.Generated.{listed_variant}
use Rattle.demo_file.proofs.enums.push_variants.Goals as goal

pub loop-variant-preserved : goal.loop-variant-preserved
loop-variant-preserved c =
    piece_added listed_variant _ _ _ _ _ (omega arith) c.in_ok-push_listed_variant.ensures c.loop-variant.invariant

pub returns : goal.returns
returns c = pieces_added listed_variant _ _ _ _ (omega arith) c.loop-variant.invariant
