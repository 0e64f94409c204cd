use Rattle.std.proofs.Common.{◌≡◌, ◌∙◌, ap, ◌++◌, ◌+◌, drop, get_or, arith}
use Rattle.explain_report.specs.Skimming.{skimmed_from, next_skim, kept_byte}
use Rattle.explain_report.proofs.Skims.{skimmed_more, skimmed_all}
use Rattle.explain_report.proofs.skim.skimmed.Goals as goal

pub loop-byte-preserved : goal.loop-byte-preserved
loop-byte-preserved c =
    let text = c.args.text.now in
    let i = c.loop-byte.byte-index in
    let byte = get_or text i 0 in
    let before = c.loop-byte.skim in
    let after = c.next_skim-after.ensures in
    let grown = c.in_ok-push_kept.ensures ∙ ap (λ s. c.loop-byte.kept.items ++ kept_byte before s byte) after in
    ap (λ kept. kept ++ skimmed_from c.next_skim-after.result (drop (i + 1) text)) grown
    ∙ ap (λ s. (c.loop-byte.kept.items ++ kept_byte before (next_skim before byte) byte) ++ skimmed_from s (drop (i + 1) text)) after
    ∙ skimmed_more before text c.loop-byte.kept.items _ i (omega arith) c.loop-byte.invariant

pub returns : goal.returns
returns c = skimmed_all c.loop-byte.skim c.args.text.now c.loop-byte.kept.items _ c.loop-byte.byte-index (omega arith) c.loop-byte.invariant
