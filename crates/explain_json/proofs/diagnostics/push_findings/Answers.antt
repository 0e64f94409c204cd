use Rattle.std.proofs.Common.{length, arith}
use Rattle.explain_json.proofs.Told.{finding_inside}
use Rattle.explain_json.proofs.diagnostics.push_findings.Goals as goal

pub push_finding_line-requires-clause-within : goal.push_finding_line-requires-clause-within
push_finding_line-requires-clause-within c =
    finding_inside (length c.args.source.now.text.now) c.args.source.now.mark c.args.found.now c.loop-one.one-index c.one-item.result (omega arith) c.one-item.is
    c.requires.within
