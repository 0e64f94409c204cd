use Rattle.std.proofs.Common.{◌≡◌, ℕ, ◌+◌, arith}
use Rattle.verdict_json.specs.Report.{ArmedFunction}
use Rattle.verdict_json.proofs.Counts.{entry_counted}
use Rattle.verdict_json.proofs.summary.Summary.with_arms.Goals as goal

same : (n : ℕ) → n ≡ n + 0
same n = omega arith

pub returns : goal.returns
returns c all entries name texts is =
    let now = c.args.self.now in
    entry_counted all c.args.arms entries (ArmedFunction name texts) now _ is c.in_ok-more_arms.ensures
    (same now.exhaustive) c.in_ok-functions.ensures (same now.overlaps) (same now.unreachable) (same now.witnesses)
