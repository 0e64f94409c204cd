use Rattle.std.proofs.Common.{◌≡◌, ◌∙◌, ap, ◌+◌, map, length, arith}
use Rattle.std.proofs.lemmas.List.{length-map}
use Rattle.witness_text.specs.Trees.{witness_view}
use Rattle.verdict_json.specs.Report.{JudgedFunction}
use Rattle.verdict_json.specs.Trees.{overlap_view, report_view, unreachable_view}
use Rattle.verdict_json.proofs.Counts.{entry_counted}
use Rattle.verdict_json.proofs.summary.Summary.with_judged.Goals as goal

pub returns : goal.returns
returns c all entries is =
    let report = c.args.report.now in
    let overlaps : c.len.result ≡ length (map overlap_view report.overlaps.items) =
    omega (arith, length-map report.overlaps.items overlap_view, c.len.ensures) in
    let unreachable : c.len-2.result ≡ length (map unreachable_view report.unreachable.items) =
    omega (arith, length-map report.unreachable.items unreachable_view, c.len-2.ensures) in
    let witnesses : c.len-3.result ≡ length (map witness_view report.witnesses.items) =
    omega (arith, length-map report.witnesses.items witness_view, c.len-3.ensures) in
    entry_counted all c.args.arms entries (JudgedFunction (report_view report)) c.args.self.now _ is c.in_ok-more_arms.ensures
    (c.in_ok-exhaustive.ensures ∙ ap (λ n. c.args.self.now.exhaustive + n) c.one_if.ensures)
    c.in_ok-functions.ensures
    (c.in_ok-overlaps.ensures ∙ ap (λ n. c.args.self.now.overlaps + n) overlaps)
    (c.in_ok-unreachable.ensures ∙ ap (λ n. c.args.self.now.unreachable + n) unreachable)
    (c.in_ok-witnesses.ensures ∙ ap (λ n. c.args.self.now.witnesses + n) witnesses)
