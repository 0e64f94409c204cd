use Rattle.match_top.specs.Reports.{arms_of}
use Rattle.verdict_json.specs.Report.{JudgedFunction}
use Rattle.verdict_json.specs.Trees.{report_view}
use Rattle.match_top.proofs.Entries.{one_more}
use Rattle.match_top.proofs.reporting.add_report.Goals as goal

pub returns : goal.returns
returns c command s fs f h is so_many =
    one_more command s fs f (JudgedFunction (report_view c.args.report.now)) c.args.so_far _ c.args.arms h is so_many
    (c.in_ok-counts.ensures (arms_of fs) h.entries h.counts) (c.in_ok-text.ensures h.entries h.text) c.both-clean.ensures
