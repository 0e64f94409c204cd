use Rattle.match_top.specs.Reports.{arms_of}
use Rattle.verdict_json.specs.Report.{RefusedFunction}
use Rattle.match_top.proofs.Entries.{one_more, refused_more}
use Rattle.match_top.proofs.reporting.add_refused.Goals as goal

pub returns : goal.returns
returns c command s fs f h is so_many =
    one_more command s fs f (RefusedFunction c.args.name.now c.args.refusal.now) c.args.so_far _ c.args.arms h is so_many
    (c.in_ok-counts.ensures (arms_of fs) h.entries c.args.name.now c.args.refusal.now h.counts)
    (c.in_ok-text.ensures h.entries h.text) (refused_more c.args.so_far.clean)
