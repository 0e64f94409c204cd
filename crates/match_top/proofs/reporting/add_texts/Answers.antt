use Rattle.std.proofs.Common.{◌∙◌, ◌&&◌, map, string_bytes, ap}
use Rattle.match_top.specs.Reports.{arms_of}
use Rattle.verdict_json.specs.Report.{ArmedFunction}
use Rattle.match_top.proofs.Armed.{no_arms}
use Rattle.match_top.proofs.Entries.{one_more}
use Rattle.match_top.proofs.reporting.add_texts.Goals as goal

pub returns : goal.returns
returns c command s fs f h is so_many =
    one_more command s fs f (ArmedFunction c.args.name.now (map string_bytes c.args.texts.now)) c.args.so_far _ c.args.arms h is so_many
    (c.in_ok-counts.ensures (arms_of fs) h.entries c.args.name.now (map string_bytes c.args.texts.now) h.counts) (c.in_ok-text.ensures h.entries h.text)
    (c.both-clean.ensures ∙ ap (λ b. c.args.so_far.clean && b) (no_arms c.args.texts.now _ c.is_empty.ensures))
