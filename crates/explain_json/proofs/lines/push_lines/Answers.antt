use Rattle.std.proofs.Common.{◌∙◌, ap, ◌++◌, ◌-◌, drop, string_bytes, arith}
use Rattle.serde_json.specs.Written.{compact_text}
use Rattle.explain_json.specs.Lines.{line_data}
use Rattle.explain_json.proofs.Listed.{line_last, line_more}
use Rattle.explain_json.proofs.lines.push_lines.Goals as goal

pub loop-i-preserved : goal.loop-i-preserved
loop-i-preserved c =
    line_more c.args.more c.loop-i.i c.loop-i.begin c.loop-i.end c.saturating_sub-begin.result c.saturating_sub-end.result c.loop-i.rest.now
    c.behind_line-rest.result.now c.loop-i.later _ _ _ _ (omega arith)
    (c.saturating_sub-begin.ensures ∙ ap (λ w. c.loop-i.begin - w) c.line_width-width.ensures)
    (c.saturating_sub-end.ensures ∙ ap (λ w. c.loop-i.end - w) c.line_width-width.ensures)
    (c.behind_line-rest.ensures ∙ ap (λ w. drop w c.loop-i.rest.now) c.line_width-width.ensures)
    c.in_ok-push_comma.ensures
    (c.in_ok-push_line.ensures
    ∙ ap (λ s. string_bytes c.push_comma.new.text ++ compact_text (line_data c.loop-i.begin c.loop-i.end s)) c.shown_line-line.ensures)
    c.loop-i.invariant

pub returns : goal.returns
returns c =
    line_last c.args.more c.loop-i.i c.loop-i.begin c.loop-i.end c.loop-i.rest.now c.loop-i.later _ _ _ _ _ (omega arith)
    c.in_ok-push_comma-2.ensures
    (c.in_ok-push_line-2.ensures
    ∙ ap (λ s. string_bytes c.push_comma-2.new.text ++ compact_text (line_data c.loop-i.begin c.loop-i.end s)) c.shown_line-line-2.ensures)
    c.in_ok-push_str.ensures.bytes c.loop-i.invariant
