use Rattle.std.proofs.Common.{◌≡◌, ◌∙◌, ap, sym, ◌++◌, ◌-◌, codes, decimal, length, string_bytes, arith}
use Rattle.std.specs.Prelude.{option_map}
use Rattle.serde_json.specs.Written.{compact_text}
use Rattle.explain_lines.specs.Lines.{spot_at}
use Rattle.explain_lines.specs.declared.spots.Spot.{Spot}
use Rattle.explain_lines.proofs.Adding.{five_added, seven_added}
use Rattle.explain_json.specs.Values.{text_data}
use Rattle.explain_json.specs.Spans.{applicability, spots_data}
use Rattle.explain_json.proofs.Listed.{starts_before}
use Rattle.explain_json.proofs.Written.{span_written}
use Rattle.explain_json.proofs.spans.push_span.Goals as goal

pub push_spot_lines-requires : goal.push_spot_lines-requires
push_spot_lines-requires c =
    let before = starts_before c.args.source.now.text.now c.saturating_sub-begin.result c.spot_of-from.result c.spot_of-from.ensures in
    omega (arith, before, c.requires.within, c.saturating_sub-begin.ensures)

pub returns : goal.returns
returns c =
    let label = option_map (λ s. s.now) c.args.label in
    let replacement = option_map (λ s. s.now) c.args.replacement in
    seven_added _ _ _ _ _ _ _ _ _ _ _ _ _ _ _ c.in_ok-push_counted.ensures c.in_ok-push_counted-2.ensures
    c.in_ok-push_counted-3.ensures c.in_ok-push_counted-4.ensures
    c.in_ok-push_str.ensures.bytes c.in_ok-push_quoted.ensures
    (seven_added _ _ _ _ _ _ _ _ _ _ _ _ _ _ _ c.in_ok-push_str-2.ensures.bytes c.in_ok-push_optional.ensures
    c.in_ok-push_counted-5.ensures c.in_ok-push_counted-6.ensures
    c.in_ok-push_str-3.ensures.bytes c.in_ok-push_optional-2.ensures
    (five_added _ _ _ _ _ _ _ _ _ _ _ c.in_ok-push_str-4.ensures.bytes
    (c.in_ok-push_optional-3.ensures ∙ ap (λ a. string_bytes c.push_str-4.new.self ++ compact_text (text_data a)) c.applicability.ensures)
    c.in_ok-push_str-5.ensures.bytes c.in_ok-push_spot_lines.ensures c.in_ok-push_str-6.ensures.bytes))
    ∙ ap (λ z. string_bytes c.args.text.now ++ z) (sym (span_written c.args.source.now.name.now c.args.source.now.text.now c.args.span.now c.spot_of-from.result c.spot_of-to.result label replacement))
    ∙ ap (λ (s : Spot). string_bytes c.args.text.now ++ compact_text (spots_data c.args.source.now.name.now c.args.source.now.text.now c.args.span.now s c.spot_of-to.result label replacement))
    (c.spot_of-from.ensures ∙ ap (spot_at c.args.source.now.text.now) c.saturating_sub-begin.ensures)
    ∙ ap (λ (s : Spot). string_bytes c.args.text.now ++ compact_text (spots_data c.args.source.now.name.now c.args.source.now.text.now c.args.span.now
    (spot_at c.args.source.now.text.now (c.args.span.now.from - c.args.source.now.mark)) s label replacement))
    (c.spot_of-to.ensures ∙ ap (spot_at c.args.source.now.text.now) c.end_in.ensures.exact)
