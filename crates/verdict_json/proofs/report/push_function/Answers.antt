use Rattle.std.proofs.Common.{◌∙◌, ap, ◌++◌, false, map, string_bytes}
use Rattle.serde_json.specs.View.{items_of}
use Rattle.serde_json.specs.Written.{compact_text, items_text}
use Rattle.verdict_json.specs.Report.{overlap_entry, unreachable_data}
use Rattle.verdict_json.specs.Trees.{overlap_view, report_view, unreachable_view}
use Rattle.witness_text.specs.Reported.{witnesses_data}
use Rattle.witness_text.specs.Trees.{witness_view}
use Rattle.verdict_json.proofs.Lines.{function_written}
use Rattle.verdict_json.proofs.report.push_function.Goals as goal

pub returns : goal.returns
unfolding lib.Utf8.encode
returns c =
    function_written (report_view c.args.report.now) _ _ _ _ _ _ _ _ _ _ _ _ _
    c.in_ok-push_str.ensures.bytes
    (c.in_ok-push_str-2.ensures.bytes ∙ ap (λ z. string_bytes c.push_str.new.self ++ z) c.flag_word.ensures)
    c.in_ok-push_str-3.ensures.bytes
    c.in_ok-push_quoted.ensures
    c.in_ok-push_str-4.ensures.bytes
    (c.in_ok-push_overlaps.ensures
    ∙ ap (λ os. string_bytes c.push_str-4.new.self ++ items_text false (items_of (map overlap_entry (map overlap_view os))))
    c.deref.ensures.value)
    c.in_ok-push_shown_tree.ensures
    c.in_ok-push_str-5.ensures.bytes
    (c.in_ok-push_unreachable.ensures
    ∙ ap (λ us. string_bytes c.push_str-5.new.self ++ items_text false (items_of (map unreachable_data (map unreachable_view us)))) c.deref-2.ensures.value)
    c.in_ok-push_str-6.ensures.bytes
    (c.in_ok-push_witnesses.ensures
    ∙ ap (λ ws. string_bytes c.push_str-6.new.self ++ compact_text (witnesses_data (map witness_view ws))) c.deref-3.ensures.value)
    c.in_ok-push.ensures.bytes
