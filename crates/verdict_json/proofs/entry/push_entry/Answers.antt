use Rattle.std.proofs.Common.{◌∙◌, ap, sym, ◌++◌, string_bytes}
use Rattle.witness_text.proofs.Adding.{five_added}
use Rattle.verdict_json.specs.Trees.{unreachable_view}
use Rattle.verdict_json.proofs.EntryLines.{unreachable_written}
use Rattle.verdict_json.proofs.entry.push_entry.Goals as goal

pub returns : goal.returns
returns c =
    five_added _ _ _ _ _ _ _ _ _ _ _ c.in_ok-push_str.ensures.bytes
    (c.in_ok-push_str-2.ensures.bytes ∙ ap (λ z. string_bytes c.push_str.new.self ++ z) c.format.ensures.text)
    c.in_ok-push_str-3.ensures.bytes
    (c.in_ok-push_str-4.ensures.bytes ∙ ap (λ z. string_bytes c.push_str-3.new.self ++ z) c.format-2.ensures.text)
    (c.in_ok-push_str-5.ensures.bytes ∙ ap (λ z. string_bytes c.push_str-4.new.self ++ z) c.last_piece.ensures)
    ∙ ap (λ z. string_bytes c.args.text.now ++ z) (sym (unreachable_written (unreachable_view c.args.entry.now)))
