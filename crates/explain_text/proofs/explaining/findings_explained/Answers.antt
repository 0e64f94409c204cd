use Rattle.std.proofs.Common.{◌∙◌, sym, subst, ℕ, ◌-◌, length, map, string_bytes}
use Rattle.std.specs.List.{All}
use Rattle.explain_text.specs.Diagnostics.{IsInside, diagnostic_view}
use Rattle.explain_text.proofs.Whole.{long_behind, told}
use Rattle.explain_text.proofs.explaining.findings_explained.Goals as goal

pub form_text-requires-clause-within : goal.form_text-requires-clause-within
form_text-requires-clause-within c =
    let mark = c.mark_length-mark.result in
    subst (λ (n : ℕ). All (IsInside n mark) (map diagnostic_view c.args.found.now)) (sym (long_behind c.args.file.now mark))
    (subst (λ (m : ℕ). All (IsInside (length c.args.file.now - m) m) (map diagnostic_view c.args.found.now)) (sym c.mark_length-mark.ensures.exact) c.requires)

pub returns : goal.returns
returns c =
    told c.args.manner c.args.name.now c.args.file.now (map diagnostic_view c.args.found.now) c.mark_length-mark.result (string_bytes c.in_ok-text.text)
    c.error_count-breaks.result c.mark_length-mark.ensures.exact c.in_ok-text.ensures c.error_count-breaks.ensures.exact
