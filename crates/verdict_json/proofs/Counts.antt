-- Counts to which those of one more entry were added.
use Rattle.std.proofs.Common.{◌≡◌, ◌∙◌, sym, ap, ℕ, ◌+◌, List, [], ◌∷◌, ◌++◌, length-append}
use Rattle.std.proofs.lemmas.List.Sums.{sum_by_push}
use Rattle.verdict_json.specs.declared.summary.Summary.{Summary}
use Rattle.verdict_json.specs.Report.{ReportEntry}
use Rattle.verdict_json.specs.Summaries.{exhaustive_in, overlaps_in, unreachable_in, witnesses_in, IsSummary}

pub entry_counted : (all arms : ℕ) (entries : List ReportEntry) (e : ReportEntry) (s t : Summary) → IsSummary all entries s
    → t.arms ≡ s.arms + arms
    → t.exhaustive ≡ s.exhaustive + exhaustive_in e
    → t.functions ≡ s.functions + 1
    → t.overlaps ≡ s.overlaps + overlaps_in e
    → t.unreachable ≡ s.unreachable + unreachable_in e
    → t.witnesses ≡ s.witnesses + witnesses_in e
    → IsSummary (all + arms) (entries ++ e ∷ []) t
entry_counted all arms entries e s t is e1 e2 e3 e4 e5 e6 = record {
  arms_are = e1 ∙ ap (λ n. n + arms) is.arms_are;
  exhaustive_are = e2 ∙ ap (λ n. n + exhaustive_in e) is.exhaustive_are ∙ sym (sum_by_push exhaustive_in entries e);
  functions_are = e3 ∙ ap (λ n. n + 1) is.functions_are ∙ sym (length-append entries (e ∷ []));
  overlaps_are = e4 ∙ ap (λ n. n + overlaps_in e) is.overlaps_are ∙ sym (sum_by_push overlaps_in entries e);
  unreachable_are = e5 ∙ ap (λ n. n + unreachable_in e) is.unreachable_are ∙ sym (sum_by_push unreachable_in entries e);
  witnesses_are = e6 ∙ ap (λ n. n + witnesses_in e) is.witnesses_are ∙ sym (sum_by_push witnesses_in entries e);
}
