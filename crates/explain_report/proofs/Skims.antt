-- One byte further on.
use Rattle.std.proofs.Common.{◌≡◌, ◌∙◌, ap, sym, refl, ℕ, ◌+◌, ◌<◌, ◌≤◌, List, [], ◌∷◌, ◌++◌, length, drop, get_or, append_assoc}
use Rattle.std.proofs.lemmas.List.{at_drop_more, at_drop_all, append-nil}
use Rattle.explain_report.specs.Skimming.{skimmed_from, next_skim, kept_byte}
use Rattle.explain_report.specs.declared.skim.Skim.{Skim}

-- what is left of one more byte
pub skimmed_more : (skim : Skim) (text done all : List ℕ) (i : ℕ) → i < length text →
    done ++ skimmed_from skim (drop i text) ≡ all →
    (done ++ kept_byte skim (next_skim skim (get_or text i 0)) (get_or text i 0)) ++ skimmed_from (next_skim skim (get_or text i 0)) (drop (i + 1) text) ≡ all
unfolding skimmed_from
skimmed_more skim text done all i lt e =
    append_assoc done (kept_byte skim (next_skim skim (get_or text i 0)) (get_or text i 0)) (skimmed_from (next_skim skim (get_or text i 0)) (drop (i + 1) text))
    ∙ ap (λ r. done ++ r) (sym (at_drop_more (skimmed_from skim) text i 0 lt)) ∙ e

-- what is left of all bytes
pub skimmed_all : (skim : Skim) (text done all : List ℕ) (i : ℕ) → length text ≤ i → done ++ skimmed_from skim (drop i text) ≡ all → done ≡ all
unfolding skimmed_from
skimmed_all skim text done all i past e =
    sym (append-nil done) ∙ ap (λ r. done ++ r) (sym (at_drop_all (skimmed_from skim) text i past)) ∙ e
