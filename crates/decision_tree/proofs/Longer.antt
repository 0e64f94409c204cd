-- Lists of runs whose last one goes on.
use Rattle.std.proofs.Common.{◌≡◌, List, [], ◌∷◌, ◌++◌, ap, sym, ◌∙◌, append-nil, append_assoc}
use Rattle.std.specs.List.{flat_map}
use Rattle.std.proofs.lemmas.Grind.{flat_map-append}

module _ {A B : Type 0} (f : A → List B) where
  -- all runs, where the last one becomes longer by one
  pub last-longer : (all before new : List A) (last run : A) (x : B) → all ≡ before ++ last ∷ [] →
      f run ≡ f last ++ x ∷ [] → new ≡ before ++ run ∷ [] → flat_map f new ≡ flat_map f all ++ x ∷ []
  last-longer all before new last run x e h n =
      ap (flat_map f) n ∙ flat_map-append f before (run ∷ [])
      ∙ ap (λ us. flat_map f before ++ us) (append-nil (f run) ∙ h)
      ∙ sym (append_assoc (flat_map f before) (f last) (x ∷ []))
      ∙ ap (λ us. us ++ x ∷ []) (sym (ap (flat_map f) e ∙ flat_map-append f before (last ∷ [])
      ∙ ap (λ us. flat_map f before ++ us) (append-nil (f last))))

  -- and where one run of one more stands behind them
  pub one-more : (all new : List A) (run : A) (x : B) → new ≡ all ++ run ∷ [] → f run ≡ x ∷ [] →
      flat_map f new ≡ flat_map f all ++ x ∷ []
  one-more all new run x n e =
      ap (flat_map f) n ∙ flat_map-append f all (run ∷ [])
      ∙ ap (λ us. flat_map f all ++ us) (append-nil (f run) ∙ e)
