-- Taking the first place of a submatrix apart hands on what values come to.
use Rattle.std.proofs.Common.{Bool, List, [], ◌∷◌, sym, ◌∙◌}
use Rattle.match_model.specs.Values.{MValue}
use Rattle.match_model.specs.Contexts.{Context, Open}
use Rattle.match_model.specs.ContextLaws.{PartsLaw, ValuesLaw}
use Rattle.pattern_matrix.specs.Counting.{Question, WantedRow}
use Rattle.pattern_matrix.specs.Searching.{Submatrix, Comes, SomeComes, apart, IsSplit}
use Rattle.pattern_matrix.specs.ReachLaws.{SplitsHandOn}
use Rattle.pattern_matrix.proofs.HandingOn.{Fit, apart_fit, apart_none, apart_counts, goes_on, comes_back}
use Rattle.pattern_matrix.proofs.Lighter.{falls}

module _ {T : Type 0} (IsType : T → Type 0) (IsValue : T → Bool → MValue → Type 0) (cx : Context T) (values : ValuesLaw IsType IsValue cx) (law : PartsLaw IsType IsValue cx) where
  hands_on : (o : Open T) (places : List (Open T)) (rows : List (WantedRow T)) (left : List (Submatrix T)) → Fit IsType IsValue cx values law (o ∷ places) rows →
      IsSplit IsValue cx o places (apart rows) left → (q : Question) → Comes IsValue q (record { places = o ∷ places; rows = rows }) → SomeComes IsValue q left
  hands_on o places rows left f s q ([], a, e) = absurd a
  hands_on o places rows left f s q (v ∷ vs, a, e) =
      goes_on IsType IsValue cx values law o places (apart rows) left (apart_fit IsType IsValue cx values law o places rows f) (apart_none IsType IsValue cx values law o places rows f) s q v vs a
      (apart_counts IsType IsValue cx values law o places rows f q v vs a ∙ e)

  hands_back : (o : Open T) (places : List (Open T)) (rows : List (WantedRow T)) → Fit IsType IsValue cx values law (o ∷ places) rows → (q : Question) →
      Comes IsValue q (record { places = o ∷ places; rows = apart rows }) → Comes IsValue q (record { places = o ∷ places; rows = rows })
  hands_back o places rows f q ([], a, e) = absurd a
  hands_back o places rows f q (v ∷ vs, a, e) = (v ∷ vs, a, sym (apart_counts IsType IsValue cx values law o places rows f q v vs a) ∙ e)

  pub splits_hand_on : SplitsHandOn IsType IsValue cx
  splits_hand_on = record {
    on = hands_on;
    fit = λ o places rows left f s n i.
        (comes_back IsType IsValue cx values law o places (apart rows) left (apart_fit IsType IsValue cx values law o places rows f) (apart_none IsType IsValue cx values law o places rows f) s n i).0;
    back = λ o places rows left f s n i q c.
        hands_back o places rows f q ((comes_back IsType IsValue cx values law o places (apart rows) left (apart_fit IsType IsValue cx values law o places rows f) (apart_none IsType IsValue cx values law o places rows f) s n i).1 q c);
    falls = λ o places rows left f s w n i. falls IsValue cx o places rows left f.typed (apart_fit IsType IsValue cx values law o places rows f).typed s w n i;
  }
