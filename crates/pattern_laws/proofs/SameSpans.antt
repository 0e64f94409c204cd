-- Overlaps are the same where the things to try have met the same ranges.
use Rattle.std.proofs.Common.{◌≡◌, ℕ, zero, suc, ℤ, Bool, List, [], ◌∷◌, ◌++◌, map, Some, slice_get, refl, sym, subst}
use Rattle.std.specs.List.{Contains}
use Rattle.match_model.specs.Values.{MValue}
use Rattle.match_model.specs.Ways.{Way}
use Rattle.match_model.specs.Lists.{Each}
use Rattle.match_model.specs.Match.{ArmWays}
use Rattle.match_model.specs.Select.{Try, try_of, tries_from}
use Rattle.match_model.specs.Overlaps.{OverlapIn, Overlaps, MOverlap, IsOverlapList}

-- both have met the same ranges
abbrev pub SameSpans : Try → Try → Type 0
SameSpans t u = t.way.spans ≡ u.way.spans

pub spans_both : (ts us xs ys : List Try) → Each SameSpans ts us → Each SameSpans xs ys → Each SameSpans (ts ++ xs) (us ++ ys)
spans_both [] [] xs ys h k = k
spans_both [] (u ∷ us) xs ys h k = absurd h
spans_both (t ∷ ts) [] xs ys h k = absurd h
spans_both (t ∷ ts) (u ∷ us) xs ys h k = (h.0, spans_both ts us xs ys h.1 k)

-- ways of which only the traces differ
pub spans_renamed : (f : Way → Way) → ((w : Way) → (f w).spans ≡ w.spans) → (j : ℕ) (b c : Bool) (ws : List Way) →
    Each SameSpans (map (try_of j b) ws) (map (try_of j c) (map f ws))
spans_renamed f keeps j b c [] = tt
spans_renamed f keeps j b c (w ∷ ws) = (sym (keeps w), spans_renamed f keeps j b c ws)

pub spans_turned : (ts us : List Try) → Each SameSpans ts us → Each SameSpans us ts
spans_turned [] [] h = tt
spans_turned [] (u ∷ us) h = absurd h
spans_turned (t ∷ ts) [] h = absurd h
spans_turned (t ∷ ts) (u ∷ us) h = (sym h.0, spans_turned ts us h.1)

-- what stands at an index of the one stands in the other
met_there : (ts us : List Try) → Each SameSpans ts us → (i : ℕ) (t : Try) → slice_get ts i ≡ Some t →
    (u : Try) × (slice_get us i ≡ Some u) × SameSpans t u
met_there [] us h i t e = absurd cc
met_there (t ∷ ts) [] h i x e = absurd h
met_there (t ∷ ts) (u ∷ us) h zero x e =
    let same : t ≡ x = cc in (u, refl, subst (λ (y : Try). y.way.spans ≡ u.way.spans) same h.0)
met_there (t ∷ ts) (u ∷ us) h (suc i) x e = met_there ts us h.1 i x e

-- so does an overlap
overlap_there : (xs ys : List ArmWays) (v : MValue) → Each SameSpans (tries_from 0 xs v) (tries_from 0 ys v) →
    (first second : ℕ) (x : ℤ) → OverlapIn xs v first second x → OverlapIn ys v first second x
overlap_there xs ys v h first second x o =
    let one = met_there (tries_from 0 xs v) (tries_from 0 ys v) h o.first_index o.first_try o.first_there in
    let two = met_there (tries_from 0 xs v) (tries_from 0 ys v) h o.second_index o.second_try o.second_there in
    record {
      first_index = o.first_index;
      second_index = o.second_index;
      first_try = one.0;
      second_try = two.0;
      first_span = o.first_span;
      second_span = o.second_span;
      different = o.different;
      first_there = one.1;
      second_there = two.1;
      first_met = subst (λ ss. Contains ss o.first_span) one.2 o.first_met;
      second_met = subst (λ ss. Contains ss o.second_span) two.2 o.second_met;
      first_at = o.first_at;
      second_at = o.second_at;
      ordered = o.ordered;
      same_position = o.same_position;
      is_number = o.is_number;
      meet = o.meet;
    }

-- and the list of them
pub overlaps_same : (D : MValue → Type 0) (xs ys : List ArmWays) →
    ((v : MValue) → D v → Each SameSpans (tries_from 0 xs v) (tries_from 0 ys v)) → (os : List MOverlap) →
    IsOverlapList D xs os → IsOverlapList D ys os
overlaps_same D xs ys same os h = record {
  each = λ o. (
    λ c. there o ((h.each o).0 c),
    λ k. (h.each o).1 (back o k),
  );
  ascending = h.ascending;
}
  where
    there : (o : MOverlap) → Overlaps D xs o.first o.second o.number → Overlaps D ys o.first o.second o.number
    there o (v, d, i) = (v, d, overlap_there xs ys v (same v d) o.first o.second o.number i)

    back : (o : MOverlap) → Overlaps D ys o.first o.second o.number → Overlaps D xs o.first o.second o.number
    back o (v, d, i) =
        (v, d, overlap_there ys xs v (spans_turned (tries_from 0 xs v) (tries_from 0 ys v) (same v d)) o.first o.second o.number i)
