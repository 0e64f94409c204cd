-- The pairs of ends that face each other, from both sides, are the pairs of ranges that overlap.
use Rattle.std.proofs.Common.{◌≡◌, ◌≢◌, ◌⊎◌, inl, inr, ℕ, ℤ, Bool, true, false, not, List, slice_get, Some, refl, sym, ap, subst, ◌∙◌, arith}
use Rattle.std.specs.Prelude.{IsTrue, int_le}
use Rattle.std.specs.List.{Contains}
use Rattle.std.proofs.lemmas.Int.{ints}
use Rattle.match_model.specs.Values.{MValue}
use Rattle.match_model.specs.Numbers.{At}
use Rattle.match_model.specs.Overlaps.{MOverlap}
use Rattle.match_model.specs.ArenaPatterns.{MDeMatch}
use Rattle.range_split.specs.Numbers.{num_value}
use Rattle.pattern_lints.specs.declared.mixing.Columns.{Columns}
use Rattle.pattern_lints.specs.declared.ends.Side.{Side}
use Rattle.pattern_lints.specs.declared.ends.Side.TheVariants.{Low, High}
use Rattle.pattern_lints.specs.declared.ends.RangeEnd.{RangeEnd}
use Rattle.pattern_lints.specs.Beside.{held_of}
use Rattle.pattern_lints.specs.Finding.{RangeView}
use Rattle.pattern_lints.specs.Ends.{end_at, number_in, AreEnds, AreBounded}
use Rattle.pattern_lints.specs.Pairing.{Adds, pair_at, IsPair, IsPairIn, IsPairFrom}
use Rattle.pattern_lints.proofs.EndList.{below-length, one-at}
use Rattle.pattern_lints.proofs.Tries.{in-at, at-in}
use Rattle.pattern_lints.proofs.Whole.{turned, lesser, greater, split}
use Rattle.pattern_lints.proofs.PairList.{adds-then}

at-number : (x y : ℤ) → At x ≡ At y → x ≡ y
at-number x y e = cc

pair-swap : (a b : ℕ) (x : ℤ) → a ≢ b → pair_at a b x ≡ pair_at b a x
pair-swap a b x n = elim (split a b n) [
  | inl l ↦ lesser a b x l ∙ sym (greater b a x l)
  | inr l ↦ greater a b x l ∙ sym (lesser b a x l)
]

-- a pair of ranges the other way round
pair-turned : {T : Type 0} (IsValue : T → Bool → MValue → Type 0) (m : MDeMatch T) (f g : RangeView) (x : ℤ) (o : MOverlap) → IsPair IsValue m f g x o → IsPair IsValue m g f x o
pair-turned IsValue m f g x o p = record {
  first_arm = p.second_arm;
  second_arm = p.first_arm;
  first_there = p.second_there;
  second_there = p.first_there;
  differ = λ e. p.differ (sym e);
  together = turned IsValue m.type m.sure p.first_arm.pat p.second_arm.pat f.path g.path p.together;
  is = p.is ∙ pair-swap f.at g.at x p.differ;
}

-- an end of a range of the list, and what it is
record Found (side : Side) (fs : List RangeView) (ends : List RangeEnd) (f : RangeView) (x : ℤ) : Type 0 where
  end : RangeEnd
  inside : Contains ends end
  there : slice_get fs end.index ≡ Some f
  place : f.place ≡ end.place
  number : num_value end.number ≡ x

find : (side : Side) (fs : List RangeView) (ends : List RangeEnd) (f : RangeView) (x : ℤ) → AreEnds side fs ends → Contains fs f → end_at side f.range ≡ At x → Found side fs ends f x
find side fs ends f x h c is =
    let k = at-in fs f c in
    let e = h.all k.0 f x (below-length fs k.0 f k.1) k.1 is in
    let end = h.each e.0 e.1 in
    let there : slice_get fs e.0.index ≡ Some f = ap (slice_get fs) e.2 ∙ k.1 in
    let same : end.range ≡ f = one-at fs e.0.index e.0.index end.range f refl end.there there in
    record {
      end = e.0;
      inside = e.1;
      there = there;
      place = subst (λ (y : RangeView). y.place ≡ e.0.place) same end.place;
      number = at-number (num_value e.0.number) x (sym end.end ∙ ap (λ (y : RangeView). end_at side y.range) same ∙ is);
    }

module _ {T : Type 0} (IsValue : T → Bool → MValue → Type 0) (m : MDeMatch T) (fs : List RangeView) (highs lows : List RangeEnd) (h : AreEnds High fs highs) (l : AreEnds Low fs lows) where
  -- a pair from a high end
  high-pair : (o : MOverlap) → IsPairFrom IsValue m fs High highs lows o → IsPairIn IsValue m fs o
  high-pair o (e, inside, (d, there, faces, across)) =
      let f = across.first in
      let g = across.second in
      let one = h.each e inside in
      let two = l.each d there in
      let first : one.range ≡ f = one-at fs e.index e.index one.range f refl one.there across.first_there in
      let second : two.range ≡ g = one-at fs d.index d.index two.range g refl two.there across.second_there in
      let f-place : f.place ≡ e.place = subst (λ (y : RangeView). y.place ≡ e.place) first one.place in
      let g-place : g.place ≡ d.place = subst (λ (y : RangeView). y.place ≡ d.place) second two.place in (
        f,
        in-at fs e.index f across.first_there,
        record {
          other = g;
          number = num_value e.number;
          there = in-at fs d.index g across.second_there;
          place = g-place ∙ faces.place ∙ sym f-place;
          touch = (
            subst (λ (y : RangeView). y.range.high ≡ At (num_value e.number)) first one.end,
            subst (λ (y : RangeView). y.range.low ≡ At (num_value e.number)) second (two.end ∙ ap At faces.number),
          );
          pair = across.pair;
        },
      )

  -- a pair from a low end
  low-pair : (o : MOverlap) → IsPairFrom IsValue m fs Low lows highs o → IsPairIn IsValue m fs o
  low-pair o (e, inside, (d, there, faces, across)) =
      let f = across.first in
      let g = across.second in
      let one = l.each e inside in
      let two = h.each d there in
      let first : one.range ≡ f = one-at fs e.index e.index one.range f refl one.there across.first_there in
      let second : two.range ≡ g = one-at fs d.index d.index two.range g refl two.there across.second_there in
      let f-place : f.place ≡ e.place = subst (λ (y : RangeView). y.place ≡ e.place) first one.place in
      let g-place : g.place ≡ d.place = subst (λ (y : RangeView). y.place ≡ d.place) second two.place in (
        g,
        in-at fs d.index g across.second_there,
        record {
          other = f;
          number = num_value e.number;
          there = in-at fs e.index f across.first_there;
          place = f-place ∙ sym faces.place ∙ sym g-place;
          touch = (
            subst (λ (y : RangeView). y.range.high ≡ At (num_value e.number)) second (two.end ∙ ap At faces.number),
            subst (λ (y : RangeView). y.range.low ≡ At (num_value e.number)) first one.end,
          );
          pair = pair-turned IsValue m f g (num_value e.number) o across.pair;
        },
      )

  module _ (columns : List Columns) (high-bounded : AreBounded m.arms columns fs highs) (low-bounded : AreBounded m.arms columns fs lows) where
    -- a pair is one from a high end, or from a low one
    from-one : (o : MOverlap) → IsPairIn IsValue m fs o → IsPairFrom IsValue m fs High highs lows o ⊎ IsPairFrom IsValue m fs Low lows highs o
    from-one o (f, inside, p) =
        let g = p.other in
        let x = p.number in
        let e = find High fs highs f x h inside p.touch.0 in
        let d = find Low fs lows g x l p.there p.touch.1 in
        let t = p.pair.together in
        let n = held_of (number_in columns f.place t.position t.value) in
        let first = high-bounded e.end e.inside f p.pair.first_arm e.there p.pair.first_there t.value t.position t.first_at t.first_range t.first in
        let second =
        subst (λ q. IsTrue (int_le (num_value d.end.from) (held_of (number_in columns q t.position t.value))) × IsTrue (int_le (held_of (number_in columns q t.position t.value)) (num_value d.end.to))) p.place
        (low-bounded d.end d.inside g p.pair.second_arm d.there p.pair.second_there t.value t.position t.second_at t.second_range t.second) in
        let place : d.end.place ≡ e.end.place = sym d.place ∙ p.place ∙ e.place in
        let number : num_value d.end.number ≡ num_value e.end.number = d.number ∙ sym e.number in
        go e d first second place number (int_le (num_value e.end.from) (num_value d.end.from)) refl
      where
        chain : (x y z : ℤ) → int_le x y ≡ true → int_le y z ≡ true → int_le x z ≡ true
        chain x y z g h = grind (arith, ints)

        go : (e : Found High fs highs f p.number) (d : Found Low fs lows p.other p.number) →
            IsTrue (int_le (num_value e.end.from) (held_of (number_in columns f.place p.pair.together.position p.pair.together.value)))
            × IsTrue (int_le (held_of (number_in columns f.place p.pair.together.position p.pair.together.value)) (num_value e.end.to)) →
            IsTrue (int_le (num_value d.end.from) (held_of (number_in columns f.place p.pair.together.position p.pair.together.value)))
            × IsTrue (int_le (held_of (number_in columns f.place p.pair.together.position p.pair.together.value)) (num_value d.end.to)) →
            d.end.place ≡ e.end.place → num_value d.end.number ≡ num_value e.end.number → (b : Bool) → int_le (num_value e.end.from) (num_value d.end.from) ≡ b →
            IsPairFrom IsValue m fs High highs lows o ⊎ IsPairFrom IsValue m fs Low lows highs o
        go e d first second place number true t =
            inl (
              e.end,
              e.inside,
              (
                d.end,
                d.inside,
                record {
                  place = place;
                  number = number;
                  above = t;
                  within = chain (num_value d.end.from) (held_of (number_in columns f.place p.pair.together.position p.pair.together.value)) (num_value e.end.to) second.0 first.1;
                },
                record {
                  first = f;
                  second = p.other;
                  first_there = e.there;
                  second_there = d.there;
                  pair = subst (λ z. IsPair IsValue m f p.other z o) (sym e.number) p.pair;
                },
              ),
            )
        go e d first second place number false t =
            inr (
              d.end,
              d.inside,
              (
                e.end,
                e.inside,
                record {
                  place = sym place;
                  number = sym number;
                  above = ap not t;
                  within = chain (num_value e.end.from) (held_of (number_in columns f.place p.pair.together.position p.pair.together.value)) (num_value d.end.to) first.0 second.1;
                },
                record {
                  first = p.other;
                  second = f;
                  first_there = d.there;
                  second_there = e.there;
                  pair = subst (λ z. IsPair IsValue m p.other f z o) (sym d.number) (pair-turned IsValue m f p.other p.number o p.pair);
                },
              ),
            )

    -- the pairs from both sides are all
    pub pairs-both : (a b c : List MOverlap) → Adds (IsPairFrom IsValue m fs High highs lows) a b → Adds (IsPairFrom IsValue m fs Low lows highs) b c → Adds (IsPairIn IsValue m fs) a c
    pairs-both a b c g k =
        adds-then (IsPairFrom IsValue m fs High highs lows) (IsPairFrom IsValue m fs Low lows highs) (IsPairIn IsValue m fs) a b c (λ o x. high-pair o x) (λ o x. low-pair o x) (λ o x. from-one o x) g k
