-- The ends of ranges that follow one another: the outer ones are those of the whole, the inner ones cut it.
use Rattle.std.proofs.Common.{◌≡◌, ◌⊎◌, inl, inr, ℤ, pos, ◌+ℤ◌, ◌-ℤ◌, true, List, [], ◌∷◌, refl, sym, subst, arith}
use Rattle.std.specs.Prelude.{int_le}
use Rattle.std.specs.List.{list_any}
use Rattle.std.proofs.lemmas.Int.{ints}
use Rattle.match_model.specs.Lists.{Every}
use Rattle.match_model.specs.Numbers.{MEnd, Free, At, MRange, in_range, is_from, is_at}
use Rattle.match_model.specs.Pieces.{Follow, last_one, one_more}
use Rattle.match_model.proofs.Basics.{both, int_itself, or_left, or_right}
use Rattle.range_split.specs.Ends.{ends_ascend}
use Rattle.range_split.proofs.Following.{Follow-ascends}

-- a range by its ends
abbrev span : (low high : MEnd) → MRange
span low high = record { low = low; high = high }

-- the number behind an inner end, and the one before it, are in the whole
within : (low high : MEnd) (n : ℤ) → is_from low n ≡ true → ends_ascend (At (n +ℤ pos 1)) high ≡ true →
    (in_range (span low high) (n +ℤ pos 1 -ℤ pos 1) ≡ true) × (in_range (span low high) (n +ℤ pos 1) ≡ true)
within Free Free n a b = (refl, refl)
within Free (At h) n a b = (grind (arith, ints), grind (arith, ints))
within (At l) Free n a b = (grind (arith, ints), grind (arith, ints))
within (At l) (At h) n a b = (grind (arith, ints), grind (arith, ints))

-- what is in the rest is in the whole
more : (low high : MEnd) (n k : ℤ) → is_from low n ≡ true → in_range (span (At (n +ℤ pos 1)) high) k ≡ true →
    in_range (span low high) k ≡ true
more Free Free n k a b = refl
more Free (At h) n k a b = grind (arith, ints)
more (At l) Free n k a b = grind (arith, ints)
more (At l) (At h) n k a b = grind (arith, ints)

-- the first one begins where the whole begins
starts : {low high : MEnd} {ps : List MRange} → Follow low high ps → (n : ℤ) → low ≡ At n →
    list_any (λ p. is_at n p.low) ps ≡ true
starts (last_one low high m h) n e =
    or_left (is_at n low) (list_any (λ (p : MRange). is_at n p.low) [])
    (subst (λ x. is_at n x ≡ true) (sym e) (int_itself n))
starts (one_more low high m rest h f) n e =
    or_left (is_at n low) (list_any (λ p. is_at n p.low) rest) (subst (λ x. is_at n x ≡ true) (sym e) (int_itself n))

module _ (Q : ℤ → Type 0) where
  -- the end is that of the whole, or a number at which, or behind which, it is cut
  abbrev pub IsLow : MEnd → MEnd → Type 0
  IsLow low e = (e ≡ low) ⊎ ((n : ℤ) × (e ≡ At n) × Q n)

  abbrev pub IsHigh : MEnd → MEnd → Type 0
  IsHigh high e = (e ≡ high) ⊎ ((n : ℤ) × (e ≡ At n) × Q (n +ℤ pos 1))

  -- both ends are so, and the range has a number
  abbrev pub HasEnds : (low high : MEnd) → MRange → Type 0
  HasEnds low high r = IsLow low r.low × IsHigh high r.high × ((x : ℤ) × (in_range r x ≡ true))

  widened : (low high : MEnd) (n : ℤ) → Q n → (ps : List MRange) → Every (HasEnds (At n) high) ps →
      Every (HasEnds low high) ps
  widened low high n q [] h = tt
  widened low high n q (p ∷ ps) ((a, b, c), h) = ((go a, b, c), widened low high n q ps h)
    where
      go : IsLow (At n) p.low → IsLow low p.low
      go (inl e) = inr (n, e, q)
      go (inr e) = inr e

  pub ends : {low high : MEnd} {ps : List MRange} → Follow low high ps →
      ((n : ℤ) → in_range (span low high) (n -ℤ pos 1) ≡ true → in_range (span low high) n ≡ true →
      list_any (λ p. is_at n p.low) ps ≡ true → Q n) → Every (HasEnds low high) ps
  ends (last_one low high n h) f = ((inl refl, inl refl, (n, h)), tt)
  ends (one_more low high n rest h fs) f =
      let a = (both (is_from low n) (int_le n n) h).0 in
      let w = within low high n a (Follow-ascends fs) in
      let q = f (n +ℤ pos 1) w.0 w.1 (or_right (is_at (n +ℤ pos 1) low)
      (list_any (λ p. is_at (n +ℤ pos 1) p.low) rest) (starts fs (n +ℤ pos 1) refl)) in (
        (inl refl, inr (n, refl, q), (n, h)),
        widened low high (n +ℤ pos 1) q rest
            (ends fs (λ k x y z. f k (more low high n (k -ℤ pos 1) a x) (more low high n k a y)
            (or_right (is_at k low) (list_any (λ p. is_at k p.low) rest) z))),
      )
