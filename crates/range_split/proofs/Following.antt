-- Ranges that follow one another without a gap.
use Rattle.std.proofs.Common.{◌≡◌, ℤ, pos, ◌+ℤ◌, ◌||◌, List, refl, arith, ◌∙◌, ap}
use Rattle.std.specs.Prelude.{IsTrue, int_le}
use Rattle.std.specs.List.{list_any}
use Rattle.std.proofs.lemmas.Int.{ints}
use Rattle.match_model.specs.Numbers.{MEnd, Free, At, MRange, in_range, is_from}
use Rattle.match_model.specs.Pieces.{Follow, last_one, one_more}
use Rattle.range_split.specs.Ends.{ends_ascend}
use Rattle.range_split.proofs.Basics.{both_true, or_false}
use Rattle.range_split.specs.Walks.{range_of}

through : (low high : MEnd) (n : ℤ) → IsTrue (in_range (range_of low high) n) → IsTrue (ends_ascend low high)
through Free Free n h = refl
through Free (At b) n h = refl
through (At a) Free n h = refl
through (At a) (At b) n h = let p = both_true _ _ h in through_numbers a b n p.0 p.1
  where
    through_numbers : (a b n : ℤ) → IsTrue (int_le a n) → IsTrue (int_le n b) → IsTrue (int_le a b)
    through_numbers a b n p q = grind (arith, ints)

-- what follows from one low end to a high end is not empty
pub Follow-ascends : {low high : MEnd} {ps : List MRange} → Follow low high ps → IsTrue (ends_ascend low high)
Follow-ascends (last_one low high n h) = through low high n h
Follow-ascends (one_more low high n rest h f) = joined low high n (both_true _ _ h).0 (Follow-ascends f)
  where
    joined : (low high : MEnd) (n : ℤ) → IsTrue (is_from low n) → IsTrue (ends_ascend (At (n +ℤ pos 1)) high) → IsTrue (ends_ascend low high)
    joined Free Free n p q = refl
    joined Free (At b) n p q = refl
    joined (At a) Free n p q = refl
    joined (At a) (At b) n p q = grind (arith, ints)

-- the pieces have the numbers of the whole together
pub Follow-together : {low high : MEnd} {ps : List MRange} → Follow low high ps → (k : ℤ) → list_any (λ p. in_range p k) ps ≡ in_range (range_of low high) k
Follow-together (last_one low high n h) k = or_false (in_range (range_of low high) k)
Follow-together (one_more low high n rest h f) k =
    ap (λ b. in_range (range_of low (At n)) k || b) (Follow-together f k) ∙ joined low high n k (both_true _ _ h).0 (Follow-ascends f)
  where
    joined : (low high : MEnd) (n k : ℤ) → IsTrue (is_from low n) → IsTrue (ends_ascend (At (n +ℤ pos 1)) high) →
        (in_range (range_of low (At n)) k || in_range (range_of (At (n +ℤ pos 1)) high) k) ≡ in_range (range_of low high) k
    joined Free Free n k p q = grind (arith, ints)
    joined Free (At b) n k p q = grind (arith, ints)
    joined (At a) Free n k p q = grind (arith, ints)
    joined (At a) (At b) n k p q = grind (arith, ints)
