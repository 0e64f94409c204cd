-- The pieces between the sorted cuts of a column are its split.
use Rattle.std.proofs.Common.{◌≡◌, ℕ, ℤ, pos, ◌+◌, ◌<◌, ◌-ℤ◌, Bool, not, ◌&&◌, ◌||◌, List, map, get_or, length, arith, refl, sym, ◌∙◌, ap, IsPermutation}
use Rattle.std.specs.Prelude.{IsTrue, int_le, nat_eq}
use Rattle.std.specs.Ordering.{int_eq}
use Rattle.std.specs.List.{All, list_any, count_by}
use Rattle.std.proofs.lemmas.Bool.Decides.{nat_tests}
use Rattle.std.proofs.lemmas.List.Sorted.{list_any-IsPermutation, sum_by-IsPermutation}
use Rattle.match_model.specs.Numbers.{MRange, in_range}
use Rattle.match_model.specs.Pieces.{is_at, is_cut_at}
use Rattle.range_split.specs.Ends.{ends_ascend}
use Rattle.range_split.specs.Splits.{IsSplit}
use Rattle.range_split.specs.Cuts.{cuts_of, has_start, begun_at, ended_at, AreBetween}
use Rattle.range_split.proofs.Basics.{both_true, piece_of}
use Rattle.range_split.proofs.Sides.{Follow-within, not_its_low}
use Rattle.range_split.proofs.Splits.{makes_split, All-unmap}
use Rattle.range_split.specs.Walks.{bit, pieces_from, AreCuts}
use Rattle.range_split.proofs.Walks.{walk_between}
use Rattle.range_split.proofs.Counts.{having, cuts_at, some_counted}

pub between_split : (whole : MRange) (columns : List MRange) (begun : ℕ) (cuts : List (ℤ × Bool)) (pieces : List (MRange × Bool)) →
    All (λ r. IsTrue (ends_ascend r.low r.high)) columns → IsPermutation (cuts_of whole columns) cuts → begun ≡ count_by (has_start whole) columns →
    AreBetween whole begun cuts pieces → IsSplit whole columns pieces
between_split whole columns begun cuts pieces up same counted a =
    makes_split whole columns pieces up
    (record { together = a.together; cut = λ n before at. (λ h. sym (starts n before at) ∙ h, λ h. starts n before at ∙ h) })
    (λ k d l n h. a.flags k d l n h ∙ flag n (within k d l n h))
  where
    starts : (n : ℤ) → IsTrue (in_range whole (n -ℤ pos 1)) → IsTrue (in_range whole n) → list_any (λ p. is_at n p.low) (map piece_of pieces) ≡ is_cut_at columns n
    starts n before at =
        a.starts n ∙ ap (λ b. b || list_any (λ (c : ℤ × Bool). int_eq n c.0) cuts) (not_its_low whole.low n (both_true _ _ before).0)
        ∙ sym (list_any-IsPermutation (λ (c : ℤ × Bool). int_eq n c.0) (cuts_of whole columns) cuts same) ∙ cuts_at whole columns n before at

    within : (k : ℕ) (d : MRange × Bool) → k < length pieces → (n : ℤ) → IsTrue (in_range (get_or pieces k d).0 n) → IsTrue (in_range whole n)
    within k d l n h = All-unmap (λ (p : MRange). (n : ℤ) → IsTrue (in_range p n) → IsTrue (in_range whole n)) piece_of pieces (Follow-within a.together) k d l n h

    left : (h e : ℕ) → not (nat_eq (h + e) e) ≡ not (nat_eq h 0)
    left h e = grind (arith, nat_tests)

    flag : (n : ℤ) → IsTrue (in_range whole n) → not (nat_eq (begun + begun_at n cuts) (ended_at n cuts)) ≡ list_any (λ r. in_range r n) columns
    flag n at =
        let b : begun_at n cuts ≡ begun_at n (cuts_of whole columns) = sum_by-IsPermutation (λ (c : ℤ × Bool). bit (c.1 && int_le c.0 n)) (cuts_of whole columns) cuts same in
        let e : ended_at n cuts ≡ ended_at n (cuts_of whole columns) = sum_by-IsPermutation (λ (c : ℤ × Bool). bit (not c.1 && int_le c.0 n)) (cuts_of whole columns) cuts same in
        let sum : begun + begun_at n cuts ≡ count_by (λ r. in_range r n) columns + ended_at n cuts =
        total begun (begun_at n cuts) (ended_at n cuts) _ _ _ _ counted b e (having whole columns n at up) in
        ap (λ x. not (nat_eq x (ended_at n cuts))) sum ∙ left (count_by (λ r. in_range r n) columns) (ended_at n cuts) ∙ some_counted (λ r. in_range r n) columns
      where
        total : (g b e s b' e' h : ℕ) → g ≡ s → b ≡ b' → e ≡ e' → s + b' ≡ h + e' → g + b ≡ h + e
        total g b e s b' e' h p q r t = omega arith

-- so are the pieces from the low end of the whole on, by cuts in order
pub cuts_split : (whole : MRange) (columns : List MRange) (begun : ℕ) (cuts : List (ℤ × Bool)) → IsTrue (ends_ascend whole.low whole.high) → All (λ r. IsTrue (ends_ascend r.low r.high)) columns →
    AreCuts whole columns begun cuts → IsSplit whole columns (pieces_from whole.low whole.high begun 0 cuts)
cuts_split whole columns begun cuts asc up a =
    between_split whole columns begun cuts _ up a.same a.counted (walk_between whole begun cuts _ asc a.order.rising a.order.inside refl)
