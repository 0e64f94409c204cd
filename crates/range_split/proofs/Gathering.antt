-- The cuts of a column, range by range.
use Rattle.std.proofs.Common.{◌≡◌, ℕ, ℤ, ◌+◌, ◌≤◌, ◌^◌, Bool, true, false, List, [], ◌∷◌, ◌++◌, arith, sym, ◌∙◌, ap, subst, add-zero, zero-add, IsPermutation}
use Rattle.std.specs.Prelude.{IsTrue}
use Rattle.std.specs.List.{All, count_by}
use Rattle.std.proofs.lemmas.List.{append_assoc, append-nil}
use Rattle.std.proofs.lemmas.List.Sums.{sum_by-cons}
use Rattle.std.proofs.lemmas.List.Sorted.{All-permutation}
use Rattle.match_model.specs.Numbers.{MEnd, MRange, is_from, is_up_to}
use Rattle.range_split.specs.Cuts.{cuts_by, cuts_of, has_start, Rise}
use Rattle.range_split.specs.Walks.{bit, AreCuts}
use Rattle.range_split.proofs.Counts.{all_inside}

-- the cuts of some of the ranges are gathered, those of the rest are left; so many heads are read
pub record Gathered (whole : MRange) (columns : List MRange) (begun : ℕ) (cuts : List (ℤ × Bool)) (rest : List MRange) (read : ℕ) : Type 0 where
  pub same : cuts ++ cuts_of whole rest ≡ cuts_of whole columns
  pub counted : begun + count_by (has_start whole) rest ≡ count_by (has_start whole) columns
  pub few : begun ≤ read

pub none_gathered : (whole : MRange) (columns : List MRange) (begun : ℕ) (cuts : List (ℤ × Bool)) → begun ≡ 0 → cuts ≡ [] → Gathered whole columns begun cuts columns 0
none_gathered whole columns begun cuts b c = record {
  same = ap (λ cs. cs ++ cuts_of whole columns) c;
  counted = ap (λ n. n + count_by (has_start whole) columns) b ∙ zero-add (count_by (has_start whole) columns);
  few = omega (arith, b);
}

pub more_gathered : (whole : MRange) (columns : List MRange) (begun begun' : ℕ) (cuts cuts' : List (ℤ × Bool)) (r : MRange) (rest rest' : List MRange) (i : ℕ) → rest ≡ r ∷ rest' →
    cuts' ≡ cuts ++ cuts_by whole r → begun' ≡ begun + bit (has_start whole r) → Gathered whole columns begun cuts rest i → Gathered whole columns begun' cuts' rest' (i + 1)
more_gathered whole columns begun begun' cuts cuts' r rest rest' i front c b g = record {
  same = ap (λ cs. cs ++ cuts_of whole rest') c ∙ append_assoc cuts (cuts_by whole r) (cuts_of whole rest') ∙ sym (ap (λ rs. cuts ++ cuts_of whole rs) front) ∙ g.same;
  counted = plus begun begun' (bit (has_start whole r)) (count_by (has_start whole) rest') (count_by (has_start whole) rest) (count_by (has_start whole) columns) b
      (ap (count_by (has_start whole)) front ∙ sum_by-cons (λ (r : MRange). bit (has_start whole r)) r rest') g.counted;
  few = few begun begun' i (has_start whole r) b g.few;
}
  where
    plus : (b b' k n s t : ℕ) → b' ≡ b + k → s ≡ k + n → b + s ≡ t → b' + n ≡ t
    plus b b' k n s t p q r = omega arith

    at_most_one : (t : Bool) → bit t ≤ 1
    at_most_one true = omega arith
    at_most_one false = omega arith

    few : (b b' i : ℕ) (t : Bool) → b' ≡ b + bit t → b ≤ i → b' ≤ i + 1
    few b b' i t e l = let k = at_most_one t in omega arith

pub none_more : (whole : MRange) (columns : List MRange) (begun : ℕ) (cuts : List (ℤ × Bool)) (rest rest' : List MRange) (i : ℕ) → rest ≡ rest' → Gathered whole columns begun cuts rest i →
    Gathered whole columns begun cuts rest' (i + 1)
none_more whole columns begun cuts rest rest' i e g = record {
  same = subst (λ (rs : List MRange). cuts ++ cuts_of whole rs ≡ cuts_of whole columns) e g.same;
  counted = subst (λ (rs : List MRange). begun + count_by (has_start whole) rs ≡ count_by (has_start whole) columns) e g.counted;
  few = let k = g.few in omega arith;
}

-- where none is left, and the cuts are put in order, they are those of the column
pub all_gathered : (whole : MRange) (columns : List MRange) (begun begun' : ℕ) (cuts sorted : List (ℤ × Bool)) (rest : List MRange) (i : ℕ) → rest ≡ [] → i ≤ 2 ^ 64 →
    Gathered whole columns begun cuts rest i → IsPermutation cuts sorted → ((low : MEnd) → All (λ c. IsTrue (is_from low c.0)) cuts → Rise low sorted) → begun' ≡ begun →
    AreCuts whole columns begun' sorted
all_gathered whole columns begun begun' cuts sorted rest i none l g p rise b =
    let is : cuts ≡ cuts_of whole columns = sym (append-nil cuts) ∙ sym (ap (λ rs. cuts ++ cuts_of whole rs) none) ∙ g.same in
    record {
      order = record {
        rising = rise whole.low (subst (All (λ (c : ℤ × Bool). IsTrue (is_from whole.low c.0))) (sym is) (λ k d l. (all_inside whole columns k d l).0));
        inside = All-permutation (λ (c : ℤ × Bool). IsTrue (is_up_to whole.high c.0)) cuts sorted p
            (subst (All (λ (c : ℤ × Bool). IsTrue (is_up_to whole.high c.0))) (sym is) (λ k d l. (all_inside whole columns k d l).1));
        few = let k = g.few in omega arith;
      };
      same = subst (λ (cs : List (ℤ × Bool)). IsPermutation cs sorted) is p;
      counted = b ∙ sym (add-zero begun) ∙ sym (ap (λ rs. begun + count_by (has_start whole) rs) none) ∙ g.counted;
    }
