-- Cuts sorted by their key ascend.
use Rattle.std.proofs.Common.{◌≡◌, ℕ, zero, suc, ◌<◌, ◌^◌, Bool, true, false, List, [], ◌∷◌, get_or, length, arith, subst, add-one}
use Rattle.std.specs.Prelude.{IsTrue, int_le}
use Rattle.std.specs.List.{All}
use Rattle.std.specs.List.Sorted.{IsSortedByKey}
use Rattle.std.specs.Ordering.{nat_cmp, is_lt, ordering_then}
use Rattle.std.specs.declared.cmp.Ordering.{Ordering}
use Rattle.std.proofs.lemmas.Int.{ints}
use Rattle.std.proofs.lemmas.Bool.Decides.{nat_tests}
use Rattle.std.proofs.lemmas.List.Elements.{All-head}
use Rattle.match_model.specs.Numbers.{MEnd, At, is_from}
use Rattle.range_split.specs.declared.cut.Cut.{Cut}
use Rattle.range_split.specs.Numbers.{signed}
use Rattle.range_split.specs.Order.{key_by}
use Rattle.range_split.specs.Cuts.{cut_number, plain_cuts, Rise}

-- the order of two keys
abbrev pub key_cmp : ℕ × ℕ → ℕ × ℕ → Ordering
key_cmp x y = ordering_then (nat_cmp x.0 y.0) (nat_cmp x.1 y.1)

abbrev pub key_of : Cut → ℕ × ℕ
key_of c = key_by c.negative c.size

key_order : (s t : Bool) (m n : ℕ) → m < 2 ^ 128 → n < 2 ^ 128 → is_lt (key_cmp (key_by t n) (key_by s m)) ≡ false → IsTrue (int_le (signed s m) (signed t n))
key_order true true m n k l h = grind (arith, ints, nat_tests)
key_order true false m n k l h = grind (arith, ints, nat_tests)
key_order false true m n k l h = grind (arith, ints, nat_tests)
key_order false false m n k l h = grind (arith, ints, nat_tests)

-- neighbours of sorted cuts ascend
ascend_next : (cuts : List Cut) → IsSortedByKey key_of key_cmp cuts → (k : ℕ) (d : Cut) → suc k < length cuts →
    IsTrue (int_le (cut_number (get_or cuts k d)) (cut_number (get_or cuts (suc k) d)))
ascend_next cuts h k d l =
    let a = get_or cuts k d in
    let b = get_or cuts (suc k) d in
    let s : is_lt (key_cmp (key_of b) (key_of a)) ≡ false =
    subst (λ j. is_lt (key_cmp (key_of (get_or cuts j d)) (key_of a)) ≡ false) (add-one k) (h k d (omega arith) (omega arith)) in
    key_order a.negative b.negative a.size b.size a.size_fits b.size_fits s

rise_next : (c : Cut) (cuts : List Cut) → ((k : ℕ) (d : Cut) → suc k < length (c ∷ cuts) → IsTrue (int_le (cut_number (get_or (c ∷ cuts) k d)) (cut_number (get_or (c ∷ cuts) (suc k) d)))) →
    Rise (At (cut_number c)) (plain_cuts cuts)
rise_next c [] h = tt
rise_next c (x ∷ cuts) h = (h zero c (omega arith), rise_next x cuts (λ k d l. h (suc k) d (omega arith)))

-- sorted cuts from a low end on rise from it
pub rise_sorted : (low : MEnd) (cuts : List Cut) → All (λ c. IsTrue (is_from low (cut_number c))) cuts → IsSortedByKey key_of key_cmp cuts → Rise low (plain_cuts cuts)
rise_sorted low [] from h = tt
rise_sorted low (c ∷ cuts) from h = (All-head (λ (c : Cut). IsTrue (is_from low (cut_number c))) c cuts from, rise_next c cuts (ascend_next (c ∷ cuts) h))
