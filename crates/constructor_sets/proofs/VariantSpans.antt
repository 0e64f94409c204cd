-- Which variants of ascending numbers a head has.
use Rattle.std.proofs.Common.{◌≡◌, ◌⊎◌, inl, inr, ℕ, ◌+◌, ◌<◌, ◌≤◌, true, false, ◌&&◌, nat_eq, nat_lt, nat_le, List, map, length, get_or, Result, Ok, Err, refl, sym, subst, ◌∙◌, arith}
use Rattle.std.specs.List.{AllPairs}
use Rattle.std.specs.List.Sorted.{IsBinarySearchResult}
use Rattle.std.specs.Ordering.{nat_cmp}
use Rattle.std.proofs.lemmas.Bool.Decides.{nat_tests}
use Rattle.std.proofs.lemmas.List.Sorted.{searched}
use Rattle.std.proofs.lemmas.List.{get_or-map, length-map}
use Rattle.match_model.specs.Constructors.{MCtor, VariantCtor, has_piece}
use Rattle.pat_context.specs.Views.{plain_ctor}
use Rattle.pat_context.specs.declared.ctor.Ctor.{Ctor}
use Rattle.pat_context.specs.declared.ctor.Ctor.TheVariants as c
use Rattle.constructor_sets.specs.Spans.{IsSpan}
use Rattle.constructor_sets.proofs.Numbering.{not_falling}

-- a head has the variants at places where a test answers as the span does
by_number : (numbers : List ℕ) (h : MCtor) (first end : ℕ) → first ≤ end → end ≤ length numbers →
    ((i : ℕ) → i < length numbers → has_piece h (VariantCtor (get_or numbers i 0)) ≡ (nat_le first i && nat_lt i end)) → IsSpan (map VariantCtor numbers) h (first, end)
by_number numbers h first end l m each = record {
  forward = l;
  within = omega (arith, length-map numbers VariantCtor);
  each = λ i d n.
      let o : i < length numbers = omega (arith, length-map numbers VariantCtor) in
      subst (λ p. has_piece h p ≡ (nat_le first i && nat_lt i end)) (sym (get_or-map VariantCtor numbers i 0 d o)) (each i o);
}

-- the number stands at a place
pub there : (numbers : List ℕ) (k place : ℕ) → AllPairs (λ i j. i < j) numbers → place < length numbers → get_or numbers place 0 ≡ k → IsSpan (map VariantCtor numbers) (VariantCtor k) (place, place + 1)
there numbers k place asc l e = by_number numbers (VariantCtor k) place (place + 1) (omega arith) (omega arith) (λ i m. at i m (order i place))
  where
    order : (i n : ℕ) → (i < n) ⊎ ((n < i) ⊎ (i ≡ n))
    order i n = grind arith

    below : (i n : ℕ) → n < k → i < place → nat_eq k n ≡ (nat_le place i && nat_lt i (place + 1))
    below i n m o = grind (arith, nat_tests)

    above : (i n : ℕ) → k < n → place < i → nat_eq k n ≡ (nat_le place i && nat_lt i (place + 1))
    above i n m o = grind (arith, nat_tests)

    same : (n : ℕ) → n ≡ k → nat_eq k n ≡ (nat_le place place && nat_lt place (place + 1))
    same n f = grind (arith, nat_tests)

    at : (i : ℕ) → i < length numbers → (i < place) ⊎ ((place < i) ⊎ (i ≡ place)) → nat_eq k (get_or numbers i 0) ≡ (nat_le place i && nat_lt i (place + 1))
    at i m (inl o) = let h = asc i place 0 o l in below i _ (omega (arith, h)) o
    at i m (inr (inl o)) = let h = asc place i 0 o m in above i _ (omega (arith, h)) o
    at i m (inr (inr o)) = subst (λ j. nat_eq k (get_or numbers j 0) ≡ (nat_le place j && nat_lt j (place + 1))) (sym o) (same _ e)

pub tested : (numbers : List ℕ) (k place : ℕ) → AllPairs (λ i j. i < j) numbers → (nat_lt place (length numbers) && nat_eq (get_or numbers place 0) k) ≡ true →
    IsSpan (map VariantCtor numbers) (VariantCtor k) (place, place + 1)
tested numbers k place asc e = there numbers k place asc (grind (arith, nat_tests)) (grind (arith, nat_tests))

-- it would stand at a place
pub gone : (numbers : List ℕ) (k place : ℕ) → place ≤ length numbers → ((i : ℕ) → i < place → get_or numbers i 0 < k) → ((i : ℕ) → place ≤ i → i < length numbers → k < get_or numbers i 0) →
    IsSpan (map VariantCtor numbers) (VariantCtor k) (place, place)
gone numbers k place l low high = by_number numbers (VariantCtor k) place place (omega arith) l (λ i m. at i m (order i place))
  where
    order : (i n : ℕ) → (i < n) ⊎ (n ≤ i)
    order i n = grind arith

    below : (i n : ℕ) → n < k → nat_eq k n ≡ (nat_le place i && nat_lt i place)
    below i n m = grind (arith, nat_tests)

    above : (i n : ℕ) → k < n → nat_eq k n ≡ (nat_le place i && nat_lt i place)
    above i n m = grind (arith, nat_tests)

    at : (i : ℕ) → i < length numbers → (i < place) ⊎ (place ≤ i) → nat_eq k (get_or numbers i 0) ≡ (nat_le place i && nat_lt i place)
    at i m (inl o) = below i _ (low i o)
    at i m (inr o) = above i _ (high i o m)

-- what halving finds

pub found_span : (numbers : List ℕ) (k : ℕ) (r : Result ℕ ℕ) (i : ℕ) → AllPairs (λ i j. i < j) numbers → IsBinarySearchResult (λ y. nat_cmp y k) numbers r → r ≡ Ok i → IsSpan (map VariantCtor numbers) (VariantCtor k) (i, i + 1)
found_span numbers k r i asc h e =
    let s = searched numbers k (Ok i) (subst (IsBinarySearchResult (λ y. nat_cmp y k) numbers) e h) (not_falling numbers asc) in
    there numbers k i asc s.0 s.1

pub gone_span : (numbers : List ℕ) (k : ℕ) (r : Result ℕ ℕ) (i : ℕ) → AllPairs (λ i j. i < j) numbers → IsBinarySearchResult (λ y. nat_cmp y k) numbers r → r ≡ Err i → IsSpan (map VariantCtor numbers) (VariantCtor k) (i, i)
gone_span numbers k r i asc h e =
    let s = searched numbers k (Err i) (subst (IsBinarySearchResult (λ y. nat_cmp y k) numbers) e h) (not_falling numbers asc) in
    gone numbers k i s.0 s.1 s.2

-- a head that is no variant and no wildcard has none
pub no_variant : (numbers : List ℕ) (x : Ctor) → ((k : ℕ) → x ≡ c.Variant k → ⊥) → (x ≡ c.Wild → ⊥) → IsSpan (map VariantCtor numbers) (plain_ctor x) (0, 0)
no_variant numbers x f w = by_number numbers (plain_ctor x) 0 0 (omega arith) (omega arith) (λ i m. none x f w (get_or numbers i 0) ∙ outside i)
  where
    outside : (i : ℕ) → false ≡ (nat_le 0 i && nat_lt i 0)
    outside i = grind (arith, nat_tests)

    none : (x : Ctor) → ((k : ℕ) → x ≡ c.Variant k → ⊥) → (x ≡ c.Wild → ⊥) → (n : ℕ) → has_piece (plain_ctor x) (VariantCtor n) ≡ false
    none (c.Variant k) f w n = absurd (f k refl)
    none c.Wild f w n = absurd (w refl)
    none _ f w n = refl
