-- Numbers of leaves that have a piece.
use Rattle.std.proofs.Common.{◌≡◌, ℕ, zero, suc, ◌<◌, Bool, true, false, cond, List, [], ◌∷◌, length, Option, Some, None, slice_get, slice_index_or, refl, sym, subst, ◌∙◌, arith}
use Rattle.std.specs.List.{All}
use Rattle.std.specs.Option.{option_to_list}
use Rattle.std.proofs.lemmas.List.Elements.{All-head, All-tail, All-nil, All-cons, All-append}
use Rattle.match_model.specs.Constructors.{MCtor}
use Rattle.match_model.proofs.Basics.{untrue}
use Rattle.pattern_matrix.specs.Sparse.{SparseLeaf, head_has, leaf_parts, leaves_listed, IsLeafOf, AreParts}
use Rattle.pattern_matrix.specs.Halving.{IsLeafSpan, AreLeafSpans, span_has, having}
use Rattle.pattern_matrix.proofs.Opened.{at_get}

-- the span at a number is that of the leaf there
span_at : {T : Type 0} (pieces : List MCtor) (leaves : List (SparseLeaf T)) (spans : List (ℕ × ℕ)) → AreLeafSpans pieces leaves spans →
    (k : ℕ) (s : ℕ × ℕ) → slice_get spans k ≡ Some s →
    (l : SparseLeaf T) × (slice_get leaves k ≡ Some l) × IsLeafSpan pieces l s
span_at pieces [] [] are k s e = cc
span_at pieces [] (x ∷ spans) are k s e = absurd are
span_at pieces (l ∷ leaves) [] are k s e = absurd are
span_at pieces (l ∷ leaves) (x ∷ spans) are zero s e = let same : x ≡ s = cc in (l, refl, subst (IsLeafSpan pieces l) same are.0)
span_at pieces (l ∷ leaves) (x ∷ spans) are (suc k) s e = span_at pieces leaves spans are.1 k s e

got_below : {X : Type 0} (xs : List X) (k : ℕ) (x : X) → slice_get xs k ≡ Some x → k < length xs
got_below [] k x e = cc
got_below (y ∷ ys) zero x e = omega arith
got_below (y ∷ ys) (suc k) x e = let l = got_below ys k x e in omega (arith, l)

module _ {T : Type 0} (pieces : List MCtor) (i : ℕ) (d : MCtor) (inside : i < length pieces) (leaves : List (SparseLeaf T)) (spans : List (ℕ × ℕ)) (are : AreLeafSpans pieces leaves spans) where
  abbrev pub Has : ℕ → Type 0
  Has k = span_has i (slice_get spans k) ≡ true

  -- the leaf there has the piece
  leaf_has : (k : ℕ) → Has k → (l : SparseLeaf T) × (slice_get leaves k ≡ Some l) × (head_has (slice_index_or pieces i d) l.head ≡ true)
  leaf_has k h = go (slice_get spans k) refl h
    where
      go : (o : Option (ℕ × ℕ)) → slice_get spans k ≡ o → span_has i o ≡ true →
          (l : SparseLeaf T) × (slice_get leaves k ≡ Some l) × (head_has (slice_index_or pieces i d) l.head ≡ true)
      go None e h = untrue h
      go (Some s) e h = let (l, g, is) = span_at pieces leaves spans are k s e in (l, g, is.each i d inside ∙ h)

  -- the numbers are those of leaves
  pub below : (numbers : List ℕ) → All Has numbers → All (λ k. k < length leaves) numbers
  below [] h = All-nil (λ k. k < length leaves)
  below (k ∷ numbers) h =
      let (l, g, has) = leaf_has k (All-head Has k numbers h) in
      All-cons (λ k. k < length leaves) k numbers (got_below leaves k l g) (below numbers (All-tail Has k numbers h))

  module _ (count : ℕ) (write : All (λ l. head_has (slice_index_or pieces i d) l.head ≡ true → length (leaf_parts count l.head) ≡ count) leaves) where
    -- each writes so many parts
    pub parts : (numbers : List ℕ) → All Has numbers → All (AreParts count leaves) numbers
    parts [] h = All-nil (AreParts count leaves)
    parts (k ∷ numbers) h =
        All-cons (AreParts count leaves) k numbers
        (λ l g. let (m, f, has) = leaf_has k (All-head Has k numbers h) in
        let same : m ≡ l = cc in
        at_get (λ l. head_has (slice_index_or pieces i d) l.head ≡ true → length (leaf_parts count l.head) ≡ count) leaves k l write g (subst (λ (x : SparseLeaf T). head_has (slice_index_or pieces i d) x.head ≡ true) same has))
        (parts numbers (All-tail Has k numbers h))

    -- and has the piece
    pub leaf_of : (numbers : List ℕ) → All Has numbers → All (IsLeafOf (slice_index_or pieces i d) count) (leaves_listed leaves numbers)
    leaf_of [] h = All-nil (IsLeafOf (slice_index_or pieces i d) count)
    leaf_of (k ∷ numbers) h =
        All-append (IsLeafOf (slice_index_or pieces i d) count) (option_to_list (slice_get leaves k)) (leaves_listed leaves numbers) (one (leaf_has k (All-head Has k numbers h))) (leaf_of numbers (All-tail Has k numbers h))
      where
        one : (l : SparseLeaf T) × (slice_get leaves k ≡ Some l) × (head_has (slice_index_or pieces i d) l.head ≡ true) →
            All (IsLeafOf (slice_index_or pieces i d) count) (option_to_list (slice_get leaves k))
        one (l, g, has) =
            subst (λ o. All (IsLeafOf (slice_index_or pieces i d) count) (option_to_list o)) (sym g)
            (All-cons (IsLeafOf (slice_index_or pieces i d) count) l []
            (record { has = has; parts = at_get (λ l. head_has (slice_index_or pieces i d) l.head ≡ true → length (leaf_parts count l.head) ≡ count) leaves k l write g has })
            (All-nil (IsLeafOf (slice_index_or pieces i d) count)))

-- the numbers that halving finds for a piece are such
pub found_have : (i : ℕ) (spans : List (ℕ × ℕ)) (numbers : List ℕ) → All (λ k. span_has i (slice_get spans k) ≡ true) (having spans i numbers)
found_have i spans [] = All-nil (λ k. span_has i (slice_get spans k) ≡ true)
found_have i spans (k ∷ numbers) = go (span_has i (slice_get spans k)) refl (found_have i spans numbers)
  where
    go : (b : Bool) → span_has i (slice_get spans k) ≡ b → All (λ k. span_has i (slice_get spans k) ≡ true) (having spans i numbers) →
        All (λ k. span_has i (slice_get spans k) ≡ true) (cond b (k ∷ having spans i numbers) (having spans i numbers))
    go true e h = All-cons (λ k. span_has i (slice_get spans k) ≡ true) k (having spans i numbers) e h
    go false e h = h
