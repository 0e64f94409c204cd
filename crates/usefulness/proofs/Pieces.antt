-- The leaves that have a piece, by what the spans tell.
use Rattle.std.proofs.Common.{◌≡◌, ◌<◌, ℕ, zero, suc, true, List, [], ◌∷◌, map, filter, length, get_or, slice_get, refl, ap, sym, subst, ◌∙◌, arith}
use Rattle.std.specs.List.{All}
use Rattle.match_model.specs.Constructors.{MCtor}
use Rattle.pattern_matrix.specs.Halving.{AreLeafSpans, span_has, leaves_with}
use Rattle.pattern_matrix.specs.ListedSteps.{NumbersHaveThePiece}
use Rattle.pattern_matrix.specs.Sparse.{SparseLeaf, leaves_listed, leaf_parts, head_has}
use Rattle.pattern_matrix.proofs.Having.{listed-with}
use Rattle.pattern_matrix.proofs.Listed.{numbers_have}

-- what is read of a list that another one is made of
pub read_at : {X Y : Type 0} (f : X → Y) (xs : List X) (i : ℕ) (x : X) → i < length xs → x ≡ get_or xs i x → f x ≡ get_or (map f xs) i (f x)
read_at f [] i x l e = absurd (omega (arith, l))
read_at f (y ∷ xs) zero x l e = ap f e
read_at f (y ∷ xs) (suc i) x l e = read_at f xs i x (omega (arith, l)) e

-- there is a span for each leaf
pub spans_long : {T : Type 0} (pieces : List MCtor) (leaves : List (SparseLeaf T)) (spans : List (ℕ × ℕ)) → AreLeafSpans pieces leaves spans → length spans ≡ length leaves
spans_long pieces [] [] are = refl
spans_long pieces [] (s ∷ spans) are = absurd are
spans_long pieces (l ∷ leaves) [] are = absurd are
spans_long pieces (l ∷ leaves) (s ∷ spans) are = ap suc (spans_long pieces leaves spans are.1)

module _ {T : Type 0} (pieces : List MCtor) (i : ℕ) (ctor : MCtor) (h : i < length pieces) (leaves : List (SparseLeaf T)) (spans : List (ℕ × ℕ)) (are : AreLeafSpans pieces leaves spans) where
  abbrev law : NumbersHaveThePiece T
  law = numbers_have

  -- numbers whose spans have the piece are numbers of leaves
  pub piece_numbers : (ks : List ℕ) → All (λ k. span_has i (slice_get spans k) ≡ true) ks → (n : ℕ) → length leaves ≡ n → All (λ k. k < n) ks
  piece_numbers ks has n l = subst (λ m. All (λ k. k < m) ks) l (law.below pieces i ctor h leaves spans are ks has)

  -- and these leaves have it
  pub piece_have : (ks : List ℕ) → All (λ k. span_has i (slice_get spans k) ≡ true) ks → ctor ≡ get_or pieces i ctor →
      (count : ℕ) → All (λ l. head_has ctor l.head ≡ true → length (leaf_parts count l.head) ≡ count) leaves → All (λ l. head_has ctor l.head ≡ true) (leaves_listed leaves ks)
  piece_have ks has g count long =
      let all = law.leaf_of pieces i ctor h leaves spans are count (subst (λ p. All (λ l. head_has p l.head ≡ true → length (leaf_parts count l.head) ≡ count) leaves) g long) ks has in
      subst (λ p. All (λ l. head_has p l.head ≡ true) (leaves_listed leaves ks)) (sym g) (λ j d k. (all j d k).has)

  -- all that have it
  pub piece_leaves : ctor ≡ get_or pieces i ctor → leaves_listed leaves (leaves_with spans i) ≡ filter (λ l. head_has ctor l.head) leaves
  piece_leaves g = listed-with pieces i ctor leaves spans h are ∙ ap (λ p. filter (λ l. head_has p l.head) leaves) (sym g)
