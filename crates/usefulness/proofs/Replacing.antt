-- One submatrix stands in place of another, while more is marked.
use Rattle.std.proofs.Common.{◌≡◌, ◌⊎◌, inl, inr, ◌≤◌, ◌<◌, ℕ, Bool, true, List, [], ◌∷◌, ◌++◌, suc, arith}
use Rattle.std.specs.List.{Contains}
use Rattle.match_model.specs.Values.{MValue}
use Rattle.match_model.specs.Contexts.{Context}
use Rattle.pattern_matrix.specs.Counting.{Question}
use Rattle.pattern_matrix.specs.Searching.{Submatrix, weight_of, IsFit, Comes, IsAccounted, IsSearch}
use Rattle.pattern_matrix.proofs.HandingOn.{here, in_cons}
use Rattle.usefulness.proofs.Looking.{in_left, in_right, in_either}

module _ {T : Type 0} (IsType : T → Type 0) (IsValue : T → Bool → MValue → Type 0) (cx : Context T) (first : Submatrix T) (old now : Question → Bool) (todo seen : List (Submatrix T)) (s : Submatrix T)
    (search : IsSearch IsType IsValue cx first old (todo ++ s ∷ []) seen) (grow : (q : Question) → old q ≡ true → now q ≡ true)
    (right : (q : Question) → now q ≡ true → (old q ≡ true) ⊎ Comes IsValue q s) where
  last_in : Contains (todo ++ s ∷ []) s
  last_in = in_right todo (s ∷ []) s (here s [])

  all_right : (q : Question) → now q ≡ true → Comes IsValue q first
  all_right q m = elim (right q m) [ inl o ↦ search.right q o | inr c ↦ search.back s last_in q c ]

  -- the last one is replaced
  pub stands_in : (t : Submatrix T) → IsFit IsType IsValue cx t → weight_of t ≤ weight_of s → ((q : Question) → Comes IsValue q s → (now q ≡ true) ⊎ Comes IsValue q t) →
      ((q : Question) → Comes IsValue q t → Comes IsValue q s) → IsSearch IsType IsValue cx first now (todo ++ t ∷ []) seen
  stands_in t f l on back = record {
    right = all_right;
    fit = λ n i. elim (in_either todo (t ∷ []) n i) [
      | inl j ↦ search.fit n (in_left todo (s ∷ []) n j)
      | inr j ↦ in_cons t n [] (λ z. IsFit IsType IsValue cx z) f (λ z (k, m, e). absurd (omega (arith, m))) j
    ];
    back = λ n i q c. elim (in_either todo (t ∷ []) n i) [
      | inl j ↦ search.back n (in_left todo (s ∷ []) n j) q c
      | inr j ↦ in_cons t n [] (λ z. Comes IsValue q z → Comes IsValue q first) (λ c. search.back s last_in q (back q c)) (λ z (k, m, e). absurd (omega (arith, m))) j c
    ];
    on = λ q c. accounted q (suc (weight_of first)) (search.on q c);
    told = λ n i q c. accounted q (weight_of n) (search.told n i q c);
  }
    where
      accounted : (q : Question) (w : ℕ) → IsAccounted IsValue old (todo ++ s ∷ []) q w → IsAccounted IsValue now (todo ++ t ∷ []) q w
      accounted q w (inl m) = inl (grow q m)
      accounted q w (inr (n, i, m, c)) = elim (in_either todo (s ∷ []) n i) [
        | inl j ↦ inr (n, in_left todo (t ∷ []) n j, m, c)
        | inr j ↦ in_cons s n [] (λ z. (weight_of z < w) → Comes IsValue q z → IsAccounted IsValue now (todo ++ t ∷ []) q w)
            (λ m c. elim (on q c) [
              | inl k ↦ inl k
              | inr d ↦ inr (t, in_right todo (t ∷ []) t (here t []), omega (arith, m, l), d)
            ]) (λ z (k, h, e). absurd (omega (arith, h))) j m c
      ]

module _ {T : Type 0} (IsType : T → Type 0) (IsValue : T → Bool → MValue → Type 0) (cx : Context T) (first : Submatrix T) (now : Question → Bool) (todo seen : List (Submatrix T)) (s : Submatrix T)
    (search : IsSearch IsType IsValue cx first now (todo ++ s ∷ []) seen)
    (same : (q : Question) → Comes IsValue q s → (now q ≡ true) ⊎ ((t : Submatrix T) × Contains seen t × Comes IsValue q t × (weight_of s ≡ weight_of t))) where
  -- what comes to the last one comes to one that was seen, which is accounted for by lighter ones
  seen_for : (q : Question) → Comes IsValue q s → IsAccounted IsValue now todo q (weight_of s)
  seen_for q c = elim (same q c) [
    | inl m ↦ inl m
    | inr (t, one, d, w) ↦ elim (search.told t one q d) [
      | inl m ↦ inl m
      | inr (n, i, m, e) ↦ elim (in_either todo (s ∷ []) n i) [
        | inl j ↦ inr (n, j, omega (arith, m, w), e)
        | inr j ↦ in_cons s n [] (λ z. (weight_of z < weight_of t) → IsAccounted IsValue now todo q (weight_of s)) (λ k. absurd (omega (arith, k, w))) (λ z (k, h, e). absurd (omega (arith, h))) j m
      ]
    ]
  ]

  -- so it is left out
  pub repeats : IsSearch IsType IsValue cx first now todo seen
  repeats = record {
    right = search.right;
    fit = λ n i. search.fit n (in_left todo (s ∷ []) n i);
    back = λ n i q c. search.back n (in_left todo (s ∷ []) n i) q c;
    on = λ q c. accounted q (suc (weight_of first)) (search.on q c);
    told = λ n i q c. accounted q (weight_of n) (search.told n i q c);
  }
    where
      lighter : (q : Question) (v w : ℕ) → v < w → IsAccounted IsValue now todo q v → IsAccounted IsValue now todo q w
      lighter q v w l (inl m) = inl m
      lighter q v w l (inr (n, i, m, c)) = inr (n, i, omega (arith, l, m), c)

      accounted : (q : Question) (w : ℕ) → IsAccounted IsValue now (todo ++ s ∷ []) q w → IsAccounted IsValue now todo q w
      accounted q w (inl m) = inl m
      accounted q w (inr (n, i, m, c)) = elim (in_either todo (s ∷ []) n i) [
        | inl j ↦ inr (n, j, m, c)
        | inr j ↦ in_cons s n [] (λ z. (weight_of z < w) → Comes IsValue q z → IsAccounted IsValue now todo q w)
            (λ m c. lighter q (weight_of s) w m (seen_for q c)) (λ z (k, h, e). absurd (omega (arith, h))) j m c
      ]
