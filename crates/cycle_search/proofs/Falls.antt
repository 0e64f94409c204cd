-- Numbers that never rise along an edge.
use Rattle.std.proofs.Common.{◌≡◌, ℕ, ◌<◌, ◌≤◌, List, get_or, replicate, zero, suc, refl, ap, ◌∙◌, arith}
use Rattle.cycle_search.specs.Graphs.{IsEdge, Reaches, by_edge, by_way}
use Rattle.cycle_search.specs.Numbers.{NeverRises}

-- along a way the number does not rise
never_up : (graph : List (List ℕ)) (numbers : List ℕ) → NeverRises graph numbers → (i j : ℕ) → Reaches graph i j → get_or numbers j 0 ≤ get_or numbers i 0
never_up graph numbers falling i j (by_edge e) = falling i j e
never_up graph numbers falling i j (by_way {over = k} e r) =
    let here = falling i k e in let on = never_up graph numbers falling k j r in omega arith

-- a node whose edges all go to lesser numbers does not reach itself
pub not_back : (graph : List (List ℕ)) (numbers : List ℕ) → NeverRises graph numbers →
    (i : ℕ) → ((j : ℕ) → IsEdge graph i j → get_or numbers j 0 < get_or numbers i 0) → Reaches graph i i → ⊥
not_back graph numbers falling i above r = away graph numbers falling i i above r refl
  where
    away : (graph : List (List ℕ)) (numbers : List ℕ) → NeverRises graph numbers →
        (i k : ℕ) → ((j : ℕ) → IsEdge graph i j → get_or numbers j 0 < get_or numbers i 0) → Reaches graph i k → k ≡ i → ⊥
    away graph numbers falling i k above (by_edge e) same =
        let l = above k e in let n : get_or numbers k 0 ≡ get_or numbers i 0 = ap (λ x. get_or numbers x 0) same in omega arith
    away graph numbers falling i k above (by_way {over = o} e r) same =
        let l = above o e in let up = never_up graph numbers falling o k r in
        let n : get_or numbers k 0 ≡ get_or numbers i 0 = ap (λ x. get_or numbers x 0) same in omega arith

zero_everywhere : (n k : ℕ) → get_or (replicate {A = ℕ} n 0) k 0 ≡ 0
zero_everywhere zero k = refl
zero_everywhere (suc n) zero = refl
zero_everywhere (suc n) (suc k) = zero_everywhere n k

-- where all numbers are 0 none rises
pub zeros_never_rise : (graph : List (List ℕ)) (numbers : List ℕ) (n : ℕ) → numbers ≡ replicate n 0 → NeverRises graph numbers
zeros_never_rise graph numbers n is i j e =
    let a : get_or numbers j 0 ≡ 0 = ap (λ (xs : List ℕ). get_or xs j 0) is ∙ zero_everywhere n j in
    let b : get_or numbers i 0 ≡ 0 = ap (λ (xs : List ℕ). get_or xs i 0) is ∙ zero_everywhere n i in omega arith
