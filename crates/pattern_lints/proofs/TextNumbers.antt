-- The number of a text, digit by digit.
use Rattle.std.proofs.Common.{◌≡◌, ◌∙◌, ◌+◌, ◌*◌, ◌%◌, ℕ, List, [], ◌∷◌, ◌++◌, map, refl, sym, ap, arith}
use Rattle.pattern_lints.specs.Beside.{with_digits}

digit_behind : (n : ℕ) (cs : List ℕ) (c : ℕ) → with_digits n (cs ++ c ∷ []) ≡ with_digits n cs * 1099511628211 + c
digit_behind n [] c = refl
digit_behind n (d ∷ cs) c = digit_behind (n * 1099511628211 + d) cs c

same_rest : (n m c : ℕ) → n ≡ m % 18446744073709551616 → (n * 1099511628211 + c) % 18446744073709551616 ≡ (m * 1099511628211 + c) % 18446744073709551616
same_rest n m c e = omega (arith, e)

-- one digit more
pub next_digit : (n : ℕ) (cs : List ℕ) (c : ℕ) → n ≡ with_digits 0 cs % 18446744073709551616 →
    (n * 1099511628211 + c) % 18446744073709551616 ≡ with_digits 0 (cs ++ c ∷ []) % 18446744073709551616
next_digit n cs c e = same_rest n (with_digits 0 cs) c e ∙ ap (λ m. m % 18446744073709551616) (sym (digit_behind 0 cs c))

-- the items of a list, each as it is
pub same_items : (xs : List ℕ) → map (λ x. x) xs ≡ xs
same_items [] = refl
same_items (x ∷ xs) = ap (λ z. x ∷ z) (same_items xs)
