-- Bytes are UTF-8, or there is a first byte that is not.
use Rattle.std.proofs.Common.{◌≡◌, ℕ, zero, suc, ◌<◌, ◌≤◌, Bool, true, false, List, [], ◌∷◌, length, take, refl, sym, subst, ◌⊎◌, inl, inr, arith}
use Rattle.std.proofs.lemmas.List.{take_all}
use Rattle.std.proofs.lemmas.Str.{IsUtf8-nil, IsUtf8-from_is_utf8, is_utf8-from_IsUtf8, utf8_valid_len-IsValidUpTo}
use Rattle.std.proofs.Math.Nat.{eq-or-lt_of_le}
use Rattle.std.specs.Str.{IsUtf8, IsValidUpTo, is_utf8}
use Rattle.std.proofs.Common.{◌∙◌}

pub not_valid : (bytes : List ℕ) (n : ℕ) → IsUtf8 bytes → IsValidUpTo bytes n → ⊥
not_valid bytes n u v = let P : List ℕ → Type 0 = λ bs. IsUtf8 bs in v.longest (length bytes) v.short (subst P (sym (take_all (length bytes) bytes (omega arith))) u)

pub same_valid : (bytes : List ℕ) (m n : ℕ) → IsValidUpTo bytes m → IsValidUpTo bytes n → m ≡ n
same_valid bytes m n v w = sym (utf8_valid_len-IsValidUpTo bytes m v) ∙ utf8_valid_len-IsValidUpTo bytes n w

is_or_not : (bytes : List ℕ) → IsUtf8 bytes ⊎ (IsUtf8 bytes → ⊥)
is_or_not bytes = by (is_utf8 bytes) refl
  where
    by : (b : Bool) → is_utf8 bytes ≡ b → IsUtf8 bytes ⊎ (IsUtf8 bytes → ⊥)
    by true e = inl (IsUtf8-from_is_utf8 bytes e)
    by false e = inr (λ u. let f = sym e ∙ is_utf8-from_IsUtf8 bytes u in absurd cc)

-- no longer front than n is UTF-8
abbrev NoLonger : List ℕ → ℕ → Type 0
NoLonger bytes n = (m : ℕ) → n < m → IsUtf8 (take m bytes) → ⊥

longest : (bytes : List ℕ) (n : ℕ) → n < length bytes → NoLonger bytes n → (at : ℕ) × IsValidUpTo bytes at
longest bytes zero lt none = (0, record { short = lt; front = IsUtf8-nil; longest = none })
longest bytes (suc n) lt none =
    elim (is_or_not (take (suc n) bytes)) [
      | inl u ↦ (suc n, record { short = lt; front = u; longest = none })
      | inr isnt ↦ longest bytes n (omega (arith, lt)) (λ m less u. by_less m u (eq-or-lt_of_le (omega (arith, less))) isnt)
    ]
  where
    by_less : (m : ℕ) → IsUtf8 (take m bytes) → (suc n ≡ m) ⊎ (suc n < m) → (IsUtf8 (take (suc n) bytes) → ⊥) → ⊥
    by_less m u (inr more) not = none m more u
    by_less m u (inl same) not = let P : ℕ → Type 0 = λ k. IsUtf8 (take k bytes) in not (subst P (sym same) u)

at_end : (bytes : List ℕ) (m : ℕ) → length bytes ≤ m → (IsUtf8 bytes → ⊥) → IsUtf8 (take m bytes) → ⊥
at_end bytes m le not u = let P : List ℕ → Type 0 = λ bs. IsUtf8 bs in not (subst P (take_all m bytes le) u)

pub valid_or_not : (bytes : List ℕ) → IsUtf8 bytes ⊎ ((at : ℕ) × IsValidUpTo bytes at)
valid_or_not [] = inl IsUtf8-nil
valid_or_not (b ∷ bs) =
    elim (is_or_not (b ∷ bs)) [
      | inl u ↦ inl u
      | inr isnt ↦ inr (longest (b ∷ bs) (length bs) (omega arith) (λ m less u. at_end (b ∷ bs) m (omega (arith, less)) isnt u))
    ]
