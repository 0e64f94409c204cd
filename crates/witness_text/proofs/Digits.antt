-- The digits of numbers need no escape in JSON.
use Rattle.std.proofs.Common.{◌≡◌, ◌∙◌, ap, refl, ℕ, zero, suc, ◌<◌, ◌/◌, ◌%◌, Bool, true, false, List, [], ◌∷◌, ◌++◌, arith}
use Rattle.std.specs.Prelude.{ℤ, pos, negsuc, decimal, ◌==◌, if◌then◌else◌}
use Rattle.std.specs.Fmt.{digits, digits_onto, digit_glyph, signed_decimal}
use Rattle.std.proofs.lemmas.Bool.Decides.{nat_tests}
use Rattle.json.specs.Print.{escape, escape_byte, quoted}

either : (b : Bool) (x y : List ℕ) → escape x ≡ x → escape y ≡ y → escape (if b then x else y) ≡ (if b then x else y)
either true x y p q = p
either false x y p q = q

plain_glyph : (d : ℕ) → d < 10 → escape_byte (digit_glyph false d) ≡ digit_glyph false d ∷ []
unfolding escape_byte
plain_glyph d l = grind (arith, nat_tests)

plain_onto : (k n : ℕ) (rest : List ℕ) → escape rest ≡ rest → escape (digits_onto k 10 false n rest) ≡ digits_onto k 10 false n rest
plain_onto zero n rest e = e
plain_onto (suc k) n rest e =
    let d = n % 10 in
    let g : escape (digit_glyph false d ∷ rest) ≡ digit_glyph false d ∷ rest =
    ap (λ z. z ++ escape rest) (plain_glyph d (omega arith)) ∙ ap (λ z. digit_glyph false d ∷ z) e in
    either (n / 10 == 0) _ _ g (plain_onto k (n / 10) _ g)

pub plain_decimal : (n : ℕ) → escape (decimal n) ≡ decimal n
unfolding digits
plain_decimal n = plain_onto 64 n [] refl

plain_dash : escape_byte 45 ≡ 45 ∷ []
unfolding escape_byte
plain_dash = refl

plain_signed : (z : ℤ) → escape (signed_decimal z) ≡ signed_decimal z
plain_signed (pos n) = plain_decimal n
plain_signed (negsuc n) = ap (λ z. z ++ escape (decimal (suc n))) plain_dash ∙ ap (λ z. 45 ∷ z) (plain_decimal (suc n))

pub decimal_quoted : (n : ℕ) → quoted (decimal n) ≡ 34 ∷ (decimal n ++ 34 ∷ [])
decimal_quoted n = ap (λ s. 34 ∷ (s ++ 34 ∷ [])) (plain_decimal n)

pub signed_quoted : (z : ℤ) → quoted (signed_decimal z) ≡ 34 ∷ (signed_decimal z ++ 34 ∷ [])
signed_quoted z = ap (λ s. 34 ∷ (s ++ 34 ∷ [])) (plain_signed z)
