-- A word is a number from 1 on in decimal exactly where its first byte is above that of the digit 0 and `parse` reads it.
use Rattle.std.proofs.Common.{◌≡◌, ◌∙◌, ◌<◌, ◌≤◌, ◌↔◌, ℕ, zero, suc, ◌^◌, List, Bool, true, false, Option, Some, None, Result, Ok, Err, refl, sym, ap, subst, get_or, length, nat_lt, arith}
use Rattle.std.specs.Fmt.{decimal}
use Rattle.std.specs.Str.Parse.{AllDigits, digits_value, ParsesUnsigned}
use Rattle.std.specs.Result.{OkIff}
use Rattle.std.proofs.lemmas.Bool.Decides.{nat_tests}
use Rattle.std.proofs.lemmas.Fmt.{decimal_digit, first_decimal, decimal-digits_value, parse-decimal}
use Rattle.std.proofs.lemmas.Result.{OkIff-at_ok}
use Rattle.std.proofs.lemmas.Str.Parse.{IsNumeralModel, numerals_by_value, tells_digits, parse_plain}
use Rattle.match_top.specs.DemoWords.{IsDemoNumber, most_items}

own : IsNumeralModel (AllDigits 10) (digits_value 10)
own = numerals_by_value (AllDigits 10) tells_digits

some_is_none : {A : Type 0} (x : A) → None ≡ Some x → ⊥
some_is_none x e = cc

ok_is_err : {E : Type 0} (x : ℕ) (d : E) (r : Result ℕ E) → r ≡ Err d → r ≡ Ok x → ⊥
ok_is_err x d r e f = cc

-- what is written of a number from 1 to the most begins above the digit 0
begins : (word : List ℕ) (n : ℕ) → IsDemoNumber word n → 48 < get_or word 0 0
begins word n is = subst (λ (w : List ℕ). 48 < get_or w 0 0) (sym is.0) (first_decimal n is.1 (omega (arith, is.2)))

-- no number's word begins otherwise
pub no_number : (word : List ℕ) → nat_lt 48 (get_or word 0 0) ≡ false → (n : ℕ) → (None ≡ Some n) ↔ IsDemoNumber word n
no_number word low n = (λ e. absurd (some_is_none n e), λ is. absurd (let over : 48 < get_or word 0 0 = begins word n is in grind (arith, nat_tests)))

-- a number's word is read
read : {E : Type 0} (word : List ℕ) (r : Result ℕ E) (n : ℕ) → ParsesUnsigned 32 10 word r → IsDemoNumber word n → r ≡ Ok n
read word r n parsed is = parse-decimal 32 n word r (omega (arith, is.2)) (omega (arith, is.2)) is.0 parsed

-- what is not read is no number's word
pub unread : {E : Type 0} (word : List ℕ) (r : Result ℕ E) (d : E) → ParsesUnsigned 32 10 word r → r ≡ Err d → (n : ℕ) → (None ≡ Some n) ↔ IsDemoNumber word n
unread word r d parsed failed n = (λ e. absurd (some_is_none n e), λ is. absurd (ok_is_err n d r failed (read word r n parsed is)))

-- a word that begins above the digit 0 is what is written of the number that is read
written : {E : Type 0} (word : List ℕ) (r : Result ℕ E) (n : ℕ) → nat_lt 48 (get_or word 0 0) ≡ true → ParsesUnsigned 32 10 word r → r ≡ Ok n → word ≡ decimal n
written word r n high parsed is =
    let over : 48 < get_or word 0 0 = grind (arith, nat_tests) in
    let plain = OkIff-at_ok r _ _ n (parse_plain own 32 word r parsed (λ e. omega arith)) is in
    let back : decimal (digits_value 10 word) ≡ word = decimal-digits_value own word plain.0.0 plain.0.1 (λ e. absurd (omega arith)) (omega (arith, plain.0.2)) in
    sym back ∙ ap decimal (sym plain.1)

zero_is : (word : List ℕ) → 48 < get_or word 0 0 → word ≡ decimal 0 → ⊥
zero_is word over is =
    let first : get_or word 0 0 ≡ 48 = ap (λ (w : List ℕ). get_or w 0 0) (is ∙ decimal_digit 0 (omega arith)) in omega arith

-- such a word of a number that is read is this number's
pub number_read : {E : Type 0} (word : List ℕ) (r : Result ℕ E) (v : ℕ) (answer : Option ℕ) → nat_lt 48 (get_or word 0 0) ≡ true → ParsesUnsigned 32 10 word r → r ≡ Ok v
    → ((m : ℕ) → (answer ≡ Some m) ↔ ((v ≡ m) × (m ≤ most_items))) → (n : ℕ) → (answer ≡ Some n) ↔ IsDemoNumber word n
number_read word r v answer high parsed is within n = (there, back)
  where
    over : 48 < get_or word 0 0
    over = grind (arith, nat_tests)

    above_zero : (m : ℕ) → word ≡ decimal m → 0 < m
    above_zero zero e = absurd (zero_is word over e)
    above_zero (suc m) e = omega arith

    there : answer ≡ Some n → IsDemoNumber word n
    there e =
        let both = (within n).0 e in
        let spelled : word ≡ decimal n = written word r v high parsed is ∙ ap decimal both.0 in (spelled, above_zero n spelled, both.1)

    same : (a b : ℕ) → r ≡ Ok a → r ≡ Ok b → a ≡ b
    same a b e f = cc

    back : IsDemoNumber word n → answer ≡ Some n
    back number = (within n).1 (same v n is (read word r n parsed number), number.2)
