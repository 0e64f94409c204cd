-- Bytes that are texts, and letters that are answers.
use Rattle.std.proofs.Common.{◌≡◌, ◌∙◌, ◌<◌, refl, sym, ap, subst, ℕ, List, [], ◌∷◌, Bool, true, false, Option, Some, None, Bor, map, option_map, if◌then◌else◌, ◌&&◌, arith}
use Rattle.std.proofs.lemmas.Bool.Decides.{nat_tests}
use Rattle.std.proofs.lemmas.List.Elements.{All-nil, All-cons}
use Rattle.std.proofs.lemmas.Str.{IsUtf8-from_is_utf8, is_utf8-from_IsUtf8, IsUtf8-from_ascii}
use Rattle.std.proofs.lemmas.Str.Ascii.{IsAscii-from_all}
use Rattle.std.specs.List.{All, list_all}
use Rattle.std.specs.Str.{is_utf8, IsUtf8}
use Rattle.match_top.specs.Words.{accepts, is_answer}
use Rattle.matchcheck_c.specs.Asking.{answers_of, text_of}

-- bytes that are UTF-8 are a text
pub text_is : (bytes text : List ℕ) → text ≡ bytes → IsUtf8 bytes → Some text ≡ text_of bytes
text_is bytes text same fine =
    subst (λ (b : Bool). Some text ≡ (if b then Some bytes else None)) (sym (is_utf8-from_IsUtf8 bytes fine)) (ap (λ (t : List ℕ). Some t) same)

-- others are none
pub no_text : (bytes : List ℕ) → (IsUtf8 bytes → ⊥) → None ≡ text_of bytes
no_text bytes none = by (is_utf8 bytes) refl
  where
    by : (b : Bool) → is_utf8 bytes ≡ b → None ≡ text_of bytes
    by true e = absurd (none (IsUtf8-from_is_utf8 bytes e))
    by false e = sym (subst (λ (b : Bool). (if b then Some bytes else None) ≡ None) (sym e) refl)

-- an answer is a letter of ASCII
answer_is_ascii : (letter : ℕ) → is_answer letter ≡ true → letter < 128
answer_is_ascii letter is = grind (arith, nat_tests)

both_of : (a b : Bool) → a && b ≡ true → (a ≡ true) × (b ≡ true)
both_of true b e = (refl, e)
both_of false b e = absurd (cc)

answers_are_ascii : (letters : List ℕ) → list_all is_answer letters ≡ true → All (λ b. b < 128) letters
answers_are_ascii [] is = All-nil (λ b. b < 128)
answers_are_ascii (letter ∷ letters) is =
    let both = both_of (is_answer letter) (list_all is_answer letters) is in
    All-cons (λ b. b < 128) letter letters (answer_is_ascii letter both.0) (answers_are_ascii letters both.1)

-- so letters that are answers are a text
answers_are_text : (letters : List ℕ) → list_all is_answer letters ≡ true → text_of letters ≡ Some letters
answers_are_text letters is =
    sym (text_is letters letters refl (IsUtf8-from_ascii letters (IsAscii-from_all letters (answers_are_ascii letters is))))

-- the answers of a text are those of its letters
pub answers_told : (letters : List ℕ) (text : Option (Bor (List ℕ))) → list_all is_answer letters ≡ true
    → option_map (λ t. t.now) text ≡ text_of letters → option_map (λ t. map accepts t.now) text ≡ answers_of letters
answers_told letters text is read =
    subst (λ (b : Bool). option_map (λ t. map accepts t.now) text ≡ (if b then Some (map accepts letters) else None)) (sym is)
    (by text read)
  where
    by : (text : Option (Bor (List ℕ))) → option_map (λ t. t.now) text ≡ text_of letters
        → option_map (λ t. map accepts t.now) text ≡ Some (map accepts letters)
    by (Some t) e = let same : Some t.now ≡ Some letters = e ∙ answers_are_text letters is in cc
    by None e = let same : None ≡ Some letters = e ∙ answers_are_text letters is in absurd (cc)
