-- Cutting a text before the characters that do not pass.
use Rattle.std.proofs.Common.{◌≡◌, ℕ, ◌-◌, ◌≤◌, ◌<◌, Bool, true, false, cond, List, [], ◌∷◌, ◌++◌, Some, length, take, drop, encode_utf8, refl, sym, ap, ◌∙◌, chars, encode_utf8_all, arith, subst}
use Rattle.std.specs.Str.{IsUtf8, IsCharBoundary}
use Rattle.std.specs.Prelude.{slice_get}
use Rattle.std.specs.List.{take_while}
use Rattle.std.proofs.lemmas.Str.{encode_ascii, chars_past_char, IsCharBoundary-after_ascii, length-le-encodes, chars-append, encodes-append, encodes-chars, IsCharBoundary-at_seam}
use Rattle.std.proofs.lemmas.List.{append_cancel_right, length-append, take_at}
use Rattle.std.proofs.lemmas.List.Sums.{take_while-cons}
use Rattle.decl_lexer.specs.Text.{skip_while, first_passes}

-- a text that begins with a byte of ASCII begins with that character, and may be cut behind it
pub past_ascii : (text rest : List ℕ) (c : ℕ) → IsUtf8 text → slice_get text 0 ≡ Some c → c < 128 → rest ≡ drop 1 text → chars text ≡ c ∷ chars rest
past_ascii [] rest c u h lt e = absurd cc
past_ascii (b ∷ bs) rest c u h lt e =
    let first : b ≡ c = cc in
    let parts : b ∷ bs ≡ encode_utf8 c ++ rest = rw (encode_ascii c lt, e, first) refl in
    chars_past_char (b ∷ bs) rest c u parts

pub cut_ascii : (text : List ℕ) (c : ℕ) → IsUtf8 text → slice_get text 0 ≡ Some c → c < 128 → IsCharBoundary text 1
cut_ascii [] c u h lt = absurd cc
cut_ascii (b ∷ bs) c u h lt =
    let first : b ≡ c = cc in
    IsCharBoundary-after_ascii (b ∷ bs) 0 u (omega arith) (rw first lt)

pub take-skip_while : (p : ℕ → Bool) (cs : List ℕ) → take_while p cs ++ skip_while p cs ≡ cs
take-skip_while p [] = refl
take-skip_while p (c ∷ cs) =
    rw (take_while-cons p c cs) (elim (p c) as (λ b. cond b (c ∷ take_while p cs) [] ++ cond b (skip_while p cs) (c ∷ cs) ≡ c ∷ cs) [
      | true ↦ ap (λ (x : List ℕ). c ∷ x) (take-skip_while p cs)
      | false ↦ refl
    ])

-- the front of the text, and what is left
pub front_is : (p : ℕ → Bool) (text rest : List ℕ) → IsUtf8 text → IsUtf8 rest → chars rest ≡ skip_while p (chars text) → text ≡ encode_utf8_all (take_while p (chars text)) ++ rest
front_is p text rest u v e =
    sym (encodes-chars text u) ∙ ap encode_utf8_all (sym (take-skip_while p (chars text))) ∙ encodes-append (take_while p (chars text)) (skip_while p (chars text))
    ∙ ap (λ (x : List ℕ). encode_utf8_all (take_while p (chars text)) ++ x) (ap encode_utf8_all (sym e) ∙ encodes-chars rest v)

front_len : (front text rest : List ℕ) → text ≡ front ++ rest → length text - length rest ≡ length front
front_len front text rest e = let l = ap length e ∙ length-append front rest in omega arith

pub may_cut : (p : ℕ → Bool) (text rest : List ℕ) → IsUtf8 text → IsUtf8 rest → chars rest ≡ skip_while p (chars text) → IsCharBoundary text (length text - length rest)
may_cut p text rest u v e =
    let whole = front_is p text rest u v e in
    let P : ℕ → Type 0 = λ n. IsCharBoundary text n in
    subst P (sym (front_len _ text rest whole)) (IsCharBoundary-at_seam text _ rest whole v)

pub cut_is : (p : ℕ → Bool) (text rest : List ℕ) → IsUtf8 text → IsUtf8 rest → chars rest ≡ skip_while p (chars text)
    → take (length text - length rest) text ≡ encode_utf8_all (take_while p (chars text))
cut_is p text rest u v e =
    let front = encode_utf8_all (take_while p (chars text)) in
    let whole : text ≡ front ++ rest = front_is p text rest u v e in
    let n : length text - length rest ≡ length front = front_len front text rest whole in
    rw n (ap (λ (x : List ℕ). take (length front) x) whole ∙ take_at front rest (length front) refl)

-- the characters of the front
pub cut_chars : (p : ℕ → Bool) (text rest front : List ℕ) → IsUtf8 text → IsUtf8 rest → IsUtf8 front → chars rest ≡ skip_while p (chars text)
    → front ≡ encode_utf8_all (take_while p (chars text)) → chars front ≡ take_while p (chars text)
cut_chars p text rest front u v w e cut =
    let parts : text ≡ front ++ rest = front_is p text rest u v e ∙ ap (λ (x : List ℕ). x ++ rest) (sym cut) in
    append_cancel_right _ _ (chars rest) (sym (chars-append front rest w) ∙ ap chars (sym parts) ∙ sym (take-skip_while p (chars text)) ∙ ap (λ (x : List ℕ). take_while p (chars text) ++ x) (sym e))

-- what is left is shorter where the first character passes
shorter_from : (p : ℕ → Bool) (cs : List ℕ) (n : ℕ) → length (encode_utf8_all (take_while p cs)) ≤ n → first_passes p cs ≡ true → 0 < n
shorter_from p [] n le h = absurd cc
shorter_from p (c ∷ cs) n le h =
    let front : take_while p (c ∷ cs) ≡ c ∷ take_while p cs = take_while-cons p c cs ∙ rw h refl in
    let many = length-le-encodes (take_while p (c ∷ cs)) in
    omega (arith, many, ap length front)

pub cut_shorter : (p : ℕ → Bool) (text rest : List ℕ) → IsUtf8 text → IsUtf8 rest → chars rest ≡ skip_while p (chars text) → first_passes p (chars text) ≡ true → length rest < length text
cut_shorter p text rest u v e passes =
    let whole = ap length (front_is p text rest u v e) ∙ length-append _ rest in
    let some = shorter_from p (chars text) (length (encode_utf8_all (take_while p (chars text)))) (omega arith) passes in
    omega (arith, whole, some)
