-- What the texts of arms are put together from, and how it lexes.
use Rattle.std.proofs.Common.{◌≡◌, ℕ, ◌<◌, ◌^◌, Bool, true, false, ◌&&◌, cond, List, [], ◌∷◌, ◌++◌, Some, None, Ok}
use Rattle.std.proofs.Common.{encode_utf8_all, refl, sym, ap, subst, ◌∙◌, arith, append_assoc}
use Rattle.std.specs.Prelude.{nat_lt, ◌==◌, decimal, flat_map}
use lib.Utf8.{scalar, scalars, encode}
use Rattle.std.specs.Char.{is_digit}
use Rattle.std.specs.Fmt.{digits}
use Rattle.std.specs.List.{list_all}
use Rattle.std.proofs.lemmas.Bool.{lt-ltb}
use Rattle.unicode_ident.proofs.Computing.{unicode_ident}
use Rattle.decl_lexer.specs.declared.marks.Mark.{Mark}
use Rattle.decl_lexer.specs.declared.marks.Mark.TheVariants as marks
use Rattle.decl_lexer.specs.declared.words.Word.TheVariants as words
use Rattle.decl_lexer.specs.Begins.{Lexeme, Named, Keyword, Marked, Integer, Character, Text, Token, Begins}
use Rattle.decl_lexer.specs.Gaps.{is_space}
use Rattle.decl_lexer.specs.Text.{skip_while, first_passes, begins_with}
use Rattle.decl_lexer.specs.Names.{is_name_start}
use Rattle.decl_lexer.specs.Numbers.{behind_digits, number_from, is_exponent_letter, is_point, decimal_at, number_at}
use Rattle.decl_lexer.specs.Pieces.{piece_at}
use Rattle.decl_lexer.specs.Lexing.{Placed}
use Rattle.decl_syntax.specs.Units.{doubled_mark}
use Rattle.witness_text.specs.Literals.{escaped, char_literal, string_literal}
use Rattle.value_syntax.specs.Canonical.{IsName}
use Rattle.value_syntax.proofs.Lexed.{Lexable, Then, Is, token_step, space_step, Both, IsApart, apart, comma, minus}
use Rattle.value_syntax.proofs.LexedNames.{Stops, start_facts, word_piece, name_chars, name_piece, and_left, and_right}
use Rattle.value_syntax.proofs.LexedNames.{and_false, false_and, unlike}
use Rattle.value_syntax.proofs.LexedNumbers.{bound, ten, written_number, behind_written, filled, digit_facts}
use Rattle.value_syntax.proofs.LexedNumbers.{NumberPiece, number_piece, decimal_digits}
use Rattle.value_syntax.proofs.LexedLiterals.{char_piece, text_piece}

-- ---- words

pub wild_read : (behind : List ℕ) → Stops behind → piece_at 95 behind ≡ Ok (Token (Marked marks.Underscore), behind)
unfolding unicode_ident encode
wild_read behind k = word_piece 95 [] behind refl refl k

pub true_read : (behind : List ℕ) → Stops behind
    → piece_at 116 (114 ∷ 117 ∷ 101 ∷ behind) ≡ Ok (Token (Keyword words.True), behind)
unfolding unicode_ident encode
true_read behind k = word_piece 116 (114 ∷ 117 ∷ 101 ∷ []) behind refl refl k

pub false_read : (behind : List ℕ) → Stops behind
    → piece_at 102 (97 ∷ 108 ∷ 115 ∷ 101 ∷ behind) ≡ Ok (Token (Keyword words.False), behind)
unfolding unicode_ident encode
false_read behind k = word_piece 102 (97 ∷ 108 ∷ 115 ∷ 101 ∷ []) behind refl refl k

pub mut_read : (behind : List ℕ) → Stops behind
    → piece_at 109 (117 ∷ 116 ∷ behind) ≡ Ok (Token (Keyword words.Mut), behind)
unfolding unicode_ident encode
mut_read behind k = word_piece 109 (117 ∷ 116 ∷ []) behind refl refl k

underscore_starts : is_name_start 95 ≡ true
unfolding unicode_ident
underscore_starts = refl

t_starts : is_name_start 116 ≡ true
unfolding unicode_ident
t_starts = refl

f_starts : is_name_start 102 ≡ true
unfolding unicode_ident
f_starts = refl

m_starts : is_name_start 109 ≡ true
unfolding unicode_ident
m_starts = refl

-- a character that begins a name
pub name_apart : (c : ℕ) → is_name_start c ≡ true → IsApart c
name_apart c e = let f = start_facts c e in
    record { no_and = f.no_and; no_equal = f.no_equal; no_space = f.space; no_mark = f.no_mark }

pub underscore_apart : IsApart 95
underscore_apart = name_apart 95 underscore_starts

pub t_apart : IsApart 116
t_apart = name_apart 116 t_starts

pub f_apart : IsApart 102
f_apart = name_apart 102 f_starts

pub m_apart : IsApart 109
m_apart = name_apart 109 m_starts

-- ---- marks

pub mark_step : (mark : Mark) (c : ℕ) (Q : List Placed → Type 0) (cs : List ℕ)
    → piece_at c cs ≡ Ok (Token (Marked mark), cs) → doubled_mark (Marked mark) ≡ None → Lexable cs Q
    → Lexable (c ∷ cs) (Then (Is mark) Q)
mark_step mark c Q cs read single h = token_step (Is mark) Q (Marked mark) c [] cs refl read single h

-- what closes a list or goes on with it
pub data Closes : List ℕ → Type 0 where
  by_comma : (cs : List ℕ) → Closes (44 ∷ cs)
  by_round : (cs : List ℕ) → Closes (41 ∷ cs)
  by_square : (cs : List ℕ) → Closes (93 ∷ cs)

dots_read : (behind : List ℕ) → Closes behind
    → piece_at 46 (46 ∷ behind) ≡ Ok (Token (Marked marks.TwoDots), behind)
unfolding piece_at unicode_ident
dots_read _ (by_comma cs) = refl
dots_read _ (by_round cs) = refl
dots_read _ (by_square cs) = refl

-- `..` in front
pub dots_step : (Q : List Placed → Type 0) (behind : List ℕ) → Closes behind → Lexable behind Q
    → Lexable (46 ∷ 46 ∷ behind) (Then (Is marks.TwoDots) Q)
dots_step Q behind k h =
    token_step (Is marks.TwoDots) Q (Marked marks.TwoDots) 46 (46 ∷ []) behind refl (dots_read behind k) refl h

equal_read : (behind : List ℕ) → piece_at 46 (46 ∷ 61 ∷ behind) ≡ Ok (Token (Marked marks.DotsEqual), behind)
unfolding piece_at unicode_ident
equal_read behind = refl

-- `..=` in front
pub equal_step : (Q : List Placed → Type 0) (behind : List ℕ) → Lexable behind Q
    → Lexable (46 ∷ 46 ∷ 61 ∷ behind) (Then (Is marks.DotsEqual) Q)
equal_step Q behind h =
    token_step (Is marks.DotsEqual) Q (Marked marks.DotsEqual) 46 (46 ∷ 61 ∷ []) behind refl (equal_read behind) refl h

-- ---- characters that lex and begin with no space

pub record Spaced (cs : List ℕ) (Q : List Placed → Type 0) : Type 0 where
  pub lexed : Lexable cs Q
  pub no_space : skip_while is_space cs ≡ cs

-- a comma and a space in front
pub comma_step : (R : List Placed → Type 0) (cs : List ℕ) → Spaced cs R
    → Lexable (44 ∷ 32 ∷ cs) (Then (Is marks.Comma) R)
comma_step R cs s = mark_step marks.Comma 44 R (32 ∷ cs) (comma (32 ∷ cs)) refl (space_step R cs s.no_space s.lexed)

-- ---- names

-- the token of a name
abbrev pub IsNamed : List ℕ → Lexeme → Type 0
IsNamed name l = (raw : Bool) × (l ≡ Named name raw)

pub name_step : (name behind : List ℕ) (Q : List Placed → Type 0) → IsName name → Stops behind → Lexable behind Q
    → Both (name_chars name ++ behind) (Then (IsNamed name) Q)
name_step name behind Q n k h =
    let p = name_piece name behind n k in
    let same : name_chars name ++ behind ≡ p.first ∷ (p.front ++ behind) = ap (λ cs. cs ++ behind) p.whole in
    let lexed = token_step (IsNamed name) Q (Named name p.raw) p.first p.front behind (p.raw, refl) p.read refl h in
    subst (λ cs. Both cs (Then (IsNamed name) Q)) (sym same)
    (apart (Then (IsNamed name) Q) p.first (p.front ++ behind) (name_apart p.first p.starts) lexed)

-- ---- characters and texts

pub char_step : (c : ℕ) (behind : List ℕ) (Q : List Placed → Type 0) → scalar c ≡ true → Lexable behind Q
    → Both (char_literal c ++ behind) (Then (λ l. l ≡ Character c) Q)
char_step c behind Q e h =
    let front = escaped 39 c ++ 39 ∷ [] in
    let same : front ++ behind ≡ escaped 39 c ++ 39 ∷ behind = append_assoc (escaped 39 c) (39 ∷ []) behind in
    let read : piece_at 39 (front ++ behind) ≡ Ok (Token (Character c), behind) = ap (piece_at 39) same
    ∙ char_piece c behind e in
    apart _ 39 (front ++ behind) (record { no_and = refl; no_equal = refl; no_space = refl; no_mark = refl })
    (token_step (λ l. l ≡ Character c) Q (Character c) 39 front behind refl read refl h)

pub text_step : (cs behind : List ℕ) (Q : List Placed → Type 0) → scalars cs ≡ true → Lexable behind Q
    → Both (string_literal cs ++ behind) (Then (λ l. l ≡ Text (encode_utf8_all cs)) Q)
text_step cs behind Q u h =
    let front = flat_map (escaped 34) cs ++ 34 ∷ [] in
    let same : front ++ behind ≡ flat_map (escaped 34) cs ++ 34 ∷ behind =
    append_assoc (flat_map (escaped 34) cs) (34 ∷ []) behind in
    let read : piece_at 34 (front ++ behind) ≡ Ok (Token (Text (encode_utf8_all cs)), behind) = ap (piece_at 34) same
    ∙ text_piece cs behind u in
    apart _ 34 (front ++ behind) (record { no_and = refl; no_equal = refl; no_space = refl; no_mark = refl })
    (token_step (λ l. l ≡ Text (encode_utf8_all cs)) Q (Text (encode_utf8_all cs)) 34 front behind refl read refl h)

-- ---- numbers

-- what may follow a number
pub data After : List ℕ → Type 0 where
  at_stop : (behind : List ℕ) → Stops behind → After behind
  at_dots : (cs : List ℕ) → After (46 ∷ 46 ∷ cs)

-- `..` is no part of a number
record DotsFacts (cs : List ℕ) : Type 0 where
  digits : behind_digits 10 (46 ∷ 46 ∷ cs) ≡ 46 ∷ 46 ∷ cs
  number : (n : ℕ) → number_from 10 10 n (46 ∷ 46 ∷ cs) ≡ n
  point : is_point (46 ∷ 46 ∷ cs) ≡ false
  exponent : first_passes is_exponent_letter (46 ∷ 46 ∷ cs) ≡ false
  suffix : first_passes is_name_start (46 ∷ 46 ∷ cs) ≡ false

dots_facts : (cs : List ℕ) → DotsFacts cs
unfolding unicode_ident
dots_facts cs = record { digits = refl; number = λ n. refl; point = refl; exponent = refl; suffix = refl }

-- no letter follows a digit
not_letter : (d : ℕ) (front behind : List ℕ) → is_digit d 10 ≡ false → list_all (λ c. is_digit c 10) front ≡ true
    → begins_with (d ∷ []) behind ≡ false → begins_with (d ∷ []) (front ++ behind) ≡ false
not_letter d [] behind e h k = k
not_letter d (c ∷ front) behind e h k = unlike (λ x. is_digit x 10) c d
    (and_left (is_digit c 10) (list_all (λ x. is_digit x 10) front) h) e

written : (n : ℕ) (tail : List ℕ) → n < 2 ^ 128 → number_from 10 10 0 (decimal n ++ tail) ≡ number_from 10 10 n tail
unfolding digits
written n tail lt = let top : bound 10 64 ≡ 10 ^ 64 = refl in written_number 10 ten 64 n [] tail (omega (arith, top))

left_behind : (n : ℕ) (tail : List ℕ) → behind_digits 10 (decimal n ++ tail) ≡ behind_digits 10 tail
unfolding digits
left_behind n tail = behind_written 10 ten 64 n [] tail

chosen : (b : Bool) (x y r : Begins) → b ≡ true → x ≡ r → cond b x y ≡ r
chosen true x y r e f = f
chosen false x y r e f = absurd cc

passed_by : (b : Bool) (x y r : Begins) → b ≡ false → y ≡ r → cond b x y ≡ r
passed_by true x y r e f = absurd cc
passed_by false x y r e f = f

-- a digit begins a number
digit_case : (c : ℕ) (cs : List ℕ) (result : Begins) → is_space c ≡ false → (c == 47) ≡ false → is_digit c 10 ≡ true
    → number_at c cs ≡ result → piece_at c cs ≡ result
unfolding piece_at
digit_case c cs result e f g h =
    passed_by (is_space c) _ _ _ e
    (passed_by (c == 47 && begins_with (47 ∷ []) cs) _ _ _ (false_and (c == 47) _ f)
    (passed_by (c == 47 && begins_with (42 ∷ []) cs) _ _ _ (false_and (c == 47) _ f)
    (chosen (is_digit c 10) (number_at c cs) _ result g h)))

-- a number lexes as itself in front of `..`
dotted_piece : (n : ℕ) (cs : List ℕ) → n < 2 ^ 128 → NumberPiece n (46 ∷ 46 ∷ cs)
dotted_piece n cs lt =
    let behind = 46 ∷ 46 ∷ cs in
    let f = filled 10 n in
    let h : list_all (λ c. is_digit c 10) (f.first ∷ f.front) ≡ true =
    ap (list_all (λ c. is_digit c 10)) (sym f.whole) ∙ decimal_digits n in
    let digit = and_left (is_digit f.first 10) (list_all (λ c. is_digit c 10) f.front) h in
    let others = and_right (is_digit f.first 10) (list_all (λ c. is_digit c 10) f.front) h in
    let d = digit_facts f.first digit in
    let s = dots_facts cs in
    let same : decimal n ++ behind ≡ f.first ∷ (f.front ++ behind) = ap (λ xs. xs ++ behind) f.whole in
    let number : number_from 10 10 0 (f.first ∷ (f.front ++ behind)) ≡ n = ap (number_from 10 10 0) (sym same)
    ∙ written n behind lt ∙ s.number n in
    let left : behind_digits 10 (f.first ∷ (f.front ++ behind)) ≡ behind = ap (behind_digits 10) (sym same)
    ∙ left_behind n behind ∙ s.digits in
    let hex : (f.first == 48 && begins_with (120 ∷ []) (f.front ++ behind)) ≡ false =
    and_false (f.first == 48) _ (not_letter 120 f.front behind refl others refl) in
    let octal : (f.first == 48 && begins_with (111 ∷ []) (f.front ++ behind)) ≡ false =
    and_false (f.first == 48) _ (not_letter 111 f.front behind refl others refl) in
    let binary : (f.first == 48 && begins_with (98 ∷ []) (f.front ++ behind)) ≡ false =
    and_false (f.first == 48) _ (not_letter 98 f.front behind refl others refl) in
    let fits : nat_lt n (2 ^ 128) ≡ true = lt-ltb n (2 ^ 128) lt in
    let read : decimal_at (f.first ∷ (f.front ++ behind)) ≡ Ok (Token (Integer (Some n) [] true), behind) =
    rw (left, number, s.point, s.exponent, s.suffix, fits) refl in
    record {
      first = f.first;
      front = f.front;
      whole = f.whole;
      digit = digit;
      read = digit_case f.first (f.front ++ behind) _ d.space d.slash digit (rw (hex, octal, binary) read);
    }

pub after_piece : (n : ℕ) (behind : List ℕ) → n < 2 ^ 128 → After behind → NumberPiece n behind
after_piece n _ lt (at_stop behind k) = number_piece n behind lt k
after_piece n _ lt (at_dots cs) = dotted_piece n cs lt

-- the token of a number
abbrev pub IsNumber : ℕ → Lexeme → Type 0
IsNumber n l = l ≡ Integer (Some n) [] true

pub number_step : (n : ℕ) (behind : List ℕ) (Q : List Placed → Type 0) → n < 2 ^ 128 → After behind
    → Lexable behind Q → Both (decimal n ++ behind) (Then (IsNumber n) Q)
number_step n behind Q lt k h =
    let p = after_piece n behind lt k in
    let f = digit_facts p.first p.digit in
    let same : decimal n ++ behind ≡ p.first ∷ (p.front ++ behind) = ap (λ cs. cs ++ behind) p.whole in
    subst (λ cs. Both cs (Then (IsNumber n) Q)) (sym same)
    (apart _ p.first (p.front ++ behind) (record {
      no_and = f.no_and;
      no_equal = f.no_equal;
      no_space = f.space;
      no_mark = f.no_mark;
    }) (token_step (IsNumber n) Q (Integer (Some n) [] true) p.first p.front behind refl p.read refl h))

pub negative_step : (n : ℕ) (behind : List ℕ) (Q : List Placed → Type 0) → n < 2 ^ 128 → After behind
    → Lexable behind Q → Both (45 ∷ (decimal n ++ behind)) (Then (Is marks.Minus) (Then (IsNumber n) Q))
negative_step n behind Q lt k h =
    let p = after_piece n behind lt k in
    let f = digit_facts p.first p.digit in
    let same : decimal n ++ behind ≡ p.first ∷ (p.front ++ behind) = ap (λ cs. cs ++ behind) p.whole in
    let lexed = token_step (IsNumber n) Q (Integer (Some n) [] true) p.first p.front behind refl p.read refl h in
    let marked = mark_step marks.Minus 45 _ (p.first ∷ (p.front ++ behind))
    (minus p.first (p.front ++ behind) f.no_greater f.no_equal) refl lexed in
    subst (λ cs. Both (45 ∷ cs) (Then (Is marks.Minus) (Then (IsNumber n) Q))) (sym same)
    (apart _ 45 (p.first ∷ (p.front ++ behind))
    (record { no_and = refl; no_equal = refl; no_space = refl; no_mark = refl }) marked)
