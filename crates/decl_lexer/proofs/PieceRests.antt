-- Each kind of piece: what stands behind it is what its text ends with.
use Rattle.std.proofs.Common.{◌≡◌, ℕ, ◌+◌, ◌-◌, Bool, true, false, cond, ◌&&◌, ◌==◌, eqb, List, [], ◌∷◌, drop, take, Option, Some, None, encode_utf8_all}
use Rattle.std.proofs.lemmas.Bool.{or_right}
use Rattle.std.specs.Option.{option_map_or}
use Rattle.unicode_ident.specs.Ident.{is_xid_continue}
use Rattle.unicode_normalization.specs.Forms.{nfc}
use Rattle.decl_lexer.specs.declared.marks.Mark.{Mark}
use Rattle.decl_lexer.specs.Begins.{Integer, Named, Marked, gap, token, breaks}
use Rattle.decl_lexer.specs.Text.{skip_while, first_passes}
use Rattle.decl_lexer.specs.Gaps.{is_space, is_within_line, comment_end}
use Rattle.decl_lexer.specs.Tables.{with_text}
use Rattle.decl_lexer.specs.Marks.{marks_of_three, marks_of_two, marks_of_one, mark_of_len, longest_mark, or_else, mark_at}
use Rattle.decl_lexer.specs.Words.{can_be_raw}
use Rattle.decl_lexer.specs.Names.{is_name_start, name_at, name_of, behind_name, raw_name_at}
use Rattle.std.specs.Char.{is_digit}
use Rattle.decl_lexer.specs.Numbers.{is_digit_or_underscore, behind_digits, number_from, in_128_bits, suffix_of, behind_suffix, is_exponent_letter, is_sign, behind_sign, behind_exponent, integer_at, based_cases, based_at, float_at, fraction_cases, fraction_at, decimal_cases, decimal_at, number_cases, number_at}
use Rattle.decl_lexer.specs.Pieces.{letter_cases, letter_at, piece_cases, piece_at}
use Rattle.decl_lexer.proofs.NameLemmas.{start_continues}
use Rattle.decl_lexer.specs.declared.escapes.Quoted.TheVariants.{Text, Bytes, CText}
use Rattle.decl_lexer.proofs.QuoteRests.{quote_rests, byte_rests, text_rests, raw_text_rests}
use Rattle.decl_lexer.proofs.Rests.{bad_token, open_comment, EndsIn, itself, past, through, dropped, skipped, Rests, cases_rest}

abbrev SomeEnd : List ℕ → Option (List ℕ) → Type 0
SomeEnd cs None = Unit {0}
SomeEnd cs (Some rest) = EndsIn cs rest

end_either : (cs : List ℕ) (b : Bool) (x y : Option (List ℕ)) → SomeEnd cs x → SomeEnd cs y → SomeEnd cs (cond b x y)
end_either cs true x y h k = h
end_either cs false x y h k = k

end_past : (c : ℕ) (cs : List ℕ) (o : Option (List ℕ)) → SomeEnd cs o → SomeEnd (c ∷ cs) o
end_past c cs None h = tt
end_past c cs (Some rest) h = past c cs rest h

abbrev after_star : ℕ → List ℕ → Option (List ℕ)
after_star depth cs = cond (eqb depth 0) (Some cs) (comment_end (depth - 1) cs)

abbrev after_slash : ℕ → ℕ → ℕ → List ℕ → Option (List ℕ)
after_slash depth c d cs = cond (eqb c 42 && eqb d 47) (after_star depth cs) (comment_end depth (d ∷ cs))

comment_ends : (depth : ℕ) (cs : List ℕ) → SomeEnd cs (comment_end depth cs)
unfolding comment_end
comment_ends depth [] = tt
comment_ends depth (c ∷ []) = tt
comment_ends depth (c ∷ d ∷ cs) =
    end_past c (d ∷ cs) _ (end_either (d ∷ cs) (eqb c 47 && eqb d 42) (comment_end (depth + 1) cs) (after_slash depth c d cs)
    (end_past d cs _ (comment_ends (depth + 1) cs))
    (end_either (d ∷ cs) (eqb c 42 && eqb d 47) (after_star depth cs) (comment_end depth (d ∷ cs))
    (end_past d cs _ (end_either cs (eqb depth 0) (Some cs) (comment_end (depth - 1) cs) (itself cs) (comment_ends (depth - 1) cs)))
    (comment_ends depth (d ∷ cs))))

comment_rests : (text inside behind : List ℕ) (o : Option (List ℕ)) → EndsIn inside behind → SomeEnd behind o → Rests text inside (option_map_or gap o (breaks 3 text))
comment_rests text inside behind None h k = (itself text, open_comment)
comment_rests text inside behind (Some rest) h k = through inside behind rest h k

abbrev MarkEnds : List ℕ → Option (Mark × List ℕ) → Type 0
MarkEnds cs None = Unit {0}
MarkEnds cs (Some x) = EndsIn cs x.1

of_len : (cs rest : List ℕ) (o : Option Mark) → EndsIn cs rest → MarkEnds cs (option_map_or (λ mark. Some (mark, rest)) o None)
of_len cs rest None h = tt
of_len cs rest (Some m) h = h

first_of : (cs : List ℕ) (x y : Option (Mark × List ℕ)) → MarkEnds cs x → MarkEnds cs y → MarkEnds cs (or_else x y)
first_of cs None y h k = k
first_of cs (Some x) y h k = h

mark_rests : (text inside : List ℕ) (o : Option (Mark × List ℕ)) → MarkEnds inside o → Rests text inside (option_map_or (λ found. token (Marked found.0) found.1) o (breaks 2 text))
mark_rests text inside None h = (itself text, bad_token)
mark_rests text inside (Some x) h = h

marks_rest : (c : ℕ) (cs : List ℕ) → Rests (c ∷ cs) cs (mark_at (c ∷ cs))
marks_rest c cs =
    mark_rests (c ∷ cs) cs (longest_mark (c ∷ cs))
    (first_of cs (mark_of_len 3 marks_of_three (c ∷ cs)) _ (of_len cs (drop 3 (c ∷ cs)) (with_text marks_of_three (take 3 (c ∷ cs))) (dropped 2 cs))
    (first_of cs (mark_of_len 2 marks_of_two (c ∷ cs)) (mark_of_len 1 marks_of_one (c ∷ cs)) (of_len cs (drop 2 (c ∷ cs)) (with_text marks_of_two (take 2 (c ∷ cs))) (dropped 1 cs))
    (of_len cs (drop 1 (c ∷ cs)) (with_text marks_of_one (take 1 (c ∷ cs))) (dropped 0 cs))))

raw_rests : (text inside behind : List ℕ) → EndsIn inside behind → Rests text inside (raw_name_at text behind)
raw_rests text inside behind h = by_case (can_be_raw (encode_utf8_all (name_of behind)))
  where
    by_case : (b : Bool) → Rests text inside (cond b (token (Named (encode_utf8_all (nfc (name_of behind))) true) (behind_name behind)) (breaks 2 text))
    by_case true = through inside behind _ h (skipped is_xid_continue behind)
    by_case false = (itself text, bad_token)

name_rests : (c : ℕ) (cs : List ℕ) → is_name_start c ≡ true → EndsIn cs (behind_name (c ∷ cs))
name_rests c cs h = by_case (is_xid_continue c) (start_continues c h)
  where
    by_case : (b : Bool) → b ≡ true → EndsIn cs (cond b (skip_while is_xid_continue cs) (c ∷ cs))
    by_case true e = skipped is_xid_continue cs
    by_case false e = absurd cc

letter_rests : (c : ℕ) (cs : List ℕ) → is_name_start c ≡ true → Rests (c ∷ cs) cs (letter_at c cs)
letter_rests c cs h =
    let text = c ∷ cs in
    let one = past c cs cs (itself cs) in
    let two = past c cs (drop 1 cs) (dropped 1 cs) in
    cases_rest text cs (letter_cases c cs) (name_at text) (
      (λ _. byte_rests text cs (drop 1 cs) two (dropped 1 cs)),
      (
        (λ _. text_rests Bytes text cs (drop 1 cs) two (dropped 1 cs)),
        (
          (λ _. text_rests CText text cs (drop 1 cs) two (dropped 1 cs)),
          (
            (λ _. raw_text_rests Text text cs cs one (itself cs)),
            (
              (λ _. raw_text_rests Bytes text cs (drop 1 cs) two (dropped 1 cs)),
              ((λ _. raw_text_rests CText text cs (drop 1 cs) two (dropped 1 cs)), ((λ _. raw_rests text cs (drop 1 cs) (dropped 1 cs)), tt)),
            ),
          ),
        ),
      ),
    ) (name_rests c cs h)

suffix_rests : (inside cs : List ℕ) → EndsIn inside cs → EndsIn inside (behind_suffix cs)
suffix_rests inside cs h = by (first_passes is_name_start cs)
  where
    by : (b : Bool) → EndsIn inside (cond b (behind_name cs) cs)
    by true = through inside cs (behind_name cs) h (skipped is_xid_continue cs)
    by false = h

integer_rests : (text inside behind : List ℕ) (value : Option ℕ) (decimal : Bool) → EndsIn inside behind → Rests text inside (integer_at text value decimal behind)
integer_rests text inside behind value decimal h = by (first_passes is_exponent_letter behind)
  where
    by : (b : Bool) → Rests text inside (cond b (breaks 2 text) (token (Integer value (encode_utf8_all (suffix_of behind)) decimal) (behind_suffix behind)))
    by true = (itself text, bad_token)
    by false = suffix_rests inside behind h

digits_rest : (radix : ℕ) (inside cs : List ℕ) → EndsIn inside cs → EndsIn inside (behind_digits radix cs)
digits_rest radix inside cs h = through inside cs (behind_digits radix cs) h (skipped (is_digit_or_underscore radix) cs)

based_rests : (radix base : ℕ) (text inside cs : List ℕ) → EndsIn inside cs → Rests text inside (based_at radix base text cs)
based_rests radix base text inside cs h =
    cases_rest text inside (based_cases radix base text cs) (integer_at text (in_128_bits (number_from radix base 0 cs)) false (behind_digits radix cs))
    ((λ _. (itself text, bad_token)), ((λ _. (itself text, bad_token)), tt))
    (integer_rests text inside (behind_digits radix cs) (in_128_bits (number_from radix base 0 cs)) false (digits_rest radix inside cs h))

sign_rests : (cs : List ℕ) → EndsIn cs (behind_sign cs)
sign_rests cs = by (first_passes is_sign cs)
  where
    by : (b : Bool) → EndsIn cs (cond b (drop 1 cs) cs)
    by true = dropped 1 cs
    by false = itself cs

exponent_rests : (inside cs : List ℕ) → EndsIn inside cs → EndsIn inside (behind_exponent cs)
exponent_rests inside cs h = digits_rest 10 inside (behind_sign (drop 1 cs)) (through inside cs (behind_sign (drop 1 cs)) h (through cs (drop 1 cs) (behind_sign (drop 1 cs)) (dropped 1 cs) (sign_rests (drop 1 cs))))

fraction_rests : (text inside cs : List ℕ) → EndsIn inside cs → Rests text inside (fraction_at text cs)
fraction_rests text inside cs h =
    let behind = behind_digits 10 cs in
    let ends : EndsIn inside behind = digits_rest 10 inside cs h in
    cases_rest text inside (fraction_cases text behind) (float_at behind)
    ((λ _. suffix_rests inside (behind_exponent behind) (exponent_rests inside behind ends)), ((λ _. (itself text, bad_token)), tt))
    (suffix_rests inside behind ends)

decimal_rests : (text inside : List ℕ) → EndsIn inside (behind_digits 10 text) → Rests text inside (decimal_at text)
decimal_rests text inside h =
    let behind = behind_digits 10 text in
    cases_rest text inside (decimal_cases text behind) (integer_at text (in_128_bits (number_from 10 10 0 text)) true behind)
    ((λ _. fraction_rests text inside (drop 1 behind) (through inside behind (drop 1 behind) h (dropped 1 behind))), ((λ _. suffix_rests inside (behind_exponent behind) (exponent_rests inside behind h)), tt))
    (integer_rests text inside behind (in_128_bits (number_from 10 10 0 text)) true h)

first_digit : (c : ℕ) (cs : List ℕ) → is_digit c 10 ≡ true → EndsIn cs (behind_digits 10 (c ∷ cs))
first_digit c cs h = by (is_digit_or_underscore 10 c) (or_right (c == 95) (is_digit c 10) h)
  where
    by : (b : Bool) → b ≡ true → EndsIn cs (cond b (behind_digits 10 cs) (c ∷ cs))
    by true e = skipped (is_digit_or_underscore 10) cs
    by false e = absurd cc

number_rests : (c : ℕ) (cs : List ℕ) → is_digit c 10 ≡ true → Rests (c ∷ cs) cs (number_at c cs)
number_rests c cs h =
    cases_rest (c ∷ cs) cs (number_cases c cs) (decimal_at (c ∷ cs)) (
      (λ _. based_rests 16 16 (c ∷ cs) cs (drop 1 cs) (dropped 1 cs)),
      (
        (λ _. based_rests 10 8 (c ∷ cs) cs (drop 1 cs) (dropped 1 cs)),
        (
          (λ _. based_rests 10 2 (c ∷ cs) cs (drop 1 cs) (dropped 1 cs)),
          tt,
        ),
      ),
    ) (decimal_rests (c ∷ cs) cs (first_digit c cs h))

pub piece_rests : (c : ℕ) (cs : List ℕ) → Rests (c ∷ cs) cs (piece_at c cs)
unfolding piece_at
piece_rests c cs =
    cases_rest (c ∷ cs) cs (piece_cases c cs) (mark_at (c ∷ cs)) (
      (λ _. skipped is_space cs),
      (
        (λ _. skipped is_within_line cs),
        (
          (λ _. comment_rests (c ∷ cs) cs (drop 1 cs) (comment_end 0 (drop 1 cs)) (dropped 1 cs) (comment_ends 0 (drop 1 cs))),
          (
            (λ h. number_rests c cs h),
            (
              (λ _. quote_rests (c ∷ cs) cs cs (past c cs cs (itself cs)) (itself cs)),
              ((λ _. text_rests Text (c ∷ cs) cs cs (past c cs cs (itself cs)) (itself cs)), ((λ h. letter_rests c cs h), tt)),
            ),
          ),
        ),
      ),
    ) (marks_rest c cs)
