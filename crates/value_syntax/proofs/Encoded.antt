-- The bytes of a value's text are those of its characters.
use Rattle.std.proofs.Common.{◌≡◌, ℕ, zero, suc, ◌<◌, ◌≤◌, Bool, true, false, List, [], ◌∷◌, ◌++◌, chars, codes}
use Rattle.std.proofs.Common.{encode_utf8_all, refl, ◌∙◌, arith, inl, inr}
use Rattle.std.specs.Prelude.{flat_map, decimal, is_some, nat_lt}
use lib.Utf8.{scalar, scalars}
use Rattle.std.specs.Char.{is_digit}
use Rattle.std.specs.Fmt.{digits}
use Rattle.std.specs.List.{list_all}
use Rattle.std.specs.Str.{IsAscii}
use Rattle.std.proofs.Math.Utf8.{low_scalar}
use Rattle.std.proofs.lemmas.Bool.Decides.{nat_tests}
use Rattle.std.proofs.lemmas.List.Folds.{list_all-append}
use Rattle.std.proofs.lemmas.Str.{encodes-append, encodes-chars, encodes-IsAscii, scalars-chars}
use Rattle.std.proofs.lemmas.Str.Ascii.{IsAscii-nil}
use Rattle.decl_lexer.specs.Words.{word_of}
use Rattle.decl_lexer.specs.Written.{written_name}
use Rattle.witness_text.specs.Literals.{escaped, code_escape, char_literal, string_literal}
use Rattle.witness_text.specs.Trees.{NameTree, PlainName, VariantName}
use Rattle.witness_text.specs.Texts.{name_text, flag_text, joined, tuple_end, bracketed, braced, field_text}
use Rattle.value_syntax.specs.Trees.{WrittenTree, WrittenFlag, WrittenChar, WrittenByte, WrittenInt, WrittenStr}
use Rattle.value_syntax.specs.Trees.{WrittenText, WrittenOpaque, WrittenLater, WrittenUnseen, WrittenPoint}
use Rattle.value_syntax.specs.Trees.{WrittenTuple, WrittenRow, WrittenUnitForm, WrittenTupleForm, WrittenBraceForm}
use Rattle.value_syntax.specs.Trees.{WrittenTrees, no_values, more_values, WrittenFields, no_fields, more_fields}
use Rattle.value_syntax.specs.Texts.{sign_text, mark_text, written_text, value_texts, field_texts}
use Rattle.value_syntax.specs.Canonical.{IsName, IsFormName, IsCanonical, AreCanonical, AreCanonicalFields}
use Rattle.value_syntax.proofs.Characters.{form_chars, field_chars, written_chars, value_chars, all_field_chars}
use Rattle.value_syntax.proofs.LexedNames.{name_chars, and_left, and_right}
use Rattle.value_syntax.proofs.LexedNumbers.{decimal_digits}
use Rattle.value_syntax.proofs.LexedLiterals.{Standing, marked, plain, coded, standing, hex_digits}

-- these characters take these bytes
abbrev pub Encodes : (cs bs : List ℕ) → Type 0
Encodes cs bs = (scalars cs ≡ true) × (encode_utf8_all cs ≡ bs)

scalars_append : (xs ys : List ℕ) → scalars xs ≡ true → scalars ys ≡ true → scalars (xs ++ ys) ≡ true
scalars_append [] ys h k = k
scalars_append (x ∷ xs) ys h k = rw (and_left (scalar x) (scalars xs) h)
    (scalars_append xs ys (and_right (scalar x) (scalars xs) h) k)

both : (xs ys bs ds : List ℕ) → Encodes xs bs → Encodes ys ds → Encodes (xs ++ ys) (bs ++ ds)
both xs ys bs ds h k = (scalars_append xs ys h.0 k.0, encodes-append xs ys ∙ rw (h.1, k.1) refl)

-- ---- ASCII

abbrev pub all_ascii : List ℕ → Bool
all_ascii bs = list_all (λ b. nat_lt b 128) bs

low : (c : ℕ) → nat_lt c 128 ≡ true → c < 128
low c e = grind (arith, nat_tests)

pub ascii_bytes : (bs : List ℕ) → all_ascii bs ≡ true → IsAscii bs
ascii_bytes [] h = IsAscii-nil
ascii_bytes (b ∷ bs) h = ascii_cons b bs (low b (and_left (nat_lt b 128) (all_ascii bs) h))
    (ascii_bytes bs (and_right (nat_lt b 128) (all_ascii bs) h))
  where
    ascii_cons : (c : ℕ) (cs : List ℕ) → c < 128 → IsAscii cs → IsAscii (c ∷ cs)
    ascii_cons c cs lt a zero = lt
    ascii_cons c cs lt a (suc i) = a i

ascii_scalars : (bs : List ℕ) → all_ascii bs ≡ true → scalars bs ≡ true
ascii_scalars [] h = refl
ascii_scalars (b ∷ bs) h =
    let lt = low b (and_left (nat_lt b 128) (all_ascii bs) h) in
    rw (low_scalar b (omega (arith, lt))) (ascii_scalars bs (and_right (nat_lt b 128) (all_ascii bs) h))

itself : (bs : List ℕ) → all_ascii bs ≡ true → Encodes bs bs
itself bs h = (ascii_scalars bs h, encodes-IsAscii bs (ascii_bytes bs h))

ascii_append : (xs ys : List ℕ) → all_ascii xs ≡ true → all_ascii ys ≡ true → all_ascii (xs ++ ys) ≡ true
ascii_append xs ys h k = list_all-append (λ b. nat_lt b 128) xs ys ∙ rw (h, k) refl

-- digits are ASCII
digit_ascii : (c r : ℕ) → r ≤ 16 → is_digit c r ≡ true → nat_lt c 128 ≡ true
digit_ascii c r le e = grind (arith, nat_tests)

digits_ascii : (r : ℕ) (cs : List ℕ) → r ≤ 16 → list_all (λ c. is_digit c r) cs ≡ true → all_ascii cs ≡ true
digits_ascii r [] le h = refl
digits_ascii r (c ∷ cs) le h =
    rw (digit_ascii c r le (and_left (is_digit c r) (list_all (λ x. is_digit x r) cs) h))
    (digits_ascii r cs le (and_right (is_digit c r) (list_all (λ x. is_digit x r) cs) h))

code_ascii : (c : ℕ) → all_ascii (code_escape c) ≡ true
code_ascii c = ascii_append (digits 16 false c) (125 ∷ [])
    (digits_ascii 16 (digits 16 false c) (omega arith) (hex_digits c)) refl

escaped_ascii : (quote c : ℕ) → nat_lt quote 128 ≡ true → all_ascii (escaped quote c) ≡ true
escaped_ascii quote c q = by_case (standing quote c)
  where
    at_mark : (d : ℕ) → nat_lt d 128 ≡ true → all_ascii (92 ∷ d ∷ []) ≡ true
    at_mark d e = rw e refl

    by_case : Standing quote c → all_ascii (escaped quote c) ≡ true
    by_case (marked (inl e) s) = rw s (at_mark c (rw e q))
    by_case (marked (inr e) s) = rw s (at_mark c (rw e refl))
    by_case (plain a b least most s) = let lt : nat_lt c 128 ≡ true = grind (arith, nat_tests) in rw (s, lt) refl
    by_case (coded s) = rw s (code_ascii c)

text_ascii : (cs : List ℕ) → all_ascii (flat_map (escaped 34) cs) ≡ true
text_ascii [] = refl
text_ascii (c ∷ cs) = ascii_append (escaped 34 c) (flat_map (escaped 34) cs) (escaped_ascii 34 c refl) (text_ascii cs)

char_encodes : (c : ℕ) → Encodes (char_literal c) (char_literal c)
char_encodes c = itself (char_literal c) (ascii_append (escaped 39 c) (39 ∷ []) (escaped_ascii 39 c refl) refl)

string_encodes : (cs : List ℕ) → Encodes (string_literal cs) (string_literal cs)
string_encodes cs = itself (string_literal cs) (ascii_append (flat_map (escaped 34) cs) (34 ∷ []) (text_ascii cs) refl)

flag_encodes : (b : Bool) → Encodes (flag_text b) (flag_text b)
flag_encodes true = itself (codes "true") refl
flag_encodes false = itself (codes "false") refl

sign_encodes : (b : Bool) → Encodes (sign_text b) (sign_text b)
sign_encodes true = itself (codes "-") refl
sign_encodes false = itself [] refl

mark_encodes : (b : Bool) → Encodes (mark_text b) (mark_text b)
mark_encodes true = itself (codes "&mut ") refl
mark_encodes false = itself (codes "&") refl

-- ---- names

name_encodes : (name : List ℕ) → IsName name → Encodes (name_chars name) (written_name name)
name_encodes name n = by_case (is_some (word_of name)) refl
  where
    bare : Encodes (chars name) name
    bare = (scalars-chars name n.utf8, encodes-chars name n.utf8)

    by_case : (b : Bool) → is_some (word_of name) ≡ b → Encodes (name_chars name) (written_name name)
    by_case true e = rw e (both (codes "r#") (chars name) (codes "r#") name (itself (codes "r#") refl) bare)
    by_case false e = rw e bare

form_encodes : (name : NameTree) → IsFormName name → Encodes (form_chars name) (name_text name)
unfolding name_text
form_encodes (PlainName name) n = name_encodes name n
form_encodes (VariantName owner name) n =
    both (name_chars owner) (codes "::" ++ name_chars name) (written_name owner) (codes "::" ++ written_name name)
    (name_encodes owner n.0)
    (both (codes "::") (name_chars name) (codes "::") (written_name name) (itself (codes "::") refl)
    (name_encodes name n.1))

field_encodes : (name cs bs : List ℕ) → IsName name → Encodes cs bs → Encodes (field_chars name cs) (field_text name bs)
unfolding field_text
field_encodes name cs bs n e =
    both (name_chars name) (codes ": " ++ cs) (written_name name) (codes ": " ++ bs) (name_encodes name n)
    (both (codes ": ") cs (codes ": ") bs (itself (codes ": ") refl) e)

-- ---- lists

-- each of these takes those bytes
pub data EncodesAll : List (List ℕ) → List (List ℕ) → Type 0 where
  nothing_more : EncodesAll [] []
  one_more : (cs bs : List ℕ) (css bss : List (List ℕ)) → Encodes cs bs → EncodesAll css bss
      → EncodesAll (cs ∷ css) (bs ∷ bss)

joined_encodes : (css bss : List (List ℕ)) → EncodesAll css bss → Encodes (joined css) (joined bss)
joined_encodes _ _ nothing_more = itself [] refl
joined_encodes _ _ (one_more cs bs _ _ e nothing_more) = e
joined_encodes _ _ (one_more cs bs _ _ e (one_more ds fs css bss f g)) =
    both cs (codes ", " ++ joined (ds ∷ css)) bs (codes ", " ++ joined (fs ∷ bss)) e
    (both (codes ", ") (joined (ds ∷ css)) (codes ", ") (joined (fs ∷ bss)) (itself (codes ", ") refl)
    (joined_encodes _ _ (one_more ds fs css bss f g)))

end_encodes : (css bss : List (List ℕ)) → EncodesAll css bss → Encodes (tuple_end css) (tuple_end bss)
end_encodes _ _ nothing_more = itself (codes ")") refl
end_encodes _ _ (one_more cs bs _ _ e nothing_more) = itself (codes ",)") refl
end_encodes _ _ (one_more cs bs _ _ e (one_more ds fs css bss f g)) = itself (codes ")") refl

-- joined texts between two others
between : (front cs bs cend bend : List ℕ) → all_ascii front ≡ true → Encodes cs bs → Encodes cend bend
    → Encodes (front ++ (cs ++ cend)) (front ++ (bs ++ bend))
between front cs bs cend bend a e f = both front (cs ++ cend) front (bs ++ bend) (itself front a)
    (both cs cend bs bend e f)

braced_encodes : (css bss : List (List ℕ)) → EncodesAll css bss → Encodes (braced css) (braced bss)
braced_encodes _ _ nothing_more = itself (codes " {}") refl
braced_encodes _ _ (one_more cs bs css bss e f) =
    between (codes " { ") (joined (cs ∷ css)) (joined (bs ∷ bss)) (codes " }") (codes " }") refl
    (joined_encodes _ _ (one_more cs bs css bss e f)) (itself (codes " }") refl)

mutual
  pub value_encodes : (w : WrittenTree) → IsCanonical w → Encodes (written_chars w) (written_text w)
  value_encodes (WrittenFlag b) r = flag_encodes b
  value_encodes (WrittenChar c) r = char_encodes c
  value_encodes (WrittenByte b) r = absurd r
  value_encodes (WrittenInt negative size suffix) r =
      both (sign_text negative) (decimal size ++ suffix) (sign_text negative) (decimal size ++ suffix)
      (sign_encodes negative)
      (both (decimal size) suffix (decimal size) suffix
      (itself (decimal size) (digits_ascii 10 (decimal size) (omega arith) (decimal_digits size)))
      (rw r.1 (itself [] refl)))
  value_encodes (WrittenStr text) r = string_encodes (chars text)
  value_encodes (WrittenText text) r = both (codes "*") (string_literal (chars text)) (codes "*")
      (string_literal (chars text)) (itself (codes "*") refl) (string_encodes (chars text))
  value_encodes WrittenOpaque r = itself (codes "?opaque") refl
  value_encodes WrittenLater r = itself (codes "?later") refl
  value_encodes WrittenUnseen r = itself (codes "?unseen") refl
  value_encodes (WrittenPoint mutable w) r =
      both (mark_text mutable) (written_chars w) (mark_text mutable) (written_text w) (mark_encodes mutable)
      (value_encodes w r)
  value_encodes (WrittenTuple ws) r =
      let e = values_encode ws r in
      between (codes "(") (joined (value_chars ws)) (joined (value_texts ws)) (tuple_end (value_chars ws))
      (tuple_end (value_texts ws)) refl (joined_encodes _ _ e) (end_encodes _ _ e)
  value_encodes (WrittenRow ws) r = between
      (codes "[") (joined (value_chars ws)) (joined (value_texts ws)) (codes "]") (codes "]") refl
      (joined_encodes _ _ (values_encode ws r)) (itself (codes "]") refl)
  value_encodes (WrittenUnitForm name) r = form_encodes name r
  value_encodes (WrittenTupleForm name ws) r =
      both (form_chars name) (bracketed (value_chars ws)) (name_text name) (bracketed (value_texts ws))
      (form_encodes name r.0)
      (between (codes "(") (joined (value_chars ws)) (joined (value_texts ws)) (codes ")") (codes ")") refl
      (joined_encodes _ _ (values_encode ws r.1)) (itself (codes ")") refl))
  value_encodes (WrittenBraceForm name fs) r =
      both (form_chars name) (braced (all_field_chars fs)) (name_text name) (braced (field_texts fs))
      (form_encodes name r.0) (braced_encodes _ _ (fields_encode fs r.1))

  pub values_encode : (ws : WrittenTrees) → AreCanonical ws → EncodesAll (value_chars ws) (value_texts ws)
  values_encode no_values r = nothing_more
  values_encode (more_values w ws) r = one_more (written_chars w) (written_text w) (value_chars ws) (value_texts ws)
      (value_encodes w r.0) (values_encode ws r.1)

  pub fields_encode : (fs : WrittenFields) → AreCanonicalFields fs → EncodesAll (all_field_chars fs) (field_texts fs)
  fields_encode no_fields r = nothing_more
  fields_encode (more_fields name w fs) r =
      one_more (field_chars name (written_chars w)) (field_text name (written_text w)) (all_field_chars fs)
      (field_texts fs) (field_encodes name (written_chars w) (written_text w) r.0 (value_encodes w r.1))
      (fields_encode fs r.2)
