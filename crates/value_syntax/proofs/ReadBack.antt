-- What is written reads back: a value's text lexes, and its tokens spell the value.
use Rattle.std.proofs.Common.{◌≡◌, ℕ, zero, suc, ◌<◌, ◌^◌, Bool, true, false, List, [], ◌∷◌, ◌++◌}
use Rattle.std.proofs.Common.{Some, None, Ok, chars, codes, encode_utf8_all, refl, sym, ap, subst, ◌∙◌, append_assoc}
use Rattle.std.proofs.Common.{append-nil}
use Rattle.std.specs.Prelude.{flat_map, decimal}
use lib.Utf8.{scalar, encode}
use Rattle.std.specs.Str.{IsUtf8, IsAscii}
use Rattle.std.proofs.lemmas.Str.{encodes-chars, scalars-chars, chars-encodes, chars-IsAscii}
use Rattle.unicode_normalization.specs.Forms.{nfc}
use Rattle.decl_lexer.proofs.NameLemmas.{nfc_ascii}
use Rattle.unicode_ident.proofs.Computing.{unicode_ident}
use Rattle.decl_lexer.specs.declared.marks.Mark.{Mark}
use Rattle.decl_lexer.specs.declared.marks.Mark.TheVariants as marks
use Rattle.decl_lexer.specs.declared.words.Word.TheVariants as words
use Rattle.decl_lexer.specs.Begins.{Lexeme, Named, Keyword, Marked, Integer, Character, Text, Token}
use Rattle.decl_lexer.specs.Gaps.{is_space}
use Rattle.decl_lexer.specs.Text.{skip_while}
use Rattle.decl_lexer.specs.Names.{is_name_start}
use Rattle.decl_lexer.specs.Pieces.{piece_at}
use Rattle.decl_lexer.specs.Lexing.{Placed, ends, nothing, mark_width, without_mark, HasTokens}
use Rattle.decl_syntax.specs.Units.{units, is_mark, is_word, doubled_mark}
use Rattle.decl_syntax.specs.Grammar.{NextIsNot, CommaList, closed, last, next, missing, there}
use Rattle.witness_text.specs.Literals.{escaped, char_literal, string_literal}
use Rattle.witness_text.specs.Trees.{NameTree, PlainName, VariantName}
use Rattle.witness_text.specs.Texts.{flag_text, joined, tuple_text, bracketed, braced}
use Rattle.value_syntax.specs.Trees.{WrittenTree, WrittenFlag, WrittenChar, WrittenByte, WrittenInt, WrittenStr}
use Rattle.value_syntax.specs.Trees.{WrittenText, WrittenOpaque, WrittenLater, WrittenUnseen, WrittenPoint}
use Rattle.value_syntax.specs.Trees.{WrittenTuple, WrittenRow, WrittenUnitForm, WrittenTupleForm, WrittenBraceForm}
use Rattle.value_syntax.specs.Trees.{WrittenTrees, no_values, more_values, values_from, WrittenFields, no_fields}
use Rattle.value_syntax.specs.Trees.{more_fields, FieldTree, fields_from}
use Rattle.value_syntax.specs.Grammar.{IsLiteral, a_true, a_false, a_char, an_int, a_str, IsUnknown, an_opaque, a_later}
use Rattle.value_syntax.specs.Grammar.{an_unseen, SpellsName, plain_name, variant_name, FieldForm, a_field, ValueForm}
use Rattle.value_syntax.specs.Grammar.{literal, negative, referred, unknown, point, unit, tuple, row, unit_form}
use Rattle.value_syntax.specs.Grammar.{tuple_form, brace_form, SpellsValue}
use Rattle.value_syntax.specs.Canonical.{IsName, IsFormName, IsCanonical, AreCanonical, AreCanonicalFields, values_pass}
use Rattle.value_syntax.specs.Canonical.{fields_pass, value_fits}
use Rattle.value_syntax.specs.Texts.{mark_text, written_text}
use Rattle.value_syntax.specs.Laws.{ReadsBack}
use Rattle.value_syntax.proofs.Characters.{form_chars, written_chars, value_chars, all_field_chars}
use Rattle.value_syntax.proofs.Encoded.{Encodes, ascii_bytes, value_encodes}
use Rattle.value_syntax.proofs.Lexed.{Lexable, Then, Is, weaker, token_step, space_step, open_round, close_round}
use Rattle.value_syntax.proofs.Lexed.{open_square, close_square, open_curly, close_curly, comma, question, colon}
use Rattle.value_syntax.proofs.Lexed.{separator, star, minus, Both, IsApart, apart, another_and, both_weaker}
use Rattle.value_syntax.proofs.LexedNames.{Stops, at_end, at_comma, at_round, at_square, at_space, at_colon, at_opening}
use Rattle.value_syntax.proofs.LexedNames.{start_facts, word_piece, name_chars, name_piece, and_left}
use Rattle.value_syntax.proofs.LexedNames.{and_right}
use Rattle.value_syntax.proofs.LexedNumbers.{DigitFacts, digit_facts, NumberPiece, number_piece}
use Rattle.value_syntax.proofs.LexedLiterals.{char_piece, text_piece}
use Rattle.value_syntax.proofs.ValueLaws.{no_mut}

-- ---- what follows a value

-- a value that ends here goes on no further
pub record Quiet (us : List Placed) : Type 0 where
  pub path : NextIsNot (is_mark marks.PathSeparator) us
  pub round : NextIsNot (is_mark marks.OpenRound) us
  pub curly : NextIsNot (is_mark marks.OpenCurly) us

-- a mark that continues no value
record IsQuiet (mark : Mark) : Type 0 where
  path : is_mark marks.PathSeparator (Marked mark) ≡ false
  round : is_mark marks.OpenRound (Marked mark) ≡ false
  curly : is_mark marks.OpenCurly (Marked mark) ≡ false

quiet_comma : IsQuiet marks.Comma
quiet_comma = record { path = refl; round = refl; curly = refl }

quiet_round : IsQuiet marks.CloseRound
quiet_round = record { path = refl; round = refl; curly = refl }

quiet_square : IsQuiet marks.CloseSquare
quiet_square = record { path = refl; round = refl; curly = refl }

quiet_curly : IsQuiet marks.CloseCurly
quiet_curly = record { path = refl; round = refl; curly = refl }

quiet_mark : (mark : Mark) (Q : List Placed → Type 0) → IsQuiet mark → (us : List Placed) → Then (Is mark) Q us
    → Quiet us
quiet_mark mark Q q us t = record {
  path = rw (t.whole, t.is) q.path;
  round = rw (t.whole, t.is) q.round;
  curly = rw (t.whole, t.is) q.curly;
}

-- ---- what is said of tokens

-- a value and then these
abbrev Spelled : ℕ → WrittenTree → (List Placed → Type 0) → List Placed → Type 0
Spelled n w Q us = (rest : List Placed) × SpellsValue n us w rest × Q rest

-- the values of a list up to the mark that closes it, and then these
abbrev Listed : ℕ → Mark → List WrittenTree → (List Placed → Type 0) → List Placed → Type 0
Listed n close ws Q us = (rest : List Placed) × CommaList close (SpellsValue n) us ws rest × Q rest

-- the fields
abbrev ListedFields : ℕ → List FieldTree → (List Placed → Type 0) → List Placed → Type 0
ListedFields n fs Q us = (rest : List Placed) × CommaList marks.CloseCurly (FieldForm (SpellsValue n)) us fs rest
    × Q rest

-- a name
abbrev NameThen : NameTree → (List Placed → Type 0) → List Placed → Type 0
NameThen name Q us = (rest : List Placed) × SpellsName us name rest × Q rest

-- the values of a list, and its fields
abbrev list_of : WrittenTrees → List WrittenTree
list_of no_values = []
list_of (more_values w ws) = w ∷ list_of ws

same_values : (ws : WrittenTrees) → values_from (list_of ws) ≡ ws
same_values no_values = refl
same_values (more_values w ws) = ap (more_values w) (same_values ws)

abbrev fields_of : WrittenFields → List FieldTree
fields_of no_fields = []
fields_of (more_fields name w fs) = record { name = name; value = w } ∷ fields_of fs

same_fields : (fs : WrittenFields) → fields_from (fields_of fs) ≡ fs
same_fields no_fields = refl
same_fields (more_fields name w fs) = ap (more_fields name w) (same_fields fs)

-- ---- steps

-- a mark in front
mark_step : (mark : Mark) (c : ℕ) (Q : List Placed → Type 0) (cs : List ℕ)
    → piece_at c cs ≡ Ok (Token (Marked mark), cs) → doubled_mark (Marked mark) ≡ None → Lexable cs Q
    → Lexable (c ∷ cs) (Then (Is mark) Q)
mark_step mark c Q cs read single h = token_step (Is mark) Q (Marked mark) c [] cs refl read single h

-- a character that begins a name
name_apart : (c : ℕ) → is_name_start c ≡ true → IsApart c
name_apart c e = let f = start_facts c e in
    record { no_and = f.no_and; no_equal = f.no_equal; no_space = f.space; no_mark = f.no_mark }

-- a name in front
abbrev IsNamed : List ℕ → Lexeme → Type 0
IsNamed name l = (raw : Bool) × (l ≡ Named name raw)

name_step : (name behind : List ℕ) (Q : List Placed → Type 0) → IsName name → Stops behind → Lexable behind Q
    → Both (name_chars name ++ behind) (Then (IsNamed name) Q)
name_step name behind Q n k h =
    let p = name_piece name behind n k in
    let same : name_chars name ++ behind ≡ p.first ∷ (p.front ++ behind) = ap (λ cs. cs ++ behind) p.whole in
    let lexed = token_step (IsNamed name) Q (Named name p.raw) p.first p.front behind (p.raw, refl) p.read refl h in
    subst (λ cs. Both cs (Then (IsNamed name) Q)) (sym same)
    (apart (Then (IsNamed name) Q) p.first (p.front ++ behind) (name_apart p.first p.starts) lexed)

-- the name of a form
plain_then : (name : List ℕ) (Q : List Placed → Type 0) (us : List Placed)
    → ((vs : List Placed) → Q vs → NextIsNot (is_mark marks.PathSeparator) vs) → Then (IsNamed name) Q us
    → NameThen (PlainName name) Q us
plain_then name Q us q t = (
  t.rest,
  rw t.whole (plain_name t.first t.rest name t.is.0 t.is.1 (q t.rest t.holds)),
  t.holds,
)

variant_then : (owner name : List ℕ) (Q : List Placed → Type 0) (us : List Placed)
    → Then (IsNamed owner) (Then (Is marks.PathSeparator) (Then (IsNamed name) Q)) us
    → NameThen (VariantName owner name) Q us
variant_then owner name Q us t =
    let s = t.holds in
    let u = s.holds in
    let whole : us ≡ t.first ∷ s.first ∷ u.first ∷ u.rest = t.whole
    ∙ ap (λ vs. t.first ∷ vs) (s.whole ∙ ap (λ vs. s.first ∷ vs) u.whole) in (
      u.rest,
      rw whole (variant_name t.first s.first u.first u.rest owner name t.is.0 u.is.0 t.is.1 s.is u.is.1),
      u.holds,
    )

separator_step : (Q : List Placed → Type 0) (cs : List ℕ) → Lexable cs Q
    → Lexable (58 ∷ 58 ∷ cs) (Then (Is marks.PathSeparator) Q)
separator_step Q cs h = token_step (Is marks.PathSeparator) Q (Marked marks.PathSeparator) 58 (58 ∷ []) cs refl
    (separator cs) refl h

form_name_step : (name : NameTree) (behind : List ℕ) (Q : List Placed → Type 0) → IsFormName name → Stops behind
    → ((vs : List Placed) → Q vs → NextIsNot (is_mark marks.PathSeparator) vs) → Lexable behind Q
    → Both (form_chars name ++ behind) (NameThen name Q)
form_name_step (PlainName name) behind Q n k q h =
    both_weaker _ _ _ (λ us t. plain_then name Q us q t) (name_step name behind Q n k h)
form_name_step (VariantName owner name) behind Q n k q h =
    let second = name_step name behind Q n.1 k h in
    let marked = separator_step _ (name_chars name ++ behind) second.alone in
    let first = name_step owner (58 ∷ 58 ∷ (name_chars name ++ behind)) _ n.0 (at_colon _) marked in
    let same : form_chars (VariantName owner name) ++ behind ≡ name_chars owner ++
    (58 ∷ 58 ∷ (name_chars name ++ behind)) = append_assoc (name_chars owner) (58 ∷ 58 ∷ name_chars name) behind in
    subst (λ cs. Both cs (NameThen (VariantName owner name) Q)) (sym same)
    (both_weaker _ _ _ (λ us t. variant_then owner name Q us t) first)

-- ---- values of one token

one_token : (n : ℕ) (w : WrittenTree) (Q : List Placed → Type 0) (us : List Placed) → Then (λ l. IsLiteral l w) Q us
    → Spelled (suc n) w Q us
unfolding SpellsValue
one_token n w Q us t = (t.rest, rw t.whole (literal t.first t.rest w t.is), t.holds)

true_read : (behind : List ℕ) → Stops behind
    → piece_at 116 (114 ∷ 117 ∷ 101 ∷ behind) ≡ Ok (Token (Keyword words.True), behind)
unfolding unicode_ident encode
true_read behind k = word_piece 116 (114 ∷ 117 ∷ 101 ∷ []) behind refl refl k

false_read : (behind : List ℕ) → Stops behind
    → piece_at 102 (97 ∷ 108 ∷ 115 ∷ 101 ∷ behind) ≡ Ok (Token (Keyword words.False), behind)
unfolding unicode_ident encode
false_read behind k = word_piece 102 (97 ∷ 108 ∷ 115 ∷ 101 ∷ []) behind refl refl k

mut_read : (behind : List ℕ) → Stops behind → piece_at 109 (117 ∷ 116 ∷ behind) ≡ Ok (Token (Keyword words.Mut), behind)
unfolding unicode_ident encode
mut_read behind k = word_piece 109 (117 ∷ 116 ∷ []) behind refl refl k

t_starts : is_name_start 116 ≡ true
unfolding unicode_ident
t_starts = refl

f_starts : is_name_start 102 ≡ true
unfolding unicode_ident
f_starts = refl

m_starts : is_name_start 109 ≡ true
unfolding unicode_ident
m_starts = refl

flag_back : (n : ℕ) (b : Bool) (behind : List ℕ) (Q : List Placed → Type 0) → Stops behind → Lexable behind Q
    → Both (flag_text b ++ behind) (Spelled (suc n) (WrittenFlag b) Q)
flag_back n true behind Q k h =
    let lexed = token_step (λ l. IsLiteral l (WrittenFlag true)) Q (Keyword words.True) 116
    (114 ∷ 117 ∷ 101 ∷ []) behind a_true (true_read behind k) refl h in
    apart _ 116 (114 ∷ 117 ∷ 101 ∷ behind) (name_apart 116 t_starts)
    (weaker _ _ _ (λ us t. one_token n (WrittenFlag true) Q us t) lexed)
flag_back n false behind Q k h =
    let lexed = token_step (λ l. IsLiteral l (WrittenFlag false)) Q (Keyword words.False) 102
    (97 ∷ 108 ∷ 115 ∷ 101 ∷ []) behind a_false (false_read behind k) refl h in
    apart _ 102 (97 ∷ 108 ∷ 115 ∷ 101 ∷ behind) (name_apart 102 f_starts)
    (weaker _ _ _ (λ us t. one_token n (WrittenFlag false) Q us t) lexed)

char_back : (n c : ℕ) (behind : List ℕ) (Q : List Placed → Type 0) → scalar c ≡ true → Lexable behind Q
    → Both (char_literal c ++ behind) (Spelled (suc n) (WrittenChar c) Q)
char_back n c behind Q e h =
    let front = escaped 39 c ++ 39 ∷ [] in
    let same : front ++ behind ≡ escaped 39 c ++ 39 ∷ behind = append_assoc (escaped 39 c) (39 ∷ []) behind in
    let read : piece_at 39 (front ++ behind) ≡ Ok (Token (Character c), behind) = ap (piece_at 39) same
    ∙ char_piece c behind e in
    let lexed = token_step (λ l. IsLiteral l (WrittenChar c)) Q (Character c) 39 front behind (a_char c) read refl h in
    apart _ 39 (front ++ behind) (record { no_and = refl; no_equal = refl; no_space = refl; no_mark = refl })
    (weaker _ _ _ (λ us t. one_token n (WrittenChar c) Q us t) lexed)

-- the literal of a text in front
text_step : (text behind : List ℕ) (Q : List Placed → Type 0) → IsUtf8 text → Lexable behind Q
    → Lexable (string_literal (chars text) ++ behind) (Then (λ l. l ≡ Text text) Q)
text_step text behind Q u h =
    let cs = chars text in
    let front = flat_map (escaped 34) cs ++ 34 ∷ [] in
    let same : front ++ behind ≡ flat_map (escaped 34) cs ++ 34 ∷ behind =
    append_assoc (flat_map (escaped 34) cs) (34 ∷ []) behind in
    let read : piece_at 34 (front ++ behind) ≡ Ok (Token (Text (encode_utf8_all cs)), behind) = ap (piece_at 34) same
    ∙ text_piece cs behind (scalars-chars text u) in
    token_step (λ l. l ≡ Text text) Q (Text (encode_utf8_all cs)) 34 front behind
    (ap Text (encodes-chars text u)) read refl h

str_back : (n : ℕ) (text behind : List ℕ) (Q : List Placed → Type 0) → IsUtf8 text → Lexable behind Q
    → Both (string_literal (chars text) ++ behind) (Spelled (suc n) (WrittenStr text) Q)
str_back n text behind Q u h =
    let is : (us : List Placed) → Then (λ l. l ≡ Text text) Q us
    → Then (λ l. IsLiteral l (WrittenStr text)) Q us =
    λ us t. record {
      first = t.first;
      rest = t.rest;
      whole = t.whole;
      is = rw t.is (a_str text);
      holds = t.holds;
    } in
    apart _ 34 _ (record { no_and = refl; no_equal = refl; no_space = refl; no_mark = refl })
    (weaker _ _ _ (λ us t. one_token n (WrittenStr text) Q us (is us t)) (text_step text behind Q u h))

referred_then : (n : ℕ) (text : List ℕ) (Q : List Placed → Type 0) (us : List Placed)
    → Then (Is marks.Star) (Then (λ l. l ≡ Text text) Q) us → Spelled (suc n) (WrittenText text) Q us
unfolding SpellsValue
referred_then n text Q us t =
    let u = t.holds in
    let whole : us ≡ t.first ∷ u.first ∷ u.rest = t.whole ∙ ap (λ vs. t.first ∷ vs) u.whole in
    (u.rest, rw whole (referred t.first u.first u.rest text t.is u.is), u.holds)

text_back : (n : ℕ) (text behind : List ℕ) (Q : List Placed → Type 0) → IsUtf8 text → Lexable behind Q
    → Both ((codes "*" ++ string_literal (chars text)) ++ behind) (Spelled (suc n) (WrittenText text) Q)
text_back n text behind Q u h =
    let lexed = mark_step marks.Star 42 _ (string_literal (chars text) ++ behind) (star _) refl
    (text_step text behind Q u h) in
    apart _ 42 _ (record { no_and = refl; no_equal = refl; no_space = refl; no_mark = refl })
    (weaker _ _ _ (λ us t. referred_then n text Q us t) lexed)

-- an integer
integer_then : (n size : ℕ) (Q : List Placed → Type 0) (us : List Placed)
    → Then (λ l. l ≡ Integer (Some size) [] true) Q us → Spelled (suc n) (WrittenInt false size []) Q us
integer_then n size Q us t = one_token n (WrittenInt false size []) Q us
    (record { first = t.first; rest = t.rest; whole = t.whole; is = rw t.is (an_int size [] true); holds = t.holds })

negated_then : (n size : ℕ) (Q : List Placed → Type 0) (us : List Placed)
    → Then (Is marks.Minus) (Then (λ l. l ≡ Integer (Some size) [] true) Q) us
    → Spelled (suc n) (WrittenInt true size []) Q us
unfolding SpellsValue
negated_then n size Q us t =
    let u = t.holds in
    let whole : us ≡ t.first ∷ u.first ∷ u.rest = t.whole ∙ ap (λ vs. t.first ∷ vs) u.whole in
    (u.rest, rw whole (negative t.first u.first u.rest size [] true t.is u.is), u.holds)

int_back : (n : ℕ) (minus_too : Bool) (size : ℕ) (behind : List ℕ) (Q : List Placed → Type 0) → size < 2 ^ 128
    → Stops behind → Lexable behind Q
    → Both (written_chars (WrittenInt minus_too size []) ++ behind) (Spelled (suc n) (WrittenInt minus_too size []) Q)
int_back n minus_too size behind Q lt k h =
    let p = number_piece size behind lt k in
    let f = digit_facts p.first p.digit in
    let lexed = token_step (λ l. l ≡ Integer (Some size) [] true) Q
    (Integer (Some size) [] true) p.first p.front behind refl p.read refl h in
    let same : (decimal size ++ []) ++ behind ≡ p.first ∷ (p.front ++ behind) =
    ap (λ cs. cs ++ behind) (append-nil (decimal size) ∙ p.whole) in
    by_case minus_too p f lexed same
  where
    by_case : (b : Bool) (p : NumberPiece size behind) → DigitFacts p.first
        → Lexable (p.first ∷ (p.front ++ behind)) (Then (λ l. l ≡ Integer (Some size) [] true) Q)
        → (decimal size ++ []) ++ behind ≡ p.first ∷ (p.front ++ behind)
        → Both (written_chars (WrittenInt b size []) ++ behind) (Spelled (suc n) (WrittenInt b size []) Q)
    by_case false p f lexed same =
        subst (λ cs. Both cs (Spelled (suc n) (WrittenInt false size []) Q)) (sym same)
        (apart _ p.first (p.front ++ behind) (record {
          no_and = f.no_and;
          no_equal = f.no_equal;
          no_space = f.space;
          no_mark = f.no_mark;
        }) (weaker _ _ _ (λ us t. integer_then n size Q us t) lexed))
    by_case true p f lexed same =
        let marked = mark_step marks.Minus 45 _ (p.first ∷ (p.front ++ behind))
        (minus p.first (p.front ++ behind) f.no_greater f.no_equal) refl lexed in
        subst (λ cs. Both (45 ∷ cs) (Spelled (suc n) (WrittenInt true size []) Q)) (sym same)
        (apart _ 45 (p.first ∷ (p.front ++ behind))
        (record { no_and = refl; no_equal = refl; no_space = refl; no_mark = refl })
        (weaker _ _ _ (λ us t. negated_then n size Q us t) marked))

-- ---- what has no literal

ascii_form : (bs : List ℕ) → IsAscii bs → encode_utf8_all (nfc bs) ≡ bs
ascii_form bs a = ap (λ cs. encode_utf8_all (nfc cs)) (sym (chars-IsAscii bs a)) ∙ nfc_ascii bs a

opaque_read : (behind : List ℕ) → Stops behind
    → piece_at 111 (112 ∷ 97 ∷ 113 ∷ 117 ∷ 101 ∷ behind) ≡ Ok (Token (Named (codes "opaque") false), behind)
unfolding unicode_ident encode
opaque_read behind k =
    word_piece 111 (112 ∷ 97 ∷ 113 ∷ 117 ∷ 101 ∷ []) behind refl refl k
    ∙ ap (λ name. Ok (Token (Named name false), behind))
    (ascii_form (codes "opaque") (ascii_bytes (codes "opaque") refl))

later_read : (behind : List ℕ) → Stops behind
    → piece_at 108 (97 ∷ 116 ∷ 101 ∷ 114 ∷ behind) ≡ Ok (Token (Named (codes "later") false), behind)
unfolding unicode_ident encode
later_read behind k =
    word_piece 108 (97 ∷ 116 ∷ 101 ∷ 114 ∷ []) behind refl refl k
    ∙ ap (λ name. Ok (Token (Named name false), behind)) (ascii_form (codes "later") (ascii_bytes (codes "later") refl))

unseen_read : (behind : List ℕ) → Stops behind
    → piece_at 117 (110 ∷ 115 ∷ 101 ∷ 101 ∷ 110 ∷ behind) ≡ Ok (Token (Named (codes "unseen") false), behind)
unfolding unicode_ident encode
unseen_read behind k =
    word_piece 117 (110 ∷ 115 ∷ 101 ∷ 101 ∷ 110 ∷ []) behind refl refl k
    ∙ ap (λ name. Ok (Token (Named name false), behind))
    (ascii_form (codes "unseen") (ascii_bytes (codes "unseen") refl))

unknown_then : (n : ℕ) (w : WrittenTree) (Q : List Placed → Type 0) (us : List Placed)
    → Then (Is marks.Question) (Then (λ l. IsUnknown l w) Q) us → Spelled (suc n) w Q us
unfolding SpellsValue
unknown_then n w Q us t =
    let u = t.holds in
    let whole : us ≡ t.first ∷ u.first ∷ u.rest = t.whole ∙ ap (λ vs. t.first ∷ vs) u.whole in
    (u.rest, rw whole (unknown t.first u.first u.rest w t.is u.is), u.holds)

unknown_back : (n : ℕ) (w : WrittenTree) (l : Lexeme) (c : ℕ) (front behind : List ℕ) (Q : List Placed → Type 0)
    → IsUnknown l w → piece_at c (front ++ behind) ≡ Ok (Token l, behind) → doubled_mark l ≡ None
    → Lexable behind Q → Both (63 ∷ c ∷ (front ++ behind)) (Spelled (suc n) w Q)
unknown_back n w l c front behind Q i read single h =
    let lexed = mark_step marks.Question 63 _ (c ∷ (front ++ behind)) (question _) refl
    (token_step (λ x. IsUnknown x w) Q l c front behind i read single h) in
    apart _ 63 (c ∷ (front ++ behind)) (record { no_and = refl; no_equal = refl; no_space = refl; no_mark = refl })
    (weaker _ _ _ (λ us t. unknown_then n w Q us t) lexed)

-- ---- references

-- what is read back of a value of so many levels
abbrev Back : ℕ → WrittenTree → Type 1
Back n w =
    (behind : List ℕ) (Q : List Placed → Type 0) → IsCanonical w → value_fits n w ≡ true → Stops behind
    → ((us : List Placed) → Q us → Quiet us) → Lexable behind Q
    → Both (written_chars w ++ behind) (Spelled n w Q)

point_then : (n : ℕ) (w : WrittenTree) (Q : List Placed → Type 0) (us : List Placed)
    → Then (Is marks.Ampersand) (Spelled n w Q) us → Spelled (suc n) (WrittenPoint false w) Q us
unfolding SpellsValue
point_then n w Q us t =
    let s = t.holds in (
      s.0,
      rw t.whole (point t.first t.rest t.rest s.0 false w t.is (missing t.rest (no_mut n t.rest s.0 w s.1)) s.1),
      s.2,
    )

mutable_then : (n : ℕ) (w : WrittenTree) (Q : List Placed → Type 0) (us : List Placed)
    → Then (Is marks.Ampersand) (Then (λ l. l ≡ Keyword words.Mut) (Spelled n w Q)) us
    → Spelled (suc n) (WrittenPoint true w) Q us
unfolding SpellsValue
mutable_then n w Q us t =
    let m = t.holds in
    let s = m.holds in
    let whole : us ≡ t.first ∷ m.first ∷ m.rest = t.whole ∙ ap (λ vs. t.first ∷ vs) m.whole in
    let is : is_word words.Mut m.first.lexeme ≡ true = rw m.is refl in
    (s.0, rw whole (point t.first (m.first ∷ m.rest) m.rest s.0 true w t.is (there m.first m.rest is) s.1), s.2)

point_back : (n : ℕ) (mutable : Bool) (w : WrittenTree) (cs : List ℕ) (Q : List Placed → Type 0)
    → Both cs (Spelled n w Q) → Both (mark_text mutable ++ cs) (Spelled (suc n) (WrittenPoint mutable w) Q)
point_back n false w cs Q b = both_weaker _ _ _ (λ us t. point_then n w Q us t) (another_and _ cs b)
point_back n true w cs Q b =
    let spaced = space_step (Spelled n w Q) cs b.no_space b.alone in
    let lexed = token_step (λ l. l ≡ Keyword words.Mut) (Spelled n w Q) (Keyword words.Mut) 109 (117 ∷ 116 ∷ [])
    (32 ∷ cs) refl (mut_read (32 ∷ cs) (at_space cs)) refl spaced in
    both_weaker _ _ _ (λ us t. mutable_then n w Q us t)
    (another_and _ _ (apart _ 109 (117 ∷ 116 ∷ 32 ∷ cs) (name_apart 109 m_starts) lexed))

-- ---- lists, over values of so many levels

-- characters that lex and begin with no space
record Spaced (cs : List ℕ) (Q : List Placed → Type 0) : Type 0 where
  lexed : Lexable cs Q
  no_space : skip_while is_space cs ≡ cs

module _ (n : ℕ) (inner : (w : WrittenTree) → Back n w) where
  last_then : (close : Mark) (w : WrittenTree) (Q : List Placed → Type 0) (us : List Placed)
      → Spelled n w (Then (Is close) Q) us → Listed n close (w ∷ []) Q us
  last_then close w Q us s =
      let t = s.2 in
      (t.rest, last us t.rest w t.first (subst (λ vs. SpellsValue n us w vs) t.whole s.1) t.is, t.holds)

  next_then : (close : Mark) (w : WrittenTree) (ws : List WrittenTree) (Q : List Placed → Type 0) (us : List Placed)
      → Spelled n w (Then (Is marks.Comma) (Listed n close ws Q)) us → Listed n close (w ∷ ws) Q us
  next_then close w ws Q us s =
      let t = s.2 in
      let l = t.holds in
      (l.0, next us t.rest l.0 w ws t.first (subst (λ vs. SpellsValue n us w vs) t.whole s.1) t.is l.1, l.2)

  -- a comma, a space and the other values
  comma_step : (R : List Placed → Type 0) (cs : List ℕ) → Spaced cs R → Lexable (44 ∷ 32 ∷ cs) (Then (Is marks.Comma) R)
  comma_step R cs s = mark_step marks.Comma 44 R (32 ∷ cs) (comma (32 ∷ cs)) refl (space_step R cs s.no_space s.lexed)

  values_back : (close : Mark) → IsQuiet close → (ws : WrittenTrees) (behind : List ℕ) (Q : List Placed → Type 0)
      → AreCanonical ws → values_pass (value_fits n) ws ≡ true → Stops behind
      → skip_while is_space behind ≡ behind → Lexable behind (Then (Is close) Q)
      → Spaced (joined (value_chars ws) ++ behind) (Listed n close (list_of ws) Q)
  values_back close c no_values behind Q r f k s h =
      record {
        lexed = weaker behind (Then (Is close) Q) (Listed n close [] Q)
            (λ us t. (t.rest, rw t.whole (closed t.first t.rest t.is), t.holds)) h;
        no_space = s;
      }
  values_back close c (more_values w no_values) behind Q r f k s h =
      let fits = and_left (value_fits n w) true f in
      let b = inner w behind (Then (Is close) Q) r.0 fits k (quiet_mark close Q c) h in
      record { lexed = weaker _ _ _ (λ us x. last_then close w Q us x) b.alone; no_space = b.no_space }
  values_back close c (more_values w (more_values v ws)) behind Q r f k s h =
      let others = values_back close c (more_values v ws) behind Q r.1
      (and_right (value_fits n w) (values_pass (value_fits n) (more_values v ws)) f) k s h in
      let rest = joined (value_chars (more_values v ws)) in
      let marked = comma_step _ (rest ++ behind) others in
      let b = inner w (44 ∷ 32 ∷ (rest ++ behind)) _ r.0
      (and_left (value_fits n w) (values_pass (value_fits n) (more_values v ws)) f) (at_comma _)
      (quiet_mark marks.Comma _ quiet_comma) marked in
      let same : (written_chars w ++ (44 ∷ 32 ∷ rest)) ++ behind ≡ written_chars w ++ (44 ∷ 32 ∷ (rest ++ behind)) =
      append_assoc (written_chars w) (44 ∷ 32 ∷ rest) behind in
      subst (λ cs. Spaced cs (Listed n close (list_of (more_values w (more_values v ws))) Q)) (sym same)
      (record {
        lexed = weaker _ _ _ (λ us x. next_then close w (list_of (more_values v ws)) Q us x) b.alone;
        no_space = b.no_space;
      })

  -- ---- tuples

  unit_then : (Q : List Placed → Type 0) (us : List Placed)
      → Then (Is marks.OpenRound) (Then (Is marks.CloseRound) Q) us → Spelled (suc n) (WrittenTuple no_values) Q us
  unfolding SpellsValue
  unit_then Q us t =
      let u = t.holds in
      let whole : us ≡ t.first ∷ u.first ∷ u.rest = t.whole ∙ ap (λ vs. t.first ∷ vs) u.whole in
      (u.rest, rw whole (unit t.first u.first u.rest t.is u.is), u.holds)

  tuple_then : (w : WrittenTree) (ws : WrittenTrees) (Q : List Placed → Type 0) (us : List Placed)
      → Then (Is marks.OpenRound) (Spelled n w (Then (Is marks.Comma) (Listed n marks.CloseRound (list_of ws) Q))) us
      → Spelled (suc n) (WrittenTuple (more_values w ws)) Q us
  unfolding SpellsValue
  tuple_then w ws Q us t =
      let s = t.holds in
      let c = s.2 in
      let l = c.holds in
      let first = subst (λ vs. SpellsValue n t.rest w vs) c.whole s.1 in
      let whole = tuple t.first c.first t.rest c.rest l.0 w (list_of ws) t.is first c.is l.1 in (
        l.0,
        rw t.whole (subst (λ vs. ValueForm (SpellsValue n) (t.first ∷ t.rest)
            (WrittenTuple (more_values w vs)) l.0) (same_values ws) whole),
        l.2,
      )

  round_step : (R : List Placed → Type 0) (cs : List ℕ) → Lexable cs R → Lexable (40 ∷ cs) (Then (Is marks.OpenRound) R)
  round_step R cs h = mark_step marks.OpenRound 40 R cs (open_round cs) refl h

  closed_round : (Q : List Placed → Type 0) (behind : List ℕ) → Lexable behind Q
      → Lexable (41 ∷ behind) (Then (Is marks.CloseRound) Q)
  closed_round Q behind h = mark_step marks.CloseRound 41 Q behind (close_round behind) refl h

  round_apart : (R : List Placed → Type 0) (cs : List ℕ) → Lexable (40 ∷ cs) R → Both (40 ∷ cs) R
  round_apart R cs h = apart R 40 cs (record { no_and = refl; no_equal = refl; no_space = refl; no_mark = refl }) h

  tuple_back : (ws : WrittenTrees) (behind : List ℕ) (Q : List Placed → Type 0) → AreCanonical ws
      → values_pass (value_fits n) ws ≡ true → Lexable behind Q
      → Both (tuple_text (value_chars ws) ++ behind) (Spelled (suc n) (WrittenTuple ws) Q)
  tuple_back no_values behind Q r f h = round_apart _ (41 ∷ behind)
      (weaker _ _ _ (λ us t. unit_then Q us t) (round_step _ (41 ∷ behind) (closed_round Q behind h)))
  tuple_back (more_values w no_values) behind Q r f h =
      let l = values_back marks.CloseRound quiet_round no_values (41 ∷ behind) Q tt refl (at_round behind) refl
      (closed_round Q behind h) in
      let marked = mark_step marks.Comma 44 _ (41 ∷ behind) (comma (41 ∷ behind)) refl l.lexed in
      let b = inner w (44 ∷ 41 ∷ behind) _ r.0 (and_left (value_fits n w) true f) (at_comma _)
      (quiet_mark marks.Comma _ quiet_comma) marked in
      let same : (written_chars w ++ (44 ∷ 41 ∷ [])) ++ behind ≡ written_chars w ++ (44 ∷ 41 ∷ behind) =
      append_assoc (written_chars w) (44 ∷ 41 ∷ []) behind in
      subst (λ cs. Both (40 ∷ cs) (Spelled (suc n) (WrittenTuple (more_values w no_values)) Q)) (sym same)
      (round_apart _ _ (weaker _ _ _ (λ us t. tuple_then w no_values Q us t) (round_step _ _ b.alone)))
  tuple_back (more_values w (more_values v ws)) behind Q r f h =
      let rest = joined (value_chars (more_values v ws)) in
      let l = values_back marks.CloseRound quiet_round (more_values v ws) (41 ∷ behind) Q r.1
      (and_right (value_fits n w) (values_pass (value_fits n) (more_values v ws)) f) (at_round behind) refl
      (closed_round Q behind h) in
      let marked = comma_step _ (rest ++ (41 ∷ behind)) l in
      let b = inner w (44 ∷ 32 ∷ (rest ++ (41 ∷ behind))) _ r.0
      (and_left (value_fits n w) (values_pass (value_fits n) (more_values v ws)) f) (at_comma _)
      (quiet_mark marks.Comma _ quiet_comma) marked in
      let same : ((written_chars w ++ (44 ∷ 32 ∷ rest)) ++ (41 ∷ [])) ++ behind ≡ written_chars w ++
      (44 ∷ 32 ∷ (rest ++ (41 ∷ behind))) =
      append_assoc (written_chars w ++ (44 ∷ 32 ∷ rest)) (41 ∷ []) behind
      ∙ append_assoc (written_chars w) (44 ∷ 32 ∷ rest) (41 ∷ behind) in
      subst (λ cs. Both (40 ∷ cs) (Spelled (suc n) (WrittenTuple (more_values w (more_values v ws))) Q)) (sym same)
      (round_apart _ _ (weaker _ _ _ (λ us t. tuple_then w (more_values v ws) Q us t) (round_step _ _ b.alone)))

  -- ---- rows

  row_then : (ws : WrittenTrees) (Q : List Placed → Type 0) (us : List Placed)
      → Then (Is marks.OpenSquare) (Listed n marks.CloseSquare (list_of ws) Q) us → Spelled (suc n) (WrittenRow ws) Q us
  unfolding SpellsValue
  row_then ws Q us t =
      let l = t.holds in
      let whole = row t.first t.rest l.0 (list_of ws) t.is l.1 in (
        l.0,
        rw t.whole (subst (λ vs. ValueForm (SpellsValue n) (t.first ∷ t.rest) (WrittenRow vs) l.0)
            (same_values ws) whole),
        l.2,
      )

  row_back : (ws : WrittenTrees) (behind : List ℕ) (Q : List Placed → Type 0) → AreCanonical ws
      → values_pass (value_fits n) ws ≡ true → Lexable behind Q
      → Both (written_chars (WrittenRow ws) ++ behind) (Spelled (suc n) (WrittenRow ws) Q)
  row_back ws behind Q r f h =
      let rest = joined (value_chars ws) in
      let closing = mark_step marks.CloseSquare 93 Q behind (close_square behind) refl h in
      let l = values_back marks.CloseSquare quiet_square ws (93 ∷ behind) Q r f (at_square behind) refl closing in
      let lexed = mark_step marks.OpenSquare 91 _ (rest ++ (93 ∷ behind)) (open_square _) refl l.lexed in
      subst (λ cs. Both (91 ∷ cs) (Spelled (suc n) (WrittenRow ws) Q)) (sym (append_assoc rest (93 ∷ []) behind))
      (apart _ 91 _ (record { no_and = refl; no_equal = refl; no_space = refl; no_mark = refl })
      (weaker _ _ _ (λ us t. row_then ws Q us t) lexed))

  -- ---- forms

  unit_form_then : (name : NameTree) (Q : List Placed → Type 0) (us : List Placed)
      → ((vs : List Placed) → Q vs → Quiet vs) → NameThen name Q us → Spelled (suc n) (WrittenUnitForm name) Q us
  unfolding SpellsValue
  unit_form_then name Q us q s = let k = q s.0 s.2 in (s.0, unit_form us s.0 name s.1 k.round k.curly, s.2)

  unit_form_back : (name : NameTree) (behind : List ℕ) (Q : List Placed → Type 0) → IsFormName name → Stops behind
      → ((vs : List Placed) → Q vs → Quiet vs) → Lexable behind Q
      → Both (form_chars name ++ behind) (Spelled (suc n) (WrittenUnitForm name) Q)
  unit_form_back name behind Q i k q h = both_weaker _ _ _ (λ us s. unit_form_then name Q us q s)
      (form_name_step name behind Q i k (λ vs x. (q vs x).path) h)

  tuple_form_then : (name : NameTree) (ws : WrittenTrees) (Q : List Placed → Type 0) (us : List Placed)
      → NameThen name (Then (Is marks.OpenRound) (Listed n marks.CloseRound (list_of ws) Q)) us
      → Spelled (suc n) (WrittenTupleForm name ws) Q us
  unfolding SpellsValue
  tuple_form_then name ws Q us s =
      let t = s.2 in
      let l = t.holds in
      let named = subst (λ vs. SpellsName us name vs) t.whole s.1 in
      let whole = tuple_form us t.rest l.0 t.first name (list_of ws) named t.is l.1 in
      (l.0, subst (λ vs. ValueForm (SpellsValue n) us (WrittenTupleForm name vs) l.0) (same_values ws) whole, l.2)

  no_path : (mark : Mark) (Q : List Placed → Type 0) → is_mark marks.PathSeparator (Marked mark) ≡ false
      → (us : List Placed) → Then (Is mark) Q us → NextIsNot (is_mark marks.PathSeparator) us
  no_path mark Q e us t = rw (t.whole, t.is) e

  tuple_form_back : (name : NameTree) (ws : WrittenTrees) (behind : List ℕ) (Q : List Placed → Type 0)
      → IsFormName name → AreCanonical ws → values_pass (value_fits n) ws ≡ true → Lexable behind Q
      → Both ((form_chars name ++ bracketed (value_chars ws)) ++ behind) (Spelled (suc n) (WrittenTupleForm name ws) Q)
  tuple_form_back name ws behind Q i r f h =
      let rest = joined (value_chars ws) in
      let l = values_back marks.CloseRound quiet_round ws (41 ∷ behind) Q r f (at_round behind) refl
      (closed_round Q behind h) in
      let lexed = round_step _ (rest ++ (41 ∷ behind)) l.lexed in
      let b = form_name_step name (40 ∷ (rest ++ (41 ∷ behind))) _ i (at_opening _)
      (no_path marks.OpenRound _ refl) lexed in
      let same : (form_chars name ++ (40 ∷ (rest ++ (41 ∷ [])))) ++ behind ≡ form_chars name ++
      (40 ∷ (rest ++ (41 ∷ behind))) =
      append_assoc (form_chars name) (40 ∷ (rest ++ (41 ∷ []))) behind
      ∙ ap (λ cs. form_chars name ++ (40 ∷ cs)) (append_assoc rest (41 ∷ []) behind) in
      subst (λ cs. Both cs (Spelled (suc n) (WrittenTupleForm name ws) Q)) (sym same)
      (both_weaker _ _ _ (λ us s. tuple_form_then name ws Q us s) b)

  -- ---- fields

  field_then : (name : List ℕ) (w : WrittenTree) (Q : List Placed → Type 0) (us : List Placed)
      → Then (IsNamed name) (Then (Is marks.Colon) (Spelled n w Q)) us
      → (rest : List Placed) × FieldForm (SpellsValue n) us (record { name = name; value = w }) rest × Q rest
  field_then name w Q us t =
      let c = t.holds in
      let s = c.holds in
      let whole : us ≡ t.first ∷ c.first ∷ c.rest = t.whole ∙ ap (λ vs. t.first ∷ vs) c.whole in
      (s.0, rw whole (a_field t.first c.first c.rest s.0 name t.is.0 w t.is.1 c.is s.1), s.2)

  -- a field and what follows it
  field_step : (name : List ℕ) (w : WrittenTree) (behind : List ℕ) (Q : List Placed → Type 0) → IsName name
      → IsCanonical w → value_fits n w ≡ true → Stops behind → ((us : List Placed) → Q us → Quiet us)
      → Lexable behind Q → Both (name_chars name ++ (58 ∷ 32 ∷ (written_chars w ++ behind)))
      (λ us. (rest : List Placed) × FieldForm (SpellsValue n) us (record { name = name; value = w }) rest × Q rest)
  field_step name w behind Q i r f k q h =
      let b = inner w behind Q r f k q h in
      let spaced = space_step (Spelled n w Q) (written_chars w ++ behind) b.no_space b.alone in
      let marked = mark_step marks.Colon 58 _ (32 ∷ (written_chars w ++ behind)) (colon _) refl spaced in
      both_weaker _ _ _ (λ us t. field_then name w Q us t)
      (name_step name (58 ∷ 32 ∷ (written_chars w ++ behind)) _ i (at_colon _) marked)

  last_field : (f : FieldTree) (Q : List Placed → Type 0) (us : List Placed)
      → (rest : List Placed) × FieldForm (SpellsValue n) us f rest × Then (Is marks.CloseCurly) Q rest
      → ListedFields n (f ∷ []) Q us
  last_field f Q us s =
      let t = s.2 in
      (t.rest, last us t.rest f t.first (subst (λ vs. FieldForm (SpellsValue n) us f vs) t.whole s.1) t.is, t.holds)

  next_field : (f : FieldTree) (fs : List FieldTree) (Q : List Placed → Type 0) (us : List Placed)
      → (rest : List Placed) × FieldForm (SpellsValue n) us f rest × Then (Is marks.Comma) (ListedFields n fs Q) rest
      → ListedFields n (f ∷ fs) Q us
  next_field f fs Q us s =
      let t = s.2 in
      let l = t.holds in
      (l.0, next us t.rest l.0 f fs t.first (subst (λ vs. FieldForm (SpellsValue n) us f vs) t.whole s.1) t.is l.1, l.2)

  -- the fields, and the bracket that closes them behind a space
  fields_back : (name : List ℕ) (w : WrittenTree) (fs : WrittenFields) (behind : List ℕ) (Q : List Placed → Type 0)
      → AreCanonicalFields (more_fields name w fs) → fields_pass (value_fits n) (more_fields name w fs) ≡ true
      → Lexable (32 ∷ behind) (Then (Is marks.CloseCurly) Q)
      → Spaced (joined (all_field_chars (more_fields name w fs)) ++ (32 ∷ behind))
      (ListedFields n (fields_of (more_fields name w fs)) Q)
  fields_back name w no_fields behind Q r f h =
      let b = field_step name w (32 ∷ behind) _ r.0 r.1 (and_left (value_fits n w) true f) (at_space behind)
      (quiet_mark marks.CloseCurly Q quiet_curly) h in
      let same : (name_chars name ++ (58 ∷ 32 ∷ written_chars w)) ++ (32 ∷ behind) ≡ name_chars name ++
      (58 ∷ 32 ∷ (written_chars w ++ (32 ∷ behind))) =
      append_assoc (name_chars name) (58 ∷ 32 ∷ written_chars w) (32 ∷ behind) in
      subst (λ cs. Spaced cs (ListedFields n (fields_of (more_fields name w no_fields)) Q)) (sym same)
      (record {
        lexed = weaker _ _ _ (λ us s. last_field (record { name = name; value = w }) Q us s) b.alone;
        no_space = b.no_space;
      })
  fields_back name w (more_fields other v fs) behind Q r f h =
      let others = fields_back other v fs behind Q r.2
      (and_right (value_fits n w) (fields_pass (value_fits n) (more_fields other v fs)) f) h in
      let rest = joined (all_field_chars (more_fields other v fs)) in
      let marked = comma_step _ (rest ++ (32 ∷ behind)) others in
      let b = field_step name w (44 ∷ 32 ∷ (rest ++ (32 ∷ behind))) _ r.0 r.1
      (and_left (value_fits n w) (fields_pass (value_fits n) (more_fields other v fs)) f) (at_comma _)
      (quiet_mark marks.Comma _ quiet_comma) marked in
      let field = name_chars name ++ (58 ∷ 32 ∷ written_chars w) in
      let same : (field ++ (44 ∷ 32 ∷ rest)) ++ (32 ∷ behind) ≡ name_chars name ++
      (58 ∷ 32 ∷ (written_chars w ++ (44 ∷ 32 ∷ (rest ++ (32 ∷ behind))))) =
      append_assoc field (44 ∷ 32 ∷ rest) (32 ∷ behind)
      ∙ append_assoc (name_chars name) (58 ∷ 32 ∷ written_chars w) (44 ∷ 32 ∷ (rest ++ (32 ∷ behind))) in
      subst (λ cs. Spaced cs (ListedFields n (fields_of (more_fields name w (more_fields other v fs))) Q)) (sym same)
      (record {
        lexed = weaker _ _ _ (λ us s. next_field (record { name = name; value = w })
            (fields_of (more_fields other v fs)) Q us s) b.alone;
        no_space = b.no_space;
      })

  brace_form_then : (name : NameTree) (fs : WrittenFields) (Q : List Placed → Type 0) (us : List Placed)
      → NameThen name (Then (Is marks.OpenCurly) (ListedFields n (fields_of fs) Q)) us
      → Spelled (suc n) (WrittenBraceForm name fs) Q us
  unfolding SpellsValue
  brace_form_then name fs Q us s =
      let t = s.2 in
      let l = t.holds in
      let named = subst (λ vs. SpellsName us name vs) t.whole s.1 in
      let whole = brace_form us t.rest l.0 t.first name (fields_of fs) named t.is l.1 in
      (l.0, subst (λ vs. ValueForm (SpellsValue n) us (WrittenBraceForm name vs) l.0) (same_fields fs) whole, l.2)

  -- fields in their brackets, behind a space
  braced_back : (fs : WrittenFields) (behind : List ℕ) (Q : List Placed → Type 0) → AreCanonicalFields fs
      → fields_pass (value_fits n) fs ≡ true → Lexable behind Q
      → Lexable (braced (all_field_chars fs) ++ behind) (Then (Is marks.OpenCurly) (ListedFields n (fields_of fs) Q))
  braced_back no_fields behind Q r f h =
      let closing = mark_step marks.CloseCurly 125 Q behind (close_curly behind) refl h in
      let l = weaker (125 ∷ behind) (Then (Is marks.CloseCurly) Q) (ListedFields n [] Q)
      (λ us t. (t.rest, rw t.whole (closed t.first t.rest t.is), t.holds)) closing in
      space_step (Then (Is marks.OpenCurly) (ListedFields n [] Q)) (123 ∷ 125 ∷ behind) refl
      (mark_step marks.OpenCurly 123 (ListedFields n [] Q) (125 ∷ behind) (open_curly _) refl l)
  braced_back (more_fields name w fs) behind Q r f h =
      let rest = joined (all_field_chars (more_fields name w fs)) in
      let closing = space_step (Then (Is marks.CloseCurly) Q) (125 ∷ behind) refl
      (mark_step marks.CloseCurly 125 Q behind (close_curly behind) refl h) in
      let l = fields_back name w fs (125 ∷ behind) Q r f closing in
      let opened = mark_step marks.OpenCurly 123 (ListedFields n (fields_of (more_fields name w fs)) Q)
      (32 ∷ (rest ++ (32 ∷ 125 ∷ behind))) (open_curly _) refl
      (space_step (ListedFields n (fields_of (more_fields name w fs)) Q)
      (rest ++ (32 ∷ 125 ∷ behind)) l.no_space l.lexed) in
      let lexed = space_step (Then (Is marks.OpenCurly) (ListedFields n (fields_of (more_fields name w fs)) Q))
      (123 ∷ 32 ∷ (rest ++ (32 ∷ 125 ∷ behind))) refl opened in
      subst (λ cs. Lexable (32 ∷ 123 ∷ 32 ∷ cs)
      (Then (Is marks.OpenCurly) (ListedFields n (fields_of (more_fields name w fs)) Q)))
      (sym (append_assoc rest (32 ∷ 125 ∷ []) behind)) lexed

  braces_begin : (fs : WrittenFields) (behind : List ℕ) → Stops (braced (all_field_chars fs) ++ behind)
  braces_begin no_fields behind = at_space _
  braces_begin (more_fields name w fs) behind = at_space _

  brace_form_back : (name : NameTree) (fs : WrittenFields) (behind : List ℕ) (Q : List Placed → Type 0)
      → IsFormName name → AreCanonicalFields fs → fields_pass (value_fits n) fs ≡ true → Lexable behind Q
      → Both ((form_chars name ++ braced (all_field_chars fs)) ++ behind) (Spelled (suc n) (WrittenBraceForm name fs) Q)
  brace_form_back name fs behind Q i r f h =
      let b = form_name_step name (braced (all_field_chars fs) ++ behind) _ i (braces_begin fs behind)
      (no_path marks.OpenCurly _ refl) (braced_back fs behind Q r f h) in
      subst (λ cs. Both cs (Spelled (suc n) (WrittenBraceForm name fs) Q))
      (sym (append_assoc (form_chars name) (braced (all_field_chars fs)) behind))
      (both_weaker _ _ _ (λ us s. brace_form_then name fs Q us s) b)

  -- ---- each form

  form_back : (w : WrittenTree) → Back (suc n) w
  form_back (WrittenFlag b) behind Q r f k q h = flag_back n b behind Q k h
  form_back (WrittenChar c) behind Q r f k q h = char_back n c behind Q r h
  form_back (WrittenByte b) behind Q r f k q h = absurd r
  form_back (WrittenInt minus_too size suffix) behind Q r f k q h =
      subst (λ cs. Both (written_chars (WrittenInt minus_too size cs) ++ behind)
      (Spelled (suc n) (WrittenInt minus_too size cs) Q)) (sym r.1) (int_back n minus_too size behind Q r.0 k h)
  form_back (WrittenStr text) behind Q r f k q h = str_back n text behind Q r h
  form_back (WrittenText text) behind Q r f k q h = text_back n text behind Q r h
  form_back WrittenOpaque behind Q r f k q h =
      unknown_back n WrittenOpaque (Named (codes "opaque") false) 111
      (112 ∷ 97 ∷ 113 ∷ 117 ∷ 101 ∷ []) behind Q an_opaque (opaque_read behind k) refl h
  form_back WrittenLater behind Q r f k q h =
      unknown_back n WrittenLater (Named (codes "later") false) 108 (97 ∷ 116 ∷ 101 ∷ 114 ∷ []) behind Q a_later
      (later_read behind k) refl h
  form_back WrittenUnseen behind Q r f k q h =
      unknown_back n WrittenUnseen (Named (codes "unseen") false) 117
      (110 ∷ 115 ∷ 101 ∷ 101 ∷ 110 ∷ []) behind Q an_unseen (unseen_read behind k) refl h
  form_back (WrittenPoint mutable w) behind Q r f k q h =
      subst (λ cs. Both cs (Spelled (suc n) (WrittenPoint mutable w) Q))
      (sym (append_assoc (mark_text mutable) (written_chars w) behind))
      (point_back n mutable w (written_chars w ++ behind) Q (inner w behind Q r f k q h))
  form_back (WrittenTuple ws) behind Q r f k q h = tuple_back ws behind Q r f h
  form_back (WrittenRow ws) behind Q r f k q h = row_back ws behind Q r f h
  form_back (WrittenUnitForm name) behind Q r f k q h = unit_form_back name behind Q r k q h
  form_back (WrittenTupleForm name ws) behind Q r f k q h = tuple_form_back name ws behind Q r.0 r.1 f h
  form_back (WrittenBraceForm name fs) behind Q r f k q h = brace_form_back name fs behind Q r.0 r.1 f h

-- at each number of levels
back : (n : ℕ) (w : WrittenTree) → Back n w
back zero w = λ behind Q r f k q h. absurd cc
back (suc n) w = form_back n (back n) w

-- a value by itself
pub lexes_alone : (n : ℕ) (w : WrittenTree) → IsCanonical w → value_fits n w ≡ true
    → Both (written_chars w) (λ us. SpellsValue n us w [])
unfolding units
lexes_alone n w r f =
    let ended : Lexable [] (λ us. us ≡ []) = λ at. ([], ends at [] (nothing at), refl) in
    let b = back n w [] (λ us. us ≡ []) r f at_end
    (λ us e. record { path = rw e refl; round = rw e refl; curly = rw e refl }) ended in
    subst (λ cs. Both cs (λ us. SpellsValue n us w [])) (append-nil (written_chars w))
    (both_weaker (written_chars w ++ []) (Spelled n w (λ us. us ≡ [])) (λ us. SpellsValue n us w [])
    (λ us s. subst (λ vs. SpellsValue n us w vs) s.2 s.1) b)

-- a text that begins with no byte order mark lexes from its first byte on
has_tokens : (bytes cs : List ℕ) (Q : List Placed → Type 0) → Encodes cs bytes → Both cs Q
    → (tokens : List Placed) × HasTokens bytes tokens × Q (units tokens)
has_tokens bytes cs Q e b =
    let same : chars bytes ≡ cs = ap chars (sym e.1) ∙ chars-encodes cs e.0 in
    let width : mark_width (chars bytes) ≡ 0 = rw (same, b.no_mark) refl in
    let text : without_mark (chars bytes) ≡ cs = rw (same, b.no_mark) refl in
    let r = b.alone 0 in
    (r.0, ((cs, e), rw (width, text) r.1), r.2)

pub reads_back : ReadsBack
reads_back w r f = has_tokens (written_text w) (written_chars w) (λ us. SpellsValue 64 us w []) (value_encodes w r)
    (lexes_alone 64 w r f)
