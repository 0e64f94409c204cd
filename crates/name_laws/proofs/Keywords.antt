-- What is a keyword in NFC is written so.
use Rattle.std.proofs.Common.{◌≡◌, ℕ, ◌+◌, ◌/◌, zero, suc, ◌-◌, ◌%◌, ◌<◌, ◌≤◌, Bool, true, false, not, ◌||◌, ◌==◌}
use Rattle.std.proofs.Common.{List, [], ◌∷◌, ◌++◌, All, flat_map, chars, codes, encode_utf8_all, refl}
use Rattle.std.proofs.Common.{sym, ap, subst, ◌∙◌, arith, inl, inr}
use Rattle.std.proofs.lemmas.Bool.{cases_Bool, cases_eq, and_parts, and_from, eqb-true}
use Rattle.std.proofs.lemmas.Bool.Decides.{nat_tests}
use Rattle.std.proofs.lemmas.List.{get_or_default}
use Rattle.std.proofs.lemmas.Str.{chars-encodes, chars-IsAscii}
use Rattle.std.specs.Prelude.{is_some, nat_eq}
use Rattle.std.specs.Char.{is_ascii_alphanumeric}
use Rattle.std.specs.List.{list_all}
use Rattle.std.specs.Str.{IsAscii, bytes_eq}
use Rattle.ucd_normal.specs.declared.forms.Form.TheVariants.{Nfd, Nfc}
use Rattle.ucd_normal.specs.Decomposition.{decomposition, if_canonical}
use Rattle.ucd_normal.proofs.CompositionLemmas.{is_empty}
use Rattle.unicode_normalization.specs.Decompose.{decompose}
use Rattle.unicode_normalization.specs.Forms.{decomposed, nfc, nfd}
use Rattle.unicode_normalization.specs.Hangul.{is_syllable, decompose_hangul}
use Rattle.unicode_normalization.specs.Order.{is_reorderable, sink, canonical_order}
use Rattle.unicode_normalization.proofs.DecomposeLemmas.{decompose-syllable, decompose-mapped, decompose-final}
use Rattle.unicode_normalization.proofs.FormsLemmas.{normalize-Nfd, normalize-ascii, nfd-nfc}
use Rattle.unicode_normalization.proofs.HangulLemmas.{decompose_hangul-two, decompose_hangul-three}
use Rattle.unicode_normalization.proofs.OrderLemmas.{sink-past, sink-stays, sink-nil, canonical_order-cons}
use Rattle.decl_lexer.specs.declared.words.Word.{Word}
use Rattle.decl_lexer.specs.Tables.{with_text}
use Rattle.decl_lexer.specs.Words.{words, word_of}
use Rattle.name_laws.specs.Laws.{KeywordsAreWritten}
use Rattle.name_laws.proofs.Tables.{by_rows, full, is_plain, all_foreign}
use Rattle.name_laws.proofs.Composed.{nfc_of_identifier, final_from}

-- ---- order keeps what it is given

-- what holds of a list with a character sunk into it holds of both
sink_parts : (p : ℕ → Bool) (c : ℕ) (ds : List ℕ) → list_all p (sink c ds) ≡ true
    → (p c ≡ true) × (list_all p ds ≡ true)
sink_parts p c [] h = let e : list_all p (c ∷ []) ≡ true = ap (list_all p) (sym (sink-nil c)) ∙ h in
    ((and_parts (p c) true e).0, refl)
sink_parts p c (d ∷ ds) h =
    elim (cases_Bool (is_reorderable c d)) [
      | inl past ↦
          let e : list_all p (d ∷ sink c ds) ≡ true = ap (list_all p) (sym (sink-past c d ds past)) ∙ h in
          let a = and_parts (p d) (list_all p (sink c ds)) e in
          let b = sink_parts p c ds a.1 in
          (b.0, and_from (p d) (list_all p ds) a.0 b.1)
      | inr stays ↦
          let e : list_all p (c ∷ d ∷ ds) ≡ true = ap (list_all p) (sym (sink-stays c d ds stays)) ∙ h in
          and_parts (p c) (list_all p (d ∷ ds)) e
    ]

order_parts : (p : ℕ → Bool) (cs : List ℕ) → list_all p (canonical_order cs) ≡ true → list_all p cs ≡ true
order_parts p [] h = refl
order_parts p (c ∷ cs) h =
    let e : list_all p (sink c (canonical_order cs)) ≡ true = ap (list_all p) (sym (canonical_order-cons c cs)) ∙ h in
    let a = sink_parts p c (canonical_order cs) e in
    and_from (p c) (list_all p cs) a.0 (order_parts p cs a.1)

-- ---- what decomposes into plain characters is one

foreign_jamo : (n : ℕ) (ts : List ℕ) → 0x1100 ≤ n → list_all is_plain (n ∷ ts) ≡ true → ⊥
foreign_jamo n ts low h =
    let a = (and_parts (is_plain n) (list_all is_plain ts) h).0 in
    let b = (and_parts (is_ascii_alphanumeric n || n == 95) (not (n == 75)) a).0 in
    large n low b
  where
    large : (m : ℕ) → 0x1100 ≤ m → (is_ascii_alphanumeric m || m == 95) ≡ true → ⊥
    large m le e = grind (arith, nat_tests)

plain_hangul : (c : ℕ) → list_all is_plain (decompose_hangul c) ≡ true → ⊥
plain_hangul c h =
    elim (cases_eq ((c - 0xAC00) % 28) 0) [
      | inl same ↦
          foreign_jamo (0x1100 + (c - 0xAC00) / 588) ((0x1161 + (c - 0xAC00) % 588 / 28) ∷ []) (omega arith)
          (ap (list_all is_plain) (sym (decompose_hangul-two c same)) ∙ h)
      | inr other ↦
          foreign_jamo (0x1100 + (c - 0xAC00) / 588)
          ((0x1161 + (c - 0xAC00) % 588 / 28) ∷ (0x11A7 + (c - 0xAC00) % 28) ∷ []) (omega arith)
          (ap (list_all is_plain) (sym (decompose_hangul-three c other)) ∙ h)
    ]

plain_one : (c : ℕ) → list_all is_plain (decompose Nfd c) ≡ true → is_plain c ≡ true
plain_one c h =
    elim (cases_Bool (is_syllable c)) [
      | inl is_one ↦ absurd (plain_hangul c (ap (list_all is_plain) (sym (decompose-syllable Nfd c is_one)) ∙ h))
      | inr other ↦ elim (cases_Bool (is_empty (if_canonical (decomposition c)))) [
        | inl none_there ↦
            (and_parts (is_plain c) true
            (ap (list_all is_plain) (sym (decompose-final Nfd c (final_from c other none_there))) ∙ h)).0
        | inr some ↦
            let e : list_all is_plain (full by_rows c) ≡ true =
            ap (list_all is_plain) (sym (decompose-mapped Nfd c other some)) ∙ h in
            let k = all_foreign c some in
            let clash : false ≡ true = rw e at k in
            absurd cc
      ]
    ]

plain_parts : (xs ys : List ℕ) → list_all is_plain (xs ++ ys) ≡ true
    → (list_all is_plain xs ≡ true) × (list_all is_plain ys ≡ true)
plain_parts [] ys h = (refl, h)
plain_parts (x ∷ xs) ys h =
    let a = and_parts (is_plain x) (list_all is_plain (xs ++ ys)) h in
    let b = plain_parts xs ys a.1 in
    (and_from (is_plain x) (list_all is_plain xs) a.0 b.0, b.1)

plain_all : (cs : List ℕ) → list_all is_plain (flat_map (decompose Nfd) cs) ≡ true → list_all is_plain cs ≡ true
plain_all [] h = refl
plain_all (c ∷ cs) h =
    let a = plain_parts (decompose Nfd c) (flat_map (decompose Nfd) cs) h in
    and_from (is_plain c) (list_all is_plain cs) (plain_one c a.0) (plain_all cs a.1)

-- ---- plain characters are ASCII

plain_low : (c : ℕ) → is_plain c ≡ true → c < 128
plain_low c h = let b = (and_parts (is_ascii_alphanumeric c || c == 95) (not (c == 75)) h).0 in low c b
  where
    low : (m : ℕ) → (is_ascii_alphanumeric m || m == 95) ≡ true → m < 128
    low m e = grind (arith, nat_tests)

plain_ascii : (bs : List ℕ) → list_all is_plain bs ≡ true → IsAscii bs
plain_ascii [] h i = omega arith
plain_ascii (b ∷ bs) h zero = plain_low b (and_parts (is_plain b) (list_all is_plain bs) h).0
plain_ascii (b ∷ bs) h (suc i) = plain_ascii bs (and_parts (is_plain b) (list_all is_plain bs) h).1 i

all_low : (bs : List ℕ) → IsAscii bs → All (λ c. c < 128) bs
all_low bs h k d lt = rw (get_or_default bs k d 0 lt) (h k)

-- plain text in NFC was written so
plain_written : (cs : List ℕ) → list_all is_plain (nfc cs) ≡ true → nfc cs ≡ cs
unfolding decomposed
plain_written cs h =
    let n = nfc cs in
    let same : nfd n ≡ n = normalize-ascii Nfd n (all_low n (plain_ascii n h)) in
    let parts : decomposed Nfd cs ≡ n = sym (normalize-Nfd cs) ∙ sym (nfd-nfc cs) ∙ same in
    let ordered : list_all is_plain (canonical_order (flat_map (decompose Nfd) cs)) ≡ true =
    ap (list_all is_plain) parts ∙ h in
    let all = plain_all cs (order_parts is_plain (flat_map (decompose Nfd) cs) ordered) in
    normalize-ascii Nfc cs (all_low cs (plain_ascii cs all))

-- ---- keywords

same_bytes : (xs ys : List ℕ) → bytes_eq xs ys ≡ true → xs ≡ ys
same_bytes [] [] h = refl
same_bytes [] (y ∷ ys) h = absurd cc
same_bytes (x ∷ xs) [] h = absurd cc
same_bytes (x ∷ xs) (y ∷ ys) h =
    let parts = and_parts (nat_eq x y) (bytes_eq xs ys) h in
    ap (λ z. z ∷ xs) (eqb-true x y parts.0) ∙ ap (λ zs. y ∷ zs) (same_bytes xs ys parts.1)

abbrev plain_entry : List ℕ × Word → Bool
plain_entry e = list_all is_plain e.0

word_plain : (entries : List (List ℕ × Word)) (text : List ℕ) → list_all plain_entry entries ≡ true
    → is_some (with_text entries text) ≡ true → list_all is_plain text ≡ true
word_plain [] text a h = absurd cc
word_plain (e ∷ es) text a h =
    let parts = and_parts (plain_entry e) (list_all plain_entry es) a in
    elim (cases_Bool (bytes_eq e.0 text)) [
      | inl is_one ↦ subst (λ xs. list_all is_plain xs ≡ true) (same_bytes e.0 text is_one) parts.0
      | inr other ↦ (let k : is_some (with_text es text) ≡ true = rw other at h in word_plain es text parts.1 k)
    ]

words_plain : list_all plain_entry words ≡ true
words_plain = refl

name_plain : (name : List ℕ) → (is_some (word_of name) || bytes_eq name (codes "_")) ≡ true
    → list_all is_plain name ≡ true
name_plain name h =
    elim (cases_Bool (is_some (word_of name))) [
      | inl is_one ↦ word_plain words name words_plain is_one
      | inr other ↦ (let k : bytes_eq name (codes "_") ≡ true = rw other at h in
          subst (λ xs. list_all is_plain xs ≡ true) (sym (same_bytes name (codes "_") k)) refl)
    ]

pub keywords_are_written : KeywordsAreWritten
keywords_are_written cs i h =
    let name = encode_utf8_all (nfc cs) in
    let plain = name_plain name h in
    let itself : chars name ≡ name = chars-IsAscii name (plain_ascii name plain) in
    let back : chars name ≡ nfc cs = chars-encodes (nfc cs) (nfc_of_identifier cs i).1 in
    let same : name ≡ nfc cs = sym itself ∙ back in
    plain_written cs (subst (λ xs. list_all is_plain xs ≡ true) same plain)
