-- The names that the lexer makes of identifiers.
use Rattle.std.proofs.Common.{◌≡◌, ℕ, Bool, true, false, cond, List, [], ◌∷◌, Option, Some, None, chars, codes}
use Rattle.std.proofs.Common.{encode_utf8_all, refl, sym, ap, ◌∙◌}
use Rattle.std.proofs.lemmas.Bool.{and_from, or_left, or_right}
use Rattle.std.proofs.lemmas.List.Sums.{take_while-cons}
use Rattle.std.proofs.lemmas.Slice.Eq.{bytes_eq-Decides}
use Rattle.std.proofs.lemmas.Str.{chars-encodes}
use Rattle.std.specs.Prelude.{is_some}
use Rattle.std.specs.Option.{option_map_or}
use Rattle.std.specs.List.{list_all, take_while}
use Rattle.std.specs.Str.{bytes_eq}
use Rattle.unicode_ident.specs.Ident.{is_xid_continue}
use Rattle.unicode_normalization.specs.Forms.{nfc}
use Rattle.unicode_normalization.proofs.FormsLemmas.{nfc_idem}
use Rattle.decl_lexer.specs.declared.marks.Mark.TheVariants.{Underscore}
use Rattle.decl_lexer.specs.declared.words.Word.{Word}
use Rattle.decl_lexer.specs.Begins.{Named, Keyword, Marked}
use Rattle.decl_lexer.specs.Names.{is_name_start, name_of, lexeme_of}
use Rattle.decl_lexer.specs.Text.{first_passes}
use Rattle.decl_lexer.specs.Words.{word_of, can_be_raw}
use Rattle.decl_lexer.proofs.NameLemmas.{start_continues}
use Rattle.value_syntax.specs.Canonical.{IsName}
use Rattle.name_laws.specs.Identifiers.{is_begun, IsIdentifier}
use Rattle.name_laws.proofs.Composed.{nfc_of_identifier}
use Rattle.name_laws.proofs.Keywords.{keywords_are_written}
use Rattle.file_names.specs.Items.{IsNamed}

-- ---- an identifier at the start of a text

all_taken : (p : ℕ → Bool) (cs : List ℕ) → list_all p (take_while p cs) ≡ true
all_taken p [] = refl
all_taken p (c ∷ cs) = ap (list_all p) (take_while-cons p c cs) ∙ by_first (p c) refl (all_taken p cs)
  where
    by_first : (b : Bool) → p c ≡ b → list_all p (take_while p cs) ≡ true
        → list_all p (cond b (c ∷ take_while p cs) []) ≡ true
    by_first true e h = and_from (p c) (list_all p (take_while p cs)) e h
    by_first false e h = refl

pub identifier_of : (c : ℕ) (cs : List ℕ) → is_name_start c ≡ true → IsIdentifier (name_of (c ∷ cs))
identifier_of c cs h =
    let whole : name_of (c ∷ cs) ≡ c ∷ take_while is_xid_continue cs =
    take_while-cons is_xid_continue c cs ∙ rw (start_continues c h) refl in
    record { begun = ap is_begun whole ∙ h; continued = all_taken is_xid_continue (c ∷ cs) }

-- ---- its text in NFC

-- the text of the name that an identifier is
abbrev pub named : List ℕ → List ℕ
named cs = encode_utf8_all (nfc cs)

same_begun : (cs : List ℕ) → first_passes is_name_start cs ≡ is_begun cs
same_begun [] = refl
same_begun (c ∷ cs) = refl

keyword_written : (cs : List ℕ) → IsIdentifier cs → is_some (word_of (named cs)) ≡ true → nfc cs ≡ cs
keyword_written cs i e =
    keywords_are_written cs i (or_left (is_some (word_of (named cs))) (bytes_eq (named cs) (codes "_")) e)

underscore_written : (cs : List ℕ) → IsIdentifier cs → bytes_eq (named cs) (codes "_") ≡ true → nfc cs ≡ cs
underscore_written cs i e =
    keywords_are_written cs i (or_right (is_some (word_of (named cs))) (bytes_eq (named cs) (codes "_")) e)

-- a name by what is left to show of it
name_by : (cs : List ℕ) → IsIdentifier cs → bytes_eq (named cs) (codes "_") ≡ false
    → (is_some (word_of (named cs)) ≡ true → can_be_raw (named cs) ≡ true) → IsName (named cs)
name_by cs i u w =
    let n = nfc_of_identifier cs i in
    let same : chars (named cs) ≡ nfc cs = chars-encodes (nfc cs) n.1 in
    record {
      utf8 = (nfc cs, (n.1, refl));
      starts = ap (first_passes is_name_start) same ∙ same_begun (nfc cs) ∙ n.0.begun;
      continues = ap (list_all is_xid_continue) same ∙ n.0.continued;
      composed = ap nfc same ∙ nfc_idem cs ∙ sym same;
      not_underscore = u;
      may_be_raw = w;
    }

-- ---- names that are not raw

no_word : (o : Option Word) → o ≡ None → is_some o ≡ true → ⊥
no_word None e h = absurd cc
no_word (Some word) e h = absurd cc

plain_name : (cs : List ℕ) → IsIdentifier cs → bytes_eq (encode_utf8_all cs) (codes "_") ≡ false
    → word_of (encode_utf8_all cs) ≡ None → IsName (named cs)
plain_name cs i u n = name_by cs i (by_test (bytes_eq (named cs) (codes "_")) refl) (λ w. absurd (not_word w))
  where
    not_word : is_some (word_of (named cs)) ≡ true → ⊥
    not_word w =
        let back = ap (λ (xs : List ℕ). is_some (word_of (encode_utf8_all xs))) (keyword_written cs i w) in
        no_word (word_of (encode_utf8_all cs)) n (sym back ∙ w)

    by_test : (b : Bool) → bytes_eq (named cs) (codes "_") ≡ b → bytes_eq (named cs) (codes "_") ≡ false
    by_test false e = e
    by_test true e =
        let back = ap (λ (xs : List ℕ). bytes_eq (encode_utf8_all xs) (codes "_")) (underscore_written cs i e) in
        let clash : false ≡ true = sym u ∙ sym back ∙ e in
        absurd cc

-- the token that an identifier is
pub lexeme_named : (cs : List ℕ) → IsIdentifier cs → IsNamed (lexeme_of cs)
lexeme_named cs i = by_underscore (bytes_eq (encode_utf8_all cs) (codes "_")) refl
  where
    by_word : bytes_eq (encode_utf8_all cs) (codes "_") ≡ false → (o : Option Word)
        → word_of (encode_utf8_all cs) ≡ o → IsNamed (option_map_or Keyword o (Named (named cs) false))
    by_word u (Some word) e = tt
    by_word u None e = plain_name cs i u e

    by_underscore : (b : Bool) → bytes_eq (encode_utf8_all cs) (codes "_") ≡ b
        → IsNamed (cond b (Marked Underscore)
        (option_map_or Keyword (word_of (encode_utf8_all cs)) (Named (named cs) false)))
    by_underscore true e = tt
    by_underscore false e = by_word e (word_of (encode_utf8_all cs)) refl

-- ---- raw names

pub raw_name : (cs : List ℕ) → IsIdentifier cs → can_be_raw (encode_utf8_all cs) ≡ true → IsName (named cs)
raw_name cs i r =
    name_by cs i (by_test (bytes_eq (named cs) (codes "_")) refl) (λ w. raw_again (keyword_written cs i w))
  where
    raw_again : nfc cs ≡ cs → can_be_raw (named cs) ≡ true
    raw_again same = ap (λ (xs : List ℕ). can_be_raw (encode_utf8_all xs)) same ∙ r

    by_test : (b : Bool) → bytes_eq (named cs) (codes "_") ≡ b → bytes_eq (named cs) (codes "_") ≡ false
    by_test false e = e
    by_test true e =
        let text : named cs ≡ codes "_" = (bytes_eq-Decides (named cs) (codes "_")).0 e in
        let clash : false ≡ true = sym (ap can_be_raw text) ∙ raw_again (underscore_written cs i e) in
        absurd cc
