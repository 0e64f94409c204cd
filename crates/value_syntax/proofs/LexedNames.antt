-- Names lex as themselves.
use Rattle.std.proofs.Common.{◌≡◌, ℕ, ◌<◌, ◌≤◌, Bool, true, false, ◌&&◌, ◌||◌, List, [], ◌∷◌, ◌++◌, Option, Some}
use Rattle.std.proofs.Common.{None, Ok, chars, encode_utf8_all, refl, sym, ap, ◌∙◌, arith, codes}
use Rattle.std.specs.Prelude.{nat_eq, nat_lt, nat_le, ◌==◌, is_some, drop, if◌then◌else◌}
use Rattle.std.specs.Char.{is_digit, is_ascii_alphabetic}
use Rattle.std.specs.List.{take_while, list_all}
use Rattle.std.proofs.lemmas.Bool.{eqb-true}
use Rattle.std.proofs.lemmas.Bool.Decides.{nat_tests}
use Rattle.std.proofs.lemmas.List.Sums.{take_while-cons}
use Rattle.std.proofs.lemmas.Str.{encodes-chars}
use Rattle.unicode_ident.specs.Ident.{is_xid_continue}
use Rattle.unicode_ident.proofs.Computing.{unicode_ident}
use Rattle.unicode_ident.proofs.IdentLemmas.{is_xid_start-ascii}
use Rattle.unicode_normalization.specs.Forms.{nfc}
use Rattle.decl_lexer.specs.Begins.{Named, Token, Begins, first_case}
use Rattle.decl_lexer.specs.Gaps.{is_space}
use Rattle.decl_lexer.specs.Text.{skip_while, first_passes, begins_with}
use Rattle.decl_lexer.specs.Texts.{is_hash, is_raw_text}
use Rattle.decl_lexer.specs.Words.{word_of, can_be_raw}
use Rattle.decl_lexer.specs.Names.{is_name_start, lexeme_of, name_at, raw_name_at}
use Rattle.decl_lexer.specs.Pieces.{piece_at}
use Rattle.decl_lexer.proofs.BoolLemmas.{not_equal}
use Rattle.value_syntax.specs.Canonical.{IsName}

-- what may follow a name or a number in a written value
pub data Stops : List ℕ → Type 0 where
  at_end : Stops []
  at_comma : (cs : List ℕ) → Stops (44 ∷ cs)
  at_round : (cs : List ℕ) → Stops (41 ∷ cs)
  at_square : (cs : List ℕ) → Stops (93 ∷ cs)
  at_space : (cs : List ℕ) → Stops (32 ∷ cs)
  at_colon : (cs : List ℕ) → Stops (58 ∷ cs)
  at_opening : (cs : List ℕ) → Stops (40 ∷ cs)

-- ---- the first case that holds

pub skip_case : (case : Bool × Begins) (cases : List (Bool × Begins)) (other result : Begins) → case.0 ≡ false
    → first_case cases other ≡ result → first_case (case ∷ cases) other ≡ result
skip_case case cases other result e f = rw e f

pub take_case : (case : Bool × Begins) (cases : List (Bool × Begins)) (other : Begins) → case.0 ≡ true
    → first_case (case ∷ cases) other ≡ case.1
take_case case cases other e = rw e refl

pub and_false : (b c : Bool) → c ≡ false → (b && c) ≡ false
and_false true c e = e
and_false false c e = refl

pub false_and : (b c : Bool) → b ≡ false → (b && c) ≡ false
false_and b c e = rw e refl

pub and_left : (b c : Bool) → (b && c) ≡ true → b ≡ true
and_left true c e = refl
and_left false c e = absurd cc

pub and_right : (b c : Bool) → (b && c) ≡ true → c ≡ true
and_right true c e = e
and_right false c e = absurd cc

-- ---- what a name begins with

-- a character that begins a name is none that does not
pub unlike : (p : ℕ → Bool) (c d : ℕ) → p c ≡ true → p d ≡ false → (c == d) ≡ false
unlike p c d e f = not_equal (c == d) (λ same. let k : p c ≡ p d = ap p (eqb-true c d same) in absurd cc)

-- what a character that begins a name is not
pub record StartFacts (c : ℕ) : Type 0 where
  pub space : is_space c ≡ false
  pub digit : is_digit c 10 ≡ false
  pub slash : (c == 47) ≡ false
  pub quote : (c == 39) ≡ false
  pub double : (c == 34) ≡ false
  pub hash : (c == 35) ≡ false
  pub no_and : nat_eq 38 c ≡ false
  pub no_equal : nat_eq 61 c ≡ false
  pub no_mark : (c == 0xFEFF) ≡ false

-- the ASCII characters that begin a name
ascii_start : (c : ℕ) → c < 128 → is_name_start c ≡ (is_ascii_alphabetic c || (c == 95))
ascii_start c lt = rw (is_xid_start-ascii c lt) refl

low_facts : (c : ℕ) → c < 128 → (is_ascii_alphabetic c || (c == 95)) ≡ true → StartFacts c
low_facts c lt e = record {
  space = grind (arith, nat_tests);
  digit = grind (arith, nat_tests);
  slash = grind (arith, nat_tests);
  quote = grind (arith, nat_tests);
  double = grind (arith, nat_tests);
  hash = grind (arith, nat_tests);
  no_and = grind (arith, nat_tests);
  no_equal = grind (arith, nat_tests);
  no_mark = grind (arith, nat_tests);
}

no_start_85 : is_name_start 0x85 ≡ false
unfolding unicode_ident
no_start_85 = refl

no_start_200e : is_name_start 0x200E ≡ false
unfolding unicode_ident
no_start_200e = refl

no_start_200f : is_name_start 0x200F ≡ false
unfolding unicode_ident
no_start_200f = refl

no_start_2028 : is_name_start 0x2028 ≡ false
unfolding unicode_ident
no_start_2028 = refl

no_start_2029 : is_name_start 0x2029 ≡ false
unfolding unicode_ident
no_start_2029 = refl

no_start_feff : is_name_start 0xFEFF ≡ false
unfolding unicode_ident
no_start_feff = refl

high_facts : (c : ℕ) → 128 ≤ c → is_name_start c ≡ true → StartFacts c
high_facts c le e =
    let a = unlike is_name_start c 0x85 e no_start_85 in
    let b = unlike is_name_start c 0x200E e no_start_200e in
    let d = unlike is_name_start c 0x200F e no_start_200f in
    let f = unlike is_name_start c 0x2028 e no_start_2028 in
    let g = unlike is_name_start c 0x2029 e no_start_2029 in
    let low : (nat_le 9 c && nat_le c 13) ≡ false = grind (arith, nat_tests) in
    let blank : (c == 0x20) ≡ false = grind (arith, nat_tests) in
    record {
      space = rw (low, blank, a, b, d, f, g) refl;
      digit = grind (arith, nat_tests);
      slash = grind (arith, nat_tests);
      quote = grind (arith, nat_tests);
      double = grind (arith, nat_tests);
      hash = grind (arith, nat_tests);
      no_and = grind (arith, nat_tests);
      no_equal = grind (arith, nat_tests);
      no_mark = unlike is_name_start c 0xFEFF e no_start_feff;
    }

pub start_facts : (c : ℕ) → is_name_start c ≡ true → StartFacts c
start_facts c e = by_case (nat_lt c 128) refl
  where
    by_case : (b : Bool) → nat_lt c 128 ≡ b → StartFacts c
    by_case true l = let lt : c < 128 = grind (arith, nat_tests) in low_facts c lt (sym (ascii_start c lt) ∙ e)
    by_case false l = high_facts c (grind (arith, nat_tests)) e

-- ---- what follows a name

-- a character that is in no name and stops none
record IsStrange (d : ℕ) : Type 0 where
  outside : is_xid_continue d ≡ false
  comma : (44 == d) ≡ false
  round : (41 == d) ≡ false
  square : (93 == d) ≡ false
  space : (32 == d) ≡ false
  colon : (58 == d) ≡ false
  opening : (40 == d) ≡ false

strange_quote : IsStrange 39
unfolding unicode_ident
strange_quote = record {
  outside = refl;
  comma = refl;
  round = refl;
  square = refl;
  space = refl;
  colon = refl;
  opening = refl;
}

strange_double : IsStrange 34
unfolding unicode_ident
strange_double = record {
  outside = refl;
  comma = refl;
  round = refl;
  square = refl;
  space = refl;
  colon = refl;
  opening = refl;
}

strange_hash : IsStrange 35
unfolding unicode_ident
strange_hash = record {
  outside = refl;
  comma = refl;
  round = refl;
  square = refl;
  space = refl;
  colon = refl;
  opening = refl;
}

-- behind a name's characters there is no such character
not_at_stop : (d : ℕ) (behind : List ℕ) → IsStrange d → Stops behind → begins_with (d ∷ []) behind ≡ false
not_at_stop d _ s at_end = refl
not_at_stop d _ s (at_comma cs) = s.comma
not_at_stop d _ s (at_round cs) = s.round
not_at_stop d _ s (at_square cs) = s.square
not_at_stop d _ s (at_space cs) = s.space
not_at_stop d _ s (at_colon cs) = s.colon
not_at_stop d _ s (at_opening cs) = s.opening

not_next : (d : ℕ) (others behind : List ℕ) → IsStrange d → list_all is_xid_continue others ≡ true → Stops behind
    → begins_with (d ∷ []) (others ++ behind) ≡ false
not_next d [] behind s h k = not_at_stop d behind s k
not_next d (o ∷ others) behind s h k = unlike is_xid_continue o d (and_left _ _ h) s.outside

r_not_at_stop : (behind : List ℕ) → Stops behind → begins_with (114 ∷ []) behind ≡ false
r_not_at_stop _ at_end = refl
r_not_at_stop _ (at_comma cs) = refl
r_not_at_stop _ (at_round cs) = refl
r_not_at_stop _ (at_square cs) = refl
r_not_at_stop _ (at_space cs) = refl
r_not_at_stop _ (at_colon cs) = refl
r_not_at_stop _ (at_opening cs) = refl

no_hashes : (cs : List ℕ) → begins_with (35 ∷ []) cs ≡ false → skip_while is_hash cs ≡ cs
no_hashes [] e = refl
no_hashes (c ∷ cs) e = rw e refl

-- nor does a raw text begin there
not_raw_text : (others behind : List ℕ) → list_all is_xid_continue others ≡ true → Stops behind
    → is_raw_text (others ++ behind) ≡ false
not_raw_text others behind h k =
    ap (begins_with (34 ∷ [])) (no_hashes (others ++ behind) (not_next 35 others behind strange_hash h k))
    ∙ not_next 34 others behind strange_double h k

-- nor behind one letter more
not_raw_behind : (c l : ℕ) (others behind : List ℕ) → list_all is_xid_continue others ≡ true → Stops behind
    → ((c == l && begins_with (114 ∷ []) (others ++ behind)) && is_raw_text (drop 1 (others ++ behind))) ≡ false
not_raw_behind c l [] behind h k = false_and _ _ (and_false (c == l) _ (r_not_at_stop behind k))
not_raw_behind c l (o ∷ others) behind h k = and_false _ _ (not_raw_text others behind (and_right _ _ h) k)

-- ---- a name and what follows it

not_continuing : (behind : List ℕ) → Stops behind → first_passes is_xid_continue behind ≡ false
unfolding unicode_ident
not_continuing _ at_end = refl
not_continuing _ (at_comma cs) = refl
not_continuing _ (at_round cs) = refl
not_continuing _ (at_square cs) = refl
not_continuing _ (at_space cs) = refl
not_continuing _ (at_colon cs) = refl
not_continuing _ (at_opening cs) = refl

taken : (p : ℕ → Bool) (cs behind : List ℕ) → list_all p cs ≡ true → first_passes p behind ≡ false
    → take_while p (cs ++ behind) ≡ cs
taken p [] [] h k = refl
taken p [] (b ∷ behind) h k = take_while-cons p b behind ∙ rw k refl
taken p (c ∷ cs) behind h k = take_while-cons p c (cs ++ behind)
    ∙ rw (and_left (p c) (list_all p cs) h) (ap (λ xs. c ∷ xs) (taken p cs behind (and_right _ _ h) k))

passed : (p : ℕ → Bool) (cs behind : List ℕ) → list_all p cs ≡ true → first_passes p behind ≡ false
    → skip_while p (cs ++ behind) ≡ behind
passed p [] [] h k = refl
passed p [] (b ∷ behind) h k = rw k refl
passed p (c ∷ cs) behind h k = rw (and_left (p c) (list_all p cs) h) (passed p cs behind (and_right _ _ h) k)

-- an identifier is the word or name that it is
pub word_piece : (c : ℕ) (others behind : List ℕ) → is_name_start c ≡ true
    → list_all is_xid_continue (c ∷ others) ≡ true → Stops behind
    → piece_at c (others ++ behind) ≡ Ok (Token (lexeme_of (c ∷ others)), behind)
unfolding piece_at
word_piece c others behind e h k =
    let f = start_facts c e in
    let rest = and_right _ _ h in
    let name = taken is_xid_continue (c ∷ others) behind h (not_continuing behind k) in
    let left = passed is_xid_continue (c ∷ others) behind h (not_continuing behind k) in
    let whole : name_at (c ∷ (others ++ behind)) ≡ Ok (Token (lexeme_of (c ∷ others)), behind) = rw (name, left) refl in
    let byte : (c == 98 && begins_with (39 ∷ []) (others ++ behind)) ≡ false =
    and_false (c == 98) _ (not_next 39 others behind strange_quote rest k) in
    let bytes : (c == 98 && begins_with (34 ∷ []) (others ++ behind)) ≡ false =
    and_false (c == 98) _ (not_next 34 others behind strange_double rest k) in
    let c_text : (c == 99 && begins_with (34 ∷ []) (others ++ behind)) ≡ false =
    and_false (c == 99) _ (not_next 34 others behind strange_double rest k) in
    let raw : (c == 114 && is_raw_text (others ++ behind)) ≡ false =
    and_false (c == 114) _ (not_raw_text others behind rest k) in
    let raw_name : (c == 114 && begins_with (35 ∷ []) (others ++ behind)) ≡ false =
    and_false (c == 114) _ (not_next 35 others behind strange_hash rest k) in
    rw (
      f.space,
      f.slash,
      f.digit,
      f.quote,
      f.double,
      e,
      byte,
      bytes,
      c_text,
      raw,
      not_raw_behind c 98 others behind rest k,
      not_raw_behind c 99 others behind rest k,
      raw_name,
    ) whole

-- a raw name
raw_piece : (c : ℕ) (others behind : List ℕ) → is_name_start c ≡ true → list_all is_xid_continue (c ∷ others) ≡ true
    → can_be_raw (encode_utf8_all (c ∷ others)) ≡ true → Stops behind
    → piece_at 114 (35 ∷ c ∷ (others ++ behind)) ≡ Ok (Token (Named (encode_utf8_all (nfc (c ∷ others))) true), behind)
unfolding piece_at unicode_ident
raw_piece c others behind e h raw k =
    let f = start_facts c e in
    let name = taken is_xid_continue (c ∷ others) behind h (not_continuing behind k) in
    let left = passed is_xid_continue (c ∷ others) behind h (not_continuing behind k) in
    let whole : raw_name_at (114 ∷ 35 ∷ c ∷ (others ++ behind)) (c ∷ (others ++ behind)) ≡ Ok
    (Token (Named (encode_utf8_all (nfc (c ∷ others))) true), behind) = rw (name, left, raw) refl in
    rw (f.hash, f.double, e) whole

-- a name as it is written, by its characters
abbrev pub name_chars : List ℕ → List ℕ
name_chars name = if is_some (word_of name) then codes "r#" ++ chars name else chars name

-- what a name's characters begin with
pub record IsHeaded (name : List ℕ) : Type 0 where
  pub first : ℕ
  pub others : List ℕ
  pub whole : chars name ≡ first ∷ others
  pub starts : is_name_start first ≡ true
  pub continues : list_all is_xid_continue (first ∷ others) ≡ true

pub headed : (name : List ℕ) → IsName name → IsHeaded name
headed name n = by_case (chars name) refl n.starts n.continues
  where
    by_case : (cs : List ℕ) → chars name ≡ cs → first_passes is_name_start cs ≡ true
        → list_all is_xid_continue cs ≡ true → IsHeaded name
    by_case [] e f g = absurd cc
    by_case (c ∷ cs) e f g = record { first = c; others = cs; whole = e; starts = f; continues = g }

-- the name's token
pub name_lexeme : (name : List ℕ) → IsName name → is_some (word_of name) ≡ false
    → lexeme_of (chars name) ≡ Named name false
name_lexeme name n plain =
    by_case (word_of name) refl plain
  where
    by_case : (o : Option _) → word_of name ≡ o → is_some o ≡ false → lexeme_of (chars name) ≡ Named name false
    by_case None e f = rw (n.composed, encodes-chars name n.utf8, n.not_underscore, e) refl
    by_case (Some w) e f = absurd cc

-- a name lexes as itself, also behind `r#`
pub record NamePiece (name behind : List ℕ) : Type 0 where
  pub first : ℕ
  pub front : List ℕ
  pub raw : Bool
  pub whole : name_chars name ≡ first ∷ front
  pub starts : is_name_start first ≡ true
  pub read : piece_at first (front ++ behind) ≡ Ok (Token (Named name raw), behind)

r_starts : is_name_start 114 ≡ true
unfolding unicode_ident
r_starts = refl

pub name_piece : (name behind : List ℕ) → IsName name → Stops behind → NamePiece name behind
name_piece name behind n k = by_case (is_some (word_of name)) refl
  where
    by_case : (b : Bool) → is_some (word_of name) ≡ b → NamePiece name behind
    by_case false e =
        let h = headed name n in
        let l : lexeme_of (h.first ∷ h.others) ≡ Named name false = ap lexeme_of (sym h.whole) ∙ name_lexeme name n e in
        record {
          first = h.first;
          front = h.others;
          raw = false;
          whole = rw e h.whole;
          starts = h.starts;
          read = word_piece h.first h.others behind h.starts h.continues k ∙ ap (λ x. Ok (Token x, behind)) l;
        }
    by_case true e =
        let h = headed name n in
        let same : encode_utf8_all (h.first ∷ h.others) ≡ name = ap encode_utf8_all (sym h.whole)
        ∙ encodes-chars name n.utf8 in
        let form : nfc (h.first ∷ h.others) ≡ h.first ∷ h.others = ap nfc (sym h.whole) ∙ n.composed ∙ h.whole in
        let l : encode_utf8_all (nfc (h.first ∷ h.others)) ≡ name = ap encode_utf8_all form ∙ same in
        record {
          first = 114;
          front = 35 ∷ h.first ∷ h.others;
          raw = true;
          whole = rw (e, h.whole) refl;
          starts = r_starts;
          read = raw_piece h.first h.others behind h.starts h.continues (ap can_be_raw same ∙ n.may_be_raw e) k
              ∙ ap (λ x. Ok (Token (Named x true), behind)) l;
        }
