-- What a text begins with, where that is a plain token.
use Rattle.std.proofs.Common.{◌≡◌, ℕ, zero, suc, ◌<◌, Bool, true, false, cond, not, ◌&&◌, ◌||◌, ◌==◌, ◌^◌, nat_lt, List, [], ◌∷◌, drop, Some, refl, sym, ap, ◌∙◌, arith}
use Rattle.std.specs.Char.{is_ascii_alphabetic, is_ascii_alphanumeric, is_digit}
use Rattle.std.specs.List.{take_while}
use Rattle.std.proofs.lemmas.Bool.{ltb-true, lt-ltb, and_parts, and_left, and_right, or_parts, not-true, agree_below, agree_below_at}
use Rattle.unicode_ident.specs.Ident.{is_xid_start, is_xid_continue}
use Rattle.unicode_ident.proofs.IdentLemmas.{is_xid_start-ascii}
use Rattle.decl_lexer.specs.Gaps.{is_space}
use Rattle.decl_lexer.specs.Marks.{mark_at}
use Rattle.decl_lexer.specs.Begins.{Begins, Lexeme, Integer, token, first_case}
use Rattle.decl_lexer.specs.Numbers.{behind_digits, number_from, in_128_bits, decimal_cases, decimal_at, integer_at}
use Rattle.decl_lexer.specs.Text.{skip_while, first_passes, begins_with, is_one_of, is_underscore}
use lib.Chars.{codes}
use Rattle.decl_lexer.specs.Texts.{is_hash, is_raw_text}
use Rattle.decl_lexer.specs.Names.{is_name_start, name_at, lexeme_of}
use Rattle.decl_lexer.specs.Pieces.{piece_at, letter_at, letter_cases}
use Rattle.decl_lexer.specs.Plain.{is_plain_start, is_letter_name, is_quote_sign, is_plain_digit, ends_number, starts_other, is_plain_mark}
use Rattle.decl_lexer.proofs.NameLemmas.{start_continues}

-- a test that holds of each number below 128
holds_at : (f : ℕ → Bool) (c : ℕ) → agree_below f (λ _. true) 128 ≡ true → c < 128 → f c ≡ true
holds_at f c h lt = agree_below_at f (λ _. true) 128 c h lt

follows : (a b : Bool) → (not a || b) ≡ true → a ≡ true → b ≡ true
follows true b h e = h
follows false b h e = absurd cc

-- what begins neither whitespace nor a comment, a number or a quoted piece
abbrev begins_other : ℕ → Bool
begins_other c = not (is_space c) && (not (c == 47) && (not (is_digit c 10) && (not (c == 39) && not (c == 34))))

-- what may begin a name
abbrev begins_word : ℕ → Bool
begins_word c = begins_other c && (is_ascii_alphabetic c || c == 95)

abbrev name_test : ℕ → Bool
name_test c = not (is_plain_start c) || (begins_word c && (not (c == 98) && (not (c == 99) && not (c == 114))))

abbrev letter_test : ℕ → Bool
letter_test c = not (is_one_of (codes "bcr") c) || begins_word c

abbrev mark_test : ℕ → Bool
mark_test c = not (is_plain_mark c) || (begins_other c && not (is_ascii_alphabetic c || c == 95))

starts_ascii : (c : ℕ) → c < 128 → is_name_start c ≡ (is_ascii_alphabetic c || c == 95)
starts_ascii c lt = ap (λ b. b || c == 95) (is_xid_start-ascii c lt)

other_first : (c : ℕ) (cs : List ℕ) (b : Bool) → c < 128 → begins_other c ≡ true → (is_ascii_alphabetic c || c == 95) ≡ b → piece_at c cs ≡ cond b (letter_at c cs) (mark_at (c ∷ cs))
unfolding piece_at
other_first c cs b lt h start =
    let space = and_parts (not (is_space c)) _ h in
    let slash = and_parts (not (c == 47)) _ space.1 in
    let digit = and_parts (not (is_digit c 10)) _ slash.1 in
    let quotes = and_parts (not (c == 39)) (not (c == 34)) digit.1 in
    rw (not-true _ space.0, not-true _ slash.0, not-true _ digit.0, not-true _ quotes.0, not-true _ quotes.1, starts_ascii c lt ∙ start) refl

word_first : (c : ℕ) (cs : List ℕ) → c < 128 → begins_word c ≡ true → piece_at c cs ≡ letter_at c cs
word_first c cs lt h = let k = and_parts (begins_other c) _ h in other_first c cs true lt k.0 k.1

plain_word : (c : ℕ) → c < 128 → is_plain_start c ≡ true → (begins_word c && (not (c == 98) && (not (c == 99) && not (c == 114)))) ≡ true
plain_word c lt plain = follows (is_plain_start c) _ (holds_at name_test c refl lt) plain

letter_word : (c : ℕ) → c < 128 → is_one_of (codes "bcr") c ≡ true → begins_word c ≡ true
letter_word c lt letter = follows (is_one_of (codes "bcr") c) _ (holds_at letter_test c refl lt) letter

pub plain_name_first : (c : ℕ) (cs : List ℕ) → c < 128 → is_plain_start c ≡ true → piece_at c cs ≡ name_at (c ∷ cs)
plain_name_first c cs lt plain =
    let k = and_parts (begins_word c) _ (plain_word c lt plain) in
    let b = and_parts (not (c == 98)) _ k.1 in
    let others = and_parts (not (c == 99)) (not (c == 114)) b.1 in
    word_first c cs lt k.0 ∙ rw (not-true _ b.0, not-true _ others.0, not-true _ others.1) refl

-- the name that is cut off is the token
pub plain_name_gives : (name text after : List ℕ) (lexeme : Lexeme) → lexeme ≡ lexeme_of name → name ≡ take_while is_xid_continue text → after ≡ skip_while is_xid_continue text → name_at text ≡ token lexeme after
plain_name_gives name text after lexeme l n a = rw (l, n, a) refl

-- what does not stand first in a text
record HasNoSign (cs : List ℕ) : Type 0 where
  quote : begins_with (codes "\"") cs ≡ false
  hash : begins_with (codes "#") cs ≡ false
  tick : begins_with (codes "'") cs ≡ false
  letter : begins_with (codes "r") cs ≡ false
  raw : is_raw_text cs ≡ false

no_sign : (cs : List ℕ) → first_passes is_quote_sign cs ≡ false → HasNoSign cs
no_sign [] h = record { quote = refl; hash = refl; tick = refl; letter = refl; raw = refl }
no_sign (d ∷ ds) h =
    let quote = or_parts (d == 34) _ h in
    let hash = or_parts (d == 35) _ quote.1 in
    let others = or_parts (d == 39) (d == 114) hash.1 in
    let raw : is_raw_text (d ∷ ds) ≡ false = ap (λ b. begins_with (codes "\"") (cond b (skip_while is_hash ds) (d ∷ ds))) hash.0 ∙ quote.0 in
    record { quote = quote.0; hash = hash.0; tick = others.0; letter = others.1; raw = raw }

-- none of the cases holds
abbrev NoneHolds : List (Bool × Begins) → Type 0
NoneHolds [] = Unit {0}
NoneHolds (case ∷ cases) = (case.0 ≡ false) × NoneHolds cases

other_case : (cases : List (Bool × Begins)) (other : Begins) → NoneHolds cases → first_case cases other ≡ other
other_case [] other h = refl
other_case (case ∷ cases) other h = rw h.0 (other_case cases other h.1)

letter_name : (c : ℕ) (cs : List ℕ) → HasNoSign cs → letter_at c cs ≡ name_at (c ∷ cs)
letter_name c cs s =
    let raw = is_raw_text (drop 1 cs) in
    let name = first_passes is_name_start (drop 1 cs) in
    other_case (letter_cases c cs) (name_at (c ∷ cs)) (
      and_right (c == 98) _ s.tick,
      (
        and_right (c == 98) _ s.quote,
        (
          and_right (c == 99) _ s.quote,
          (
            and_right (c == 114) _ s.raw,
            (
              and_left _ raw (and_right (c == 98) _ s.letter),
              (
                and_left _ raw (and_right (c == 99) _ s.letter),
                (
                  and_left _ name (and_right (c == 114) _ s.hash),
                  tt,
                ),
              ),
            ),
          ),
        ),
      ),
    )

-- the same of a name that begins with a letter that may stand before a quote
pub letter_name_first : (c : ℕ) (cs : List ℕ) → c < 128 → is_letter_name c cs ≡ true → piece_at c cs ≡ name_at (c ∷ cs)
letter_name_first c cs lt h =
    let parts = and_parts (is_one_of (codes "bcr") c) _ h in
    word_first c cs lt (letter_word c lt parts.0) ∙ letter_name c cs (no_sign cs (not-true _ parts.1))

-- a name goes on behind its first character
name_behind : (c : ℕ) (cs text : List ℕ) → text ≡ c ∷ cs → c < 128 → begins_word c ≡ true → skip_while is_xid_continue cs ≡ skip_while is_xid_continue text
name_behind c cs text e lt h =
    let continues : is_xid_continue c ≡ true = start_continues c (starts_ascii c lt ∙ (and_parts (begins_other c) _ h).1) in
    rw (e, continues) refl

pub letter_name_behind : (c : ℕ) (cs text : List ℕ) → text ≡ c ∷ cs → c < 128 → is_letter_name c cs ≡ true → skip_while is_xid_continue cs ≡ skip_while is_xid_continue text
letter_name_behind c cs text e lt h = name_behind c cs text e lt (letter_word c lt (and_parts (is_one_of (codes "bcr") c) _ h).0)

pub plain_name_behind : (c : ℕ) (cs text : List ℕ) → text ≡ c ∷ cs → c < 128 → is_plain_start c ≡ true → skip_while is_xid_continue cs ≡ skip_while is_xid_continue text
plain_name_behind c cs text e lt plain = name_behind c cs text e lt (and_parts (begins_word c) _ (plain_word c lt plain)).0

abbrev digit_test : ℕ → Bool
digit_test c = not (is_plain_digit c) || (not (is_space c) && (not (c == 47) && (is_digit c 10 && not (c == 48))))

pub plain_digit_first : (c : ℕ) (cs : List ℕ) → c < 128 → is_plain_digit c ≡ true → piece_at c cs ≡ decimal_at (c ∷ cs)
unfolding piece_at
plain_digit_first c cs lt plain =
    let k = follows (is_plain_digit c) _ (holds_at digit_test c refl lt) plain in
    let space = and_parts (not (is_space c)) _ k in
    let slash = and_parts (not (c == 47)) _ space.1 in
    let digit = and_parts (is_digit c 10) (not (c == 48)) slash.1 in
    rw (not-true _ space.0, not-true _ slash.0, digit.0, not-true _ digit.1) refl

abbrev end_test : ℕ → Bool
end_test c =
    not (ends_number c) || (not (c == 95) && (not (is_digit c 10) && (not (c == 46) && (not (c == 101) && (not (c == 69) && not (is_ascii_alphabetic c))))))

end_ascii : (c : ℕ) → ends_number c ≡ true → c < 128
end_ascii c h =
    let mark = and_parts (nat_lt c 128 && not (is_ascii_alphanumeric c) && not (c == 95)) _ h in
    let letter = and_parts (nat_lt c 128 && not (is_ascii_alphanumeric c)) _ mark.0 in
    ltb-true c 128 (and_parts (nat_lt c 128) _ letter.0).0

-- what is a number of n where this stands behind its digits
abbrev decided : List ℕ → ℕ → List ℕ → Begins
decided text n behind = first_case (decimal_cases text behind) (integer_at text (in_128_bits n) true behind)

small : (n : ℕ) → n < 2 ^ 32 → in_128_bits n ≡ Some n
small n lt = rw (lt-ltb n (2 ^ 128) (omega arith)) refl

decided_plain : (text rest : List ℕ) (n : ℕ) → n < 2 ^ 32 → starts_other rest ≡ true → decided text (number_from 10 10 n rest) (behind_digits 10 rest) ≡ token (Integer (Some n) [] true) rest
decided_plain text [] n lt h = rw (small n lt) refl
decided_plain text (c ∷ cs) n lt h =
    let ends : ends_number c ≡ true = h in
    let ascii : c < 128 = end_ascii c ends in
    let k = follows (ends_number c) _ (holds_at end_test c refl ascii) ends in
    let mark = and_parts (not (c == 95)) _ k in
    let digit = and_parts (not (is_digit c 10)) _ mark.1 in
    let point = and_parts (not (c == 46)) _ digit.1 in
    let exponent = and_parts (not (c == 101)) _ point.1 in
    let others = and_parts (not (c == 69)) (not (is_ascii_alphabetic c)) exponent.1 in
    let mark_no : is_underscore c ≡ false = not-true _ mark.0 in
    let start : is_xid_start c ≡ false = is_xid_start-ascii c ascii ∙ not-true _ others.1 in
    rw (not-true _ mark.0, not-true _ digit.0, not-true _ point.0, not-true _ exponent.0, not-true _ others.0, start, mark_no, small n lt) refl

-- digits that nothing goes on are a number
pub plain_decimal : (text rest : List ℕ) (n : ℕ) → n < 2 ^ 32 → starts_other rest ≡ true → number_from 10 10 n rest ≡ number_from 10 10 0 text → behind_digits 10 rest ≡ behind_digits 10 text
    → decimal_at text ≡ token (Integer (Some n) [] true) rest
plain_decimal text rest n lt h number behind =
    ap (λ (m : ℕ). decided text m (behind_digits 10 text)) (sym number) ∙ ap (λ (b : List ℕ). decided text (number_from 10 10 n rest) b) (sym behind) ∙ decided_plain text rest n lt h

pub plain_mark_first : (c : ℕ) (cs : List ℕ) → c < 128 → is_plain_mark c ≡ true → piece_at c cs ≡ mark_at (c ∷ cs)
plain_mark_first c cs lt plain =
    let k = and_parts (begins_other c) _ (follows (is_plain_mark c) _ (holds_at mark_test c refl lt) plain) in
    other_first c cs false lt k.0 (not-true _ k.1)
