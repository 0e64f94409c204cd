-- Characters, lifetimes and texts: what stands behind each is what its text ends with.
use Rattle.std.proofs.Common.{ℕ, zero, suc, ◌+◌, ◌-◌, ◌*◌, Bool, true, false, cond, not, ◌&&◌, ◌==◌, nat_le, List, [], ◌∷◌, length, drop, Option, Some, None, option_map, Ok, Err, encode_utf8, encode_utf8_all}
use Rattle.std.specs.Char.{digit_value, is_digit}
use Rattle.std.specs.Option.{option_map_or}
use Rattle.std.specs.List.{take_while}
use lib.Chars.{codes}
use Rattle.unicode_ident.specs.Ident.{is_xid_continue}
use Rattle.decl_lexer.specs.declared.escapes.Quoted.{Quoted}
use Rattle.decl_lexer.specs.declared.escapes.Quoted.TheVariants as quoted
use Rattle.decl_lexer.specs.Begins.{Lexeme, Lifetime, Character, Byte, token, breaks}
use Rattle.decl_lexer.specs.Text.{skip_while, begins_with}
use Rattle.decl_lexer.specs.Marks.{or_else}
use Rattle.decl_lexer.specs.Words.{can_be_raw}
use Rattle.decl_lexer.specs.Names.{name_of, behind_name}
use Rattle.decl_lexer.specs.Numbers.{is_digit_or_underscore, behind_digits, number_from}
use Rattle.decl_lexer.specs.Escapes.{greatest_hex, has_unicode, simple_escape, hex_escape, is_unicode_escape, unicode_escape, escape}
use Rattle.decl_lexer.specs.Characters.{escaped_at, plain_at, raw_lifetime_at, lifetime_at, quote_cases, quote_at, byte_cases, byte_at}
use Rattle.decl_lexer.specs.Texts.{TextRead, with_front, text_breaks, begins_line_end, behind_blanks, text_from, text_token, text_at, is_hash, has_hashes, raw_from, raw_text_at}
use Rattle.decl_lexer.proofs.Rests.{bad_token, open_text, bad_escape, IsPieceRule, EndsIn, itself, past, through, dropped, skipped, Rests, cases_rest}

abbrev pub EscapeEnds : List ℕ → Option (ℕ × List ℕ) → Type 0
EscapeEnds cs None = Unit {0}
EscapeEnds cs (Some x) = EndsIn cs x.1

escape_either : (cs : List ℕ) (b : Bool) (x y : Option (ℕ × List ℕ)) → EscapeEnds cs x → EscapeEnds cs y → EscapeEnds cs (cond b x y)
escape_either cs true x y h k = h
escape_either cs false x y h k = k

escape_or : (cs : List ℕ) (x y : Option (ℕ × List ℕ)) → EscapeEnds cs x → EscapeEnds cs y → EscapeEnds cs (or_else x y)
escape_or cs None y h k = k
escape_or cs (Some x) y h k = h

escape_past : (c : ℕ) (cs : List ℕ) (o : Option (ℕ × List ℕ)) → EscapeEnds cs o → EscapeEnds (c ∷ cs) o
escape_past c cs None h = tt
escape_past c cs (Some x) h = past c cs x.1 h

simple_ends : (cs : List ℕ) (o : Option ℕ) → EscapeEnds cs (option_map (λ value. (value, cs)) o)
simple_ends cs None = tt
simple_ends cs (Some x) = itself cs

hex_ends : (kind : Quoted) (cs : List ℕ) → EscapeEnds cs (hex_escape kind cs)
hex_ends kind [] = tt
hex_ends kind (high ∷ []) = tt
hex_ends kind (high ∷ low ∷ cs) =
    escape_either (high ∷ low ∷ cs) (is_digit high 16 && is_digit low 16 && nat_le (16 * digit_value high + digit_value low) (greatest_hex kind)) (Some (16 * digit_value high + digit_value low, cs)) None
    (past high (low ∷ cs) cs (past low cs cs (itself cs))) tt

behind_digits_end : (cs : List ℕ) → EndsIn cs (drop 1 (behind_digits 16 (drop 1 cs)))
behind_digits_end cs =
    let behind = behind_digits 16 (drop 1 cs) in
    through cs (drop 1 cs) (drop 1 behind) (dropped 1 cs) (through (drop 1 cs) behind (drop 1 behind) (skipped (is_digit_or_underscore 16) (drop 1 cs)) (dropped 1 behind))

unicode_ends : (cs : List ℕ) → EscapeEnds cs (unicode_escape cs)
unicode_ends cs =
    escape_either cs (begins_with (codes "{") cs && is_unicode_escape (drop 1 cs)) (Some (number_from 16 16 0 (drop 1 cs), drop 1 (behind_digits 16 (drop 1 cs)))) None (behind_digits_end cs) tt

pub escape_ends : (kind : Quoted) (cs : List ℕ) → EscapeEnds cs (escape kind cs)
escape_ends kind [] = tt
escape_ends kind (c ∷ cs) =
    let other : Option (ℕ × List ℕ) = cond (c == 117 && has_unicode kind) (unicode_escape cs) None in
    escape_past c cs (escape kind (c ∷ cs)) (escape_or cs (option_map (λ value. (value, cs)) (simple_escape c)) (cond (c == 120) (hex_escape kind cs) other)
    (simple_ends cs (simple_escape c))
    (escape_either cs (c == 120) (hex_escape kind cs) other (hex_ends kind cs) (escape_either cs (c == 117 && has_unicode kind) (unicode_escape cs) None (unicode_ends cs) tt)))

escaped_rests : (kind : Quoted) (literal : ℕ → Lexeme) (text inside escaped : List ℕ) → EndsIn text escaped → EndsIn inside escaped → Rests text inside (escaped_at kind literal text escaped)
escaped_rests kind literal text inside escaped h k = by (escape kind (drop 1 escaped)) (escape_ends kind (drop 1 escaped))
  where
    closed : (found : ℕ × List ℕ) (b : Bool) → EndsIn (drop 1 escaped) found.1 → Rests text inside (cond b (token (literal found.0) (drop 1 found.1)) (breaks 2 text))
    closed found true e =
        through inside escaped (drop 1 found.1) k
        (through escaped (drop 1 escaped) (drop 1 found.1) (dropped 1 escaped) (through (drop 1 escaped) found.1 (drop 1 found.1) e (dropped 1 found.1)))
    closed found false e = (itself text, bad_token)

    by : (o : Option (ℕ × List ℕ)) → EscapeEnds (drop 1 escaped) o
        → Rests text inside (option_map_or (λ found. cond (begins_with (codes "'") found.1) (token (literal found.0) (drop 1 found.1)) (breaks 2 text)) o (breaks 5 escaped))
    by None e = (h, bad_escape)
    by (Some x) e = closed x (begins_with (codes "'") x.1) e

plain_rests : (literal : ℕ → Lexeme) (text inside ds : List ℕ) → EndsIn inside ds → Rests text inside (plain_at literal text ds)
plain_rests literal text inside [] h = (itself text, bad_token)
plain_rests literal text inside (c ∷ cs) h = through inside (c ∷ cs) (drop 1 cs) h (past c cs (drop 1 cs) (dropped 1 cs))

named_ends : (inside named : List ℕ) → EndsIn inside named → EndsIn inside (behind_name named)
named_ends inside named h = through inside named (behind_name named) h (skipped is_xid_continue named)

raw_lifetime_rests : (text inside named : List ℕ) → EndsIn inside named → Rests text inside (raw_lifetime_at text named)
raw_lifetime_rests text inside named h = by (can_be_raw (encode_utf8_all (name_of named)) && not (begins_with (codes "'") (behind_name named)))
  where
    by : (b : Bool) → Rests text inside (cond b (token Lifetime (behind_name named)) (breaks 2 text))
    by true = named_ends inside named h
    by false = (itself text, bad_token)

lifetime_rests : (text inside named : List ℕ) → EndsIn inside named → Rests text inside (lifetime_at text named)
lifetime_rests text inside named h = by (begins_with (codes "'") (behind_name named))
  where
    by : (b : Bool) → Rests text inside (cond b (breaks 2 text) (token Lifetime (behind_name named)))
    by true = (itself text, bad_token)
    by false = named_ends inside named h

pub quote_rests : (text inside ds : List ℕ) → EndsIn text ds → EndsIn inside ds → Rests text inside (quote_at text ds)
quote_rests text inside ds h k =
    cases_rest text inside (quote_cases text ds) (breaks 2 text) (
      (λ _. escaped_rests quoted.Text Character text inside ds h k),
      (
        (λ _. plain_rests Character text inside ds k),
        ((λ _. raw_lifetime_rests text inside (drop 2 ds) (through inside ds (drop 2 ds) k (dropped 2 ds))), ((λ _. lifetime_rests text inside ds k), tt)),
      ),
    ) (itself text, bad_token)

pub byte_rests : (text inside ds : List ℕ) → EndsIn text ds → EndsIn inside ds → Rests text inside (byte_at text ds)
byte_rests text inside ds h k =
    cases_rest text inside (byte_cases text ds) (breaks 2 text) ((λ _. escaped_rests quoted.Bytes Byte text inside ds h k), ((λ _. plain_rests Byte text inside ds k), tt)) (itself text, bad_token)

-- what follows a text lies inside it, and so does a fault
abbrev TextRests : List ℕ → List ℕ → TextRead → Type 0
TextRests text inside (Ok x) = EndsIn inside x.1
TextRests text inside (Err f) = EndsIn text f.rest × IsPieceRule f.rule

text_either : (text inside : List ℕ) (b : Bool) (x y : TextRead) → TextRests text inside x → TextRests text inside y → TextRests text inside (cond b x y)
text_either text inside true x y h k = h
text_either text inside false x y h k = k

text_past : (c : ℕ) (text cs front : List ℕ) (r : TextRead) → TextRests text cs r → TextRests text (c ∷ cs) (with_front front r)
text_past c text cs front (Ok x) h = past c cs x.1 h
text_past c text cs front (Err f) h = h

text_wider : (c : ℕ) (text cs : List ℕ) (r : TextRead) → TextRests text cs r → TextRests text (c ∷ cs) r
text_wider c text cs (Ok x) h = past c cs x.1 h
text_wider c text cs (Err f) h = h

next_ends : (c : ℕ) (text cs : List ℕ) → EndsIn text (c ∷ cs) → EndsIn text cs
next_ends c text cs h = through text (c ∷ cs) cs h (past c cs cs (itself cs))

abbrev after_escape : Quoted → List ℕ → List ℕ → ℕ × List ℕ → TextRead
after_escape kind start cs e = with_front (encode_utf8 e.0) (text_from kind start (length cs - length e.1) cs)

escape_read : (kind : Quoted) (text : List ℕ) (c : ℕ) (cs : List ℕ) (o : Option (ℕ × List ℕ)) → EndsIn text (c ∷ cs) → ((read : ℕ) → TextRests text cs (text_from kind text read cs))
    → TextRests text (c ∷ cs) (option_map_or (after_escape kind text cs) o (text_breaks 5 (c ∷ cs)))
escape_read kind text c cs None h below = (h, bad_escape)
escape_read kind text c cs (Some e) h below = text_past c text cs (encode_utf8 e.0) _ (below (length cs - length e.1))

abbrev after_cr : Quoted → List ℕ → ℕ → List ℕ → TextRead
after_cr kind start c cs = cond (begins_with (10 ∷ []) cs) (text_from kind start zero cs) (text_breaks 2 (c ∷ cs))

abbrev third : Quoted → List ℕ → ℕ → List ℕ → TextRead
third kind start c cs = cond (c == 13) (after_cr kind start c cs) (with_front (encode_utf8 c) (text_from kind start zero cs))

abbrev second : Quoted → List ℕ → ℕ → List ℕ → TextRead
second kind start c cs = cond (c == 92) (option_map_or (after_escape kind start cs) (escape kind cs) (text_breaks 5 (c ∷ cs))) (third kind start c cs)

abbrev first : Quoted → List ℕ → ℕ → List ℕ → TextRead
first kind start c cs = cond (c == 92 && begins_line_end cs) (text_from kind start (length cs - length (behind_blanks cs)) cs) (second kind start c cs)

text_from_rests : (kind : Quoted) (text : List ℕ) (read : ℕ) (cs : List ℕ) → EndsIn text cs → TextRests text cs (text_from kind text read cs)
unfolding text_from
text_from_rests kind text read [] h = (itself text, open_text)
text_from_rests kind text (suc read) (c ∷ cs) h = text_wider c text cs (text_from kind text read cs) (text_from_rests kind text read cs (next_ends c text cs h))
text_from_rests kind text zero (c ∷ cs) h =
    let inner = next_ends c text cs h in
    text_either text (c ∷ cs) (c == 34) (Ok ([], cs)) (first kind text c cs) (past c cs cs (itself cs))
    (text_either text (c ∷ cs) (c == 92 && begins_line_end cs) (text_from kind text (length cs - length (behind_blanks cs)) cs) (second kind text c cs)
    (text_wider c text cs (text_from kind text (length cs - length (behind_blanks cs)) cs) (text_from_rests kind text (length cs - length (behind_blanks cs)) cs inner))
    (text_either text (c ∷ cs) (c == 92) (option_map_or (after_escape kind text cs) (escape kind cs) (text_breaks 5 (c ∷ cs))) (third kind text c cs)
    (escape_read kind text c cs (escape kind cs) h (λ read. text_from_rests kind text read cs inner))
    (text_either text (c ∷ cs) (c == 13) (after_cr kind text c cs) (with_front (encode_utf8 c) (text_from kind text zero cs))
    (text_either text (c ∷ cs) (begins_with (10 ∷ []) cs) (text_from kind text zero cs) (text_breaks 2 (c ∷ cs)) (text_wider c text cs (text_from kind text zero cs) (text_from_rests kind text zero cs inner)) (h, bad_token))
    (text_past c text cs (encode_utf8 c) (text_from kind text zero cs) (text_from_rests kind text zero cs inner)))))

token_rests : (kind : Quoted) (text inside ds : List ℕ) (r : TextRead) → EndsIn inside ds → TextRests text ds r → Rests text inside (text_token kind r)
token_rests kind text inside ds (Ok x) h k = through inside ds x.1 h k
token_rests kind text inside ds (Err f) h k = k

pub text_rests : (kind : Quoted) (text inside ds : List ℕ) → EndsIn text ds → EndsIn inside ds → Rests text inside (text_at kind text ds)
text_rests kind text inside ds h k = token_rests kind text inside ds (text_from kind text zero ds) k (text_from_rests kind text zero ds h)

abbrev raw_cr : ℕ → List ℕ → ℕ → List ℕ → TextRead
raw_cr hashes start c cs = cond (begins_with (10 ∷ []) cs) (raw_from hashes start cs) (text_breaks 2 (c ∷ cs))

abbrev raw_other : ℕ → List ℕ → ℕ → List ℕ → TextRead
raw_other hashes start c cs = cond (c == 13) (raw_cr hashes start c cs) (with_front (encode_utf8 c) (raw_from hashes start cs))

raw_from_rests : (hashes : ℕ) (text : List ℕ) (cs : List ℕ) → EndsIn text cs → TextRests text cs (raw_from hashes text cs)
unfolding raw_from
raw_from_rests hashes text [] h = (itself text, open_text)
raw_from_rests hashes text (c ∷ cs) h =
    let others = raw_from_rests hashes text cs (next_ends c text cs h) in
    text_either text (c ∷ cs) (c == 34 && has_hashes hashes cs) (Ok ([], drop hashes cs)) (raw_other hashes text c cs) (past c cs (drop hashes cs) (dropped hashes cs))
    (text_either text (c ∷ cs) (c == 13) (raw_cr hashes text c cs) (with_front (encode_utf8 c) (raw_from hashes text cs))
    (text_either text (c ∷ cs) (begins_with (10 ∷ []) cs) (raw_from hashes text cs) (text_breaks 2 (c ∷ cs)) (text_wider c text cs (raw_from hashes text cs) others) (h, bad_token))
    (text_past c text cs (encode_utf8 c) (raw_from hashes text cs) others))

pub raw_text_rests : (kind : Quoted) (text inside ds : List ℕ) → EndsIn text ds → EndsIn inside ds → Rests text inside (raw_text_at kind text ds)
raw_text_rests kind text inside ds h k = by (nat_le (length (take_while is_hash ds)) 255)
  where
    by : (b : Bool) → Rests text inside (cond b (text_token kind (raw_from (length (take_while is_hash ds)) text (drop 1 (skip_while is_hash ds)))) (breaks 2 text))
    by true =
        let behind = drop 1 (skip_while is_hash ds) in
        let ends : EndsIn ds behind = through ds (skip_while is_hash ds) behind (skipped is_hash ds) (dropped 1 (skip_while is_hash ds)) in
        token_rests kind text inside behind (raw_from (length (take_while is_hash ds)) text behind) (through inside ds behind k ends)
        (raw_from_rests (length (take_while is_hash ds)) text behind (through text ds behind h ends))
    by false = (itself text, bad_token)
