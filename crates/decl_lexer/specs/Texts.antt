-- Texts, byte texts, C texts, and the raw ones (the Rust Reference, "String literals" to "Raw C string literals").
use Rattle.std.specs.Prelude.{ℕ, zero, suc, ◌-◌, Bool, true, not, ◌&&◌, ◌||◌, List, [], ◌∷◌, ◌++◌, length, drop, nat_le, Result, Ok, Err, if◌then◌else◌, encode_utf8}
use Rattle.std.specs.Option.{option_map_or}
use Rattle.std.specs.List.{take_while}
use lib.Chars.{codes}
use Rattle.decl_lexer.specs.Begins.{Lexeme, Text, ByteText, CText, Fault, Begins, token, breaks}
use Rattle.decl_lexer.specs.Text.{skip_while, begins_with, is_one_of}
use Rattle.decl_lexer.specs.Escapes.{escape}
use Rattle.decl_lexer.specs.declared.escapes.Quoted.{Quoted}
use Rattle.decl_lexer.specs.declared.escapes.Quoted.TheVariants as quoted

-- what a text stands for, in UTF-8, and what follows its closing quote, or its first fault
abbrev pub TextRead : Type 0
TextRead = Result (List ℕ × List ℕ) Fault

-- what follows these bytes of a text
abbrev pub with_front : List ℕ → TextRead → TextRead
with_front front (Ok x) = Ok (front ++ x.0, x.1)
with_front front (Err f) = Err f

-- a rule is broken where this text begins
abbrev pub text_breaks : ℕ → List ℕ → TextRead
text_breaks rule rest = Err (record { rule = rule; rest = rest })

-- a line feed, or the CR that is part of one
abbrev pub begins_line_end : List ℕ → Bool
begins_line_end cs = begins_with (codes "\n") cs || begins_with (codes "\r\n") cs

-- what stands behind the spaces, tabs and line ends that a text begins with
abbrev pub behind_blanks : List ℕ → List ℕ
behind_blanks [] = []
behind_blanks (c ∷ cs) = if is_one_of (codes " \t") c || begins_line_end (c ∷ cs) then behind_blanks cs else c ∷ cs

-- a character that stands for itself, in a text with escapes or in a raw one
abbrev pub is_ordinary : Bool → ℕ → Bool
is_ordinary escapes c = not (is_one_of (codes "\"\r") c || (escapes && is_one_of (codes "\\") c))

-- a text from here on, where its first so many characters are read already, as part of what came before
unfoldable pub text_from : Quoted → List ℕ → ℕ → List ℕ → TextRead
text_from kind start read [] = text_breaks 4 start
text_from kind start (suc read) (c ∷ cs) = text_from kind start read cs
text_from kind start zero (c ∷ cs) =
    -- the closing quote
    if is_one_of (codes "\"") c then Ok ([], cs)
    -- a backslash before a line end skips it and the spaces, tabs and line ends that follow
    else (if is_one_of (codes "\\") c && begins_line_end cs then text_from kind start (length cs - length (behind_blanks cs)) cs
    -- an escape stands for its character; rule 5 where there is none
    else (if is_one_of (codes "\\") c then option_map_or (λ e. with_front (encode_utf8 e.0) (text_from kind start (length cs - length e.1) cs)) (escape kind cs) (text_breaks 5 (c ∷ cs))
    -- a CR is part of the line feed that follows; rule 2 where none follows
    else (if is_one_of (codes "\r") c then (if begins_with (codes "\n") cs then text_from kind start zero cs else text_breaks 2 (c ∷ cs))
    -- every other character stands for itself
    else with_front (encode_utf8 c) (text_from kind start zero cs))))

-- the token of a text that stands for this
abbrev pub text_lexeme : Quoted → List ℕ → Lexeme
text_lexeme quoted.Text value = Text value
text_lexeme quoted.Bytes value = ByteText
text_lexeme quoted.CText value = CText

-- a text that is read is a token
abbrev pub text_token : Quoted → TextRead → Begins
text_token kind (Ok x) = token (text_lexeme kind x.0) x.1
text_token kind (Err f) = Err f

-- a text, which goes on behind its opening quote as given
abbrev pub text_at : Quoted → List ℕ → List ℕ → Begins
text_at kind text inside = text_token kind (text_from kind text zero inside)

-- a `#` of a raw text
abbrev pub is_hash : ℕ → Bool
is_hash c = is_one_of (codes "#") c

-- whether a text begins with so many `#`
abbrev pub has_hashes : ℕ → List ℕ → Bool
has_hashes zero cs = true
has_hashes (suc n) cs = begins_with (codes "#") cs && has_hashes n (drop 1 cs)

-- a raw text of so many `#` from here on
unfoldable pub raw_from : ℕ → List ℕ → List ℕ → TextRead
raw_from hashes start [] = text_breaks 4 start
raw_from hashes start (c ∷ cs) =
    -- a quote and the `#` close it
    if is_one_of (codes "\"") c && has_hashes hashes cs then Ok ([], drop hashes cs)
    -- a CR is part of the line feed that follows; rule 2 where none follows
    else (if is_one_of (codes "\r") c then (if begins_with (codes "\n") cs then raw_from hashes start cs else text_breaks 2 (c ∷ cs))
    -- every other character stands for itself
    else with_front (encode_utf8 c) (raw_from hashes start cs))

-- whether the rest of a raw text stands here behind its letters: `#` and then a quote
abbrev pub is_raw_text : List ℕ → Bool
is_raw_text cs = begins_with (codes "\"") (skip_while is_hash cs)

-- a raw text, which goes on behind its letters as given; more than 255 `#` are rule 2
abbrev pub raw_text_at : Quoted → List ℕ → List ℕ → Begins
raw_text_at kind text behind =
    if nat_le (length (take_while is_hash behind)) 255 then text_token kind (raw_from (length (take_while is_hash behind)) text (drop 1 (skip_while is_hash behind)))
    else breaks 2 text
