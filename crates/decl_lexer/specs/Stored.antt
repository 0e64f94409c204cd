-- What a caller sees of the tokens of a source that are kept.
use Rattle.std.specs.Prelude.{◌≡◌, ℕ, Bool, true, false, List, [], ◌++◌, ◌∷◌, map, Option, Some, None, option_map, String, string_bytes, slice_get}
use Rattle.std.specs.Rc.{rc_str_bytes}
use Rattle.std.specs.declared.rc.RcStr.{RcStr}
use Rattle.std.specs.Global.{Global, Box}
use Rattle.decl_lexer.specs.declared.token.IntToken.{IntToken}
use Rattle.decl_lexer.specs.declared.stored.Stored as declared
use Rattle.decl_lexer.specs.declared.stored.StoredKind.{StoredKind}
use Rattle.decl_lexer.specs.declared.stored.StoredKind.TheVariants as kinds
use Rattle.decl_lexer.specs.declared.stored.Lists.{Lists}
use Rattle.decl_lexer.specs.declared.stored.Tokens.{Tokens}
use Rattle.decl_lexer.specs.declared.stored.Rest.{Rest}
use Rattle.decl_lexer.specs.declared.marks.Mark.{Mark}
use Rattle.decl_lexer.specs.Begins.{mark_of, Lexeme, Named, Keyword, Marked, Lifetime, Integer, Float, Character, Byte, Text, ByteText, CText}
use Rattle.decl_lexer.specs.Lexing.{Placed}

-- the name with this text; where there is none, a lifetime
abbrev pub name_entry : Bool → Option (RcStr Global) → Lexeme
name_entry raw (Some text) = Named (rc_str_bytes text) raw
name_entry raw None = Lifetime

-- the decimal integer without a suffix of this value
abbrev pub large_entry : Option ℕ → Lexeme
large_entry (Some value) = Integer (Some value) [] true
large_entry None = Lifetime

-- the integer literal
abbrev pub integer_entry : Option (Box IntToken) → Lexeme
integer_entry (Some integer) = Integer integer.value.value (string_bytes integer.value.suffix) integer.value.decimal
integer_entry None = Lifetime

-- the text
abbrev pub text_entry : Option (String Global) → Lexeme
text_entry (Some text) = Text (string_bytes text)
text_entry None = Lifetime

-- what a kept token is: its payload, or the entry with its number
abbrev pub lexeme_in : Lists → StoredKind → Lexeme
lexeme_in lists (kinds.Name n) = name_entry false (slice_get lists.names.keys n)
lexeme_in lists (kinds.RawName n) = name_entry true (slice_get lists.names.keys n)
lexeme_in lists (kinds.Word word) = Keyword word
lexeme_in lists (kinds.Mark mark) = Marked mark
lexeme_in lists kinds.Lifetime = Lifetime
lexeme_in lists (kinds.Small value) = Integer (Some value) [] true
lexeme_in lists (kinds.Large n) = large_entry (slice_get lists.large.items n)
lexeme_in lists (kinds.Int n) = integer_entry (slice_get lists.integers.items n)
lexeme_in lists kinds.Float = Float
lexeme_in lists (kinds.Char c) = Character c
lexeme_in lists (kinds.Byte b) = Byte b
lexeme_in lists (kinds.Str n) = text_entry (slice_get lists.texts.items n)
lexeme_in lists kinds.ByteStr = ByteText
lexeme_in lists kinds.CStr = CText

-- the same with its place
abbrev pub placed_in : Lists → declared.Stored → Placed
placed_in lists t = record { lexeme = lexeme_in lists t.kind; from = t.from; to = t.to }

-- the tokens of a source
abbrev pub tokens_view : Tokens → List Placed
tokens_view t = map (placed_in t.lists) t.stored.items

-- the same from one of them on
abbrev pub rest_view : Rest → List Placed
rest_view t = map (placed_in t.lists.now) t.stored.now

-- what the first of these tokens is
abbrev pub first_is : {A : Type 0} → (Lexeme → Option A) → List Placed → Option A
first_is meaning [] = None
first_is meaning (t ∷ ts) = meaning t.lexeme

-- what the first of these tokens stands for, and the tokens behind it
abbrev pub first_as : {A : Type 0} → (Placed → Option A) → List Placed → Option (A × List Placed)
first_as meaning [] = None
first_as meaning (t ∷ ts) = option_map (λ x. (x, ts)) (meaning t)

-- the mark that a token is, if it is one, and where the token ends
abbrev pub mark_and_end : Placed → Option (Option Mark × ℕ)
mark_and_end t = Some (mark_of t.lexeme, t.to)

-- the second list is the first with more behind it
abbrev pub Grew : {A : Type 0} → List A → List A → Type 0
Grew {A} old new = (more : List A) × (new ≡ old ++ more)

-- each list of the second is that of the first with more behind it
abbrev pub Grows : Lists → Lists → Type 0
Grows old new = Grew old.names.keys new.names.keys × Grew old.large.items new.large.items × Grew old.integers.items new.integers.items × Grew old.texts.items new.texts.items

-- there is an entry, with these bytes
abbrev pub IsEntry : List ℕ → Option (RcStr Global) → Type 0
IsEntry bytes entry = (text : RcStr Global) × (entry ≡ Some text) × (rc_str_bytes text ≡ bytes)

-- the kept token is this one in these lists, and stays so when they grow
abbrev pub Shows : Lists → StoredKind → Lexeme → Type 0
Shows lists kind lexeme = (longer : Lists) → Grows lists longer → lexeme_in longer kind ≡ lexeme

-- the tokens stay what they are when their lists grow
abbrev pub IsWhole : Tokens → Type 0
IsWhole t = (longer : Lists) → Grows t.lists longer → map (placed_in longer) t.stored.items ≡ tokens_view t
