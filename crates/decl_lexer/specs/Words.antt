-- The keywords and their texts (the Rust Reference, "Keywords": strict and reserved ones, without `gen`, which is our own choice).
use Rattle.std.specs.Prelude.{ℕ, Bool, not, List, [], ◌∷◌, Option}
use Rattle.std.specs.List.{list_any}
use Rattle.std.specs.Str.{bytes_eq}
use lib.Chars.{codes}
use Rattle.decl_lexer.specs.Tables.{with_text}
use Rattle.decl_lexer.specs.declared.words.Word.{Word}
use Rattle.decl_lexer.specs.declared.words.Word.TheVariants.{As, Async, Await, Break, Const, Continue, Crate, Dyn, Else, Enum, Extern, False, Fn, For, If, Impl, In, Let, Loop, Match, Mod, Move, Mut, Pub, Ref, Return, SelfValue, SelfType, Static, Struct, Super, Trait, True, TypeWord, Unsafe, Use, Where, While, Abstract, Become, Box, Do, Final, Macro, Override, Priv, Try, Typeof, Unsized, Virtual, Yield}

-- each keyword beside its text
abbrev pub words : List (List ℕ × Word)
words =
    (codes "as", As) ∷
    (codes "async", Async) ∷
    (codes "await", Await) ∷
    (codes "break", Break) ∷
    (codes "const", Const) ∷
    (codes "continue", Continue) ∷
    (codes "crate", Crate) ∷
    (codes "dyn", Dyn) ∷
    (codes "else", Else) ∷
    (codes "enum", Enum) ∷
    (codes "extern", Extern) ∷
    (codes "false", False) ∷
    (codes "fn", Fn) ∷
    (codes "for", For) ∷
    (codes "if", If) ∷
    (codes "impl", Impl) ∷
    (codes "in", In) ∷
    (codes "let", Let) ∷
    (codes "loop", Loop) ∷
    (codes "match", Match) ∷
    (codes "mod", Mod) ∷
    (codes "move", Move) ∷
    (codes "mut", Mut) ∷
    (codes "pub", Pub) ∷
    (codes "ref", Ref) ∷
    (codes "return", Return) ∷
    (codes "self", SelfValue) ∷
    (codes "Self", SelfType) ∷
    (codes "static", Static) ∷
    (codes "struct", Struct) ∷
    (codes "super", Super) ∷
    (codes "trait", Trait) ∷
    (codes "true", True) ∷
    (codes "type", TypeWord) ∷
    (codes "unsafe", Unsafe) ∷
    (codes "use", Use) ∷
    (codes "where", Where) ∷
    (codes "while", While) ∷
    (codes "abstract", Abstract) ∷
    (codes "become", Become) ∷
    (codes "box", Box) ∷
    (codes "do", Do) ∷
    (codes "final", Final) ∷
    (codes "macro", Macro) ∷
    (codes "override", Override) ∷
    (codes "priv", Priv) ∷
    (codes "try", Try) ∷
    (codes "typeof", Typeof) ∷
    (codes "unsized", Unsized) ∷
    (codes "virtual", Virtual) ∷
    (codes "yield", Yield) ∷ []

-- the keyword with this text
abbrev pub word_of : List ℕ → Option Word
word_of text = with_text words text

-- whether `r#` may stand before this name
abbrev pub can_be_raw : List ℕ → Bool
can_be_raw text = not (list_any (bytes_eq text) (codes "crate" ∷ codes "self" ∷ codes "super" ∷ codes "Self" ∷ codes "_" ∷ []))
