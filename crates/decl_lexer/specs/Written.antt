-- How a name is written (the Rust Reference, "Identifiers").
use Rattle.std.specs.Prelude.{ℕ, List, ◌++◌, codes, is_some, if◌then◌else◌}
use Rattle.decl_lexer.specs.Words.{word_of}

-- a name as Rust writes it: one that is a keyword has `r#` in front
abbrev pub written_name : List ℕ → List ℕ
written_name name = if is_some (word_of name) then codes "r#" ++ name else name
