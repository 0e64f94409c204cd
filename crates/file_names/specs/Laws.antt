-- The laws on the names of a file.
use Rattle.std.specs.Prelude.{ℕ, List}
use Rattle.decl_lexer.specs.Lexing.{Placed, HasTokens}
use Rattle.decl_syntax.specs.Units.{units}
use Rattle.decl_syntax.specs.Items.{ItemTree}
use Rattle.decl_parser.specs.FileGrammar.{IsFile}
use Rattle.match_model.specs.Lists.{Every}
use Rattle.match_model.specs.declared.Width.{Width}
use Rattle.type_names.specs.Written.{program_of}
use Rattle.file_names.specs.Items.{IsTokenNamed, IsItemNamed}
use Rattle.file_names.specs.Named.{AreNames}

-- the names among the tokens of bytes are identifiers
abbrev pub TokenNamesAreNames : Type 0
TokenNamesAreNames = (bytes : List ℕ) (tokens : List Placed) → HasTokens bytes tokens → Every IsTokenNamed tokens

-- so are those of the items that the tokens spell
abbrev pub ItemNamesAreNames : Type 0
ItemNamesAreNames =
    (bytes : List ℕ) (tokens : List Placed) (items : List ItemTree) → HasTokens bytes tokens →
    IsFile (units tokens) items → Every IsItemNamed items

-- so are those of what the items declare
abbrev pub ProgramNamesAreNames : Type 0
ProgramNamesAreNames =
    (bytes : List ℕ) (tokens : List Placed) (items : List ItemTree) (width : Width) → HasTokens bytes tokens →
    IsFile (units tokens) items → AreNames (program_of items width)
