-- What is written of values is read as the same values.
use Rattle.std.specs.Prelude.{◌≡◌, ℕ, Bool, true, List, Some, IsTrue}
use Rattle.decl_lexer.specs.Lexing.{Placed, HasTokens}
use Rattle.decl_syntax.specs.Units.{units}
use Rattle.decl_syntax.specs.Items.{ItemTree}
use Rattle.decl_parser.specs.FileGrammar.{IsFile}
use Rattle.match_model.specs.declared.Width.{Width}
use Rattle.match_model.specs.declared.Width.TheVariants.{Endless}
use Rattle.match_model.specs.Types.{MType}
use Rattle.match_model.specs.Typing.{is_value}
use Rattle.match_model.specs.Values.{MValue}
use Rattle.type_names.specs.Written.{program_of}
use Rattle.type_table.specs.Faults.{BreaksNone}
use Rattle.value_syntax.specs.Canonical.{IsCanonical, value_fits}
use Rattle.value_syntax.specs.Texts.{written_text}
use Rattle.value_text.specs.Meanings.{meant}
use Rattle.value_text.specs.Reading.{IsReadValue}
use Rattle.witness_names.specs.NamedValues.{written_value}
use Rattle.value_laws.specs.Short.{has_short_numbers}

-- in a file whose items break no rule, a value of a type that is written with its names means the value again, at a place
-- that is sure to hold a valid value and at one that is not
abbrev pub MeansAgain : Type 0
MeansAgain =
    (items : List ItemTree) (width : Width) (sure : Bool) (t : MType) (v : MValue) → BreaksNone items width →
    IsTrue (is_value (program_of items width) sure t v) →
    meant (program_of items width) sure t (written_value (program_of items width) t v) ≡ Some v

-- so its text is read as the value, where the value has at most 64 levels, no number above 128 bits, and names that are identifiers
abbrev pub ReadsBackAsValue : Type 0
ReadsBackAsValue =
    (items : List ItemTree) (width : Width) (sure : Bool) (t : MType) (v : MValue) → BreaksNone items width →
    IsTrue (is_value (program_of items width) sure t v) → IsCanonical (written_value (program_of items width) t v) →
    value_fits 64 (written_value (program_of items width) t v) ≡ true →
    IsReadValue (program_of items width) sure t (written_text (written_value (program_of items width) t v)) v

-- the names of a file are identifiers, so of the items of a file no more is asked than that the value has at most 64
-- levels, and no number above 128 bits where `usize` and `isize` have no width
abbrev pub FileReadsBack : Type 0
FileReadsBack =
    (bytes : List ℕ) (tokens : List Placed) (items : List ItemTree) (width : Width) (sure : Bool) (t : MType)
    (v : MValue) → HasTokens bytes tokens → IsFile (units tokens) items → BreaksNone items width →
    IsTrue (is_value (program_of items width) sure t v) → (width ≡ Endless → has_short_numbers v ≡ true) →
    value_fits 64 (written_value (program_of items width) t v) ≡ true →
    IsReadValue (program_of items width) sure t (written_text (written_value (program_of items width) t v)) v
