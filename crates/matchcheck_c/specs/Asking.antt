-- What the numbers and texts of a question stand for.
use Rattle.std.specs.Prelude.{ℕ, List, Bool, Option, Some, None, nat_eq, map, if◌then◌else◌}
use Rattle.std.specs.List.{list_all}
use Rattle.std.specs.Str.{is_utf8}
use Rattle.match_model.specs.declared.Width.{Width}
use Rattle.match_model.specs.declared.Width.TheVariants.{Endless, Bits16, Bits32, Bits64}
use Rattle.match_top.specs.declared.words.Command.TheVariants.{Check, Trees, Arms}
use Rattle.match_top.specs.Words.{QuestionForm, RequestForm, ReportForm, OutcomeForm, accepts, is_answer}
use Rattle.matchcheck_c.specs.declared.asking.Question.{Question}
use Rattle.pattern_rules.specs.declared.Edition.{Edition}
use Rattle.pattern_rules.specs.declared.Edition.TheVariants.{E2021, E2024}

-- the bytes, where they are UTF-8
abbrev pub text_of : List ℕ → Option (List ℕ)
text_of bytes = if is_utf8 bytes then Some bytes else None

-- the answers of guards, where each letter is one
abbrev pub answers_of : List ℕ → Option (List Bool)
answers_of letters = if list_all is_answer letters then Some (map accepts letters) else None

-- the outcome of a value, where all three are there
abbrev pub outcome_of : Option (List ℕ) → Option (List ℕ) → Option (List Bool) → Option QuestionForm
outcome_of (Some function) (Some value) (Some answers) =
    Some (OutcomeForm (record { function = function; value = value; answers = answers }))
outcome_of None value answers = None
outcome_of (Some function) None answers = None
outcome_of (Some function) (Some value) None = None

abbrev pub evaluation_of : Question → Option QuestionForm
evaluation_of q = outcome_of (text_of q.function.now) (text_of q.value.now) (answers_of q.answers.now)

-- what is asked: 0 `check`, 1 `trees`, 2 `arms`, 3 `eval`
abbrev pub form_of : Question → Option QuestionForm
form_of q =
    if nat_eq q.command 0 then Some (ReportForm Check)
    else (if nat_eq q.command 1 then Some (ReportForm Trees)
    else (if nat_eq q.command 2 then Some (ReportForm Arms)
    else (if nat_eq q.command 3 then evaluation_of q else None)))

-- the width of so many bits; 0 where it is not known
abbrev pub width_of : ℕ → Option Width
width_of bits =
    if nat_eq bits 0 then Some Endless
    else (if nat_eq bits 16 then Some Bits16
    else (if nat_eq bits 32 then Some Bits32
    else (if nat_eq bits 64 then Some Bits64 else None)))

-- the edition of this year
abbrev pub edition_of : ℕ → Option Edition
edition_of year =
    if nat_eq year 2021 then Some E2021
    else (if nat_eq year 2024 then Some E2024 else None)

-- what is asked, read by a width and an edition, where all three are there
abbrev pub request_with : Option QuestionForm → Option Width → Option Edition → Option RequestForm
request_with (Some question) (Some width) (Some edition) =
    Some (record { question = question; options = record { width = width; edition = edition } })
request_with None width edition = None
request_with (Some question) None edition = None
request_with (Some question) (Some width) None = None

-- the request that a question stands for, if any
abbrev pub request_of : Question → Option RequestForm
request_of q = request_with (form_of q) (width_of q.width) (edition_of q.edition)
