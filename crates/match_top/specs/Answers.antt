-- What is written for the bytes of a file, and the status that goes with it.
use Rattle.std.specs.Prelude.{Some, ◌⊎◌, ℕ, ◌+◌, List, take, length, nat_lt, MatchBool}
use Rattle.decl_lexer.specs.Lexing.{Placed, HasTokens, HasFault}
use Rattle.decl_syntax.specs.Units.{units}
use Rattle.decl_syntax.specs.Items.{ItemTree}
use Rattle.decl_parser.specs.FileGrammar.{IsFile, IsSyntaxFault, IsWideFault}
use Rattle.pattern_rules.specs.Settings.{Setting}
use Rattle.type_table.specs.Faults.{BreaksNone, IsFirstFault}
use Rattle.match_top.specs.declared.statuses.Status.{Status}
use Rattle.match_top.specs.Outcomes.{IsEvaluated}
use Rattle.match_top.specs.Refusals.{IsRefusedIn, IsRefusedAt, IsRefusedBy}
use Rattle.match_top.specs.Reports.{IsReported, IsCounted, setting_of}
use Rattle.match_top.specs.Words.{QuestionForm, RequestForm, ReportForm, OutcomeForm, CountsForm}
use Rattle.match_top.specs.declared.words.Command.TheVariants.{Check}

-- the greatest length of a source, in bytes (our own choice)
unfoldable pub longest_source : ℕ
longest_source = 16777216

-- how many bytes of a file are taken at most: one more than a source may have, which tells that a file is longer
abbrev pub most_taken : ℕ
most_taken = longest_source + 1

-- what is taken of a file that has these bytes
unfoldable pub taken : List ℕ → List ℕ
taken bytes = take most_taken bytes

-- the source does not lex, and is refused by the rule of its first fault at its place
pub record IsRefusedFault (source text : List ℕ) (status : Status) : Type 0 where
  pub rule : ℕ
  pub place : ℕ
  pub fault : HasFault source rule place
  pub refused : IsRefusedAt rule (Some place) text status

-- behind so many items the tokens go on, but with no item: they are refused by rule 6 there
pub record IsRefusedSyntax (tokens : List Placed) (text : List ℕ) (status : Status) : Type 0 where
  pub number : ℕ
  pub place : ℕ
  pub fault : IsSyntaxFault (units tokens) number place
  pub refused : IsRefusedIn 6 (Some number) (Some place) text status

-- behind so many items stands one with a list that is too long: they are refused by rule 9 there
pub record IsRefusedWidth (tokens : List Placed) (text : List ℕ) (status : Status) : Type 0 where
  pub number : ℕ
  pub place : ℕ
  pub fault : IsWideFault (units tokens) number place
  pub refused : IsRefusedIn 9 (Some number) (Some place) text status

-- an item breaks a rule on declarations: the file is refused by the first such item's least rule, with the item's number
-- and the place where it begins
pub record IsRefusedDeclaration (s : Setting) (text : List ℕ) (status : Status) : Type 0 where
  pub rule : ℕ
  pub number : ℕ
  pub place : ℕ
  pub fault : IsFirstFault s.items s.width rule number place
  pub refused : IsRefusedIn rule (Some number) (Some place) text status

-- no item breaks a rule on declarations, and what is asked is answered: the report on the functions, what the match of one of
-- them does with a value, or the counts in the report that `check` has
abbrev pub IsDone : QuestionForm → Setting → List ℕ → Status → Type 0
IsDone (ReportForm command) s text status = IsReported command s text status
IsDone (OutcomeForm evaluation) s text status = BreaksNone s.items s.width × IsEvaluated evaluation s text status
IsDone CountsForm s text status = IsCounted Check s text status

-- the text and the status of a file of these items, read as the options say: it is refused by a rule on declarations, or what is
-- asked is answered
unfoldable pub IsAnswerToItems : RequestForm → List ItemTree → List ℕ → Status → Type 0
IsAnswerToItems request items text status =
    IsRefusedDeclaration (setting_of request.options items) text status
    ⊎ IsDone request.question (setting_of request.options items) text status

-- the tokens spell a file, and its items are answered
pub record IsAnswerToFile (request : RequestForm) (tokens : List Placed) (text : List ℕ) (status : Status) : Type 0 where
  pub items : List ItemTree
  pub spelled : IsFile (units tokens) items
  pub answered : IsAnswerToItems request items text status

-- the text and the status of tokens: what they spell decides
unfoldable pub IsAnswerToTokens : RequestForm → List Placed → List ℕ → Status → Type 0
IsAnswerToTokens request tokens text status =
    IsRefusedSyntax tokens text status ⊎ (IsRefusedWidth tokens text status ⊎ IsAnswerToFile request tokens text status)

-- the source has tokens, and they are answered
pub record IsAnswerToSource (request : RequestForm) (source text : List ℕ) (status : Status) : Type 0 where
  pub tokens : List Placed
  pub lexed : HasTokens source tokens
  pub answered : IsAnswerToTokens request tokens text status

-- the text and the status of a source that is not too long: one that does not lex is refused with its first fault, any
-- other is answered by its tokens
unfoldable pub IsJudged : RequestForm → List ℕ → List ℕ → Status → Type 0
IsJudged request source text status = IsRefusedFault source text status ⊎ IsAnswerToSource request source text status

-- the text and the status that a request has for a file of these bytes: one that is longer than a source may be is refused by
-- rule 7
unfoldable pub Answers : RequestForm → List ℕ → List ℕ → Status → Type 0
Answers request bytes text status =
    MatchBool (nat_lt longest_source (length bytes)) (IsRefusedBy 7 text status) (IsJudged request bytes text status)
