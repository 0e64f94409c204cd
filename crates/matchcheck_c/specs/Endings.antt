-- What the text of a call says, and when there is none.
use Rattle.std.specs.Prelude.{ℕ, ◌≡◌, List, Bool, true, false, Some}
use Rattle.std.specs.Str.{is_utf8}
use Rattle.explain_places.specs.Pieces.{ArePieces}
use Rattle.explain_places.specs.declared.pieces.Piece.{Piece}
use Rattle.explain_report.specs.Arms.{read_arms}
use Rattle.explain_report.specs.Skimming.{read_skimmed}
use Rattle.explain_text.specs.Texts.{Outcome, Told, NoReport, NoPlace, outcome_of}
use Rattle.explain_text.specs.declared.explaining.Form.TheVariants.{Full}
use Rattle.explain_text.specs.declared.explaining.Manner.{Manner}
use Rattle.match_top.specs.Answers.{Answers}
use Rattle.match_top.specs.Statuses.{IsVerdict, status_number}
use Rattle.match_top.specs.Words.{RequestForm}
use Rattle.match_top.specs.declared.statuses.Status.{Status}
use Rattle.match_top.specs.declared.statuses.Status.TheVariants.{Clean, Found}
use Rattle.matchcheck_c.specs.Asking.{request_of}
use Rattle.matchcheck_c.specs.declared.asking.Question.{Question}

-- the question stands for a request, which has this text for the source, with a verdict of this number
pub record IsReport (question : Question) (source text : List ℕ) (number : ℕ) : Type 0 where
  pub request : RequestForm
  pub asked : request_of question ≡ Some request
  pub status : Status
  pub answers : Answers request source text status
  pub verdict : IsVerdict status
  pub numbered : status_number status ≡ number

-- the status of a text for people: whether a finding breaks a build
abbrev pub explained_status : Bool → Status
explained_status true = Found
explained_status false = Clean

-- in full, without colours
abbrev pub plain : Manner
plain = record { form = Full; paint = false }

-- the outcome of a report, and of one of `arms`, beside the source of this name, by the tokens of the source
pub record HasOutcome (name source report arms : List ℕ) (outcome : Outcome) : Type 0 where
  pub pieces : List Piece
  pub are_pieces : ArePieces source pieces
  pub itself : outcome_of plain name source (read_skimmed report) (read_arms arms) pieces ≡ outcome

-- the report is told as this text, with a status of this number
pub record IsExplained (name source report arms text : List ℕ) (number : ℕ) : Type 0 where
  pub breaks : Bool
  pub told : HasOutcome name source report arms (Told text breaks)
  pub numbered : status_number (explained_status breaks) ≡ number

-- there is nothing to tell: the name or a report is no UTF-8, a report is none, or a place of it is not in the source
pub data IsUntold (name source report arms : List ℕ) : Type 0 where
  no_name : is_utf8 name ≡ false → IsUntold name source report arms
  no_text : is_utf8 report ≡ false → IsUntold name source report arms
  no_arms : is_utf8 arms ≡ false → IsUntold name source report arms
  no_report : HasOutcome name source report arms NoReport → IsUntold name source report arms
  no_place : HasOutcome name source report arms NoPlace → IsUntold name source report arms
