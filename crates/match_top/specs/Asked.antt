-- What callers see of words that were read: the form, without where it lies in memory.
use Rattle.std.specs.Prelude.{map}
use Rattle.match_top.specs.declared.words.Asked.{Asked}
use Rattle.match_top.specs.declared.words.Evaluation.{Evaluation}
use Rattle.match_top.specs.declared.words.Question.{Question}
use Rattle.match_top.specs.declared.words.Question.TheVariants as questions
use Rattle.match_top.specs.declared.words.Request.{Request}
use Rattle.match_top.specs.Words.{Form, EvaluationForm, QuestionForm, RequestForm, ReportForm, OutcomeForm, CountsForm, accepts}

-- the function, the value and the answers
abbrev pub evaluation_view : Evaluation → EvaluationForm
evaluation_view e = record { function = e.function.now; value = e.value.now; answers = map accepts e.answers.now }

-- what is asked
abbrev pub question_view : Question → QuestionForm
question_view (questions.Report command) = ReportForm command
question_view (questions.Outcome e) = OutcomeForm (evaluation_view e)
question_view questions.Counts = CountsForm

-- the same, with the options
abbrev pub request_view : Request → RequestForm
request_view r = record { question = question_view r.question; options = r.options }

-- the form
abbrev pub asked_view : Asked → Form
asked_view a = record { request = request_view a.request; file = a.file.now }
