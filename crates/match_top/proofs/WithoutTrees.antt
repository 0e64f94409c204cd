-- What `check` has for a file is what `trees` has, without the decision trees.
use Rattle.std.proofs.Common.{◌≡◌, ◌∙◌, ℕ, Bool, true, false, ◌&&◌, List, [], ◌∷◌, map, None, MatchBool, inl, inr, refl, sym, ap, length, nat_lt}
use Rattle.std.specs.List.{AllZip, list_all}
use Rattle.decl_lexer.specs.Lexing.{Placed}
use Rattle.decl_syntax.specs.Items.{ItemTree}
use Rattle.pattern_rules.specs.Settings.{Setting}
use Rattle.verdict_json.specs.Report.{ReportEntry, JudgedFunction, RefusedFunction, ArmedFunction, report_text}
use Rattle.match_top.specs.declared.option_words.Options.{Options}
use Rattle.match_top.specs.declared.statuses.Status.{Status}
use Rattle.match_top.specs.declared.words.Command.TheVariants.{Check, Trees}
use Rattle.match_top.specs.Answers.{Answers, IsJudged, IsAnswerToTokens, IsAnswerToItems, longest_source}
use Rattle.match_top.specs.Laws.{report_by, EntriesAreWithoutTrees, AnswersAreWithoutTrees}
use Rattle.match_top.specs.Refusals.{IsRefusedBy}
use Rattle.match_top.specs.Reports.{NumberedFunction, functions_of, setting_of, without_tree, IsEntry, is_refused, is_judged, is_clean, status_of, IsReported}

pub entry_without : EntriesAreWithoutTrees
entry_without s f e (is_refused a) =
    is_refused (record { rule = a.rule; arm = a.arm; at = a.at; fault = a.fault; tells = ap without_tree a.tells })
entry_without s f e (is_judged a) =
    is_judged (record {
      fine = a.fine;
      exhaustive = a.exhaustive;
      unreachable = a.unreachable;
      witnesses = a.witnesses;
      verdict = a.verdict;
      overlaps = a.overlaps;
      overlaps_are = a.overlaps_are;
      tree = None;
      tree_is = refl;
      shows = ap without_tree a.shows;
    })

entries_without : (s : Setting) (fs : List NumberedFunction) (es : List ReportEntry) → AllZip (IsEntry Trees s) fs es
    → AllZip (IsEntry Check s) fs (map without_tree es)
entries_without s [] [] h = tt
entries_without s [] (e ∷ es) h = absurd h
entries_without s (f ∷ fs) [] h = absurd h
entries_without s (f ∷ fs) (e ∷ es) h = (entry_without s f e h.0, entries_without s fs es h.1)

clean_without : (e : ReportEntry) → is_clean (without_tree e) ≡ is_clean e
clean_without (JudgedFunction report) = refl
clean_without (RefusedFunction name refusal) = refl
clean_without (ArmedFunction name arms) = refl

all_clean : (es : List ReportEntry) → list_all is_clean (map without_tree es) ≡ list_all is_clean es
all_clean [] = refl
all_clean (e ∷ es) = ap (λ b. b && list_all is_clean (map without_tree es)) (clean_without e) ∙ ap (λ b. is_clean e && b) (all_clean es)

items_without : (options : Options) (items : List ItemTree) (text : List ℕ) (status : Status) → IsAnswerToItems (report_by options Trees) items text status
    → (other : List ℕ) × IsAnswerToItems (report_by options Check) items other status
unfolding IsAnswerToItems
items_without options items text status (inl a) = (text, inl a)
items_without options items text status (inr a) = (
  report_text (map without_tree a.entries),
  inr (record {
    unbroken = a.unbroken;
    entries = map without_tree a.entries;
    each = entries_without (setting_of options items) (functions_of items) a.entries a.each;
    text_is = refl;
    status_is = a.status_is ∙ ap status_of (sym (all_clean a.entries));
  }),
)

tokens_without : (options : Options) (tokens : List Placed) (text : List ℕ) (status : Status) → IsAnswerToTokens (report_by options Trees) tokens text status
    → (other : List ℕ) × IsAnswerToTokens (report_by options Check) tokens other status
unfolding IsAnswerToTokens
tokens_without options tokens text status (inl a) = (text, inl a)
tokens_without options tokens text status (inr (inl a)) = (text, inr (inl a))
tokens_without options tokens text status (inr (inr a)) =
    let there = items_without options a.items text status a.answered in
    (there.0, inr (inr (record { items = a.items; spelled = a.spelled; answered = there.1 })))

judged_without : (options : Options) (source text : List ℕ) (status : Status) → IsJudged (report_by options Trees) source text status → (other : List ℕ) × IsJudged (report_by options Check) source other status
unfolding IsJudged
judged_without options source text status (inl a) = (text, inl a)
judged_without options source text status (inr a) =
    let there = tokens_without options a.tokens text status a.answered in
    (there.0, inr (record { tokens = a.tokens; lexed = a.lexed; answered = there.1 }))

pub answers_without : AnswersAreWithoutTrees
unfolding Answers
answers_without options bytes text status h = by (nat_lt longest_source (length bytes)) h
  where
    by : (long : Bool) → MatchBool long (IsRefusedBy 7 text status) (IsJudged (report_by options Trees) bytes text status)
        → (other : List ℕ) × MatchBool long (IsRefusedBy 7 other status) (IsJudged (report_by options Check) bytes other status)
    by true x = (text, x)
    by false x = judged_without options bytes text status x
