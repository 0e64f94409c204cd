-- A file has one answer at most.
use Rattle.std.proofs.Common.{◌≡◌, ◌∙◌, ◌<◌, ℕ, List, [], ◌∷◌, Bool, true, false, Option, Some, None, MatchBool, inl, inr, refl, sym, ap, subst, arith, length, nat_lt}
use Rattle.std.proofs.lemmas.Bool.Decides.{nat_tests}
use Rattle.std.specs.List.{AllZip, list_all}
use Rattle.decl_lexer.specs.Lexing.{Placed}
use Rattle.decl_lexer.specs.Laws.{OneTokenList, OneFault, NeverBoth}
use Rattle.decl_syntax.specs.Items.{ItemTree}
use Rattle.decl_syntax.specs.Units.{units}
use Rattle.decl_parser.specs.FileGrammar.{OneFile, FileOrFault}
use Rattle.decl_parser.specs.FileGrammar as parser
use Rattle.match_model.specs.declared.Width.{Width}
use Rattle.type_table.specs.Faults.{BreaksNone, IsFirstFault}
use Rattle.match_model.specs.Unreachable.{Entry}
use Rattle.match_model.specs.Witness.{MWitness}
use Rattle.pattern_laws.specs.OverlapLaws.{OverlapListOnIsOne}
use Rattle.pattern_laws.specs.JudgedLaws.{VerdictIsOne}
use Rattle.pattern_laws.specs.TreeLaws.{TreeOnIsOne}
use Rattle.pattern_rules.specs.FirstFault.{PatternFault, AnswerIsOne}
use Rattle.pattern_rules.specs.Faults as patterns
use Rattle.pattern_rules.specs.Faults.{scrutinee_type}
use Rattle.pattern_rules.specs.Settings.{Setting, program}
use Rattle.decl_syntax.specs.Functions.{FunctionTree}
use Rattle.match_model.specs.Overlaps.{MOverlap}
use Rattle.match_model.specs.Trees.{MNode}
use Rattle.tree_text.specs.Trees.{NodeTree}
use Rattle.value_syntax.specs.Laws.{OneWritten}
use Rattle.verdict_json.specs.Report.{ReportEntry, JudgedFunction, RefusedFunction, ArmedFunction, report_text}
use Rattle.verdict_json.specs.Summaries.{IsSummary, summary_text}
use Rattle.verdict_json.specs.declared.summary.Summary.{Summary}
use Rattle.match_top.specs.declared.statuses.Status.{Status}
use Rattle.match_top.specs.declared.words.Command.{Command}
use Rattle.match_top.specs.declared.words.Command.TheVariants.{Check, Trees, Arms}
use Rattle.match_top.specs.Answers.{Answers, IsJudged, IsAnswerToTokens, IsAnswerToItems, IsDone, longest_source}
use Rattle.match_top.specs.Refusals.{IsRefusedIn, IsRefusedAt, IsRefusedBy}
use Rattle.match_top.specs.Words.{QuestionForm, RequestForm, ReportForm, OutcomeForm, CountsForm}
use Rattle.arm_maker.specs.Arms.{AreArms, patterns_of}
use Rattle.match_top.proofs.OneOrder.{one_order}
use Rattle.match_top.proofs.OneOutcome.{Same, evaluated_same}
use Rattle.match_top.specs.Reports.{NumberedFunction, setting_of, refusal_of, named_tree, IsShownTree, report_of, IsJudgedFunction, IsRefusedFunction}
use Rattle.match_top.specs.Reports.{ShowsArms, has_arms, is_too_large, IsArmedFunction, IsFineEntry}
use Rattle.match_top.specs.Reports.{IsEntry, is_refused, is_judged, is_clean, IsReported, IsCounted, arms_of, functions_of, status_of}
use Rattle.match_top.specs.Laws.{OneFirstFault}

-- a refusal tells the text and the status
refused_same : (rule number place other elsewhere : ℕ) (t u : List ℕ) (s r : Status) → number ≡ other → place ≡ elsewhere
    → IsRefusedIn rule (Some number) (Some place) t s → IsRefusedIn rule (Some other) (Some elsewhere) u r → Same t u s r
refused_same rule number place other elsewhere t u s r e f a b =
    let there : IsRefusedIn rule (Some number) (Some elsewhere) u r = subst (λ (k : ℕ). IsRefusedIn rule (Some k) (Some elsewhere) u r) (sym e) b in
    let here : IsRefusedIn rule (Some number) (Some place) u r = subst (λ (k : ℕ). IsRefusedIn rule (Some number) (Some k) u r) (sym f) there in
    (a.0 ∙ sym here.0, a.1 ∙ sym here.1)

-- ---- the first fault on declarations

one_number : (a b : ℕ) → (a < b → ⊥) → (b < a → ⊥) → a ≡ b
one_number a b above below = by (nat_lt a b) (nat_lt b a) refl refl
  where
    by : (l m : Bool) → nat_lt a b ≡ l → nat_lt b a ≡ m → a ≡ b
    by true m e f = absurd (above (grind (arith, nat_tests)))
    by false true e f = absurd (below (grind (arith, nat_tests)))
    by false false e f = grind (arith, nat_tests)

some_is : {A : Type 0} (x y : A) → Some x ≡ Some y → x ≡ y
some_is x y e = cc

some_is_none : {A : Type 0} (x : A) → Some x ≡ None → ⊥
some_is_none x e = cc

-- two first faults of one item are one
fault_at : (items : List ItemTree) (width : Width) (i rule at other elsewhere : ℕ) → IsFirstFault items width rule i at → IsFirstFault items width other i elsewhere
    → (rule ≡ other) × (at ≡ elsewhere)
fault_at items width i rule at other elsewhere f g = (
  one_number rule other (λ lt. g.least rule lt f.broken) (λ lt. f.least other lt g.broken),
  sym f.place ∙ ap (λ (item : ItemTree). item.from) (some_is _ _ (sym f.there ∙ g.there)) ∙ g.place,
)

pub one_first_fault : OneFirstFault
one_first_fault items width rule i at other j elsewhere f g =
    let same : j ≡ i = one_number j i (λ lt. f.first j other lt g.broken) (λ lt. g.first i rule lt f.broken) in
    let there : IsFirstFault items width other i elsewhere = subst (λ (k : ℕ). IsFirstFault items width other k elsewhere) same g in
    let both = fault_at items width i rule at other elsewhere f there in
    (both.0, sym same, both.1)

-- ---- the counts

-- a summary of these counts
abbrev made : (arms exhaustive functions overlaps unreachable witnesses : ℕ) → Summary
made arms exhaustive functions overlaps unreachable witnesses = record {
  arms = arms;
  exhaustive = exhaustive;
  functions = functions;
  overlaps = overlaps;
  unreachable = unreachable;
  witnesses = witnesses;
}

-- entries have one summary
summary_same : (arms : ℕ) (es : List ReportEntry) (x y : Summary) → IsSummary arms es x → IsSummary arms es y → x ≡ y
summary_same arms es x y a b =
    ap (λ (n : ℕ). made n x.exhaustive x.functions x.overlaps x.unreachable x.witnesses) (a.arms_are ∙ sym b.arms_are)
    ∙ ap (λ (n : ℕ). made y.arms n x.functions x.overlaps x.unreachable x.witnesses) (a.exhaustive_are ∙ sym b.exhaustive_are)
    ∙ ap (λ (n : ℕ). made y.arms y.exhaustive n x.overlaps x.unreachable x.witnesses) (a.functions_are ∙ sym b.functions_are)
    ∙ ap (λ (n : ℕ). made y.arms y.exhaustive y.functions n x.unreachable x.witnesses) (a.overlaps_are ∙ sym b.overlaps_are)
    ∙ ap (λ (n : ℕ). made y.arms y.exhaustive y.functions y.overlaps n x.witnesses) (a.unreachable_are ∙ sym b.unreachable_are)
    ∙ ap (λ (n : ℕ). made y.arms y.exhaustive y.functions y.overlaps y.unreachable n) (a.witnesses_are ∙ sym b.witnesses_are)

-- ---- the entries

-- the setting and the words of an entry
abbrev refused : NumberedFunction → PatternFault → ReportEntry
refused f x = RefusedFunction f.function.name (refusal_of f.number x.rule x.arm x.at)

-- witnesses ask for the arms of one list of texts
texts_same : (s : Setting) (f : FunctionTree) (ws : List MWitness) (texts others : List (List ℕ)) → AreArms (program s) (scrutinee_type s f) ws texts
    → AreArms (program s) (scrutinee_type s f) ws others → texts ≡ others
texts_same s f ws texts others a b =
    a.texts_are
    ∙ ap (patterns_of (program s) (scrutinee_type s f)) (one_order (program s) (scrutinee_type s f) ws a.sorted b.sorted a.in_order b.in_order)
    ∙ sym b.texts_are

true_is_false : {A : Type 0} → true ≡ false → A
true_is_false e = absurd (not_same e)
  where
    not_same : true ≡ false → ⊥
    not_same e = cc

-- so one entry shows them
arms_same : (s : Setting) (number : ℕ) (f : FunctionTree) (ws : List MWitness) (e d : ReportEntry) → ShowsArms s number f ws e → ShowsArms s number f ws d → e ≡ d
arms_same s number f ws e d (has_arms texts a whole is) (has_arms others b all other) = is ∙ ap (ArmedFunction f.name) (texts_same s f ws texts others a b) ∙ sym other
arms_same s number f ws e d (has_arms texts a whole is) (is_too_large b other) = true_is_false (sym a.small ∙ b)
arms_same s number f ws e d (is_too_large a is) (has_arms others b all other) = true_is_false (sym b.small ∙ a)
arms_same s number f ws e d (is_too_large a is) (is_too_large b other) = is ∙ sym other

-- where a function has the entry of one that breaks no rule, it breaks none
fine_of : (command : Command) (s : Setting) (f : NumberedFunction) (e : ReportEntry) → IsFineEntry command s f e → patterns.BreaksNone s f.function
fine_of Check s f e h = h.fine
fine_of Trees s f e h = h.fine
fine_of Arms s f e h = h.fine

-- what the laws of rules and of verdicts tell of entries
module _ (answer_is_one : AnswerIsOne) (one_verdict : VerdictIsOne) (one_list : OverlapListOnIsOne) (one_tree : TreeOnIsOne) (command : Command) where
  both_refused : (s : Setting) (f : NumberedFunction) (e d : ReportEntry) → IsRefusedFunction s f.number f.function e → IsRefusedFunction s f.number f.function d
      → e ≡ d
  both_refused s f e d a b =
      let one : PatternFault = record { rule = a.rule; arm = a.arm; at = a.at } in
      let other : PatternFault = record { rule = b.rule; arm = b.arm; at = b.at } in
      let same : one ≡ other = some_is one other (answer_is_one s f.function (Some one) (Some other) a.fault b.fault) in
      a.tells ∙ ap (refused f) same ∙ sym b.tells

  not_both : (s : Setting) (f : NumberedFunction) (e d : ReportEntry) → IsRefusedFunction s f.number f.function e → IsFineEntry command s f d → ⊥
  not_both s f e d a b =
      let one : PatternFault = record { rule = a.rule; arm = a.arm; at = a.at } in
      some_is_none one (answer_is_one s f.function (Some one) None a.fault (fine_of command s f d b))

  -- what is shown of a function's tree is one thing
  tree_same : (c : Command) (s : Setting) (f : FunctionTree) (x y : Option (List NodeTree)) → IsShownTree c s f x → IsShownTree c s f y → x ≡ y
  tree_same Check s f x y a b = a ∙ sym b
  tree_same Arms s f x y a b = a ∙ sym b
  tree_same Trees s f x y a b =
      a.2 ∙ ap (λ (nodes : List MNode). Some (named_tree s f nodes)) (one_tree s f a.0 b.0 a.1 b.1) ∙ sym b.2

  both_judged : (c : Command) (s : Setting) (f : NumberedFunction) (e d : ReportEntry) → IsJudgedFunction c s f.function e → IsJudgedFunction c s f.function d → e ≡ d
  both_judged c s f e d a b =
      let v = one_verdict s f.function a.exhaustive b.exhaustive a.unreachable b.unreachable a.witnesses b.witnesses a.verdict b.verdict in
      a.shows
      ∙ ap (λ (x : Bool). JudgedFunction (report_of s f.function x a.overlaps a.tree a.unreachable a.witnesses)) v.0
      ∙ ap (λ (us : List Entry). JudgedFunction (report_of s f.function b.exhaustive a.overlaps a.tree us a.witnesses)) v.1
      ∙ ap (λ (ws : List MWitness). JudgedFunction (report_of s f.function b.exhaustive a.overlaps a.tree b.unreachable ws)) v.2
      ∙ ap (λ (os : List MOverlap). JudgedFunction (report_of s f.function b.exhaustive os a.tree b.unreachable b.witnesses))
      (one_list s f.function a.overlaps b.overlaps a.overlaps_are b.overlaps_are)
      ∙ ap (λ (t : Option (List NodeTree)). JudgedFunction (report_of s f.function b.exhaustive b.overlaps t b.unreachable b.witnesses))
      (tree_same c s f.function a.tree b.tree a.tree_is b.tree_is)
      ∙ sym b.shows

  both_armed : (s : Setting) (f : NumberedFunction) (e d : ReportEntry) → IsArmedFunction s f.number f.function e → IsArmedFunction s f.number f.function d → e ≡ d
  both_armed s f e d a b =
      let v = one_verdict s f.function a.exhaustive b.exhaustive a.unreachable b.unreachable a.witnesses b.witnesses a.verdict b.verdict in
      arms_same s f.number f.function b.witnesses e d (subst (λ (ws : List MWitness). ShowsArms s f.number f.function ws e) v.2 a.shows) b.shows

  both_fine : (c : Command) (s : Setting) (f : NumberedFunction) (e d : ReportEntry) → IsFineEntry c s f e → IsFineEntry c s f d → e ≡ d
  both_fine Check s f e d a b = both_judged Check s f e d a b
  both_fine Trees s f e d a b = both_judged Trees s f e d a b
  both_fine Arms s f e d a b = both_armed s f e d a b

  pub one_entry_of : (s : Setting) (f : NumberedFunction) (e d : ReportEntry) → IsEntry command s f e → IsEntry command s f d → e ≡ d
  one_entry_of s f e d (is_refused a) (is_refused b) = both_refused s f e d a b
  one_entry_of s f e d (is_refused a) (is_judged b) = absurd (not_both s f e d a b)
  one_entry_of s f e d (is_judged a) (is_refused b) = absurd (not_both s f d e b a)
  one_entry_of s f e d (is_judged a) (is_judged b) = both_fine command s f e d a b

  same_entries : (s : Setting) (fs : List NumberedFunction) (es ds : List ReportEntry) → AllZip (IsEntry command s) fs es → AllZip (IsEntry command s) fs ds
      → es ≡ ds
  same_entries s [] [] [] a b = refl
  same_entries s [] [] (d ∷ ds) a b = absurd b
  same_entries s [] (e ∷ es) ds a b = absurd a
  same_entries s (f ∷ fs) [] ds a b = absurd a
  same_entries s (f ∷ fs) (e ∷ es) [] a b = absurd b
  same_entries s (f ∷ fs) (e ∷ es) (d ∷ ds) a b =
      ap (λ (x : ReportEntry). x ∷ es) (one_entry_of s f e d a.0 b.0) ∙ ap (λ (xs : List ReportEntry). d ∷ xs) (same_entries s fs es ds a.1 b.1)

  pub reported_same : (setting : Setting) (t u : List ℕ) (s r : Status) → IsReported command setting t s → IsReported command setting u r → Same t u s r
  reported_same setting t u s r a b =
      let same : a.entries ≡ b.entries = same_entries setting _ a.entries b.entries a.each b.each in
      (a.text_is ∙ ap report_text same ∙ sym b.text_is, a.status_is ∙ ap (λ (es : List ReportEntry). status_of (list_all is_clean es)) same ∙ sym b.status_is)

  pub counted_same : (setting : Setting) (t u : List ℕ) (s r : Status) → IsCounted command setting t s → IsCounted command setting u r → Same t u s r
  counted_same setting t u s r a b =
      let same : a.entries ≡ b.entries = same_entries setting _ a.entries b.entries a.each b.each in
      let there : IsSummary (arms_of (functions_of setting.items)) a.entries b.counts =
      subst (λ (es : List ReportEntry). IsSummary (arms_of (functions_of setting.items)) es b.counts) (sym same) b.counts_are in
      let counts : a.counts ≡ b.counts = summary_same (arms_of (functions_of setting.items)) a.entries a.counts b.counts a.counts_are there in
      (a.text_is ∙ ap summary_text counts ∙ sym b.text_is, a.status_is ∙ ap (λ (es : List ReportEntry). status_of (list_all is_clean es)) same ∙ sym b.status_is)

-- ---- the answer

-- where what is asked is answered no item breaks a rule on declarations
done_unbroken : (question : QuestionForm) (setting : Setting) (t : List ℕ) (s : Status) → IsDone question setting t s → BreaksNone setting.items setting.width
done_unbroken (ReportForm command) setting t s h = h.unbroken
done_unbroken (OutcomeForm e) setting t s h = h.0
done_unbroken CountsForm setting t s h = h.unbroken

-- what all these laws tell of answers
module _ (answer_is_one : AnswerIsOne) (one_verdict : VerdictIsOne) (one_list : OverlapListOnIsOne) (one_tree : TreeOnIsOne) (one_written : OneWritten) (request : RequestForm) where
  done_same : (question : QuestionForm) (s : Setting) (t u : List ℕ) (x y : Status) → IsDone question s t x → IsDone question s u y → Same t u x y
  done_same (ReportForm command) s t u x y a b = reported_same answer_is_one one_verdict one_list one_tree command s t u x y a b
  done_same (OutcomeForm e) s t u x y a b = evaluated_same one_written answer_is_one e s t u x y a.1 b.1
  done_same CountsForm s t u x y a b = counted_same answer_is_one one_verdict one_list one_tree Check s t u x y a b

  items_same : (items : List ItemTree) (t u : List ℕ) (s r : Status) → IsAnswerToItems request items t s → IsAnswerToItems request items u r → Same t u s r
  unfolding IsAnswerToItems
  items_same items t u s r (inl a) (inl b) =
      let same = one_first_fault items request.options.width a.rule a.number a.place b.rule b.number b.place a.fault b.fault in
      let there : IsRefusedIn a.rule (Some b.number) (Some b.place) u r =
      subst (λ (k : ℕ). IsRefusedIn k (Some b.number) (Some b.place) u r) (sym same.0) b.refused in
      refused_same a.rule a.number a.place b.number b.place t u s r same.1 same.2 a.refused there
  items_same items t u s r (inl a) (inr b) = absurd (done_unbroken request.question (setting_of request.options items) u r b a.number a.rule a.fault.broken)
  items_same items t u s r (inr a) (inl b) = absurd (done_unbroken request.question (setting_of request.options items) t s a b.number b.rule b.fault.broken)
  items_same items t u s r (inr a) (inr b) = done_same request.question (setting_of request.options items) t u s r a b

  -- what the laws of the grammar tell of answers to tokens
  module _ (one_file : OneFile) (one_fault : parser.OneFault) (file_or_fault : FileOrFault) where
    tokens_same : (tokens : List Placed) (t u : List ℕ) (s r : Status) → IsAnswerToTokens request tokens t s → IsAnswerToTokens request tokens u r → Same t u s r
    unfolding IsAnswerToTokens
    tokens_same tokens t u s r (inl a) (inl b) =
        let same = (one_fault (units tokens) a.number a.place b.number b.place).0 a.fault b.fault in
        refused_same 6 a.number a.place b.number b.place t u s r same.0 same.1 a.refused b.refused
    tokens_same tokens t u s r (inl a) (inr (inl b)) = absurd ((one_fault (units tokens) a.number a.place b.number b.place).2 a.fault b.fault)
    tokens_same tokens t u s r (inl a) (inr (inr b)) = absurd ((file_or_fault (units tokens) b.items b.spelled a.number a.place).0 a.fault)
    tokens_same tokens t u s r (inr (inl a)) (inl b) = absurd ((one_fault (units tokens) b.number b.place a.number a.place).2 b.fault a.fault)
    tokens_same tokens t u s r (inr (inl a)) (inr (inl b)) =
        let same = (one_fault (units tokens) a.number a.place b.number b.place).1 a.fault b.fault in
        refused_same 9 a.number a.place b.number b.place t u s r same.0 same.1 a.refused b.refused
    tokens_same tokens t u s r (inr (inl a)) (inr (inr b)) = absurd ((file_or_fault (units tokens) b.items b.spelled a.number a.place).1 a.fault)
    tokens_same tokens t u s r (inr (inr a)) (inl b) = absurd ((file_or_fault (units tokens) a.items a.spelled b.number b.place).0 b.fault)
    tokens_same tokens t u s r (inr (inr a)) (inr (inl b)) = absurd ((file_or_fault (units tokens) a.items a.spelled b.number b.place).1 b.fault)
    tokens_same tokens t u s r (inr (inr a)) (inr (inr b)) =
        let same : b.items ≡ a.items = one_file (units tokens) b.items a.items b.spelled a.spelled in
        items_same a.items t u s r a.answered (subst (λ (items : List ItemTree). IsAnswerToItems request items u r) same b.answered)

    -- and those of tokens of answers to a source
    module _ (one_tokens : OneTokenList) (one_lexing_fault : OneFault) (never_both : NeverBoth) where
      judged_same : (source t u : List ℕ) (s r : Status) → IsJudged request source t s → IsJudged request source u r → Same t u s r
      unfolding IsJudged
      judged_same source t u s r (inl a) (inl b) =
          let same = one_lexing_fault source a.rule a.place b.rule b.place a.fault b.fault in
          let there : IsRefusedAt a.rule (Some a.place) u r =
          subst (λ (k : ℕ). IsRefusedAt a.rule (Some k) u r) (sym same.1) (subst (λ (k : ℕ). IsRefusedAt k (Some b.place) u r) (sym same.0) b.refused) in
          (a.refused.0 ∙ sym there.0, a.refused.1 ∙ sym there.1)
      judged_same source t u s r (inl a) (inr b) = absurd (never_both source b.tokens a.rule a.place b.lexed a.fault)
      judged_same source t u s r (inr a) (inl b) = absurd (never_both source a.tokens b.rule b.place a.lexed b.fault)
      judged_same source t u s r (inr a) (inr b) =
          let same : b.tokens ≡ a.tokens = one_tokens source b.tokens a.tokens b.lexed a.lexed in
          tokens_same a.tokens t u s r a.answered (subst (λ (tokens : List Placed). IsAnswerToTokens request tokens u r) same b.answered)

      pub one_answer_of : (bytes t u : List ℕ) (s r : Status) → Answers request bytes t s → Answers request bytes u r → Same t u s r
      unfolding Answers
      one_answer_of bytes t u s r a b = by (nat_lt longest_source (length bytes)) a b
        where
          by : (long : Bool) → MatchBool long (IsRefusedBy 7 t s) (IsJudged request bytes t s) → MatchBool long (IsRefusedBy 7 u r) (IsJudged request bytes u r) → Same t u s r
          by true x y = (x.0 ∙ sym y.0, x.1 ∙ sym y.1)
          by false x y = judged_same bytes t u s r x y
