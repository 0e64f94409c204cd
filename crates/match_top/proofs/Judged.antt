-- The answers to a source that is not too long.
use Rattle.std.proofs.Common.{ℕ, ◌<◌, ◌≤◌, ◌*◌, ◌^◌, inl, inr, refl, subst, sym, List, Some, Result, Ok, Err, IfOk, arith}
use Rattle.decl_lexer.specs.Lexing.{Placed, HasTokens, HasFault}
use Rattle.decl_syntax.specs.Units.{units}
use Rattle.decl_syntax.specs.Items.{ItemTree}
use Rattle.decl_parser.specs.FileGrammar.{IsFile, IsSyntaxFault, IsWideFault}
use Rattle.match_model.specs.declared.Width.{Width}
use Rattle.type_table.specs.Faults.{Breaks, IsFirstFault}
use Rattle.type_table.specs.Faults as faults
use Rattle.verdict_json.specs.Rules.{IsRule}
use Rattle.match_top.specs.Answers.{IsAnswerToItems, IsAnswerToTokens, IsJudged, IsDone, longest_source}
use Rattle.match_top.specs.Refusals.{IsRefusedIn, IsRefusedAt}
use Rattle.match_top.specs.declared.answering.Answer.{Answer}
use Rattle.match_top.specs.Reports.{setting_of}
use Rattle.match_top.specs.Words.{RequestForm}

-- a source that does not lex is answered by its first fault
pub fault_answer : {E : Type 0} (request : RequestForm) (source : List ℕ) (rule place : ℕ) (r : Result Answer E) → HasFault source rule place → IfOk r (λ a. IsRefusedAt rule (Some place) a.text.items a.status)
    → IfOk r (λ a. IsJudged request source a.text.items a.status)
unfolding IsJudged
fault_answer request source rule place (Ok a) f h = inl (record { rule = rule; place = place; fault = f; refused = h })
fault_answer request source rule place (Err x) f h = tt

-- one that has tokens by these
pub tokens_answer : {E : Type 0} (request : RequestForm) (source : List ℕ) (tokens : List Placed) (r : Result Answer E) → HasTokens source tokens → IfOk r (λ a. IsAnswerToTokens request tokens a.text.items a.status)
    → IfOk r (λ a. IsJudged request source a.text.items a.status)
unfolding IsJudged
tokens_answer request source tokens (Ok a) l h = inr (record { tokens = tokens; lexed = l; answered = h })
tokens_answer request source tokens (Err x) l h = tt

-- tokens that spell a file are answered by its items
pub file_answer : {E : Type 0} (request : RequestForm) (tokens : List Placed) (items : List ItemTree) (r : Result Answer E) → IsFile (units tokens) items → IfOk r (λ a. IsAnswerToItems request items a.text.items a.status)
    → IfOk r (λ a. IsAnswerToTokens request tokens a.text.items a.status)
unfolding IsAnswerToTokens
file_answer request tokens items (Ok a) s h = inr (inr (record { items = items; spelled = s; answered = h }))
file_answer request tokens items (Err x) s h = tt

-- others by their fault
pub syntax_answer : {E : Type 0} (request : RequestForm) (tokens : List Placed) (number place : ℕ) (r : Result Answer E) → IsSyntaxFault (units tokens) number place
    → IfOk r (λ a. IsRefusedIn 6 (Some number) (Some place) a.text.items a.status) → IfOk r (λ a. IsAnswerToTokens request tokens a.text.items a.status)
unfolding IsAnswerToTokens
syntax_answer request tokens number place (Ok a) f h = inl (record { number = number; place = place; fault = f; refused = h })
syntax_answer request tokens number place (Err x) f h = tt

pub width_answer : {E : Type 0} (request : RequestForm) (tokens : List Placed) (number place : ℕ) (r : Result Answer E) → IsWideFault (units tokens) number place
    → IfOk r (λ a. IsRefusedIn 9 (Some number) (Some place) a.text.items a.status) → IfOk r (λ a. IsAnswerToTokens request tokens a.text.items a.status)
unfolding IsAnswerToTokens
width_answer request tokens number place (Ok a) f h = inr (inl (record { number = number; place = place; fault = f; refused = h }))
width_answer request tokens number place (Err x) f h = tt

-- items of which one breaks a rule are answered by the first fault
pub declaration_answer : {E : Type 0} (request : RequestForm) (items : List ItemTree) (rule number place : ℕ) (r : Result Answer E) → IsFirstFault items request.options.width rule number place
    → IfOk r (λ a. IsRefusedIn rule (Some number) (Some place) a.text.items a.status) → IfOk r (λ a. IsAnswerToItems request items a.text.items a.status)
unfolding IsAnswerToItems
declaration_answer request items rule number place (Ok a) f h = inl (record { rule = rule; number = number; place = place; fault = f; refused = h })
declaration_answer request items rule number place (Err x) f h = tt

-- others by what is asked
pub done_answer : {E : Type 0} (request : RequestForm) (items : List ItemTree) (r : Result Answer E) → IfOk r (λ a. IsDone request.question (setting_of request.options items) a.text.items a.status) → IfOk r (λ a. IsAnswerToItems request items a.text.items a.status)
unfolding IsAnswerToItems
done_answer request items (Ok a) h = inr h
done_answer request items (Err x) h = tt

-- a rule that an item breaks has a name
pub has_name : (items : List ItemTree) (width : Width) (rule number place : ℕ) → IsFirstFault items width rule number place → IsRule rule
has_name items width rule number place f = named number f.broken
  where
    named : (i : ℕ) → Breaks items width i rule → IsRule rule
    named i (faults.name_twice e h) = subst IsRule (sym e) refl
    named i (faults.variant_twice e h) = subst IsRule (sym e) refl
    named i (faults.field_twice e h) = subst IsRule (sym e) refl
    named i (faults.unknown_type e h) = subst IsRule (sym e) refl
    named i (faults.sizeless_place e h) = subst IsRule (sym e) refl
    named i (faults.contains_itself e h) = subst IsRule (sym e) refl
    named i (faults.array_length e h) = subst IsRule (sym e) refl
    named i (faults.argument_count e h) = subst IsRule (sym e) refl
    named i (faults.bad_use e h) = subst IsRule (sym e) refl
    named i (faults.unsupported_attribute e h) = subst IsRule (sym e) refl
    named i (faults.endless_type e h) = subst IsRule (sym e) refl

-- what is at most twice as many as the bytes of a source is below the numbers of 32 bits
pub few_of : (count bytes : ℕ) → count ≤ 2 * bytes → bytes ≤ longest_source → count < 2 ^ 32
unfolding longest_source
few_of count bytes twice fits = omega arith
