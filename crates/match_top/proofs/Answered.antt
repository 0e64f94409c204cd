-- A file is answered by what is taken of it.
use Rattle.std.proofs.Common.{◌≡◌, ◌∙◌, sym, subst, ℕ, ◌+◌, ◌<◌, ◌≤◌, List, Bool, true, false, take, length, nat_lt, min, MatchBool, Result, Ok, Err, IfOk, arith}
use Rattle.std.proofs.lemmas.List.{length-take, take_all}
use Rattle.std.proofs.lemmas.Bool.Decides.{nat_tests}
use Rattle.match_top.specs.Answers.{Answers, IsJudged, taken, longest_source, most_taken}
use Rattle.match_top.specs.Refusals.{IsRefusedBy}
use Rattle.match_top.specs.declared.statuses.Status.{Status}
use Rattle.match_top.specs.declared.answering.Answer.{Answer}
use Rattle.match_top.specs.Words.{RequestForm}

above : (n a : ℕ) → n < min (n + 1) a → nat_lt n a ≡ true
above n a over = grind (arith, nat_tests)

below : (n a : ℕ) → a ≤ n → nat_lt n a ≡ false
below n a fits = grind (arith, nat_tests)

long_taken : (n : ℕ) (bytes : List ℕ) → n < length (take (n + 1) bytes) → nat_lt n (length bytes) ≡ true
long_taken n bytes over = let same : length (take (n + 1) bytes) ≡ min (n + 1) (length bytes) = length-take (n + 1) bytes in above n (length bytes) (subst (λ (z : ℕ). n < z) same over)

short : (n a t : ℕ) → t ≡ min (n + 1) a → t ≤ n → a ≤ n
short n a t e fits = omega arith

short_taken : (n : ℕ) (bytes : List ℕ) → length (take (n + 1) bytes) ≤ n → length bytes ≤ n
short_taken n bytes fits = short n (length bytes) (length (take (n + 1) bytes)) (length-take (n + 1) bytes) fits

answers_long : (request : RequestForm) (source bytes text : List ℕ) (status : Status) → source ≡ taken bytes → longest_source < length source → IsRefusedBy 7 text status → Answers request bytes text status
unfolding Answers taken
answers_long request source bytes text status same over refused =
    let long : nat_lt longest_source (length bytes) ≡ true = long_taken longest_source bytes (subst (λ (z : List ℕ). longest_source < length z) same over) in
    subst (λ (b : Bool). MatchBool b (IsRefusedBy 7 text status) (IsJudged request bytes text status)) (sym long) refused

answers_short : (request : RequestForm) (source bytes text : List ℕ) (status : Status) → source ≡ taken bytes → length source ≤ longest_source → IsJudged request source text status → Answers request bytes text status
unfolding Answers taken
answers_short request source bytes text status same fits judged =
    let within : length bytes ≤ longest_source = short_taken longest_source bytes (subst (λ (z : List ℕ). length z ≤ longest_source) same fits) in
    let whole : source ≡ bytes = same ∙ take_all (longest_source + 1) bytes (omega arith) in
    let not_long : nat_lt longest_source (length bytes) ≡ false = below longest_source (length bytes) within in
    subst (λ (b : Bool). MatchBool b (IsRefusedBy 7 text status) (IsJudged request bytes text status)) (sym not_long) (subst (λ (z : List ℕ). IsJudged request z text status) whole judged)

-- where too much was taken, the refusal for its length is the answer to the file
pub refused_long : {E : Type 0} (request : RequestForm) (source : List ℕ) (result : Result Answer E) → longest_source < length source
    → IfOk result (λ a. IsRefusedBy 7 a.text.items a.status)
    → IfOk result (λ a. (bytes : List ℕ) → source ≡ taken bytes → Answers request bytes a.text.items a.status)
refused_long request source (Ok a) over refused = λ bytes same. answers_long request source bytes a.text.items a.status same over refused
refused_long request source (Err e) over refused = tt

-- where no more was taken than a source may have, that is the whole file, and its judgement is the answer
pub judged_short : {E : Type 0} (request : RequestForm) (source : List ℕ) (result : Result Answer E) → length source ≤ longest_source
    → IfOk result (λ a. IsJudged request source a.text.items a.status)
    → IfOk result (λ a. (bytes : List ℕ) → source ≡ taken bytes → Answers request bytes a.text.items a.status)
judged_short request source (Ok a) fits judged = λ bytes same. answers_short request source bytes a.text.items a.status same fits judged
judged_short request source (Err e) fits judged = tt

-- what is asked of the bytes themselves is answered by the refusal for their length, where they are too many
pub refused_itself : {E : Type 0} (request : RequestForm) (source : List ℕ) (result : Result Answer E) → longest_source < length source
    → IfOk result (λ a. IsRefusedBy 7 a.text.items a.status) → IfOk result (λ a. Answers request source a.text.items a.status)
unfolding Answers
refused_itself request source (Ok a) over refused =
    let long : nat_lt longest_source (length source) ≡ true = grind (arith, nat_tests) in
    subst (λ (b : Bool). MatchBool b (IsRefusedBy 7 a.text.items a.status) (IsJudged request source a.text.items a.status)) (sym long) refused
refused_itself request source (Err e) over refused = tt

-- and by their judgement, where they are not
pub judged_itself : {E : Type 0} (request : RequestForm) (source : List ℕ) (result : Result Answer E) → length source ≤ longest_source
    → IfOk result (λ a. IsJudged request source a.text.items a.status) → IfOk result (λ a. Answers request source a.text.items a.status)
unfolding Answers
judged_itself request source (Ok a) fits judged =
    let not_long : nat_lt longest_source (length source) ≡ false = below longest_source (length source) fits in
    subst (λ (b : Bool). MatchBool b (IsRefusedBy 7 a.text.items a.status) (IsJudged request source a.text.items a.status)) (sym not_long) judged
judged_itself request source (Err e) fits judged = tt

-- all is taken of no more bytes than are taken at most
pub taken_whole : (bytes : List ℕ) → length bytes ≤ most_taken → bytes ≡ taken bytes
unfolding taken
taken_whole bytes fits = sym (take_all most_taken bytes fits)
