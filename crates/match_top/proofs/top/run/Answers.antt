use Rattle.std.proofs.Common.{◌≡◌, ℕ, refl, subst}
use Rattle.demo_file.specs.Generated.{demo_file}
use Rattle.match_top.specs.Answers.{Answers}
use Rattle.match_top.specs.DemoWords.{IsDemo, counts_request}
use Rattle.match_top.proofs.Forms.{demo_or_form, no_number_is, same_number}
use Rattle.match_top.proofs.top.run.Goals as goal

-- `demo N`
pub returns-in-Some-clause-words : goal.returns-in-Some-clause-words
returns-in-Some-clause-words g c =
    let here : IsDemo c.args.words.now c.in-Some.n = (c.in-Some.ensures.number c.in-Some.n).0 refl in
    (λ e. absurd (c.run_on_demo.ensures.words e), λ none. absurd (none.1 c.in-Some.n here))

pub returns-in-Some-clause-part : goal.returns-in-Some-clause-part
returns-in-Some-clause-part g c = λ _ form bytes formed told. demo_or_form c.args.words.now c.in-Some.n form ((c.in-Some.ensures.number c.in-Some.n).0 refl) formed

pub returns-in-Some-clause-whole : goal.returns-in-Some-clause-whole
returns-in-Some-clause-whole g c = λ _ form bytes formed told. demo_or_form c.args.words.now c.in-Some.n form ((c.in-Some.ensures.number c.in-Some.n).0 refl) formed

pub returns-in-Some-clause-seen : goal.returns-in-Some-clause-seen
returns-in-Some-clause-seen g c = λ _ form formed. demo_or_form c.args.words.now c.in-Some.n form ((c.in-Some.ensures.number c.in-Some.n).0 refl) formed

pub returns-in-Some-clause-demo_part : goal.returns-in-Some-clause-demo_part
returns-in-Some-clause-demo_part g c = λ fault n asked.
    let same : c.in-Some.n ≡ n = same_number c.in-Some.n n ((c.in-Some.ensures.number n).1 asked) in
    let there = c.run_on_demo.ensures.part fault in
    (there.0, there.1, subst (λ (m : ℕ). Answers counts_request (demo_file m) there.0 there.1) same there.2, there.3)

pub returns-in-Some-clause-demo_whole : goal.returns-in-Some-clause-demo_whole
returns-in-Some-clause-demo_whole g c = λ verdict n asked.
    let same : c.in-Some.n ≡ n = same_number c.in-Some.n n ((c.in-Some.ensures.number n).1 asked) in
    let there = c.run_on_demo.ensures.whole verdict in
    (there.0, subst (λ (m : ℕ). Answers counts_request (demo_file m) there.0 c.run_on_demo.result) same there.1, there.2)

-- any other words
pub returns-in-None-clause-words : goal.returns-in-None-clause-words
returns-in-None-clause-words g c =
    (λ e. (c.run_on_file.ensures.words.0 e, λ n asked. no_number_is n ((c.in-None.ensures.number n).1 asked)), λ none. c.run_on_file.ensures.words.1 none.0)

pub returns-in-None-clause-demo_files : goal.returns-in-None-clause-demo_files
returns-in-None-clause-demo_files g c = λ n asked. no_number_is n ((c.in-None.ensures.number n).1 asked)

pub returns-in-None-clause-demo_decided : goal.returns-in-None-clause-demo_decided
returns-in-None-clause-demo_decided g c = λ n asked. no_number_is n ((c.in-None.ensures.number n).1 asked)

pub returns-in-None-clause-demo_part : goal.returns-in-None-clause-demo_part
returns-in-None-clause-demo_part g c = λ _ n asked. no_number_is n ((c.in-None.ensures.number n).1 asked)

pub returns-in-None-clause-demo_whole : goal.returns-in-None-clause-demo_whole
returns-in-None-clause-demo_whole g c = λ _ n asked. no_number_is n ((c.in-None.ensures.number n).1 asked)
