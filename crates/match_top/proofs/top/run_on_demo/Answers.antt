use Rattle.std.proofs.Common.{◌≡◌, subst, List, ℕ, rules}
use Rattle.std.specs.Io.KnownBytes.{Appends}
use Rattle.demo_file.specs.Generated.{demo_file}
use Rattle.match_top.specs.Answers.{Answers}
use Rattle.match_top.specs.DemoWords.{counts_request}
use Rattle.match_top.specs.Writing.{AppendsPart}
use Rattle.match_top.proofs.top.run_on_demo.Goals as goal

pub returns-clause-part : goal.returns-clause-part
returns-clause-part g c = λ _.
    let text : c.deref.result.now ≡ c.in-Ok-answer_to.answer.text.items = search rules in
    let source : c.in-Ok.source.items ≡ demo_file c.args.n = search rules in (
      c.in-Ok-answer_to.answer.text.items,
      c.in-Ok-answer_to.answer.status,
      subst (λ (bytes : List ℕ). Answers counts_request bytes c.in-Ok-answer_to.answer.text.items c.in-Ok-answer_to.answer.status) source c.in-Ok-answer_to.ensures.itself,
      subst (λ (z : List ℕ). AppendsPart (g.K.Sink.written c.args.sink.now) (g.K.Sink.written c.write_text.new.sink) z) text c.in-Err.ensures.part,
    )

pub returns-in-Ok-write_text-clause-whole : goal.returns-in-Ok-write_text-clause-whole
returns-in-Ok-write_text-clause-whole g c = λ verdict.
    let text : c.deref.result.now ≡ c.in-Ok-answer_to.answer.text.items = search rules in
    let source : c.in-Ok.source.items ≡ demo_file c.args.n = search rules in (
      c.in-Ok-answer_to.answer.text.items,
      subst (λ (bytes : List ℕ). Answers counts_request bytes c.in-Ok-answer_to.answer.text.items c.in-Ok-answer_to.answer.status) source c.in-Ok-answer_to.ensures.itself,
      subst (λ (z : List ℕ). Appends (g.K.Sink.written c.args.sink.now) (g.K.Sink.written c.write_text.new.sink) z) text c.in-Ok-write_text.ensures.whole,
    )
