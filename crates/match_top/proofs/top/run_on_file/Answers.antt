use Rattle.std.proofs.Common.{◌≡◌, Some, subst, sym, List, ℕ, rules}
use Rattle.match_top.specs.Answers.{Answers, taken}
use Rattle.match_top.specs.Asked.{asked_view}
use Rattle.match_top.specs.Words.{Form, form_of}
use Rattle.std.specs.Io.KnownBytes.{Appends}
use Rattle.match_top.specs.Writing.{AppendsPart}
use Rattle.match_top.proofs.Answered.{taken_whole}
use Rattle.match_top.proofs.Forms.{form_read}
use Rattle.match_top.proofs.top.run_on_file.Goals as goal

pub returns-clause-part : goal.returns-clause-part
returns-clause-part g c = λ _ form bytes formed told.
    let is : asked_view c.in-Some.asked ≡ form = form_read c.in-Some.asked form (form_of c.args.words.now) c.in-Some.ensures formed in
    let there : g.F.Files.holds c.args.files.now c.in-Some.asked.file.now ≡ Some bytes =
    subst (λ (x : Form). g.F.Files.holds c.args.files.now x.file ≡ Some bytes) (sym is) told in
    let same : c.in-Ok.source.items ≡ taken bytes = search rules in
    let text : c.deref.result.now ≡ c.in-Ok-answer_to.answer.text.items = search rules in (
      c.in-Ok-answer_to.answer.text.items,
      c.in-Ok-answer_to.answer.status,
      subst (λ (x : Form). Answers x.request bytes c.in-Ok-answer_to.answer.text.items c.in-Ok-answer_to.answer.status) is
          (c.in-Ok-answer_to.ensures.answers bytes same),
      subst (λ (z : List ℕ). AppendsPart (g.K.Sink.written c.args.sink.now) (g.K.Sink.written c.write_text.new.sink) z) text c.in-Err.ensures.part,
    )

pub returns-in-Ok-write_text-clause-seen : goal.returns-in-Ok-write_text-clause-seen
returns-in-Ok-write_text-clause-seen g c = λ verdict form formed.
    let is : asked_view c.in-Some.asked ≡ form = form_read c.in-Some.asked form (form_of c.args.words.now) c.in-Some.ensures formed in
    let whole : c.in-Ok.source.items ≡ taken c.in-Ok.source.items = taken_whole c.in-Ok.source.items (search rules) in
    let text : c.deref.result.now ≡ c.in-Ok-answer_to.answer.text.items = search rules in (
      c.in-Ok.source.items,
      c.in-Ok-answer_to.answer.text.items,
      subst (λ (x : Form). Answers x.request c.in-Ok.source.items c.in-Ok-answer_to.answer.text.items c.in-Ok-answer_to.answer.status) is
          (c.in-Ok-answer_to.ensures.answers c.in-Ok.source.items whole),
      subst (λ (z : List ℕ). Appends (g.K.Sink.written c.args.sink.now) (g.K.Sink.written c.write_text.new.sink) z) text c.in-Ok-write_text.ensures.whole,
    )
