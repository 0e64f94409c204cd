use Rattle.std.proofs.Common.{◌≡◌, refl, sym, subst, ℕ, List, rules}
use Rattle.match_top.specs.Asked.{request_view}
use Rattle.match_top.specs.Statuses.{status_number}
use Rattle.matchcheck_c.proofs.Given.{given_small}
use Rattle.matchcheck_c.specs.Room.{IsSmall}
use Rattle.matchcheck_c.proofs.matchcheck_report.Goals as goal

pub returns-in-Ok-clause-small : goal.returns-in-Ok-clause-small
returns-in-Ok-clause-small c = λ told.
    let text : c.deref.result.now ≡ c.in-Ok.answer.text.items = search rules in (
      c.in-Ok.answer.text.items,
      status_number c.in-Ok.answer.status,
      record {
        request = request_view c.in-Some.request;
        asked = sym c.in-Some.ensures;
        status = c.in-Ok.answer.status;
        answers = c.in-Ok.ensures.whole;
        verdict = c.in-Ok.ensures.verdict;
        numbered = refl;
      },
      subst (λ (t : List ℕ). IsSmall t c.give.result.length c.args.room.now c.give.new.room) text
          (given_small c.deref.result.now c.in-Ok.answer.status c.give.result c.args.room.now c.give.new.room c.give.ensures told),
    )
