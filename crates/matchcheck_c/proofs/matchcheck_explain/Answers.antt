use Rattle.std.proofs.Common.{rules}
use Rattle.match_top.specs.Statuses.{status_number}
use Rattle.matchcheck_c.proofs.Given.{given_small}
use Rattle.matchcheck_c.specs.Endings.{IsExplained}
use Rattle.matchcheck_c.proofs.matchcheck_explain.Goals as goal

pub returns-in-Ok-clause-small : goal.returns-in-Ok-clause-small
returns-in-Ok-clause-small c = λ told.
    let is : IsExplained c.args.name.now c.args.source.now c.args.report.now c.args.arms.now c.as_bytes.result.now
    (status_number c.explained_status.result) = search rules in (
      c.as_bytes.result.now,
      status_number c.explained_status.result,
      is,
      given_small c.as_bytes.result.now c.explained_status.result c.give.result c.args.room.now c.give.new.room
          c.give.ensures told,
    )
