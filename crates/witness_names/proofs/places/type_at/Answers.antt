use Rattle.std.proofs.Common.{◌∙◌, ap, refl, arith}
use Rattle.std.specs.Prelude.{option_map}
use Rattle.type_table.specs.Tables.{table_program, table_type}
use Rattle.witness_names.proofs.Entered.{step_on, step_off, steps_end}
use Rattle.witness_names.proofs.places.type_at.Goals as goal

pub loop-step-init : goal.loop-step-init
loop-step-init c = (c.requires.of, refl)

pub type_behind-requires : goal.type_behind-requires
type_behind-requires c = record { of = c.loop-step.invariant.0 }

pub returns-in_err-at-clause-is : goal.returns-in_err-at-clause-is
returns-in_err-at-clause-is c =
    let table = c.args.table.now in
    ap (option_map (table_type table)) c.from_residual.ensures
    ∙ step_off (table_program table) (table_type table c.loop-step.at) _ c.args.steps.now c.loop-step.step-index _ c.loop-step-test.true
    c.in_err-at.ensures.is c.loop-step.invariant.1

pub loop-step-preserved : goal.loop-step-preserved
loop-step-preserved c =
    let table = c.args.table.now in (
      c.in_ok-at.ensures.of,
      step_on (table_program table) (table_type table c.loop-step.at) (table_type table c.in_ok-at.at) _ c.args.steps.now c.loop-step.step-index _
          c.loop-step-test.true c.in_ok-at.ensures.is c.loop-step.invariant.1,
    )

pub returns-clause-of : goal.returns-clause-of
returns-clause-of c = c.loop-step.invariant.0

pub returns-clause-is : goal.returns-clause-is
returns-clause-is c =
    let table = c.args.table.now in
    steps_end (table_program table) (table_type table c.loop-step.at) _ c.args.steps.now c.loop-step.step-index (omega arith) c.loop-step.invariant.1
