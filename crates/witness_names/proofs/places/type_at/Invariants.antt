use Rattle.std.proofs.Common.{◌≡◌, drop}
use Rattle.match_model.specs.OfType.{type_at_place}
use Rattle.match_model.specs.RustTypes.{rust_context}
use Rattle.pat_context.specs.Views.{plain_place}
use Rattle.type_table.specs.Tables.{IsOf, table_program, table_type}
use Rattle.witness_names.proofs.places.type_at.Given as goal

abbrev pub invariant-loop-step : goal.invariant-loop-step
invariant-loop-step l =
    IsOf l.table l.at
    × (type_at_place (rust_context (table_program l.table)) (table_type l.table l.at) (plain_place (drop l.step-index l.steps))
    ≡ type_at_place (rust_context (table_program l.table)) (table_type l.table l.fn.ty) (plain_place l.steps))
