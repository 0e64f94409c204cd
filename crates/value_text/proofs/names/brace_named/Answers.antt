use Rattle.std.proofs.Common.{◌≡◌, ℕ, List, Option, Some, None, ap, ◌∙◌}
use Rattle.std.specs.Prelude.{option_map, IfSome}
use Rattle.match_model.specs.Declarations.{MField}
use Rattle.type_table.specs.Tables.{table_program, table_type}
use Rattle.value_syntax.specs.Trees.{path_view}
use Rattle.value_text.specs.Names.{path_number}
use Rattle.value_text.specs.Lookups.{kind_numbered, if_brace, fields_there, IsBrace}
use Rattle.value_text.proofs.FormKinds.{brace_told, braces_kept}
use Rattle.value_text.proofs.names.brace_named.Goals as goal

pub returns-clause-fields : goal.returns-clause-fields
returns-clause-fields c =
    let program = table_program c.args.table.now in
    let t = table_type c.args.table.now c.args.ty in
    ap (λ (o : Option ℕ). option_map {U = ℕ × List MField} (λ k. (k, fields_there program t k)) o) (c.if_brace.ensures ∙ ap if_brace c.kind_named.ensures)
    ∙ brace_told program t (path_number program t (path_view c.args.path.now))

pub returns-clause-brace : goal.returns-clause-brace
returns-clause-brace c =
    let program = table_program c.args.table.now in
    let t = table_type c.args.table.now c.args.ty in
    braces_kept program t (path_number program t (path_view c.args.path.now)) c.if_brace.result (c.if_brace.ensures ∙ ap if_brace c.kind_named.ensures)
