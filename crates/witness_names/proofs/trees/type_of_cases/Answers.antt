use Rattle.std.proofs.Common.{◌∙◌, map, None, sym}
use Rattle.match_model.specs.OfType.{type_at_place}
use Rattle.match_model.specs.RustTypes.{rust_context}
use Rattle.pat_context.specs.Places.{steps_of}
use Rattle.pat_context.specs.Views.{plain_place}
use Rattle.tree_eval.specs.Nodes.{plain_branch}
use Rattle.type_table.specs.Tables.{table_program, table_type}
use Rattle.witness_names.proofs.NamedCases.{names_alike}
use Rattle.witness_names.proofs.trees.type_of_cases.Goals as goal

pub returns-else-has_variant-clause-names : goal.returns-else-has_variant-clause-names
returns-else-has_variant-clause-names c =
    let table = c.args.table.now in
    let program = table_program table in
    let at = type_at_place (rust_context program) (table_type table c.args.ty) (plain_place (steps_of c.args.place.now)) in
    names_alike program None at (map plain_branch c.args.cases.now) (sym c.has_variant.ensures ∙ c.if-has_variant.false)
