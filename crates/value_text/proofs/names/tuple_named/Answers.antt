use Rattle.std.proofs.Common.{ℕ, List, ap, ◌∙◌, Option}
use Rattle.std.specs.Prelude.{option_map}
use Rattle.match_model.specs.Types.{MType}
use Rattle.type_table.specs.Tables.{table_program, table_type}
use Rattle.value_syntax.specs.Trees.{path_view}
use Rattle.value_text.specs.Names.{path_number}
use Rattle.value_text.specs.Lookups.{if_tuple, parts_there}
use Rattle.value_text.proofs.FormKinds.{tuple_told}
use Rattle.value_text.proofs.names.tuple_named.Goals as goal

pub returns : goal.returns
returns c =
    let program = table_program c.args.table.now in
    let t = table_type c.args.table.now c.args.ty in
    ap (λ (o : Option ℕ). option_map {U = ℕ × List MType} (λ k. (k, parts_there program t k)) o) (c.if_tuple.ensures ∙ ap if_tuple c.kind_named.ensures)
    ∙ tuple_told program t (path_number program t (path_view c.args.path.now))
