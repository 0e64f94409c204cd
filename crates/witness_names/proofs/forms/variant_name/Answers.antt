use Rattle.std.proofs.Common.{◌≡◌, ◌∙◌, sym, ap, ℕ, List, Bor, Option}
use Rattle.std.specs.Prelude.{option_map}
use Rattle.type_names.specs.Views.{owner_view}
use Rattle.type_table.specs.Tables.{table_program, table_type, type_variant}
use Rattle.witness_names.proofs.FormLemmas.{name_behind, name_built_in, name_found}
use Rattle.witness_names.proofs.forms.variant_name.Goals as goal

pub returns-in-Some : goal.returns-in-Some
returns-in-Some c =
    let table = c.args.table.now in
    let program = table_program table in
    let t = table_type table c.args.ty in
    let named = sym c.owner_name.ensures ∙ ap (λ (n : Option (Bor (List ℕ))). option_map (λ s. s.now) n) c.in-Some.is in
    name_found c.args.paths program t (type_variant program t c.args.number) _ _ c.variant_name-variant.ensures
    (name_behind c.args.paths program t _ _ c.requires.is named)

pub returns-in-None : goal.returns-in-None
returns-in-None c =
    let table = c.args.table.now in
    let program = table_program table in
    let t = table_type table c.args.ty in
    let none = sym c.owner_name.ensures ∙ ap (λ (n : Option (Bor (List ℕ))). option_map (λ s. s.now) n) c.in-None.is in
    name_found c.args.paths program t (type_variant program t c.args.number) _ _ c.variant_name-variant.ensures
    (name_built_in c.args.paths program t _ (owner_view c.args.owner) none c.requires.owned ∙ sym c.built_in_name.ensures)
