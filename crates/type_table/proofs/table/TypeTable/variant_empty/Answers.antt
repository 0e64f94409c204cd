use Rattle.std.proofs.Common.{◌≡◌, Bool, true, false, not, ◌||◌, is_some, refl, sym, ap, ◌∙◌}
use Rattle.match_model.specs.Declarations.{node_types}
use Rattle.type_table.specs.Marks.{lacks_field}
use Rattle.type_table.specs.Tables.{table_program, table_type, fields_of_type}
use Rattle.type_table.proofs.EmptyTypes.{tells_variant}
use Rattle.type_table.proofs.table.TypeTable.variant_empty.Goals as goal

pub returns-then-not-has_variant-clause-found : goal.returns-then-not-has_variant-clause-found
returns-then-not-has_variant-clause-found c =
    let table = c.args.self.now in
    ap not c.if-not-has_variant.true
    ∙ ap (λ (b : Bool). not b || lacks_field table c.args.ty c.args.variant (fields_of_type (table_program table) (table_type table c.args.ty) c.args.variant))
    (sym c.if-not-has_variant.true ∙ c.has_variant.ensures)

pub returns-else-not-has_variant-clause-found : goal.returns-else-not-has_variant-clause-found
returns-else-not-has_variant-clause-found c =
    let table = c.args.self.now in
    c.has_empty_field.ensures
    ∙ ap (λ (b : Bool). not b || lacks_field table c.args.ty c.args.variant (fields_of_type (table_program table) (table_type table c.args.ty) c.args.variant))
    (sym c.if-not-has_variant.false ∙ c.has_variant.ensures)

pub returns-then-not-has_variant-clause-tells : goal.returns-then-not-has_variant-clause-tells
returns-then-not-has_variant-clause-tells c =
    tells_variant c.args.self.now c.args.ty c.requires.of c.args.variant _ (returns-then-not-has_variant-clause-found c)

pub returns-else-not-has_variant-clause-tells : goal.returns-else-not-has_variant-clause-tells
returns-else-not-has_variant-clause-tells c =
    tells_variant c.args.self.now c.args.ty c.requires.of c.args.variant _ (returns-else-not-has_variant-clause-found c)
