use Rattle.std.proofs.Common.{◌≡◌, true, false, None, IsSome, sym, ap, subst, ◌∙◌}
use Rattle.std.specs.Prelude.{option_map}
use Rattle.match_model.specs.Types.{MType}
use Rattle.type_table.specs.Tables.{table_program, table_type, field_type}
use Rattle.type_table.proofs.PartLemmas.{part_types, part_is_of}
use Rattle.type_table.proofs.table.TypeTable.field.Goals as goal

pub unreachable-requires : goal.unreachable-requires
unreachable-requires c =
    let table = c.args.self.now in
    let none : field_type (table_program table) (table_type table c.args.ty) c.args.variant c.args.i ≡ None =
    sym (part_types table c.args.ty c.args.variant c.args.i) ∙ ap (option_map {U = MType} (table_type table)) (sym c.field_there.ensures ∙ c.in-None.is) in
    let there : false ≡ true = subst IsSome none c.requires.there in
    cc

pub returns-clause-of : goal.returns-clause-of
returns-clause-of c = part_is_of c.args.self.now c.args.ty c.args.variant c.args.i c.in-Some.id c.requires.of (sym c.field_there.ensures ∙ c.in-Some.is)

pub returns-clause-type_is : goal.returns-clause-type_is
returns-clause-type_is c =
    let table = c.args.self.now in
    sym (part_types table c.args.ty c.args.variant c.args.i) ∙ ap (option_map {U = MType} (table_type table)) (sym c.field_there.ensures ∙ c.in-Some.is)
