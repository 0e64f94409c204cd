use Rattle.std.proofs.Common.{refl, ◌∙◌}
use Rattle.type_names.specs.Finding.{FoundVariant}
use Rattle.type_names.specs.Views.{owner_view}
use Rattle.type_table.specs.Tables.{table_type}
use Rattle.value_text.proofs.FormKinds.{enum_told}
use Rattle.value_text.proofs.names.variant_kind.Goals as goal

pub returns : goal.returns
returns c =
    let file = c.requires.file in
    let table = c.args.table.now in
    let o = owner_view c.in_ok-owner.owner in
    c.form.ensures.form file.0 file.1 (FoundVariant o c.args.variant) file.2 (c.in_ok-owner.owner, refl, refl)
    ∙ enum_told file.0 file.1 table file.2 (table_type table c.args.ty) c.args.variant o c.requires.is c.requires.there c.in_ok-owner.ensures
