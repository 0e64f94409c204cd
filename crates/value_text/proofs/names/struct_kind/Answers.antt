use Rattle.std.proofs.Common.{refl, ◌∙◌}
use Rattle.type_names.specs.Finding.{FoundStruct}
use Rattle.type_table.specs.Tables.{table_type}
use Rattle.value_text.proofs.FormKinds.{struct_told}
use Rattle.value_text.proofs.names.struct_kind.Goals as goal

pub returns : goal.returns
returns c =
    let file = c.requires.file in
    let s = c.requires.is in
    c.form.ensures.form file.0 file.1 (FoundStruct s.0) file.2 (c.args.ty, refl, c.requires.of, s.2)
    ∙ struct_told file.0 file.1 c.args.table.now file.2 (table_type c.args.table.now c.args.ty) s
