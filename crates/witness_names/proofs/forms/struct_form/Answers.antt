use Rattle.std.proofs.Common.{refl, rules}
use Rattle.type_names.specs.Finding.{FoundStruct}
use Rattle.type_table.specs.Tables.{table_type}
use Rattle.witness_names.proofs.FormLemmas.{struct_told, struct_written}
use Rattle.witness_names.proofs.forms.struct_form.Goals as goal

pub returns-in_err-kind : goal.returns-in_err-kind
returns-in_err-kind c =
    let file = c.requires.file in
    let s = c.requires.is in
    let none = c.in_err-kind.ensures.form file.0 file.1 (FoundStruct s.0) file.2 (c.args.ty, refl, c.requires.of, s.2)
    in
    let some = struct_written file.0 file.1 c.args.table.now file.2 s.0 s.1 s.3 in
    absurd (cc (none, some))

pub returns : goal.returns
returns c =
    let file = c.requires.file in
    let s = c.requires.is in
    let some = c.in_ok-kind.ensures.form file.0 file.1 (FoundStruct s.0) file.2 (c.args.ty, refl, c.requires.of, s.2) in
    struct_told file.0 file.1 c.args.table.now file.2 (table_type c.args.table.now c.args.ty) c.args.variant c.args.paths s _ _
    (search rules) some (search rules)
