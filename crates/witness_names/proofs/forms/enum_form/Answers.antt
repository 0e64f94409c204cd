use Rattle.std.proofs.Common.{sym, refl, ◌∙◌}
use Rattle.type_names.specs.Finding.{FoundVariant}
use Rattle.type_names.specs.Views.{owner_view}
use Rattle.type_table.specs.Tables.{table_program, table_type, type_variant}
use Rattle.witness_names.proofs.FormLemmas.{enum_told, some_kind, form_joined}
use Rattle.witness_names.proofs.forms.enum_form.Goals as goal

pub returns-in_err-kind : goal.returns-in_err-kind
returns-in_err-kind c =
    let file = c.requires.file in
    let table = c.args.table.now in
    let t = table_type table c.args.ty in
    let o = owner_view c.in_ok-owner.owner in
    let none = c.in_err-kind.ensures.form file.0 file.1 (FoundVariant o c.args.variant) file.2 (
      c.in_ok-owner.owner,
      refl,
      refl,
    ) in
    let told = enum_told file.0 file.1 table file.2 t c.args.variant o c.requires.is c.requires.there
    c.in_ok-owner.ensures in
    some_kind (type_variant (table_program table) t c.args.variant) c.requires.there (none ∙ told)

pub returns : goal.returns
returns c =
    let file = c.requires.file in
    let table = c.args.table.now in
    let t = table_type table c.args.ty in
    let o = owner_view c.in_ok-owner.owner in
    let some = c.in_ok-kind.ensures.form file.0 file.1 (FoundVariant o c.args.variant) file.2 (
      c.in_ok-owner.owner,
      refl,
      refl,
    ) in
    let told = enum_told file.0 file.1 table file.2 t c.args.variant o c.requires.is c.requires.there
    c.in_ok-owner.ensures in
    form_joined c.args.paths (table_program table) t (type_variant (table_program table) t c.args.variant) _ _ (sym (some
    ∙ told)) c.variant_name.ensures
