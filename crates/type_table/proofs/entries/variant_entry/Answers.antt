use Rattle.std.proofs.Common.{◌≡◌, rules}
use Rattle.std.specs.Rc.{rc_str_bytes}
use Rattle.decl_syntax.specs.Items.{form_view}
use Rattle.type_names.specs.Views.{means_in}
use Rattle.type_table.specs.Nodes.{types_in}
use Rattle.type_table.proofs.EntryLemmas.{variant_told}
use Rattle.type_table.proofs.entries.variant_entry.Goals as goal

pub returns-clause-variant : goal.returns-clause-variant
returns-clause-variant c =
    let copied : rc_str_bytes c.in_ok-name.name ≡ rc_str_bytes c.args.name.now = search rules in
    variant_told (types_in c.form_entries.new.nodes.keys) (record { name = c.in_ok-name.name; form = c.form_kind.result; fields = c.in_ok-fields.fields }) (rc_str_bytes c.args.name.now) (means_in c.args.names.now) (form_view c.args.form.now)
    copied c.form_kind.ensures c.in_ok-fields.ensures.fields
