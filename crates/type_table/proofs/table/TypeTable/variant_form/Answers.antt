use Rattle.std.proofs.Common.{sym, ap, ◌∙◌}
use Rattle.type_names.specs.declared.meanings.Owner.{Owner}
use Rattle.type_table.specs.Paths.{variant_form_by}
use Rattle.type_table.proofs.table.TypeTable.variant_form.Goals as goal

pub returns-in-Option : goal.returns-in-Option
returns-in-Option c = c.option_form.ensures c.args.self.now.items.items ∙ ap (λ (o : Owner). variant_form_by c.args.self.now.items.items o c.args.k) (sym c.in-Option.is)
