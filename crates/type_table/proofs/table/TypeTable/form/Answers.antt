use Rattle.std.proofs.Common.{Option, ap, ◌∙◌}
use Rattle.std.specs.Prelude.{is_some}
use Rattle.type_names.specs.declared.meanings.FormKind.{FormKind}
use Rattle.type_table.proofs.FoundForms.{form_is, form_exact}
use Rattle.type_table.proofs.table.TypeTable.form.Goals as goal

pub returns-clause-form : goal.returns-clause-form
returns-clause-form c items width told is found = c.form_told.ensures ∙ form_is items width c.args.self.now is told c.args.found.now found

pub returns-clause-exact : goal.returns-clause-exact
returns-clause-exact c items width path is found = ap (λ (o : Option FormKind). is_some o) c.form_told.ensures ∙ form_exact items width c.args.self.now is path c.args.found.now found
