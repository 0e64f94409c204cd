use Rattle.std.proofs.Common.{◌∙◌, sym, ap, map}
use Rattle.match_model.specs.Constructors.{WildCtor}
use Rattle.match_model.specs.Declarations.{MProgram}
use Rattle.match_model.specs.Patterns.{no_numbered}
use Rattle.type_table.specs.Tables.{table_type}
use Rattle.pattern_rules.specs.Settings.{program}
use Rattle.pattern_rules.specs.Builders.{leaf, form}
use Rattle.pattern_rules.specs.Elaborated.{elaborated_field}
use Rattle.pattern_elaboration.specs.Placed.{wrapped}
use Rattle.pattern_elaboration.proofs.leaves.unit_form.Goals as goal

pub returns-clause-shown : goal.returns-clause-shown
returns-clause-shown c = λ s is.
    let type = table_type c.args.table.now in
    c.in_ok-made.ensures.shown
    ∙ (ap (λ (p : MProgram). wrapped (map (table_type c.args.table.now) c.in_ok-peeled.peeled.levels.items)
    (form p c.args.variant (λ i w. leaf WildCtor w) (table_type c.args.table.now c.in_ok-peeled.peeled.place.ty)))
    is.program
    ∙ sym (c.in_ok-peeled.ensures.through (λ u m. form (program s) c.args.variant (λ i w. elaborated_field (program s)
    no_numbered i w m) u)))
