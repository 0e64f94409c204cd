use Rattle.std.proofs.Common.{◌∙◌, ap, map}
use Rattle.decl_syntax.specs.Patterns.{pattern_view, patterns_from}
use Rattle.type_table.specs.Tables.{table_type}
use Rattle.pattern_rules.specs.Resolved.{rest_of}
use Rattle.pattern_elaboration.specs.Placed.{wrapped}
use Rattle.pattern_elaboration.proofs.forms.row_behind.Goals as goal

pub returns-clause-shown : goal.returns-clause-shown
returns-clause-shown c = λ row.
    c.in_ok-made.ensures.shown (table_type c.args.table.now)
    ∙ ap (wrapped (map (table_type c.args.table.now) c.args.peeled.levels.items))
    (c.in_ok-list.ensures.shown c.args.table.now (rest_of (patterns_from
    (map pattern_view c.args.items.now))) c.args.peeled.place.mode row c.in_ok-rest.ensures)

pub returns-clause-made : goal.returns-clause-made
returns-clause-made c = λ from h. c.in_ok-made.ensures.made c.args.table.now from c.requires.levels
    (c.in_ok-list.ensures.made c.args.table.now from c.requires.of h)
