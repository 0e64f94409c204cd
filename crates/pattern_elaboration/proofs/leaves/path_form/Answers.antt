use Rattle.std.proofs.Common.{ℕ, ◌∙◌, ap}
use Rattle.match_model.specs.Patterns.{FormPat, no_numbered}
use Rattle.decl_syntax.specs.Patterns.{Path, path_view}
use Rattle.type_table.specs.Tables.{table_type}
use Rattle.pattern_rules.specs.Settings.{program}
use Rattle.pattern_rules.specs.Namings.{found_by}
use Rattle.pattern_rules.specs.Elaborated.{elaborated}
use Rattle.pattern_elaboration.proofs.Walks.{if_ok}
use Rattle.pattern_elaboration.proofs.leaves.path_form.Goals as goal

pub returns-clause-shown : goal.returns-clause-shown
returns-clause-shown c = λ from. if_ok c.unit_form.result _ _
    (λ p h s is fit.
    let t = table_type c.args.table.now c.args.here.ty in
    h s is
    ∙ ap (λ (k : ℕ). elaborated (program s) (FormPat k no_numbered) t c.args.here.mode)
    (c.found_number-variant.ensures (found_by s (Path (path_view c.args.path.now))) (c.path_found.ensures.is s is)))
    c.unit_form.ensures.shown
