use Rattle.std.proofs.Common.{◌≡◌, ℕ, Bool, true, false, ◌∙◌, sym, ap}
use Rattle.match_model.specs.Patterns.{FormPat, no_numbered}
use Rattle.decl_syntax.specs.Patterns.{Name}
use Rattle.type_table.specs.Tables.{table_type}
use Rattle.pattern_rules.specs.Settings.{program}
use Rattle.pattern_rules.specs.Namings.{found_by, is_path_name}
use Rattle.pattern_rules.specs.Resolved.{name_pattern}
use Rattle.pattern_rules.specs.Elaborated.{elaborated}
use Rattle.pattern_elaboration.proofs.Walks.{if_ok}
use Rattle.pattern_elaboration.proofs.leaves.bare_name.Goals as goal

pub returns-then-is_path_name-clause-shown : goal.returns-then-is_path_name-clause-shown
returns-then-is_path_name-clause-shown c = λ from. if_ok c.unit_form.result _ _
    (λ p h s is fit.
    let t = table_type c.args.table.now c.args.here.ty in
    let m = c.args.here.mode in
    let name = c.args.name.now in
    let e : is_path_name s name ≡ true = sym (c.is_path_name.ensures s is) ∙ c.if-is_path_name.true in
    h s is
    ∙ (ap (λ (k : ℕ). elaborated (program s) (FormPat k no_numbered) t m) (c.found_number-variant.ensures
    (found_by s (Name name)) (c.name_found.ensures.is s is))
    ∙ ap (λ (b : Bool). elaborated (program s) (name_pattern b (found_by s (Name name)) name) t m) (sym e)))
    c.unit_form.ensures.shown

pub returns-clause-shown : goal.returns-clause-shown
returns-clause-shown c = λ from. if_ok c.binding.result _ _
    (λ p h s is fit.
    let t = table_type c.args.table.now c.args.here.ty in
    let m = c.args.here.mode in
    let name = c.args.name.now in
    let e : is_path_name s name ≡ false = sym (c.is_path_name.ensures s is) ∙ c.if-is_path_name.false in
    h s is tt ∙ ap (λ (b : Bool). elaborated (program s) (name_pattern b (found_by s (Name name)) name) t m) (sym e))
    (c.binding.ensures.shown from)
