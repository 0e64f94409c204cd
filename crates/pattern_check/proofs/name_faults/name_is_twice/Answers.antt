use Rattle.std.proofs.Common.{◌≡◌, true, sym, ◌∙◌}
use Rattle.type_names.specs.Finding.{name_finds}
use Rattle.pattern_rules.specs.NodeRules.{is_looked_up}
use Rattle.pattern_check.specs.NodeForms.{standing_view}
use Rattle.pattern_check.proofs.name_faults.name_is_twice.Goals as goal

pub returns-then-is_looked_up : goal.returns-then-is_looked_up
returns-then-is_looked_up c = λ s is.
    let e : is_looked_up (standing_view c.args.standing) ≡ true = sym c.is_looked_up.ensures ∙ c.if-is_looked_up.true in
    rw e (c.is_twice.ensures (name_finds s.items c.args.name.now) (c.find_name.ensures s.items s.width is))
