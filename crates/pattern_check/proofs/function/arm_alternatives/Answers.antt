use Rattle.std.proofs.Common.{◌≡◌, [], None, Option, option_map, ap, ◌∙◌}
use Rattle.match_model.specs.declared.Mode.TheVariants.{Move}
use Rattle.decl_syntax.specs.Patterns.{pattern_view}
use Rattle.type_table.specs.Tables.{table_type}
use Rattle.pattern_rules.specs.Settings.{place}
use Rattle.pattern_rules.specs.Nodes.{Elsewhere, nodes}
use Rattle.pattern_rules.specs.Faults.{node_rules, alternative_rules}
use Rattle.pattern_check.specs.declared.fault.NodeFault.{NodeFault}
use Rattle.pattern_check.specs.FunctionFaults.{in_arm}
use Rattle.pattern_check.specs.Walks.{first_in}
use Rattle.pattern_check.proofs.FunctionLemmas.{first_arm, no_fault_in}
use Rattle.pattern_check.proofs.function.arm_alternatives.Goals as goal

pub returns : goal.returns
returns c = λ s is f.
    let ns = nodes s Elsewhere [] (place (table_type c.args.table.now c.args.ty) Move) (pattern_view c.args.arm.now.pat) in
    let fine : first_in node_rules s ns ≡ None = no_fault_in c.args.number (first_in node_rules s ns) (first_arm node_rules s c.args.number ns ∙ f) in
    c.in_arm.ensures
    ∙ (ap (λ (o : Option NodeFault). option_map (in_arm c.args.number) o) (c.in_ok-fault.ensures.told Elsewhere s [] is fine).fault ∙ first_arm alternative_rules s c.args.number ns)
