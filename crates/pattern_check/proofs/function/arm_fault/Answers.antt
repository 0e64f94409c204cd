use Rattle.std.proofs.Common.{ℕ, List, [], map, Option, option_map, Bor, ap, ◌∙◌}
use Rattle.match_model.specs.declared.Mode.TheVariants.{Move}
use Rattle.decl_syntax.specs.Patterns.{pattern_view}
use Rattle.type_names.specs.NameRules.{is_among}
use Rattle.type_table.specs.Tables.{table_type}
use Rattle.pattern_rules.specs.Settings.{place}
use Rattle.pattern_rules.specs.Nodes.{Elsewhere, nodes}
use Rattle.pattern_rules.specs.Faults.{node_rules}
use Rattle.pattern_check.specs.declared.fault.NodeFault.{NodeFault}
use Rattle.pattern_check.specs.FunctionFaults.{in_arm}
use Rattle.pattern_check.specs.Walks.{text_at, Holds}
use Rattle.pattern_check.proofs.FunctionLemmas.{first_arm}
use Rattle.pattern_check.proofs.function.arm_fault.Goals as goal

pub returns : goal.returns
returns c = λ s is ed.
    let none : Holds (map text_at c.new-names.result.keys) [] = λ q. ap (λ (ks : List (Bor (List ℕ))). is_among q (map text_at ks)) c.new-names.ensures.empty in
    let ns = nodes s Elsewhere [] (place (table_type c.args.table.now c.args.ty) Move) (pattern_view c.args.arm.now.pat) in
    c.in_arm.ensures
    ∙ (ap (λ (o : Option NodeFault). option_map (in_arm c.args.number) o) (c.in_ok-fault.ensures.fault s [] is ed none) ∙ first_arm node_rules s c.args.number ns)
