-- What is told of a function's patterns before rule 31 is looked at.
use Rattle.std.specs.Prelude.{ℕ, Option, Some}
use Rattle.decl_syntax.specs.Functions.{FunctionTree}
use Rattle.pattern_rules.specs.Settings.{Setting}
use Rattle.pattern_rules.specs.Faults.{function_nodes, node_rules, breaks_at_scrutinee}
use Rattle.pattern_rules.specs.FirstFault.{PatternFault, first_at, fault_or, star_fault}
use Rattle.pattern_check.specs.declared.fault.NodeFault as declared_node
use Rattle.pattern_check.specs.declared.function.Fault as declared_fault

-- what a caller sees of a fault
abbrev pub fault_view : declared_fault.Fault → PatternFault
fault_view f = record { rule = f.rule; arm = f.arm; at = f.at }

-- the fault at the scrutinee, or else at the first node that breaks a rule other than 31
abbrev pub first_but_bindings : Setting → FunctionTree → Option PatternFault
first_but_bindings s f = fault_or (star_fault (breaks_at_scrutinee s f) f.deref) (first_at node_rules s (function_nodes s f))

-- No meaning: a fault of a node in this arm.
abbrev pub in_arm : ℕ → declared_node.NodeFault → PatternFault
in_arm i f = record { rule = f.rule; arm = Some i; at = f.at }
