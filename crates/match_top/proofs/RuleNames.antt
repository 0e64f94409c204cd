-- Each rule on patterns has a name.
use Rattle.std.proofs.Common.{◌≡◌, ℕ, Bool, true, false, ◌&&◌, ◌||◌, nat_eq, List, [], ◌∷◌, Option, refl, subst}
use Rattle.std.proofs.lemmas.Bool.Decides.{nat_tests}
use Rattle.std.proofs.Common.{arith}
use Rattle.decl_syntax.specs.Functions.{FunctionTree}
use Rattle.pattern_rules.specs.Nodes.{Node}
use Rattle.pattern_rules.specs.Settings.{Setting}
use Rattle.pattern_rules.specs.Faults.{NodeRule, node_rules, alternative_rules, breaks, IsFirstPatternFault, at_scrutinee, at_node, at_alternatives}
use Rattle.verdict_json.specs.Rules.{IsRule}

-- each of these rules has a name
AreNamed : List NodeRule → Type 0
AreNamed [] = Unit {0}
AreNamed (r ∷ rules) = IsRule r.rule × AreNamed rules

same_number : (a b : ℕ) → nat_eq a b ≡ true → a ≡ b
same_number a b e = grind (arith, nat_tests)

-- and so has the one of them that a node breaks
broken_is_named : (rules : List NodeRule) (s : Setting) (n : Node) (rule : ℕ) → AreNamed rules → breaks rules s n rule ≡ true → IsRule rule
unfolding AreNamed
broken_is_named [] s n rule named broken = absurd cc
broken_is_named (r ∷ rules) s n rule named broken = by (λ rest. broken_is_named rules s n rule named.1 rest) (nat_eq r.rule rule) refl
  where
    by : (breaks rules s n rule ≡ true → IsRule rule) → (same : Bool) → nat_eq r.rule rule ≡ same → IsRule rule
    by later true e = subst IsRule (same_number r.rule rule e) named.0
    by later false e = later (subst (λ (b : Bool). ((b && r.broken s n) || breaks rules s n rule) ≡ true) e broken)

node_rules_are_named : AreNamed node_rules
unfolding AreNamed
node_rules_are_named = (refl, (refl, (refl, (refl, (refl, (refl, (refl, (refl, (refl, (refl, (refl, (refl, (refl, (refl, tt))))))))))))))

alternative_rules_are_named : AreNamed alternative_rules
unfolding AreNamed
alternative_rules_are_named = (refl, tt)

-- the rule of a function's first fault has a name
pub fault_is_named : (s : Setting) (f : FunctionTree) (rule : ℕ) (arm : Option ℕ) (at : ℕ) → IsFirstPatternFault s f rule arm at → IsRule rule
fault_is_named s f rule arm at (at_scrutinee star d b) = refl
fault_is_named s f rule arm at (at_node r j from b n) = broken_is_named node_rules s n.node.node r node_rules_are_named n.broken
fault_is_named s f rule arm at (at_alternatives r j from b none n) =
    broken_is_named alternative_rules s n.node.node r alternative_rules_are_named n.broken
