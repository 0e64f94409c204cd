-- A function that breaks no rule breaks none with arms of patterns that break none.
use Rattle.std.proofs.Common.{◌≡◌, ℕ, zero, suc, ◌<◌, false, List, [], ◌∷◌, ◌++◌, map, slice_get, Some, refl, subst}
use Rattle.std.proofs.Common.{arith}
use Rattle.std.specs.List.{Contains}
use Rattle.match_model.specs.declared.Mode.TheVariants.{Move}
use Rattle.match_model.specs.Types.{MType}
use Rattle.decl_syntax.specs.Functions.{FunctionTree}
use Rattle.decl_syntax.specs.Items.{ArmTree}
use Rattle.decl_syntax.specs.Patterns.{PatternTree}
use Rattle.pattern_rules.specs.Faults.{ArmNode, NodeRule, node_rules, alternative_rules, breaks, nodes_of_arm}
use Rattle.pattern_rules.specs.Faults.{nodes_of_arms, function_nodes, scrutinee_type, NoNodeBreaks}
use Rattle.pattern_rules.specs.Nodes.{Node, Elsewhere, nodes}
use Rattle.pattern_rules.specs.Settings.{Setting, place}
use Rattle.arm_laws.specs.Completes.{plain_arm, with_arms}
use Rattle.arm_laws.specs.FineLaws.{FineArmsBreakNone}

-- none of the nodes breaks one of these rules
abbrev NoneBreak : List NodeRule → Setting → List ArmNode → Type 0
NoneBreak rules s [] = Unit {0}
NoneBreak rules s (n ∷ ns) = ((rule : ℕ) → breaks rules s n.node rule ≡ false) × NoneBreak rules s ns

module _ (rules : List NodeRule) (s : Setting) where
  one_by_one : (ns : List ArmNode) → NoNodeBreaks rules s ns → NoneBreak rules s ns
  one_by_one [] h = tt
  one_by_one (n ∷ ns) h = (λ rule. h 0 rule n refl, one_by_one ns (λ i rule m e. h (suc i) rule m e))

  by_number : (ns : List ArmNode) → NoneBreak rules s ns → NoNodeBreaks rules s ns
  by_number [] h i rule n e = absurd cc
  by_number (m ∷ ns) h zero rule n e =
      let same : m ≡ n = cc in subst (λ (x : ArmNode). breaks rules s x.node rule ≡ false) same (h.0 rule)
  by_number (m ∷ ns) h (suc i) rule n e = by_number ns h.1 i rule n e

  appended : (ns ms : List ArmNode) → NoneBreak rules s ns → NoneBreak rules s ms → NoneBreak rules s (ns ++ ms)
  appended [] ms h k = k
  appended (n ∷ ns) ms h k = (h.0, appended ns ms h.1 k)

  first_part : (ns ms : List ArmNode) → NoneBreak rules s (ns ++ ms) → NoneBreak rules s ns
  first_part [] ms h = tt
  first_part (n ∷ ns) ms h = (h.0, first_part ns ms h.1)

  second_part : (ns ms : List ArmNode) → NoneBreak rules s (ns ++ ms) → NoneBreak rules s ms
  second_part [] ms h = h
  second_part (n ∷ ns) ms h = second_part ns ms h.1

  numbered_arm : (i : ℕ) (ns : List Node) → ((k : ℕ) (n : Node) → slice_get ns k ≡ Some n → (rule : ℕ) →
      breaks rules s n rule ≡ false) → NoneBreak rules s (map (λ n. record { arm = i; node = n }) ns)
  numbered_arm i [] h = tt
  numbered_arm i (n ∷ ns) h = (λ rule. h 0 n refl rule, numbered_arm i ns (λ k m e. h (suc k) m e))

  -- the nodes of added arms, each of which is of a pattern that breaks none of the rules
  added : (t : MType) (i : ℕ) (ps : List PatternTree) → ((p : PatternTree) → Contains ps p → (k : ℕ) (n : Node) →
      slice_get (nodes s Elsewhere [] (place t Move) p) k ≡ Some n → (rule : ℕ) → breaks rules s n rule ≡ false) →
      NoneBreak rules s (nodes_of_arms s t i (map plain_arm ps))
  added t i [] h = tt
  added t i (p ∷ ps) h =
      appended (nodes_of_arm s t i (plain_arm p)) (nodes_of_arms s t (suc i) (map plain_arm ps))
      (numbered_arm i (nodes s Elsewhere [] (place t Move) p) (h p (0, omega arith, refl)))
      (added t (suc i) ps (λ q c. h q (suc c.0, later c.1, c.2)))
    where
      later : {k n : ℕ} → k < n → suc k < suc n
      later l = omega (arith, l)

  behind : (t : MType) (i : ℕ) (arms : List ArmTree) (ps : List PatternTree) →
      NoneBreak rules s (nodes_of_arms s t i arms) →
      ((j : ℕ) → NoneBreak rules s (nodes_of_arms s t j (map plain_arm ps))) →
      NoneBreak rules s (nodes_of_arms s t i (arms ++ map plain_arm ps))
  behind t i [] ps h k = k i
  behind t i (a ∷ arms) ps h k =
      appended (nodes_of_arm s t i a) (nodes_of_arms s t (suc i) (arms ++ map plain_arm ps))
      (first_part (nodes_of_arm s t i a) (nodes_of_arms s t (suc i) arms) h)
      (behind t (suc i) arms ps (second_part (nodes_of_arm s t i a) (nodes_of_arms s t (suc i) arms) h) k)

  none_break : (f : FunctionTree) (ps : List PatternTree) → NoNodeBreaks rules s (function_nodes s f) →
      ((p : PatternTree) → Contains ps p → (k : ℕ) (n : Node) →
      slice_get (nodes s Elsewhere [] (place (scrutinee_type s f) Move) p) k ≡ Some n → (rule : ℕ) →
      breaks rules s n rule ≡ false) → NoNodeBreaks rules s (function_nodes s (with_arms f ps))
  none_break f ps h k =
      by_number (function_nodes s (with_arms f ps))
      (behind (scrutinee_type s f) 0 f.arms ps (one_by_one (function_nodes s f) h)
      (λ j. added (scrutinee_type s f) j ps k))

pub fine_arms_break_none : FineArmsBreakNone
fine_arms_break_none s f ps h k = record {
  scrutinee = h.scrutinee;
  nodes_fine = none_break node_rules s f ps h.nodes_fine (λ p c i n e rule. (k p c i n e).alone rule);
  alternatives_fine =
      none_break alternative_rules s f ps h.alternatives_fine (λ p c i n e rule. (k p c i n e).alternatives rule);
}
