-- The nodes of a function that breaks no rule, with the rule on written modes.
use Rattle.std.proofs.Common.{◌≡◌, ℕ, zero, suc, Bool, true, false, not, ◌&&◌, ◌||◌, List, [], ◌∷◌, ◌++◌, map, length, slice_get, Some, refl, sym, subst, nat_eq}
use Rattle.std.proofs.lemmas.Option.{slice_get_read}
use Rattle.std.specs.List.{Contains}
use Rattle.match_model.specs.declared.Mode.{Mode}
use Rattle.match_model.specs.declared.Mode.TheVariants.{Move, Ref, RefMut}
use Rattle.match_model.specs.Types.{MType}
use Rattle.match_model.specs.Readings as readings
use Rattle.decl_syntax.specs.Items.{ArmTree}
use Rattle.decl_syntax.specs.Functions.{FunctionTree}
use Rattle.pattern_rules.specs.declared.Edition.{Edition}
use Rattle.pattern_rules.specs.declared.Edition.TheVariants.{E2021, E2024}
use Rattle.pattern_rules.specs.Settings.{Setting, place, is_move}
use Rattle.pattern_rules.specs.Nodes.{Node, Elsewhere, nodes}
use Rattle.pattern_rules.specs.OtherRules.{written, is_free_edition, writes_mode}
use Rattle.pattern_rules.specs.Faults.{ArmNode, node_rule, node_rules, breaks, scrutinee_type, nodes_of_arm, nodes_of_arms, function_nodes, NoNodeBreaks, BreaksNone}
use Rattle.pattern_laws.proofs.FineNodes.{NodeFine, node_fine, none_passes, AllNodes}

-- the tests that a node passes, and no mode is written where the binding mode is no move
pub record NodeKeeps (s : Setting) (n : Node) : Type 0 where
  pub fine : NodeFine s n
  pub mode : writes_mode s n ≡ false

node_keeps : (s : Setting) (n : Node) → ((rule : ℕ) → breaks node_rules s n rule ≡ false) → NodeKeeps s n
node_keeps s n h = record {
  fine = node_fine s n h;
  mode = none_passes (λ q. nat_eq q.rule 32 && q.broken s n) node_rules 11 (node_rule 32 writes_mode) refl (h 32);
}

-- the same of the nodes of arms
abbrev ArmsKeep : Setting → List ArmNode → Type 0
ArmsKeep s [] = Unit {0}
ArmsKeep s (n ∷ ns) = NodeKeeps s n.node × ArmsKeep s ns

arms_keep : (s : Setting) (ns : List ArmNode) → NoNodeBreaks node_rules s ns → ArmsKeep s ns
arms_keep s [] h = tt
arms_keep s (n ∷ ns) h =
    (node_keeps s n.node (λ rule. h 0 rule n refl), arms_keep s ns (λ i rule m e. h (suc i) rule m e))

arms_left : (s : Setting) (ns ms : List ArmNode) → ArmsKeep s (ns ++ ms) → ArmsKeep s ns
arms_left s [] ms h = tt
arms_left s (n ∷ ns) ms h = (h.0, arms_left s ns ms h.1)

arms_right : (s : Setting) (ns ms : List ArmNode) → ArmsKeep s (ns ++ ms) → ArmsKeep s ms
arms_right s [] ms h = h
arms_right s (n ∷ ns) ms h = arms_right s ns ms h.1

of_arm : (s : Setting) (i : ℕ) (ns : List Node) → ArmsKeep s (map (λ n. record { arm = i; node = n }) ns) →
    AllNodes (λ n. NodeKeeps s n) ns
of_arm s i [] h = tt
of_arm s i (n ∷ ns) h = (h.0, of_arm s i ns h.1)

arm_among : (s : Setting) (t : MType) (i : ℕ) (arms : List ArmTree) (k : ℕ) (a : ArmTree) →
    ArmsKeep s (nodes_of_arms s t i arms) → slice_get arms k ≡ Some a →
    AllNodes (λ n. NodeKeeps s n) (nodes s Elsewhere [] (place t Move) a.pattern)
arm_among s t i [] k a h e = cc
arm_among s t i (b ∷ arms) zero a h e =
    let same : b ≡ a = cc in
    subst (λ c. AllNodes (λ n. NodeKeeps s n) (nodes s Elsewhere [] (place t Move) c.pattern)) same
    (of_arm s i (nodes s Elsewhere [] (place t Move) b.pattern)
    (arms_left s (nodes_of_arm s t i b) (nodes_of_arms s t (suc i) arms) h))
arm_among s t i (b ∷ arms) (suc k) a h e = arm_among s t (suc i) arms k a
    (arms_right s (nodes_of_arm s t i b) (nodes_of_arms s t (suc i) arms) h) e

-- in a function that breaks no rule it is so of the nodes of each arm
pub arm_keeps : (s : Setting) (f : FunctionTree) (a : ArmTree) → BreaksNone s f → Contains f.arms a →
    AllNodes (λ n. NodeKeeps s n) (nodes s Elsewhere [] (place (scrutinee_type s f) Move) a.pattern)
arm_keeps s f a h c = arm_among s (scrutinee_type s f) 0 f.arms c.0 a (arms_keep s (function_nodes s f) h.nodes_fine)
    (slice_get_read f.arms (length f.arms) c.0 a refl c.1 (sym c.2))

-- ---- what the rule says in edition 2024

-- a mode is written only where the mode is a move
pub reserved : (e : Edition) (m : Mode) (b : Bool) → e ≡ E2024 →
    (not (is_free_edition e) && (not (is_move m) && b)) ≡ false → (not (is_move m) && b) ≡ false
reserved E2021 m b e h = cc
reserved E2024 m b e h = h

pub move_at_point : (m : Mode) → (not (is_move m) && true) ≡ false → readings.is_move m ≡ true
move_at_point Move h = refl
move_at_point Ref h = cc
move_at_point RefMut h = cc

pub move_at_mut : (by_ref mutable : Bool) (m : Mode) → (not (is_move m) && (by_ref || mutable)) ≡ false →
    readings.move_if_mut (written by_ref mutable) m ≡ true
move_at_mut false false m h = refl
move_at_mut true false m h = refl
move_at_mut true true m h = refl
move_at_mut false true Move h = refl
move_at_mut false true Ref h = cc
move_at_mut false true RefMut h = cc
