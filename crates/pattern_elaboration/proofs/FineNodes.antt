-- The tests that the nodes of a function pass that breaks no rule.
use Rattle.std.proofs.Common.{◌≡◌, ℕ, zero, suc, ◌<◌, Bool, true, false, not, ◌||◌, ◌&&◌, List, [], ◌∷◌, ◌++◌, map, length, slice_get, Some, refl, sym, ap, subst, ◌∙◌, nat_eq}
use Rattle.std.specs.Prelude.{slice_index_or}
use Rattle.std.proofs.lemmas.Option.{slice_get_read}
use Rattle.std.specs.List.{list_any, Contains}
use Rattle.match_model.specs.declared.Mode.TheVariants.{Move}
use Rattle.match_model.specs.Types.{MType}
use Rattle.decl_syntax.specs.Items.{ArmTree}
use Rattle.decl_syntax.specs.Functions.{FunctionTree}
use Rattle.pattern_rules.specs.Settings.{Setting, place}
use Rattle.pattern_rules.specs.Nodes.{Node, Elsewhere, nodes}
use Rattle.pattern_rules.specs.NodeRules.{is_unknown_name, has_wrong_type, has_wrong_count, has_rest_twice}
use Rattle.pattern_rules.specs.OtherRules.{is_out_of_range, is_empty_range, is_unsupported_pattern}
use Rattle.pattern_rules.specs.Faults.{ArmNode, NodeRule, node_rule, node_rules, breaks, scrutinee_type, nodes_of_arm, nodes_of_arms, function_nodes, NoNodeBreaks, BreaksNone}

pub either_left : (a b : Bool) → (a || b) ≡ false → a ≡ false
either_left true b h = h
either_left false b h = refl

pub either_right : (a b : Bool) → (a || b) ≡ false → b ≡ false
either_right true b h = cc
either_right false b h = h

pub untwice : (b : Bool) → not b ≡ false → b ≡ true
untwice true h = refl
untwice false h = cc

-- what no element passes
pub none_passes : {A : Type 0} (f : A → Bool) (xs : List A) (k : ℕ) (x : A) → slice_get xs k ≡ Some x →
    list_any f xs ≡ false → f x ≡ false
none_passes f [] k x e h = cc
none_passes f (y ∷ ys) zero x e h = let same : y ≡ x = cc in ap f (sym same) ∙ either_left (f y) (list_any f ys) h
none_passes f (y ∷ ys) (suc k) x e h = none_passes f ys k x e (either_right (f y) (list_any f ys) h)

-- the tests that a node passes
pub record NodeFine (s : Setting) (n : Node) : Type 0 where
  pub known : is_unknown_name s n ≡ false
  pub type : has_wrong_type s n ≡ false
  pub count : has_wrong_count s n ≡ false
  pub rest : has_rest_twice s n ≡ false
  pub range : is_out_of_range s n ≡ false
  pub ends : is_empty_range s n ≡ false
  pub kind : is_unsupported_pattern s n ≡ false

-- a rule that the node does not break
fine_rule : (s : Setting) (n : Node) (rule k : ℕ) (r : NodeRule) → slice_get node_rules k ≡ Some r →
    breaks node_rules s n rule ≡ false → (nat_eq r.rule rule && r.broken s n) ≡ false
fine_rule s n rule k r e h = none_passes (λ q. nat_eq q.rule rule && q.broken s n) node_rules k r e h

pub node_fine : (s : Setting) (n : Node) → ((rule : ℕ) → breaks node_rules s n rule ≡ false) → NodeFine s n
node_fine s n h = record {
  known = fine_rule s n 20 0 (node_rule 20 is_unknown_name) refl (h 20);
  type = fine_rule s n 22 2 (node_rule 22 has_wrong_type) refl (h 22);
  count = fine_rule s n 23 3 (node_rule 23 has_wrong_count) refl (h 23);
  rest = fine_rule s n 27 7 (node_rule 27 has_rest_twice) refl (h 27);
  range = fine_rule s n 28 8 (node_rule 28 is_out_of_range) refl (h 28);
  ends = fine_rule s n 29 9 (node_rule 29 is_empty_range) refl (h 29);
  kind = fine_rule s n 35 13 (node_rule 35 is_unsupported_pattern) refl (h 35);
}

-- something holds of all nodes of a list
abbrev pub AllNodes : (Node → Type 0) → List Node → Type 0
AllNodes P [] = Unit {0}
AllNodes P (n ∷ ns) = P n × AllNodes P ns

pub nodes_left : (P : Node → Type 0) (ns ms : List Node) → AllNodes P (ns ++ ms) → AllNodes P ns
nodes_left P [] ms h = tt
nodes_left P (n ∷ ns) ms h = (h.0, nodes_left P ns ms h.1)

pub nodes_right : (P : Node → Type 0) (ns ms : List Node) → AllNodes P (ns ++ ms) → AllNodes P ms
nodes_right P [] ms h = h
nodes_right P (n ∷ ns) ms h = nodes_right P ns ms h.1

-- all nodes of a list pass the tests
abbrev pub AllFine : Setting → List Node → Type 0
AllFine s = AllNodes (λ n. NodeFine s n)

abbrev pub fine_left : (s : Setting) (ns ms : List Node) → AllFine s (ns ++ ms) → AllFine s ns
fine_left s = nodes_left (λ n. NodeFine s n)

abbrev pub fine_right : (s : Setting) (ns ms : List Node) → AllFine s (ns ++ ms) → AllFine s ms
fine_right s = nodes_right (λ n. NodeFine s n)

-- the same of the nodes of arms
abbrev ArmsFine : Setting → List ArmNode → Type 0
ArmsFine s [] = Unit {0}
ArmsFine s (n ∷ ns) = NodeFine s n.node × ArmsFine s ns

arms_fine : (s : Setting) (ns : List ArmNode) → NoNodeBreaks node_rules s ns → ArmsFine s ns
arms_fine s [] h = tt
arms_fine s (n ∷ ns) h =
    (node_fine s n.node (λ rule. h 0 rule n refl), arms_fine s ns (λ i rule m e. h (suc i) rule m e))

arms_left : (s : Setting) (ns ms : List ArmNode) → ArmsFine s (ns ++ ms) → ArmsFine s ns
arms_left s [] ms h = tt
arms_left s (n ∷ ns) ms h = (h.0, arms_left s ns ms h.1)

arms_right : (s : Setting) (ns ms : List ArmNode) → ArmsFine s (ns ++ ms) → ArmsFine s ms
arms_right s [] ms h = h
arms_right s (n ∷ ns) ms h = arms_right s ns ms h.1

of_arm : (s : Setting) (i : ℕ) (ns : List Node) → ArmsFine s (map (λ n. record { arm = i; node = n }) ns) →
    AllFine s ns
of_arm s i [] h = tt
of_arm s i (n ∷ ns) h = (h.0, of_arm s i ns h.1)

-- the nodes of an arm among these
arm_among : (s : Setting) (t : MType) (i : ℕ) (arms : List ArmTree) (k : ℕ) (a : ArmTree) →
    ArmsFine s (nodes_of_arms s t i arms) → slice_get arms k ≡ Some a →
    AllFine s (nodes s Elsewhere [] (place t Move) a.pattern)
arm_among s t i [] k a h e = cc
arm_among s t i (b ∷ arms) zero a h e =
    let same : b ≡ a = cc in
    subst (λ c. AllFine s (nodes s Elsewhere [] (place t Move) c.pattern)) same
    (of_arm s i (nodes s Elsewhere [] (place t Move) b.pattern)
    (arms_left s (nodes_of_arm s t i b) (nodes_of_arms s t (suc i) arms) h))
arm_among s t i (b ∷ arms) (suc k) a h e = arm_among s t (suc i) arms k a
    (arms_right s (nodes_of_arm s t i b) (nodes_of_arms s t (suc i) arms) h) e

there : {A : Type 0} (xs : List A) (k : ℕ) (x : A) → k < length xs → slice_index_or xs k x ≡ x →
    slice_get xs k ≡ Some x
there xs k x lt e = slice_get_read xs (length xs) k x refl lt (sym e)

-- in a function that breaks no rule the nodes of each arm pass the tests
pub arm_fine : (s : Setting) (f : FunctionTree) (a : ArmTree) → BreaksNone s f → Contains f.arms a →
    AllFine s (nodes s Elsewhere [] (place (scrutinee_type s f) Move) a.pattern)
arm_fine s f a h c = arm_among s (scrutinee_type s f) 0 f.arms c.0 a (arms_fine s (function_nodes s f) h.nodes_fine)
    (there f.arms c.0 a c.1 c.2)
