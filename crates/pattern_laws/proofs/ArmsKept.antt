-- The patterns of arms keep their ways, and are well typed.
use Rattle.std.proofs.Common.{◌≡◌, ℕ, suc, ◌+◌, ◌≤◌, refl, sym, ap, ◌∙◌, not, is_some, Some, List, [], ◌∷◌, ◌++◌, length, map, slice_get, length-append, arith}
use Rattle.std.specs.Prelude.{option_map}
use Rattle.std.specs.List.{Contains}
use Rattle.std.proofs.lemmas.Option.{slice_get-map, slice_get_read, slice_get_within, get_or_from_slice_get}
use Rattle.match_model.specs.Types.{MType}
use Rattle.match_model.specs.Numbers.{MRange}
use Rattle.match_model.specs.Made.{IsMadeRange}
use Rattle.match_model.specs.declared.Mode.TheVariants.{Move}
use Rattle.match_model.specs.Values.{Unseen}
use Rattle.decl_syntax.specs.Items.{ArmTree}
use Rattle.decl_syntax.specs.Functions.{FunctionTree}
use Rattle.pattern_rules.specs.Settings.{Setting, program, place}
use Rattle.pattern_rules.specs.Nodes.{Node, Elsewhere, nodes, offset_of}
use Rattle.pattern_rules.specs.Faults.{ArmNode, scrutinee_type, nodes_of_arm}
use Rattle.pattern_rules.specs.NodeRules.{type_met}
use Rattle.pattern_rules.specs.ArenaForms.{all_within, in_reading}
use Rattle.pattern_rules.specs.Promises.{range_written, IsWritten}
use Rattle.pattern_rules.specs.Builders.{Built}
use Rattle.pattern_rules.specs.Resolved.{resolved}
use Rattle.pattern_rules.specs.Elaborated.{elaborated}
use Rattle.pattern_rules.specs.ShownMatches.{IsSoundArm, elaborated_arm}
use Rattle.pattern_laws.specs.Laws.{WaysAreKept, ArmsAreTyped, NamesAreApart, ArmsAreInForm}
use Rattle.pattern_laws.proofs.Fitting.{RangeFits, Fits}
use Rattle.pattern_laws.proofs.FineNodes.{NodeFine, AllNodes, nodes_left, nodes_right, arm_fine}
use Rattle.pattern_laws.proofs.KeptParts.{standing_keeps}
use Rattle.pattern_laws.proofs.TreeFits.{tree_fits, some_nodes}
use Rattle.pattern_laws.proofs.PatNames.{pat_names}
use Rattle.pattern_laws.proofs.BoundNames.{tree_differs}
use Rattle.pattern_laws.proofs.MadeNames.{standing_binds}
use Rattle.pattern_laws.proofs.ElaboratedNames.{binds}
use Rattle.pattern_laws.proofs.Everywhere.{Every, every_at, RangeHolds, FewChoices, lone_made, texts_made, ranges_made, few_made}
use Rattle.pattern_laws.proofs.Choices.{choices, chooses, standing_chooses}
use Rattle.pattern_rules.specs.Spelled.{choice_offsets}
use Rattle.match_model.specs.Match.{alternatives_in}
use Rattle.match_model.specs.SourcePatterns.{ids_in}
use Rattle.match_model.specs.ArenaWays.{arena_alternatives}
use Rattle.pattern_laws.proofs.Reading.{Rising, rising, same_reading}
use Rattle.pattern_laws.proofs.ReadingOrder.{standing_has, has_alternatives, are_named}
use Rattle.pattern_laws.proofs.ChoiceOffsets.{tree_offsets, some_rising}
use Rattle.pattern_laws.proofs.MadeRanges.{node_made}
use Rattle.pattern_laws.proofs.TreeCounts.{tree_choices, node_count}
use Rattle.pattern_laws.proofs.WaysKept.{keeps}
use Rattle.pattern_laws.proofs.Typings.{is_typed, standing_typed}

-- something holds of all nodes, and they are at most so many
FewNodes : (Node → Type 0) → ℕ → List Node → Type 0
FewNodes P most ns = AllNodes P ns × (length ns ≤ most)

few_left : (P : Node → Type 0) (most : ℕ) (ns ms : List Node) → FewNodes P most (ns ++ ms) → FewNodes P most ns
unfolding FewNodes
few_left P most ns ms h = (nodes_left P ns ms h.0, omega (arith, h.1, length-append ns ms))

few_right : (P : Node → Type 0) (most : ℕ) (ns ms : List Node) → FewNodes P most (ns ++ ms) → FewNodes P most ms
unfolding FewNodes
few_right P most ns ms h = (nodes_right P ns ms h.0, omega (arith, h.1, length-append ns ms))

few_others : (P : Node → Type 0) (most : ℕ) (n : Node) (ns : List Node) → FewNodes P most (n ∷ ns) →
    FewNodes P most ns
unfolding FewNodes
few_others P most n ns h = (h.0.1, omega (arith, h.1))

-- the nodes of an arm
abbrev pub arm_nodes : Setting → FunctionTree → ArmTree → List Node
arm_nodes s f a = nodes s Elsewhere [] (place (scrutinee_type s f) Move) a.pattern

-- the arm's pattern fits the scrutinee's type, where something holds of all its nodes
fits_by : (s : Setting) (f : FunctionTree) (a : ArmTree) → IsSoundArm s f a →
    (P : Node → Type 0) (Holds : MRange → MType → Type 0) → ((n : Node) → P n → NodeFine s n) →
    ((n : Node) (r : MRange) → P n → range_written s n ≡ Some r → RangeFits (program s) r (type_met n) →
    Holds r (type_met n)) → AllNodes P (arm_nodes s f a) →
    Fits (program s) Holds (length (arm_nodes s f a)) (resolved s (scrutinee_type s f) a.pattern) (scrutinee_type s f)
unfolding FewNodes
fits_by s f a h P Holds fine holds all =
    tree_fits Holds (length (arm_nodes s f a)) s h.sound (FewNodes P (length (arm_nodes s f a))) P
    (few_left P (length (arm_nodes s f a))) (few_right P (length (arm_nodes s f a))) (λ n ns g. g.0.0)
    (few_others P (length (arm_nodes s f a))) (λ ns g. g.1) fine holds
    Elsewhere [] (place (scrutinee_type s f) Move) a.pattern h.type_is h.spelled (all, omega arith)

pub arm_fits : (s : Setting) (f : FunctionTree) (a : ArmTree) → IsSoundArm s f a →
    Fits (program s) (RangeFits (program s)) (length (arm_nodes s f a)) (resolved s (scrutinee_type s f) a.pattern)
    (scrutinee_type s f)
arm_fits s f a h = fits_by s f a h (λ n. NodeFine s n) (RangeFits (program s)) (λ n p. p) (λ n r p e q. q)
    (arm_fine s f a h.fine h.among)

-- each node of a list is among them
contains_at : {A : Type 0} (xs : List A) (k : ℕ) (x : A) → slice_get xs k ≡ Some x → Contains xs x
contains_at xs k x e = (k, slice_get_within xs k x e, get_or_from_slice_get xs k x x e)

-- a node as one of the arm
abbrev arm_node : Node → ArmNode
arm_node n = record { arm = 0; node = n }

from_there : (whole : List ArmNode) (ns : List Node) (i : ℕ) →
    ((j : ℕ) (n : Node) → slice_get ns j ≡ Some n → slice_get whole (i + j) ≡ Some (arm_node n)) →
    AllNodes (λ n. Contains whole (arm_node n)) ns
from_there whole [] i at = tt
from_there whole (n ∷ ns) i at = (
  contains_at whole (i + 0) (arm_node n) (at 0 n refl),
  from_there whole ns (suc i)
      (λ j m e. ap (slice_get whole) (shift j) ∙ at (suc j) m e),
)
  where
    shift : (j : ℕ) → suc i + j ≡ i + suc j
    shift j = omega arith

all_there : (ns : List Node) → AllNodes (λ n. Contains (map arm_node ns) (arm_node n)) ns
all_there ns = from_there (map arm_node ns) ns 0 (λ j n e. ap (slice_get (map arm_node ns)) (zero_more j)
    ∙ (slice_get-map arm_node ns j ∙ ap (option_map arm_node) e))
  where
    zero_more : (j : ℕ) → 0 + j ≡ j
    zero_more j = omega arith

both_nodes : (P Q : Node → Type 0) (ns : List Node) → AllNodes P ns → AllNodes Q ns → AllNodes (λ n. P n × Q n) ns
both_nodes P Q [] h k = tt
both_nodes P Q (n ∷ ns) h k = ((h.0, k.0), both_nodes P Q ns h.1 k.1)

-- its ranges are written
arm_written : (s : Setting) (f : FunctionTree) (a : ArmTree) → IsSoundArm s f a →
    Fits (program s) (λ r t. IsWritten s f a t r) (length (arm_nodes s f a))
    (resolved s (scrutinee_type s f) a.pattern) (scrutinee_type s f)
arm_written s f a h =
    fits_by s f a h (λ n. NodeFine s n × Contains (nodes_of_arm s (scrutinee_type s f) 0 a) (arm_node n))
    (λ r t. IsWritten s f a t r) (λ n p. p.0)
    (λ n r p e q. record { node = arm_node n; among = p.1; type_is = refl; range_is = e })
    (both_nodes (λ n. NodeFine s n) (λ n. Contains (nodes_of_arm s (scrutinee_type s f) 0 a) (arm_node n))
    (arm_nodes s f a) (arm_fine s f a h.fine h.among) (all_there (arm_nodes s f a)))

pub ways_kept : WaysAreKept
ways_kept s f a v h d =
    (standing_keeps (offset_of a.pattern) (elaborated (program s) (resolved s (scrutinee_type s f) a.pattern)
    (scrutinee_type s f) Move) v).0
    ∙ keeps (program s) (RangeFits (program s)) (length (arm_nodes s f a)) (resolved s (scrutinee_type s f) a.pattern)
    (scrutinee_type s f) Move (not (is_some f.deref)) v (arm_fits s f a h) d

pub arms_typed : ArmsAreTyped
arms_typed s f a h =
    standing_typed (program s) (offset_of a.pattern) (scrutinee_type s f)
    (elaborated (program s) (resolved s (scrutinee_type s f) a.pattern) (scrutinee_type s f) Move)
    (is_typed (program s) (length (arm_nodes s f a)) (resolved s (scrutinee_type s f) a.pattern)
    (scrutinee_type s f) Move (arm_fits s f a h))

pub names_apart : NamesAreApart
names_apart s f a h =
    (standing_binds (pat_names (resolved s (scrutinee_type s f) a.pattern)) (offset_of a.pattern)
    (elaborated (program s) (resolved s (scrutinee_type s f) a.pattern) (scrutinee_type s f) Move)
    (binds (program s) (resolved s (scrutinee_type s f) a.pattern) (scrutinee_type s f) Move
    (tree_differs s Elsewhere [] (place (scrutinee_type s f) Move) a.pattern (scrutinee_type s f)
    (arm_fine s f a h.fine h.among)))).differ

-- an arm has a node
some_node : (s : Setting) (f : FunctionTree) (a : ArmTree) → 1 ≤ length (arm_nodes s f a)
some_node s f a = some_nodes s Elsewhere [] (place (scrutinee_type s f) Move) a.pattern

-- what holds of each pattern within holds of one that is among them
among_every : (E : Built → Type 0) (xs : List Built) (q : Built) → Contains xs q → Every E xs → E q
among_every E xs q c h = every_at E xs c.0 q (slice_get_read xs (length xs) c.0 q refl c.1 (sym c.2)) h

-- the ranges in it can be held
pub arm_made : (s : Setting) (f : FunctionTree) (a : ArmTree) → IsSoundArm s f a →
    Every (RangeHolds (λ r t. IsMadeRange r)) (all_within (elaborated_arm s f a))
arm_made s f a h =
    ranges_made (program s) (λ r t. IsMadeRange r) (length (arm_nodes s f a)) (offset_of a.pattern)
    (resolved s (scrutinee_type s f) a.pattern) (scrutinee_type s f) Move
    (fits_by s f a h (λ n. NodeFine s n) (λ r t. IsMadeRange r) (λ n p. p) (λ n r p e q. node_made s n r p e q)
    (arm_fine s f a h.fine h.among))

-- its ranges and its alternatives
pub arm_ranges : (s : Setting) (f : FunctionTree) (a : ArmTree) → IsSoundArm s f a →
    Every (RangeHolds (λ w t. IsWritten s f a t w)) (all_within (elaborated_arm s f a))
arm_ranges s f a h =
    ranges_made (program s) (λ w t. IsWritten s f a t w) (length (arm_nodes s f a)) (offset_of a.pattern)
    (resolved s (scrutinee_type s f) a.pattern) (scrutinee_type s f) Move (arm_written s f a h)

pub arm_few : (s : Setting) (f : FunctionTree) (a : ArmTree) → IsSoundArm s f a →
    Every (FewChoices (length (arm_nodes s f a))) (all_within (elaborated_arm s f a))
arm_few s f a h =
    few_made (program s) (RangeFits (program s)) (length (arm_nodes s f a)) (offset_of a.pattern)
    (resolved s (scrutinee_type s f) a.pattern) (scrutinee_type s f) Move (some_node s f a) (arm_fits s f a h)

-- the offsets of the alternatives of the pattern that the written one means rise
pub arm_rises : (s : Setting) (f : FunctionTree) (a : ArmTree) → IsSoundArm s f a →
    Rising (ids_in (alternatives_in (resolved s (scrutinee_type s f) a.pattern)))
arm_rises s f a h =
    some_rising (ids_in (alternatives_in (resolved s (scrutinee_type s f) a.pattern)))
    (choice_offsets a.pattern) (tree_offsets s (scrutinee_type s f) a.pattern)
    (rising (choice_offsets a.pattern) h.ascend)

-- in reading order its alternatives are those of the pattern that the written one means
pub arm_reading : (s : Setting) (f : FunctionTree) (a : ArmTree) → IsSoundArm s f a →
    in_reading (arena_alternatives (elaborated_arm s f a)) ≡ alternatives_in
    (resolved s (scrutinee_type s f) a.pattern)
arm_reading s f a h =
    same_reading (arena_alternatives (elaborated_arm s f a))
    (alternatives_in (resolved s (scrutinee_type s f) a.pattern))
    (standing_has (alternatives_in (resolved s (scrutinee_type s f) a.pattern)) (offset_of a.pattern)
    (elaborated (program s) (resolved s (scrutinee_type s f) a.pattern) (scrutinee_type s f) Move)
    (has_alternatives (program s) (RangeFits (program s)) (length (arm_nodes s f a))
    (resolved s (scrutinee_type s f) a.pattern) (scrutinee_type s f) Move (arm_fits s f a h) rises))
    (are_named (resolved s (scrutinee_type s f) a.pattern)) rises
  where
    rises : Rising (ids_in (alternatives_in (resolved s (scrutinee_type s f) a.pattern)))
    rises = arm_rises s f a h

pub arms_in_form : ArmsAreInForm
arms_in_form s f a h = record {
  offset = (standing_keeps (offset_of a.pattern) (elaborated (program s) (resolved s (scrutinee_type s f) a.pattern)
      (scrutinee_type s f) Move) Unseen).2;
  lone = lone_made (program s) (RangeFits (program s)) (length (arm_nodes s f a)) (offset_of a.pattern)
      (resolved s (scrutinee_type s f) a.pattern) (scrutinee_type s f) Move (arm_fits s f a h);
  text = texts_made (program s) (RangeFits (program s)) (length (arm_nodes s f a)) (offset_of a.pattern)
      (resolved s (scrutinee_type s f) a.pattern) (scrutinee_type s f) Move (arm_fits s f a h);
  range = λ q r c e. among_every (RangeHolds (λ w t. IsWritten s f a t w)) (all_within (elaborated_arm s f a)) q c
      (arm_ranges s f a h) r e;
  few = omega (
    arith,
    standing_chooses (choices (resolved s (scrutinee_type s f) a.pattern)) (offset_of a.pattern)
        (elaborated (program s) (resolved s (scrutinee_type s f) a.pattern) (scrutinee_type s f) Move)
        (chooses (program s) (resolved s (scrutinee_type s f) a.pattern) (scrutinee_type s f) Move),
    tree_choices s
        (scrutinee_type s f) a.pattern,
  );
  narrow = λ q c o. omega (
    arith,
    among_every (FewChoices (length (arm_nodes s f a))) (all_within (elaborated_arm s f a)) q c
        (arm_few s f a h) o,
    node_count s Elsewhere [] (place (scrutinee_type s f) Move) a.pattern,
  );
}
