-- The nodes of arms, and the type of a function's scrutinee.
use Rattle.std.proofs.Common.{◌≡◌, ℕ, suc, ◌+◌, ◌<◌, add-one, Bool, true, false, not, ◌&&◌, List, [], ◌∷◌, map, length, drop, get_or, Option, Some, None, option_map, refl, sym, ap, subst, ◌∙◌}
use Rattle.std.specs.Prelude.{slice_get, is_some, IfSome}
use Rattle.std.proofs.Math.Seq.{drop-cons}
use Rattle.match_model.specs.Types.{MType, PointType}
use Rattle.decl_syntax.specs.declared.items.Arm.{Arm}
use Rattle.decl_syntax.specs.Functions.{FunctionTree}
use Rattle.decl_syntax.specs.Items.{ItemTree, ArmTree, arm_view, KindTree, Enum, Struct, Import, Function}
use Rattle.type_names.specs.Meanings.{means}
use Rattle.type_table.specs.declared.table.TypeTable.{TypeTable}
use Rattle.type_table.specs.Entries.{Told, parameter_of}
use Rattle.type_table.specs.Readers as readers
use Rattle.type_table.specs.Tables.{IsTableOf, table_told}
use Rattle.type_table.proofs.PathLemmas.{told_at}
use Rattle.pattern_rules.specs.Settings.{Setting}
use Rattle.pattern_rules.specs.Nodes.{Node}
use Rattle.pattern_rules.specs.Faults.{function_of, parameter_type, is_reference, scrutinee_by, nodes_of_arm, nodes_of_arms, NodeRule, node_rules, alternative_rules, function_nodes, breaks_at_scrutinee, BreaksNone, IsFirstPatternFault}
use Rattle.pattern_rules.specs.FirstFault.{PatternFault, least_broken, fault_of, fault_or, first_at, star_fault, first_fault, IsAnswer}
use Rattle.pattern_rules.proofs.WalkLemmas.{first_of_both}
use Rattle.pattern_rules.proofs.FirstLaws.{first_fault_tells}
use Rattle.pattern_check.specs.declared.fault.NodeFault as declared_node
use Rattle.pattern_check.specs.declared.function.Fault as declared_fault
use Rattle.pattern_check.specs.FunctionFaults.{fault_view, in_arm, first_but_bindings}
use Rattle.pattern_check.specs.Walks.{fault_at, earlier, first_in}

pub first_arm : (rules : List NodeRule) (s : Setting) (i : ℕ) (ns : List Node) →
    option_map (in_arm i) (first_in rules s ns) ≡ first_at rules s (map (λ (n : Node). record { arm = i; node = n }) ns)
first_arm rules s i [] = refl
first_arm rules s i (n ∷ ns) = by (least_broken rules s n) (first_arm rules s i ns)
  where
    by : (o : Option ℕ) → option_map (in_arm i) (first_in rules s ns) ≡ first_at rules s (map (λ (x : Node). record { arm = i; node = x }) ns) →
        option_map (in_arm i) (earlier (fault_at n.at o) (first_in rules s ns))
        ≡ fault_or (fault_of (record { arm = i; node = n }) o) (first_at rules s (map (λ (x : Node). record { arm = i; node = x }) ns))
    by None e = e
    by (Some rule) e = refl

pub both_none : (a b : Option PatternFault) → fault_or a b ≡ None → (a ≡ None) × (b ≡ None)
both_none None b e = (refl, e)
both_none (Some x) b e = absurd cc

-- a fault in an arm, where there is none
pub no_fault_in : (i : ℕ) (r : Option declared_node.NodeFault) → option_map (in_arm i) r ≡ None → r ≡ None
no_fault_in i None e = refl
no_fault_in i (Some x) e = absurd cc

-- the arms from here on
module _ (rules : List NodeRule) (s : Setting) (t : MType) (arms : List Arm) (i : ℕ) (a : Arm) (lt : i < length arms) (e : a ≡ get_or arms i a) where
  pub arms_here : first_at rules s (nodes_of_arms s t i (map arm_view (drop i arms)))
      ≡ fault_or (first_at rules s (nodes_of_arm s t i (arm_view a))) (first_at rules s (nodes_of_arms s t (i + 1) (map arm_view (drop (i + 1) arms))))
  arms_here =
      let from : map arm_view (drop i arms) ≡ arm_view a ∷ map arm_view (drop (i + 1) arms) = rw (drop-cons arms i a, add-one, ← e) refl in
      ap (λ (xs : List ArmTree). first_at rules s (nodes_of_arms s t i xs)) from
      ∙ (first_of_both rules s (nodes_of_arm s t i (arm_view a)) (nodes_of_arms s t (suc i) (map arm_view (drop (i + 1) arms)))
      ∙ ap (λ (k : ℕ). fault_or (first_at rules s (nodes_of_arm s t i (arm_view a))) (first_at rules s (nodes_of_arms s t k (map arm_view (drop (i + 1) arms))))) (sym (add-one i)))

  pub arms_pass : None ≡ first_at rules s (nodes_of_arm s t i (arm_view a)) →
      first_at rules s (nodes_of_arms s t i (map arm_view (drop i arms))) ≡ first_at rules s (nodes_of_arms s t (i + 1) (map arm_view (drop (i + 1) arms)))
  arms_pass h = arms_here ∙ ap (λ (o : Option PatternFault). fault_or o (first_at rules s (nodes_of_arms s t (i + 1) (map arm_view (drop (i + 1) arms))))) (sym h)

  pub arms_stop : (r : Option PatternFault) → is_some r ≡ true → r ≡ first_at rules s (nodes_of_arm s t i (arm_view a)) →
      r ≡ first_at rules s (nodes_of_arms s t i (map arm_view (drop i arms)))
  arms_stop None some h = absurd cc
  arms_stop (Some x) some h =
      ap (λ (o : Option PatternFault). fault_or o (first_at rules s (nodes_of_arms s t (i + 1) (map arm_view (drop (i + 1) arms))))) h ∙ sym arms_here

  -- where no rule is broken from here on, none is in this arm, nor behind it
  pub arms_fine : first_at rules s (nodes_of_arms s t i (map arm_view (drop i arms))) ≡ None →
      (first_at rules s (nodes_of_arm s t i (arm_view a)) ≡ None) × (first_at rules s (nodes_of_arms s t (i + 1) (map arm_view (drop (i + 1) arms))) ≡ None)
  arms_fine h =
      both_none (first_at rules s (nodes_of_arm s t i (arm_view a))) (first_at rules s (nodes_of_arms s t (i + 1) (map arm_view (drop (i + 1) arms)))) (sym arms_here ∙ h)

-- what the table says of a function's parameter
pub parameter_there : (s : Setting) (table : TypeTable) → IsTableOf s.items s.width table → (n : ℕ) (i : ItemTree) (f : FunctionTree) → slice_get s.items n ≡ Some i → function_of i.kind ≡ Some f →
    readers.parameter_told (slice_get (table_told table) n) ≡ Some (parameter_type s f, is_some f.deref)
parameter_there s table is n i f at e =
    ap (λ (ts : List Told). readers.parameter_told (slice_get ts n)) is.told
    ∙ (ap (λ (o : Option Told). readers.parameter_told o) (told_at (means s.items) s.items n i at) ∙ by i.kind e)
  where
    some_same : {g h : FunctionTree} → Some g ≡ Some h → g ≡ h
    some_same x = cc

    by : (k : KindTree) → function_of k ≡ Some f → parameter_of (means s.items) k ≡ Some (parameter_type s f, is_some f.deref)
    by (Function name param deref arms) h = ap (λ (g : FunctionTree). Some (parameter_type s g, is_some g.deref)) (some_same h)
    by (Enum name variants) h = absurd cc
    by (Struct name form) h = absurd cc
    by (Import owner names) h = absurd cc

-- the scrutinee that the table tells is that of the function, and rule 34 is kept
pub scrutinee_there : (t u : MType) (star : Option ℕ) (b : Bool) → Some (u, b) ≡ readers.scrutinee_by t (is_some star) → (u ≡ scrutinee_by t star) × ((is_some star && not (is_reference t)) ≡ false)
scrutinee_there t u None b h =
    let e : (u, b) ≡ (t, false) = cc in
    (ap (λ (p : MType × Bool). p.0) e, refl)
scrutinee_there (PointType mutable v) u (Some at) b h =
    let e : (u, b) ≡ (v, true) = cc in
    (ap (λ (p : MType × Bool). p.0) e, refl)
scrutinee_there t u (Some at) b h = absurd cc

-- where it tells none, rule 34 is broken
pub scrutinee_missing : (t : MType) (star : Option ℕ) → None ≡ readers.scrutinee_by t (is_some star) → (is_some star && not (is_reference t)) ≡ true
scrutinee_missing t None h = absurd cc
scrutinee_missing (PointType mutable v) (Some at) h = absurd cc
scrutinee_missing t (Some at) h = refl

-- a fault that is there, as it is seen
pub view_some : (r : Option declared_fault.Fault) → is_some r ≡ true → is_some (option_map fault_view r) ≡ true
view_some None h = absurd cc
view_some (Some x) h = refl

pub view_none : (r : Option declared_fault.Fault) → is_some r ≡ false → option_map fault_view r ≡ None
view_none None h = refl
view_none (Some x) h = absurd cc

-- rule 34 at the `*` that must be there
pub star_there : (t : MType) (star : Option ℕ) (later : Option PatternFault) → None ≡ readers.scrutinee_by t (is_some star) →
    star_fault true star ≡ fault_or (star_fault (is_some star && not (is_reference t)) star) later
star_there t None later h = absurd cc
star_there t (Some at) later h =
    ap (λ (b : Bool). fault_or (star_fault b (Some at)) later) (sym (scrutinee_missing t (Some at) h))

fault_or_three : (a b c : Option PatternFault) → fault_or a (fault_or b c) ≡ fault_or (fault_or a b) c
fault_or_three None b c = refl
fault_or_three (Some x) b c = refl

-- the fault that is found is the first of the function
pub found_is_first : (s : Setting) (f : FunctionTree) (r : Option declared_fault.Fault) → option_map fault_view r ≡ first_but_bindings s f → IfSome r (λ x. IsFirstPatternFault s f x.rule x.arm x.at)
found_is_first s f None e = tt
found_is_first s f (Some x) e =
    let star = star_fault (breaks_at_scrutinee s f) f.deref in
    let node = first_at node_rules s (function_nodes s f) in
    let others = first_at alternative_rules s (function_nodes s f) in
    let whole : first_fault s f ≡ Some (fault_view x)
    = fault_or_three star node others ∙ ap (λ (o : Option PatternFault). fault_or o others) (sym e) in
    subst (λ (o : Option PatternFault). IsAnswer s f o) whole (first_fault_tells s f)

-- the whole answer: the fault that was found first, or else that of the alternatives
pub whole_some : (s : Setting) (f : FunctionTree) (r : Option declared_fault.Fault) → is_some r ≡ true → option_map fault_view r ≡ first_but_bindings s f → option_map fault_view r ≡ first_fault s f
whole_some s f None some e = absurd cc
whole_some s f (Some x) some e =
    let star = star_fault (breaks_at_scrutinee s f) f.deref in
    let node = first_at node_rules s (function_nodes s f) in
    let others = first_at alternative_rules s (function_nodes s f) in
    sym (fault_or_three star node others ∙ ap (λ (o : Option PatternFault). fault_or o others) (sym e))

pub whole_none : (s : Setting) (f : FunctionTree) (r : Option PatternFault) → first_but_bindings s f ≡ None → r ≡ first_at alternative_rules s (function_nodes s f) → r ≡ first_fault s f
whole_none s f r none e =
    let star = star_fault (breaks_at_scrutinee s f) f.deref in
    let node = first_at node_rules s (function_nodes s f) in
    let others = first_at alternative_rules s (function_nodes s f) in
    e ∙ sym (fault_or_three star node others ∙ ap (λ (o : Option PatternFault). fault_or o others) none)

pub whole_is_first : (s : Setting) (f : FunctionTree) (r : Option declared_fault.Fault) → option_map fault_view r ≡ first_fault s f → IfSome r (λ x. IsFirstPatternFault s f x.rule x.arm x.at)
whole_is_first s f None e = tt
whole_is_first s f (Some x) e = subst (λ (o : Option PatternFault). IsAnswer s f o) (sym e) (first_fault_tells s f)

pub whole_breaks_none : (s : Setting) (f : FunctionTree) (r : Option declared_fault.Fault) → option_map fault_view r ≡ first_fault s f → r ≡ None → BreaksNone s f
whole_breaks_none s f None e n = subst (λ (o : Option PatternFault). IsAnswer s f o) (sym e) (first_fault_tells s f)
whole_breaks_none s f (Some x) e n = absurd cc

-- rule 34 is broken where the table tells no scrutinee
pub some_star : (t : MType) (star : Option ℕ) (later : Option PatternFault) → None ≡ readers.scrutinee_by t (is_some star) →
    fault_or (star_fault (is_some star && not (is_reference t)) star) later ≡ None → ⊥
some_star t None later h e = absurd cc
some_star t (Some at) later h e = by (sym (star_there t (Some at) later h) ∙ refl) e
  where
    by : fault_or (star_fault (is_some (Some at) && not (is_reference t)) (Some at)) later ≡ star_fault true (Some at) →
        fault_or (star_fault (is_some (Some at) && not (is_reference t)) (Some at)) later ≡ None → ⊥
    by x y = let z : star_fault true (Some at) ≡ None = sym x ∙ y in cc
