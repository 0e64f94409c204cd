-- Decision trees, and what one means (Maranget 2008).
use Rattle.std.specs.Prelude.{◌≡◌, ◌<◌, ◌⊎◌, ℕ, Bool, true, false, ◌&&◌, ◌||◌, List, [], ◌∷◌, ◌++◌, map, length, nat_eq, position, count_by, is_some, Option, Some, None, slice_get, IsTrue}
use Rattle.std.specs.List.{flat_map, list_all, Contains}
use Rattle.match_model.specs.declared.Mode.{Mode}
use Rattle.match_model.specs.Values.{MValue}
use Rattle.match_model.specs.Numbers.{MRange}
use Rattle.match_model.specs.Constructors.{FixedShape, LongerShape, MCtor, VariantCtor, FlagCtor, NumbersCtor, TextCtor, RowCtor, builds}
use Rattle.match_model.specs.Ways.{Binding, bind_into}
use Rattle.match_model.specs.Select.{Outcome, Took, Missed, Short, Asked, Selected}
use Rattle.match_model.specs.Places.{MStep, part_at, position_at}

-- a case of a switch: a variant, a flag, a range, a text, a length, every length from `front + back` on, all other parts
pub data MCase : Type 0 where
  VariantCase : ℕ → MCase
  FlagCase : Bool → MCase
  SpanCase : MRange → MCase
  TextCase : List ℕ → MCase
  LengthCase : ℕ → MCase
  LongerCase : (front back : ℕ) → MCase
  ElseCase : MCase

-- a name, by its UTF-8 bytes, and the place of what it is bound to
pub record MBind : Type 0 where
  pub name : List ℕ
  pub mode : Mode
  pub place : List MStep

-- a case with the number of the node where it goes on
pub record MBranch : Type 0 where
  pub case : MCase
  pub next : ℕ

-- a node: look at a place; ask the guard of an arm, and go on at `refused` where it refuses; take an arm; no arm is left; or
-- there is no value to match
pub data MNode : Type 0 where
  SwitchNode : (place : List MStep) → List MBranch → MNode
  AskNode : (arm : ℕ) → List MBind → (refused : ℕ) → MNode
  TakeNode : (arm : ℕ) → List MBind → MNode
  MissNode VoidNode : MNode

-- the numbers of the nodes where a node may go on
abbrev pub successors : MNode → List ℕ
successors (SwitchNode place branches) = map (λ b. b.next) branches
successors (AskNode arm binds refused) = refused ∷ []
successors (TakeNode arm binds) = []
successors MissNode = []
successors VoidNode = []

-- each node goes on at nodes with greater numbers alone, so that every walk ends (our own choice)
abbrev pub IsForward : List MNode → Type 0
IsForward nodes = (n m : ℕ) (x : MNode) → slice_get nodes n ≡ Some x → Contains (successors x) m → n < m

-- the constructor of a case, where it is no else
abbrev pub case_ctor : MCase → Option MCtor
case_ctor (VariantCase k) = Some (VariantCtor k)
case_ctor (FlagCase b) = Some (FlagCtor b)
case_ctor (SpanCase r) = Some (NumbersCtor r)
case_ctor (TextCase u) = Some (TextCtor u)
case_ctor (LengthCase n) = Some (RowCtor (FixedShape n))
case_ctor (LongerCase f b) = Some (RowCtor (LongerShape f b))
case_ctor ElseCase = None

-- the case is no else, and its constructor builds the part
abbrev pub case_has : MCase → MValue → Bool
case_has c v = elim (case_ctor c) [ None ↦ false | Some k ↦ builds [] k v ]

-- the case is the else
abbrev pub is_else : MCase → Bool
is_else ElseCase = true
is_else _ = false

-- the number of the first branch whose case has the part; the else has it where no other has
abbrev pub number_for : MValue → List MBranch → Option ℕ
number_for v branches =
    elim (position (λ b. case_has b.case v) branches) [
      | Some i ↦ Some i
      | None ↦ position (λ b. is_else b.case) branches
    ]

-- the number of the branch that a switch takes at the value
abbrev pub number_at : List MStep → List MBranch → MValue → Option ℕ
number_at place branches v = elim (part_at place v) [ None ↦ None | Some u ↦ number_for u branches ]

-- the branch that a switch takes at the value
abbrev pub branch_at : List MStep → List MBranch → MValue → Option MBranch
branch_at place branches v = elim (number_at place branches v) [ None ↦ None | Some i ↦ slice_get branches i ]

-- what the names are bound to in the value, ascending by name; a place that is not there binds nothing, and a tree that is
-- defined on the value has none
abbrev pub bindings_in : MValue → List MBind → List Binding
bindings_in v [] = []
bindings_in v (b ∷ rest) =
    elim (part_at b.place v) [
      | None ↦ bindings_in v rest
      | Some u ↦ bind_into (record { name = b.name; mode = b.mode; value = u }) (bindings_in v rest)
    ]

-- what a guard of the arm is asked with
abbrev pub asked_at : (arm : ℕ) → List MBind → MValue → Asked
asked_at arm binds v = record { arm = arm; bindings = bindings_in v binds }

-- a stop of a walk through the tree: the node, the answers that are left, and the nodes whose guards refused so far
pub record Visit : Type 0 where
  pub node : ℕ
  pub left : List Bool
  pub refused : List ℕ

-- where every walk begins
abbrev pub root : (answers : List Bool) → Visit
root answers = record { node = 0; left = answers; refused = [] }

-- one step of a walk: along the case that has the part, or on from a guard that refuses
pub data GoesOn (nodes : List MNode) (v : MValue) : Visit → Visit → Type 0 where
  by_case : (n : ℕ) (left : List Bool) (refused : List ℕ) (place : List MStep) (branches : List MBranch) (b : MBranch) →
      slice_get nodes n ≡ Some (SwitchNode place branches) → branch_at place branches v ≡ Some b →
      GoesOn nodes v (record { node = n; left = left; refused = refused })
      (record { node = b.next; left = left; refused = refused })
  by_refusal : (n : ℕ) (left : List Bool) (refused : List ℕ) (arm : ℕ) (binds : List MBind) (next : ℕ) →
      slice_get nodes n ≡ Some (AskNode arm binds next) →
      GoesOn nodes v (record { node = n; left = false ∷ left; refused = refused })
      (record { node = next; left = left; refused = refused ++ n ∷ [] })

-- a walk comes from one stop to another, in no step or more
pub data ComesTo (nodes : List MNode) (v : MValue) : Visit → Visit → Type 0 where
  at_once : (a : Visit) → ComesTo nodes v a a
  after : (a b c : Visit) → GoesOn nodes v a b → ComesTo nodes v b c → ComesTo nodes v a c

-- how a walk ends at a guard: short of an answer, or with the arm taken
abbrev pub outcome_at_guard : (arm : ℕ) → List MBind → MValue → (left : List Bool) → Option Outcome
outcome_at_guard arm binds v [] = Some Short
outcome_at_guard arm binds v (true ∷ left) = Some (Took arm (bindings_in v binds))
outcome_at_guard arm binds v (false ∷ left) = None

-- how a walk ends at a node, where it does
abbrev pub outcome_at : Option MNode → MValue → (left : List Bool) → Option Outcome
outcome_at (Some (AskNode arm binds refused)) v left = outcome_at_guard arm binds v left
outcome_at (Some (TakeNode arm binds)) v left = Some (Took arm (bindings_in v binds))
outcome_at (Some MissNode) v left = Some Missed
outcome_at (Some VoidNode) v left = Some Missed
outcome_at (Some (SwitchNode place branches)) v left = None
outcome_at None v left = None

-- the nodes whose guards got an answer in a walk that ends at this node: those that refused, and the node itself where an
-- answer is left for its guard
abbrev pub answered : Option MNode → (number : ℕ) → (left : List Bool) → (refused : List ℕ) → List ℕ
answered (Some (AskNode arm binds next)) n (answer ∷ left) refused = refused ++ n ∷ []
answered _ n left refused = refused

-- the walk from node 0 with these answers asks the guards of these nodes, in order, and ends so
pub record EndsIn (nodes : List MNode) (v : MValue) (answers : List Bool) (asked_nodes : List ℕ) (outcome : Outcome) : Type 0 where
  pub last : Visit
  pub comes : ComesTo nodes v (root answers) last
  pub ends : outcome_at (slice_get nodes last.node) v last.left ≡ Some outcome
  pub asks : answered (slice_get nodes last.node) last.node last.left last.refused ≡ asked_nodes

-- what the guard at a node is asked with, where one stands there
abbrev pub guard_at : MValue → Option MNode → List Asked
guard_at v (Some (AskNode arm binds refused)) = asked_at arm binds v ∷ []
guard_at v _ = []

-- what the guards at these nodes are asked with
abbrev pub guards_at : List MNode → MValue → List ℕ → List Asked
guards_at nodes v ns = flat_map (λ n. guard_at v (slice_get nodes n)) ns

-- what the tree means for a value and the answers of its guards: a walk asks the guards of these nodes and ends so
pub record Means (nodes : List MNode) (v : MValue) (answers : List Bool) (s : Selected) : Type 0 where
  pub asked_nodes : List ℕ
  pub walk : EndsIn nodes v answers asked_nodes s.outcome
  pub asks : guards_at nodes v asked_nodes ≡ s.asked

-- exactly one of the branches has the part; an else has it where no other has
abbrev pub one_has : MValue → List MBranch → Bool
one_has v branches =
    nat_eq (count_by (λ b. case_has b.case v) branches) 1
    || (nat_eq (count_by (λ b. case_has b.case v) branches) 0 && nat_eq (count_by (λ b. is_else b.case) branches) 1)

-- the places of the names are there
abbrev pub places_are : MValue → List MBind → Bool
places_are v binds = list_all (λ b. is_some (part_at b.place v)) binds

-- a place that a switch looks at is there, and exactly one case has the part
abbrev pub is_decided : Option MValue → List MBranch → Bool
is_decided None branches = false
is_decided (Some u) branches = one_has u branches

-- the node is there, with its places, and with its one case
abbrev pub is_sound : MValue → Option MNode → Bool
is_sound v (Some (SwitchNode place branches)) = is_decided (part_at place v) branches
is_sound v (Some (AskNode arm binds refused)) = places_are v binds
is_sound v (Some (TakeNode arm binds)) = places_are v binds
is_sound v (Some MissNode) = true
is_sound v (Some VoidNode) = true
is_sound v None = false

-- the tree is defined on the value: whatever the answers, each stop has its node, places and case
abbrev pub IsDefinedOn : List MNode → MValue → Type 0
IsDefinedOn nodes v =
    (answers : List Bool) (a : Visit) → ComesTo nodes v (root answers) a → IsTrue (is_sound v (slice_get nodes a.node))

-- the position that a node looks at
abbrev pub looked_at : MValue → Option MNode → Option (List ℕ)
looked_at v (Some (SwitchNode place branches)) = position_at place v
looked_at v _ = None

-- on the way of no value of the domain do two switches look at one position; a step to middle items has none, so this is
-- said of trees whose places are of the scrutinee's type
abbrev pub IsOnce : (Domain : MValue → Type 0) → List MNode → Type 0
IsOnce Domain nodes =
    (v : MValue) → Domain v → (answers : List Bool) (a b c : Visit) (p : List ℕ) →
    ComesTo nodes v (root answers) a → GoesOn nodes v a b → ComesTo nodes v b c →
    looked_at v (slice_get nodes a.node) ≡ Some p → looked_at v (slice_get nodes c.node) ≡ Some p → ⊥

-- some value of the domain, with some answers, comes to the node
abbrev pub IsReached : (Domain : MValue → Type 0) → List MNode → ℕ → Type 0
IsReached Domain nodes n =
    (v : MValue) × Domain v × (answers : List Bool) × (a : Visit) × ComesTo nodes v (root answers) a × (a.node ≡ n)

-- some value of the domain, with some answers, comes to the switch and takes the case with this number
abbrev pub IsTaken : (Domain : MValue → Type 0) → List MNode → (node : ℕ) → List MStep → List MBranch → (case : ℕ) → Type 0
IsTaken Domain nodes n place branches i =
    (v : MValue) × Domain v × (answers : List Bool) × (a : Visit) × ComesTo nodes v (root answers) a × (a.node ≡ n)
    × (number_at place branches v ≡ Some i)

-- every node is reached and every case taken; but for the lone node of a domain without values
pub record IsLive (Domain : MValue → Type 0) (nodes : List MNode) : Type 0 where
  pub reached : (n : ℕ) → n < length nodes →
      IsReached Domain nodes n ⊎ ((nodes ≡ VoidNode ∷ []) × ((v : MValue) → ¬ Domain v))
  pub taken : (n i : ℕ) (place : List MStep) (branches : List MBranch) →
      slice_get nodes n ≡ Some (SwitchNode place branches) → i < length branches → IsTaken Domain nodes n place branches i
