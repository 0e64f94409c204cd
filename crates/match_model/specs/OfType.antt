-- When a witness, a place, a case or a tree is of a type, as a context tells it (our own choice, after the documentation
-- of `rustc_pattern_analysis`, constructors).
use Rattle.std.specs.Prelude.{ℕ, zero, suc, Bool, true, false, ◌&&◌, List, [], ◌∷◌, length, nat_eq, nat_lt, Option, Some, None}
use Rattle.std.specs.List.{list_all}
use Rattle.match_model.specs.Witness.{MWitness, AnyOf, LaterOf, FlagOf, SpanOf, TextOf, ElseOf, NodeOf, PointOf, RowOf, MWitnesses, no_witnesses, more_witnesses, witnesses_list, slice_shape, back_is_allowed}
use Rattle.match_model.specs.Constructors.{LongerShape, MCtor, SingleCtor, PointCtor, LaterCtor, OtherTextCtor, VariantCtor, FlagCtor, NumbersCtor, TextCtor, RowCtor, MSet, SingleSet, belongs}
use Rattle.match_model.specs.Contexts.{Context}
use Rattle.match_model.specs.Places.{MStep, ThroughStep, FieldStep, FrontStep, BackStep, MiddleStep}
use Rattle.match_model.specs.Trees.{MCase, case_ctor, MBranch, MNode, SwitchNode, AskNode, TakeNode, MissNode, VoidNode}

-- the constructor of a node: the one of a struct or tuple, or a variant
abbrev pub node_ctor : MSet → (variant : ℕ) → MCtor
node_ctor SingleSet zero = SingleCtor
node_ctor _ k = VariantCtor k

-- the constructor belongs to the type's set
abbrev pub has_ctor : {T : Type 0} → Context T → T → MCtor → Bool
has_ctor cx t c = belongs (cx.set_of t) c

abbrev mutual
  -- the witness is of the type: it is anything, or its constructor belongs to the type's set, and its parts are as many and
  -- of the types that this constructor has; a row of one length has all its items in front
  pub witness_is_of : {T : Type 0} → Context T → T → MWitness → Bool
  witness_is_of cx t AnyOf = true
  witness_is_of cx t LaterOf = has_ctor cx t LaterCtor
  witness_is_of cx t (FlagOf b) = has_ctor cx t (FlagCtor b)
  witness_is_of cx t (SpanOf r) = has_ctor cx t (NumbersCtor r)
  witness_is_of cx t (TextOf u) = has_ctor cx t (TextCtor u)
  witness_is_of cx t (ElseOf us) = has_ctor cx t OtherTextCtor
  witness_is_of cx t (NodeOf k ws) =
      let c : MCtor = node_ctor (cx.set_of t) k in
      has_ctor cx t c && (nat_eq (length (witnesses_list ws)) (cx.arity c t) && witnesses_are_of cx (cx.sub c t) 0 ws)
  witness_is_of cx t (PointOf w) = has_ctor cx t PointCtor && witness_is_of cx (cx.sub PointCtor t 0) w
  witness_is_of cx t (RowOf front longer back) =
      let c : MCtor = RowCtor (slice_shape (length (witnesses_list front)) longer (length (witnesses_list back))) in
      has_ctor cx t c && back_is_allowed longer (length (witnesses_list back))
      && (witnesses_are_of cx (cx.sub c t) 0 front && witnesses_are_of cx (cx.sub c t) (length (witnesses_list front)) back)

  -- the witnesses are of the types of the parts from number `i` on
  pub witnesses_are_of : {T : Type 0} → Context T → (ℕ → T) → ℕ → MWitnesses → Bool
  witnesses_are_of cx type_of i no_witnesses = true
  witnesses_are_of cx type_of i (more_witnesses w ws) = witness_is_of cx (type_of i) w && witnesses_are_of cx type_of (suc i) ws

-- the constructor whose part a step enters, and the number of that part; a step to middle items enters no part
pub record Entered : Type 0 where
  pub ctor : MCtor
  pub part : ℕ

-- the constructor and the part that a step enters, where it enters one
abbrev pub entered : MSet → MStep → Option Entered
entered set ThroughStep = Some (record { ctor = PointCtor; part = 0 })
entered set (FieldStep k i) = Some (record { ctor = node_ctor set k; part = i })
entered set (FrontStep i) = Some (record { ctor = RowCtor (LongerShape (suc i) 0); part = i })
entered set (BackStep zero) = None
entered set (BackStep (suc i)) = Some (record { ctor = RowCtor (LongerShape 0 (suc i)); part = 0 })
entered set (MiddleStep f b) = None

-- the part's type, where the type has the constructor, and the constructor the part
abbrev pub type_entered : {T : Type 0} → Context T → T → Option Entered → Option T
type_entered cx t None = None
type_entered cx t (Some e) =
    elim (has_ctor cx t e.ctor && nat_lt e.part (cx.arity e.ctor t)) [ true ↦ Some (cx.sub e.ctor t e.part) | false ↦ None ]

-- the type at a place, each step of which enters a part that a constructor of the set there has
abbrev pub type_at_place : {T : Type 0} → Context T → T → List MStep → Option T
type_at_place cx t [] = Some t
type_at_place cx t (s ∷ steps) = elim (type_entered cx t (entered (cx.set_of t) s)) [ None ↦ None | Some u ↦ type_at_place cx u steps ]

-- the place is of the type; a step to middle items stands only last, and on rows that have the two sides
abbrev pub place_is_of : {T : Type 0} → Context T → T → List MStep → Bool
place_is_of cx t [] = true
place_is_of cx t (MiddleStep f b ∷ []) = has_ctor cx t (RowCtor (LongerShape f b))
place_is_of cx t (s ∷ steps) =
    elim (type_entered cx t (entered (cx.set_of t) s)) [ None ↦ false | Some u ↦ place_is_of cx u steps ]

-- the constructor, where there is one, is the type's
abbrev pub ctor_is_of : {T : Type 0} → Context T → T → Option MCtor → Bool
ctor_is_of cx t None = true
ctor_is_of cx t (Some c) = has_ctor cx t c

-- the case is of the type at its place: it is an else, or its constructor belongs to the type's set
abbrev pub case_is_of : {T : Type 0} → Context T → T → MCase → Bool
case_is_of cx t c = ctor_is_of cx t (case_ctor c)

-- there is a type, and the cases are of it
abbrev pub cases_are_of : {T : Type 0} → Context T → Option T → List MBranch → Bool
cases_are_of cx None branches = false
cases_are_of cx (Some t) branches = list_all (λ b. case_is_of cx t b.case) branches

-- the places and cases of the node are of the type
abbrev pub node_is_of : {T : Type 0} → Context T → T → MNode → Bool
node_is_of cx t (SwitchNode place branches) = cases_are_of cx (type_at_place cx t place) branches
node_is_of cx t (AskNode arm binds refused) = list_all (λ b. place_is_of cx t b.place) binds
node_is_of cx t (TakeNode arm binds) = list_all (λ b. place_is_of cx t b.place) binds
node_is_of cx t MissNode = true
node_is_of cx t VoidNode = true

-- the places and cases of the tree are of the type
abbrev pub tree_is_of : {T : Type 0} → Context T → T → List MNode → Bool
tree_is_of cx t nodes = list_all (node_is_of cx t) nodes
