-- Worked examples: the names of the variants of some switches.
use Rattle.std.proofs.Common.{◌≡◌, refl, ℕ, false, List, [], ◌∷◌, codes}
use Rattle.match_model.specs.declared.Width.TheVariants.{Endless}
use Rattle.match_model.specs.Types.{DeclaredItem, OptionOwner, MType, BoolType, TupleType, PointType, ArrayType, NamedType, no_types, types_of}
use Rattle.match_model.specs.Declarations.{UnitForm, TupleForm, MVariant, EnumItem, MProgram}
use Rattle.match_model.specs.Places.{MStep, ThroughStep, FieldStep, FrontStep, BackStep}
use Rattle.match_model.specs.Trees.{MCase, VariantCase, FlagCase, ElseCase, MBranch, SwitchNode}
use Rattle.tree_text.specs.Trees.{CaseTree, OfVariant, OfFlag, OfElse, BranchTree, NodeTree, OfSwitch}
use Rattle.witness_text.specs.Trees.{PlainName, VariantName}
use Rattle.witness_names.specs.NamedTrees.{named_node}

-- enum E { A, B(Option<[bool; 2]>) }
abbrev choice : MType
choice = NamedType (DeclaredItem 0) no_types

abbrev flags : MType
flags = NamedType OptionOwner (types_of (ArrayType BoolType 2 ∷ []))

abbrev choice_variants : List MVariant
choice_variants =
    record { name = codes "A"; form = UnitForm } ∷ record { name = codes "B"; form = TupleForm (flags ∷ []) } ∷ []

abbrev program : MProgram
program = record { items = EnumItem (codes "E") false choice_variants ∷ []; width = Endless }

-- (&E, [E; 3])
abbrev scrutinee : MType
scrutinee = TupleType (types_of (PointType false choice ∷ ArrayType choice 3 ∷ []))

abbrev case_of : MCase → ℕ → MBranch
case_of c n = record { case = c; next = n }

abbrev to : CaseTree → ℕ → BranchTree
to c n = record { case = c; next = n }

abbrev switch : List MStep → List MBranch → NodeTree
switch place branches = named_node program scrutinee (SwitchNode place branches)

-- behind a reference
behind : switch (FieldStep 0 0 ∷ ThroughStep ∷ []) (case_of (VariantCase 1) 1 ∷ case_of ElseCase 2 ∷ [])
    ≡ OfSwitch (FieldStep 0 0 ∷ ThroughStep ∷ []) (to (OfVariant (VariantName (codes "E") (codes "B"))) 1 ∷ to OfElse 2 ∷ [])
behind = refl

-- in a part of a variant: those of `Option` stand alone
inside : switch (FieldStep 0 0 ∷ ThroughStep ∷ FieldStep 1 0 ∷ []) (case_of (VariantCase 0) 1 ∷ case_of (VariantCase 1) 2 ∷ [])
    ≡ OfSwitch (FieldStep 0 0 ∷ ThroughStep ∷ FieldStep 1 0 ∷ []) (to (OfVariant (PlainName (codes "None"))) 1 ∷ to (OfVariant (PlainName (codes "Some"))) 2 ∷ [])
inside = refl

-- an item from the front or from the back
last_item : switch (FieldStep 0 1 ∷ BackStep 3 ∷ []) (case_of (VariantCase 0) 1 ∷ [])
    ≡ OfSwitch (FieldStep 0 1 ∷ BackStep 3 ∷ []) (to (OfVariant (VariantName (codes "E") (codes "A"))) 1 ∷ [])
last_item = refl

-- no such item: no type, and no name
no_item : switch (FieldStep 0 1 ∷ FrontStep 3 ∷ []) (case_of (VariantCase 0) 1 ∷ [])
    ≡ OfSwitch (FieldStep 0 1 ∷ FrontStep 3 ∷ []) (to OfElse 1 ∷ [])
no_item = refl

-- other cases stay
flag : switch (FieldStep 0 0 ∷ ThroughStep ∷ FieldStep 1 0 ∷ FieldStep 1 0 ∷ FrontStep 0 ∷ []) (case_of (FlagCase false) 1 ∷ [])
    ≡ OfSwitch (FieldStep 0 0 ∷ ThroughStep ∷ FieldStep 1 0 ∷ FieldStep 1 0 ∷ FrontStep 0 ∷ []) (to (OfFlag false) 1 ∷ [])
flag = refl
