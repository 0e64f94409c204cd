-- Decision trees with the names that a report shows, by what a program declares (which names a report shows is our own
-- choice).
use Rattle.std.specs.Prelude.{ℕ, Bool, true, false, List, map, Option, Some, None}
use Rattle.std.specs.List.{list_any}
use Rattle.match_model.specs.Declarations.{MProgram}
use Rattle.match_model.specs.OfType.{type_at_place}
use Rattle.match_model.specs.RustTypes.{rust_context}
use Rattle.match_model.specs.Trees.{MCase, VariantCase, FlagCase, SpanCase, TextCase, LengthCase, LongerCase, ElseCase, MBranch, MNode, SwitchNode, AskNode, TakeNode, MissNode, VoidNode}
use Rattle.match_model.specs.Types.{MType}
use Rattle.tree_text.specs.Trees.{CaseTree, OfVariant, OfFlag, OfSpan, OfText, OfLength, OfLonger, OfElse, BranchTree, NodeTree, OfSwitch, OfAsk, OfTake, OfMiss, OfVoid}
use Rattle.witness_text.specs.Trees.{NameTree}
use Rattle.witness_names.specs.Lookups.{name_there}

-- the variant of this name; without one it is told as all other parts, which no tree of the type comes to
abbrev pub case_of_name : Option NameTree → CaseTree
case_of_name (Some name) = OfVariant name
case_of_name None = OfElse

-- the variant with this number of the type at a place, where there is one
abbrev pub variant_case : MProgram → Option MType → (variant : ℕ) → CaseTree
variant_case program (Some t) k = case_of_name (name_there program t k)
variant_case program None k = OfElse

-- a case of a switch over a place of this type
abbrev pub named_case : MProgram → Option MType → MCase → CaseTree
named_case program at (VariantCase k) = variant_case program at k
named_case program at (FlagCase b) = OfFlag b
named_case program at (SpanCase r) = OfSpan r
named_case program at (TextCase t) = OfText t
named_case program at (LengthCase n) = OfLength n
named_case program at (LongerCase front back) = OfLonger front back
named_case program at ElseCase = OfElse

-- the same with the number where it goes on
abbrev pub named_branch : MProgram → Option MType → MBranch → BranchTree
named_branch program at b = record { case = named_case program at b.case; next = b.next }

-- the case is a variant
abbrev pub is_variant : MCase → Bool
is_variant (VariantCase k) = true
is_variant _ = false

-- one of the cases is a variant
abbrev pub has_variant : List MBranch → Bool
has_variant branches = list_any (λ b. is_variant b.case) branches

-- a node of a tree over the type, with the names of the variants of the type at each place
abbrev pub named_node : MProgram → MType → MNode → NodeTree
named_node program t (SwitchNode place branches) =
    OfSwitch place (map (named_branch program (type_at_place (rust_context program) t place)) branches)
named_node program t (AskNode arm binds refused) = OfAsk arm binds refused
named_node program t (TakeNode arm binds) = OfTake arm binds
named_node program t MissNode = OfMiss
named_node program t VoidNode = OfVoid
