-- Worked examples: what a report shows of some places and trees, byte for byte.
use Rattle.std.proofs.Common.{◌≡◌, refl, ℕ, true, List, [], ◌∷◌, codes}
use Rattle.std.specs.Prelude.{pos, negsuc}
use Rattle.std.specs.Fmt.{digits}
use Rattle.serde_json.specs.Written.{compact_text}
use Rattle.serde_json.proofs.OnLiterals.{serde_json_on_literals}
use Rattle.match_model.specs.declared.Mode.TheVariants.{Move, Ref, RefMut}
use Rattle.match_model.specs.Numbers.{Free, At}
use Rattle.match_model.specs.Places.{ThroughStep, FieldStep, FrontStep, BackStep, MiddleStep}
use Rattle.witness_text.specs.Texts.{name_text}
use Rattle.witness_text.specs.Trees.{PlainName, VariantName}
use Rattle.tree_text.specs.Places.{place_text}
use Rattle.tree_text.specs.Reported.{tree_data}
use Rattle.tree_text.specs.Trees.{CaseTree, OfVariant, OfFlag, OfSpan, OfText, OfLength, OfLonger, OfElse, BranchTree, NodeTree, OfSwitch, OfAsk, OfTake, OfMiss, OfVoid}

abbrev to : CaseTree → ℕ → BranchTree
to case next = record { case = case; next = next }

abbrev reported : List NodeTree → List ℕ
reported nodes = compact_text (tree_data nodes)

scrutinee : place_text [] ≡ codes "$"
scrutinee = refl

-- each step: the variant of a part is not told
steps : place_text (ThroughStep ∷ FieldStep 3 0 ∷ FrontStep 12 ∷ BackStep 1 ∷ MiddleStep 2 3 ∷ []) ≡ codes "$*.0[12][-1][2..-3]"
unfolding digits
steps = refl

-- a guard that goes on where the other case takes
guard : reported (OfSwitch [] (to (OfFlag true) 1 ∷ to OfElse 2 ∷ []) ∷ OfAsk 0 [] 2 ∷ OfTake 1 (record { name = codes "y"; mode = Move; place = [] } ∷ []) ∷ [])
    ≡ codes "[[\"switch\",\"$\",[[[\"flag\",true],1],[[\"else\"],2]]],[\"ask\",0,[],2],[\"take\",1,[[\"y\",\"move\",\"$\"]]]]"
unfolding serde_json_on_literals digits
guard = refl

-- variants, of which one is a keyword
variants : reported (OfSwitch (FieldStep 0 1 ∷ []) (to (OfVariant (VariantName (codes "E") (codes "in"))) 1 ∷ to (OfVariant (PlainName (codes "None"))) 2 ∷ []) ∷ OfMiss ∷ OfVoid ∷ [])
    ≡ codes "[[\"switch\",\"$.1\",[[[\"variant\",\"E::r#in\"],1],[[\"variant\",\"None\"],2]]],[\"miss\"],[\"void\"]]"
unfolding serde_json_on_literals digits name_text
variants = refl

-- ranges
ranges : reported (OfSwitch (FieldStep 0 0 ∷ []) (to (OfSpan (record { low = At (pos 0); high = At (pos 0) })) 3 ∷ to (OfSpan (record { low = Free; high = At (negsuc 4) })) 4 ∷ []) ∷ [])
    ≡ codes "[[\"switch\",\"$.0\",[[[\"range\",\"0\",\"0\"],3],[[\"range\",null,\"-5\"],4]]]]"
unfolding serde_json_on_literals digits
ranges = refl

-- texts and rows
rows : reported (OfSwitch (ThroughStep ∷ []) (to (OfText (34 ∷ 97 ∷ [])) 1 ∷ to (OfLength 0) 2 ∷ to (OfLonger 1 2) 3 ∷ []) ∷ [])
    ≡ codes "[[\"switch\",\"$*\",[[[\"text\",\"\\\"a\"],1],[[\"length\",0],2],[[\"longer\",1,2],3]]]]"
unfolding serde_json_on_literals digits
rows = refl

-- names that are bound, each in its way
binds : reported (OfTake 2 (record { name = codes "in"; mode = Ref; place = BackStep 2 ∷ [] } ∷ record { name = codes "x"; mode = RefMut; place = MiddleStep 0 1 ∷ [] } ∷ []) ∷ [])
    ≡ codes "[[\"take\",2,[[\"in\",\"ref\",\"$[-2]\"],[\"x\",\"ref mut\",\"$[0..-1]\"]]]]"
unfolding serde_json_on_literals digits
binds = refl

-- no node
none : reported [] ≡ codes "[]"
none = refl
