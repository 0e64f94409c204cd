-- What a match does with one value as JSON.
use Rattle.std.specs.Prelude.{ℕ, List, [], ◌∷◌, ◌++◌, map, codes}
use Rattle.serde_json.specs.Data.{Data, null, number, unsigned, string, array, object, no_members, member}
use Rattle.serde_json.specs.View.{items_of}
use Rattle.serde_json.specs.Written.{compact_text}
use Rattle.tree_text.specs.Reported.{mode_word}
use Rattle.verdict_json.specs.OutcomeTrees.{HeldTree, AskedTree, EndingTree, ArmTaken, NoArmTaken, AnswerMissing, OutcomeTree}

-- a name, how it is bound, and what it is bound to
abbrev pub held_data : HeldTree → Data
held_data h =
    object (member (codes "mode") (string (mode_word h.mode))
    (member (codes "name") (string h.name)
    (member (codes "value") (string h.value) no_members)))

-- the names, in their order
abbrev pub bindings_data : List HeldTree → Data
bindings_data hs = array (items_of (map held_data hs))

-- a guard that got an answer
abbrev pub asked_data : AskedTree → Data
asked_data a =
    object (member (codes "arm") (number (unsigned a.arm))
    (member (codes "bindings") (bindings_data a.bindings) no_members))

-- the arm that is taken, or `null` where none is
abbrev pub taken_arm_data : EndingTree → Data
taken_arm_data (ArmTaken arm bindings) = number (unsigned arm)
taken_arm_data NoArmTaken = null
taken_arm_data AnswerMissing = null

-- the names of the arm that is taken, or `null` where none is
abbrev pub taken_bindings_data : EndingTree → Data
taken_bindings_data (ArmTaken arm bindings) = bindings_data bindings
taken_bindings_data NoArmTaken = null
taken_bindings_data AnswerMissing = null

-- the word for how it ends
abbrev pub ending_word : EndingTree → List ℕ
ending_word (ArmTaken arm bindings) = codes "took"
ending_word NoArmTaken = codes "missed"
ending_word AnswerMissing = codes "short"

-- the guards that got an answer, in order, and how it ends
abbrev pub outcome_data : OutcomeTree → Data
outcome_data o =
    object (member (codes "arm") (taken_arm_data o.ending)
    (member (codes "asked") (array (items_of (map asked_data o.asked)))
    (member (codes "bindings") (taken_bindings_data o.ending)
    (member (codes "outcome") (string (ending_word o.ending)) no_members))))

-- the bytes that are written for what a match does with a value, the line feed included
unfoldable pub outcome_text : OutcomeTree → List ℕ
outcome_text o = compact_text (outcome_data o) ++ 10 ∷ []
