-- What holds of the decision trees of a match, in a context that keeps its laws.
use Rattle.std.specs.Prelude.{◌≡◌, ℕ, Bool, List, IsTrue}
use Rattle.match_model.specs.Values.{MValue}
use Rattle.match_model.specs.Select.{select}
use Rattle.match_model.specs.Contexts.{Context}
use Rattle.match_model.specs.ArenaPatterns.{MDeMatch}
use Rattle.match_model.specs.ArenaWays.{InMatchDomain, match_arms}
use Rattle.match_model.specs.Made.{AreArmsMade}
use Rattle.match_model.specs.Trees.{MNode}
use Rattle.match_model.specs.Matrices.{MColumn, MRow}
use Rattle.match_model.specs.WellTyped.{IsWellTyped}
use Rattle.match_model.specs.OfType.{tree_is_of}
use Rattle.match_model.specs.MatchTree.{AreNodesOf, IsMatchTree, AreGoodNodes}

-- the nodes are good for the match: they do with each value of its domain what the match selects
abbrev pub AreGoodFor : {T : Type 0} → (T → Bool → MValue → Type 0) → MDeMatch T → List MNode → Type 0
AreGoodFor IsValue m nodes = AreGoodNodes (InMatchDomain IsValue m)
    (λ v answers. select (match_arms m) v answers) nodes

-- the places that a test chooses
abbrev pub ChosenBy : {T : Type 0} → (List (MColumn T) → List (MRow T) → ℕ → Bool) → List (MColumn T) →
    List (MRow T) → ℕ → Type 0
ChosenBy chooses columns rows i = IsTrue (chooses columns rows i)

-- the nodes of every tree of a well-typed match are good, whatever places are looked at next
abbrev pub TreesAreGood : {T : Type 0} → (T → Type 0) → (T → Bool → MValue → Type 0) → Context T → Type 0
TreesAreGood {T} IsType IsValue cx =
    (chooses : List (MColumn T) → List (MRow T) → ℕ → Bool) (m : MDeMatch T) (nodes : List MNode) →
    IsWellTyped IsType cx m → AreArmsMade m.arms → AreNodesOf cx IsValue (ChosenBy chooses) m nodes →
    AreGoodFor IsValue m nodes

-- the places and cases of every tree of a well-typed match are of its type
abbrev pub TreesAreOfType : {T : Type 0} → (T → Type 0) → (T → Bool → MValue → Type 0) → Context T → Type 0
TreesAreOfType {T} IsType IsValue cx =
    (chooses : List (MColumn T) → List (MRow T) → ℕ → Bool) (m : MDeMatch T) (nodes : List MNode) →
    IsWellTyped IsType cx m → AreArmsMade m.arms → AreNodesOf cx IsValue (ChosenBy chooses) m nodes →
    IsTrue (tree_is_of cx m.type nodes)

-- those of the printed tree are
abbrev pub MatchTreesAreOfType : {T : Type 0} → (T → Type 0) → (T → Bool → MValue → Type 0) → Context T → Type 0
MatchTreesAreOfType {T} IsType IsValue cx =
    (m : MDeMatch T) (nodes : List MNode) →
    IsWellTyped IsType cx m → AreArmsMade m.arms → IsMatchTree cx IsValue m nodes →
    IsTrue (tree_is_of cx m.type nodes)

-- the tree of a well-typed match that is printed is good
abbrev pub MatchTreesAreGood : {T : Type 0} → (T → Type 0) → (T → Bool → MValue → Type 0) → Context T → Type 0
MatchTreesAreGood {T} IsType IsValue cx =
    (m : MDeMatch T) (nodes : List MNode) →
    IsWellTyped IsType cx m → AreArmsMade m.arms → IsMatchTree cx IsValue m nodes → AreGoodFor IsValue m nodes

-- a match has one tree that is printed
abbrev pub MatchTreeIsOne : {T : Type 0} → (T → Bool → MValue → Type 0) → Context T → Type 0
MatchTreeIsOne {T} IsValue cx =
    (m : MDeMatch T) (ns ms : List MNode) → IsMatchTree cx IsValue m ns → IsMatchTree cx IsValue m ms → ns ≡ ms
