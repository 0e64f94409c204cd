-- The tree of an empty domain.
use Rattle.std.proofs.Common.{◌≡◌, List, [], ◌∷◌, refl, ap, subst, Result, Ok, Err, IfOk}
use Rattle.match_model.specs.DecisionTrees.{MTree, VoidTree}
use Rattle.match_model.specs.Lists.{Each, Among}
use Rattle.match_model.specs.SharedTrees.{Walks, known, to_take, to_miss, to_void, to_ask, to_switch, IsNodeOf, switch_of, ask_of, take_of, miss_of, void_of, IsShared}
use Rattle.match_model.specs.Trees.{MNode, VoidNode}

void-walk : (done : List MTree) (t : MTree) (after : List MTree) → Walks done t after → done ≡ [] → t ≡ VoidTree →
    after ≡ VoidTree ∷ []
void-walk _ _ _ (known done t a) e f = elim (subst (Among t) e a) [ ]
void-walk _ _ _ (to_take done arm binds n) e f = cc
void-walk _ _ _ (to_miss done n) e f = cc
void-walk _ _ _ (to_void done n) e f = ap (λ ts. VoidTree ∷ ts) e
void-walk _ _ _ (to_ask done then arm binds t n w) e f = cc
void-walk _ _ _ (to_switch done then place branches n w) e f = cc

void-node : (trees : List MTree) (t : MTree) (x : MNode) → IsNodeOf trees t x → t ≡ VoidTree → x ≡ VoidNode
void-node trees _ _ (switch_of place branches bs e) f = cc
void-node trees _ _ (ask_of arm binds t n e) f = cc
void-node trees _ _ (take_of arm binds) f = cc
void-node trees _ _ miss_of f = cc
void-node trees _ _ void_of f = refl

lone : (trees : List MTree) (nodes : List MNode) → Each (IsNodeOf trees) (VoidTree ∷ []) nodes → nodes ≡ VoidNode ∷ []
lone trees [] e = elim e [ ]
lone trees (x ∷ []) e = ap (λ y. y ∷ []) (void-node trees VoidTree x e.0 refl)
lone trees (x ∷ y ∷ nodes) e = elim e.1 [ ]

-- it is one node
pub lone-void : (nodes : List MNode) → IsShared VoidTree nodes → nodes ≡ VoidNode ∷ []
lone-void nodes s =
    lone s.trees nodes
    (subst (λ l. Each (IsNodeOf s.trees) l nodes) (void-walk [] VoidTree s.trees s.walk refl refl) s.are)

-- what holds of each good result holds of the result
pub if-ok-to : {A E : Type 0} (P Q : A → Type 0) (r : Result A E) → ((x : A) → P x → Q x) → IfOk r P → IfOk r Q
if-ok-to P Q (Ok x) f h = f x h
if-ok-to P Q (Err e) f h = tt
