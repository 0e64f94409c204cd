-- A node that is put finishes its tree.
use Rattle.std.proofs.Common.{◌≡◌, ◌⊎◌, inl, inr, ℕ, List, ◌∷◌, sym, subst, Result, Ok, Err, IfOk}
use Rattle.match_model.specs.Places.{MStep}
use Rattle.match_model.specs.Trees.{MBind, MBranch}
use Rattle.match_model.specs.DecisionTrees.{MTree, SwitchTree, AskTree, TakeTree, MissTree, VoidTree}
use Rattle.match_model.specs.Lists.{Among}
use Rattle.match_model.specs.SharedTrees.{Walks, known, to_miss, to_void}
use Rattle.tree_sharing.proofs.Tables.{put-take, put-ask, put-switch}
use Rattle.tree_eval.specs.Tables.{tree_at, branches_at, IsPutTree, IsFinished, FinishesSwitch, FinishesAsk}
use Rattle.tree_eval.proofs.Filled.{at-tree, cases-at}

take-finished : (old new : List MTree) (arm : ℕ) (binds : List MBind) (i : ℕ) →
    IsPutTree old (TakeTree arm binds) i new → IsFinished old (TakeTree arm binds) i new
take-finished old new arm binds i p = record { walk = put-take old new arm binds p.grows; at = p.at }

miss-walks : (old new : List MTree) → (Among MissTree old × (new ≡ old)) ⊎ ((¬ Among MissTree old) × (new ≡ MissTree ∷ old)) →
    Walks old MissTree new
miss-walks old new (inl g) = subst (Walks old MissTree) (sym g.1) (known old MissTree g.0)
miss-walks old new (inr g) = subst (Walks old MissTree) (sym g.1) (to_miss old g.0)

void-walks : (old new : List MTree) → (Among VoidTree old × (new ≡ old)) ⊎ ((¬ Among VoidTree old) × (new ≡ VoidTree ∷ old)) →
    Walks old VoidTree new
void-walks old new (inl g) = subst (Walks old VoidTree) (sym g.1) (known old VoidTree g.0)
void-walks old new (inr g) = subst (Walks old VoidTree) (sym g.1) (to_void old g.0)

ask-finished : (old new : List MTree) (arm : ℕ) (binds : List MBind) (next i : ℕ) →
    IsPutTree old (AskTree arm binds (tree_at old next)) i new → FinishesAsk old arm binds next i new
ask-finished old new arm binds next i p done t b w a =
    let e : tree_at old next ≡ t = at-tree old next t a in
    let q : IsPutTree old (AskTree arm binds t) i new = subst (λ u. IsPutTree old (AskTree arm binds u) i new) e p in
    record { walk = put-ask done old new arm binds t b w q.grows; at = q.at }

switch-finished : (old new : List MTree) (place : List MStep) (bs : List MBranch) (i : ℕ) →
    IsPutTree old (SwitchTree place (branches_at old bs)) i new → FinishesSwitch old place bs i new
switch-finished old new place bs i p done branches b w a =
    let e : branches_at old bs ≡ branches = cases-at old branches bs a in
    let q : IsPutTree old (SwitchTree place branches) i new =
    subst (λ u. IsPutTree old (SwitchTree place u) i new) e p in
    record { walk = put-switch done old new place branches b w q.grows; at = q.at }

-- the same of what a call answers
pub if-take : {E : Type 0} (old new : List MTree) (arm : ℕ) (binds : List MBind) (r : Result ℕ E) →
    IfOk r (λ i. IsPutTree old (TakeTree arm binds) i new) → IfOk r (λ i. IsFinished old (TakeTree arm binds) i new)
if-take old new arm binds (Ok i) p = take-finished old new arm binds i p
if-take old new arm binds (Err e) p = tt

pub if-miss : {E : Type 0} (old new : List MTree) (r : Result ℕ E) → IfOk r (λ i. IsPutTree old MissTree i new) →
    IfOk r (λ i. IsFinished old MissTree i new)
if-miss old new (Ok i) p = record { walk = miss-walks old new p.grows; at = p.at }
if-miss old new (Err e) p = tt

pub if-void : {E : Type 0} (old new : List MTree) (r : Result ℕ E) → IfOk r (λ i. IsPutTree old VoidTree i new) →
    IfOk r (λ i. IsFinished old VoidTree i new)
if-void old new (Ok i) p = record { walk = void-walks old new p.grows; at = p.at }
if-void old new (Err e) p = tt

pub if-ask : {E : Type 0} (old new : List MTree) (arm : ℕ) (binds : List MBind) (next : ℕ) (r : Result ℕ E) →
    IfOk r (λ i. IsPutTree old (AskTree arm binds (tree_at old next)) i new) → IfOk r (λ i. FinishesAsk old arm binds next i new)
if-ask old new arm binds next (Ok i) p = ask-finished old new arm binds next i p
if-ask old new arm binds next (Err e) p = tt

pub if-switch : {E : Type 0} (old new : List MTree) (place : List MStep) (bs : List MBranch) (r : Result ℕ E) →
    IfOk r (λ i. IsPutTree old (SwitchTree place (branches_at old bs)) i new) →
    IfOk r (λ i. FinishesSwitch old place bs i new)
if-switch old new place bs (Ok i) p = switch-finished old new place bs i p
if-switch old new place bs (Err e) p = tt
