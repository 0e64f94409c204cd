-- A tree means one thing alone, and there is one list of what is unreachable.
use Rattle.std.proofs.Common.{◌≡◌, ℕ, suc, Bool, true, false, List, [], ◌∷◌, ◌++◌, Option, Some, None, slice_get, refl, sym, ap, ◌∙◌}
use Rattle.match_model.specs.Values.{MValue}
use Rattle.match_model.specs.Match.{ArmWays, Alternatives, IsAlternativeReachable}
use Rattle.match_model.specs.Select.{Outcome, Selected, Asked}
use Rattle.match_model.specs.Unreachable.{Entry, Listed, nothing_left, is_reachable, is_listed, ListedFrom, no_arm, arm_is_reachable, arm_is_listed, IsUnreachableList}
use Rattle.match_model.specs.Trees.{MBranch, MNode, SwitchNode, AskNode, TakeNode, MissNode, VoidNode, Visit, root, GoesOn, by_case, by_refusal, ComesTo, at_once, after, EndsIn, Means, branch_at, outcome_at, answered, guards_at}

-- where a walk goes on from a stop
abbrev on_refusal : (number refused : ℕ) → List Bool → List ℕ → Option Visit
on_refusal n refused [] asked = None
on_refusal n refused (true ∷ left) asked = None
on_refusal n refused (false ∷ left) asked = Some (record { node = refused; left = left; refused = asked ++ n ∷ [] })

abbrev behind : Option MBranch → List Bool → List ℕ → Option Visit
behind None left asked = None
behind (Some b) left asked = Some (record { node = b.next; left = left; refused = asked })

abbrev next_stop : MValue → Option MNode → (number : ℕ) → List Bool → List ℕ → Option Visit
next_stop v (Some (SwitchNode place branches)) n left asked = behind (branch_at place branches v) left asked
next_stop v (Some (AskNode arm binds refused)) n left asked = on_refusal n refused left asked
next_stop v (Some (TakeNode arm binds)) n left asked = None
next_stop v (Some MissNode) n left asked = None
next_stop v (Some VoidNode) n left asked = None
next_stop v None n left asked = None

module _ (nodes : List MNode) (v : MValue) where
  abbrev Next : Visit → Option Visit
  Next a = next_stop v (slice_get nodes a.node) a.node a.left a.refused

  goes : (a b : Visit) → GoesOn nodes v a b → Next a ≡ Some b
  goes _ _ (by_case n left asked place branches b e f) = ap (λ o. next_stop v o n left asked) e ∙ ap (λ o. behind o left asked) f
  goes _ _ (by_refusal n left asked arm binds refused e) = ap (λ o. next_stop v o n (false ∷ left) asked) e

  -- a walk that ends does not go on
  ends_there : (o : Option MNode) (n : ℕ) (left : List Bool) (asked : List ℕ) (s : Outcome) → outcome_at o v left ≡ Some s → next_stop v o n left asked ≡ None
  ends_there (Some (SwitchNode place branches)) n left asked s e = absurd (nothing e)
    where
      nothing : None ≡ Some s → ⊥
      nothing k = cc
  ends_there (Some (AskNode arm binds refused)) n [] asked s e = refl
  ends_there (Some (AskNode arm binds refused)) n (true ∷ left) asked s e = refl
  ends_there (Some (AskNode arm binds refused)) n (false ∷ left) asked s e = absurd (nothing e)
    where
      nothing : None ≡ Some s → ⊥
      nothing k = cc
  ends_there (Some (TakeNode arm binds)) n left asked s e = refl
  ends_there (Some MissNode) n left asked s e = refl
  ends_there (Some VoidNode) n left asked s e = refl
  ends_there None n left asked s e = refl

  clash : {A : Type 0} (o : Option A) (a : A) → o ≡ None → o ≡ Some a → ⊥
  clash o a e f = nothing (sym e ∙ f)
    where
      nothing : None ≡ Some a → ⊥
      nothing k = cc

  some_same : {A : Type 0} (a b : A) → Some a ≡ Some b → a ≡ b
  some_same a b e = cc

  -- two walks from one stop that do not go on have come to one stop
  one_last : (a b c : Visit) → ComesTo nodes v a b → ComesTo nodes v a c → Next b ≡ None → Next c ≡ None → b ≡ c
  one_last _ _ _ (at_once a) (at_once _) e f = refl
  one_last _ _ _ (at_once a) (after _ b c g w) e f = absurd (clash (Next a) b e (goes a b g))
  one_last _ _ _ (after a b c g w) (at_once _) e f = absurd (clash (Next a) b f (goes a b g))
  one_last _ _ _ (after a b c g w) (after _ d k h x) e f = one_last b c k w (moved (some_same d b (sym (goes a d h) ∙ goes a b g)) x) e f
    where
      moved : d ≡ b → ComesTo nodes v d k → ComesTo nodes v b k
      moved s x = rw (← s) x

pub one_walk : (nodes : List MNode) (v : MValue) (answers : List Bool) (ns ms : List ℕ) (o p : Outcome) →
    EndsIn nodes v answers ns o → EndsIn nodes v answers ms p → (ns ≡ ms) × (o ≡ p)
one_walk nodes v answers ns ms o p m n =
    let same : m.last ≡ n.last =
    one_last nodes v (root answers) m.last n.last m.comes n.comes
    (ends_there nodes v (slice_get nodes m.last.node) m.last.node m.last.left m.last.refused o m.ends)
    (ends_there nodes v (slice_get nodes n.last.node) n.last.node n.last.left n.last.refused p n.ends) in (
      sym m.asks ∙ ap (λ l. answered (slice_get nodes l.node) l.node l.left l.refused) same ∙ n.asks,
      some_same nodes v o p (sym m.ends ∙ ap (λ l. outcome_at (slice_get nodes l.node) v l.left) same ∙ n.ends),
    )

abbrev selected : List Asked → Outcome → Selected
selected a o = record { asked = a; outcome = o }

both_same : (a b : List Asked) (o p : Outcome) → a ≡ b → o ≡ p → selected a o ≡ selected b p
both_same a b o p h k = rw (h, k) refl

pub one_meaning : (nodes : List MNode) (v : MValue) (answers : List Bool) (s t : Selected) → Means nodes v answers s → Means nodes v answers t → s ≡ t
one_meaning nodes v answers s t m n =
    let one = one_walk nodes v answers m.asked_nodes n.asked_nodes s.outcome t.outcome m.walk n.walk in
    both_same s.asked t.asked s.outcome t.outcome (sym m.asks ∙ ap (guards_at nodes v) one.0 ∙ n.asks) one.1

one_listed : (Reachable : ℕ → Type 0) (arm : ℕ) (alternatives : Alternatives) (es fs : List Entry) →
    Listed Reachable arm alternatives es → Listed Reachable arm alternatives fs → es ≡ fs
one_listed R arm _ _ _ nothing_left nothing_left = refl
one_listed R arm _ _ _ (is_reachable id at inside others es fs r a b) (is_reachable _ _ _ _ gs hs q c d) =
    rw (one_listed R arm inside es gs a c, one_listed R arm others fs hs b d) refl
one_listed R arm _ _ _ (is_reachable id at inside others es fs r a b) (is_listed _ _ _ _ hs n d) = absurd (n r)
one_listed R arm _ _ _ (is_listed id at inside others fs n b) (is_reachable _ _ _ _ gs hs q c d) = absurd (n q)
one_listed R arm _ _ _ (is_listed id at inside others fs n b) (is_listed _ _ _ _ hs m d) =
    ap (λ l. record { arm = arm; id = id; at = at; whole = false } ∷ l) (one_listed R arm others fs hs b d)

one_from : (Domain : MValue → Type 0) (arms : List ArmWays) (j : ℕ) (rest : List ArmWays) (es fs : List Entry) →
    ListedFrom Domain arms j rest es → ListedFrom Domain arms j rest fs → es ≡ fs
one_from D arms _ _ _ _ (no_arm j) (no_arm _) = refl
one_from D arms _ _ _ _ (arm_is_reachable j a rest es fs r x y) (arm_is_reachable _ _ _ gs hs q z w) =
    rw (one_listed (IsAlternativeReachable D arms j) j a.alternatives es gs x z, one_from D arms (suc j) rest fs hs y w) refl
one_from D arms _ _ _ _ (arm_is_reachable j a rest es fs r x y) (arm_is_listed _ _ _ hs n w) = absurd (n r)
one_from D arms _ _ _ _ (arm_is_listed j a rest fs n y) (arm_is_reachable _ _ _ gs hs q z w) = absurd (n q)
one_from D arms _ _ _ _ (arm_is_listed j a rest fs n y) (arm_is_listed _ _ _ hs m w) =
    ap (λ l. record { arm = j; id = a.id; at = a.at; whole = true } ∷ l) (one_from D arms (suc j) rest fs hs y w)

pub one_list : (Domain : MValue → Type 0) (arms : List ArmWays) (es fs : List Entry) →
    IsUnreachableList Domain arms es → IsUnreachableList Domain arms fs → es ≡ fs
one_list D arms es fs a b = one_from D arms 0 arms es fs a b
