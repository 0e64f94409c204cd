-- Where a walk has come to.
use Rattle.std.proofs.Common.{◌≡◌, ℕ, zero, suc, ◌+◌, ◌-◌, ◌<◌, ◌≤◌, Bool, false, List, [], ◌∷◌, ◌++◌, length, drop, Option, Some, None, slice_get, refl, sym, ap, ◌∙◌, subst, add-one, lit<, arith}
use Rattle.std.specs.Prelude.{IsTrue}
use Rattle.std.proofs.lemmas.List.{length-append}
use Rattle.std.proofs.lemmas.Option.{slice_get_within}
use Rattle.match_model.specs.Values.{MValue}
use Rattle.match_model.specs.Trees.{MNode, SwitchNode, AskNode, IsForward, Visit, root, GoesOn, by_case, by_refusal, ComesTo, at_once, after, is_sound, IsDefinedOn}
use Rattle.tree_runs.specs.Turns.{GoesByCase, GoesByRefusal}
use Rattle.tree_runs.proofs.Chosen.{next_within}

-- the stop at a node where so many of the answers are used
abbrev pub stop : (answers : List Bool) → (node used : ℕ) → (refused : List ℕ) → Visit
stop answers n used refused = record { node = n; left = drop used answers; refused = refused }

-- the walk comes to the node, where so many answers are used, each by a guard that refuses
pub record IsAt (nodes : List MNode) (v : MValue) (answers : List Bool) (node used : ℕ) (refused : List ℕ) : Type 0
  where
    pub comes : ComesTo nodes v (root answers) (stop answers node used refused)
    pub few : used ≤ length answers
    pub count : length refused ≡ used

-- the next answer and the others
pub rest_at : (answers : List Bool) (used : ℕ) (b : Bool) → slice_get answers used ≡ Some b →
    drop used answers ≡ b ∷ drop (suc used) answers
rest_at [] used b e = cc
rest_at (x ∷ xs) zero b e = let same : x ≡ b = cc in ap (λ y. y ∷ xs) same
rest_at (x ∷ xs) (suc i) b e = rest_at xs i b e

-- no next answer
pub none_left : (answers : List Bool) (used : ℕ) → slice_get answers used ≡ None → drop used answers ≡ []
none_left [] zero e = refl
none_left [] (suc i) e = refl
none_left (x ∷ xs) zero e = cc
none_left (x ∷ xs) (suc i) e = none_left xs i e

module _ (nodes : List MNode) (v : MValue) where
  further : (a b c : Visit) → ComesTo nodes v a b → GoesOn nodes v b c → ComesTo nodes v a c
  further _ _ c (at_once a) g = after a c c g (at_once c)
  further _ _ c (after a b d h w) g = after a b c h (further b d c w g)

  module _ (answers : List Bool) where
    pub at_first : IsAt nodes v answers 0 0 []
    at_first = record { comes = at_once (root answers); few = omega arith; count = refl }

    -- a switch goes on
    pub on_case : (n used next : ℕ) (refused : List ℕ) (x : MNode) → slice_get nodes n ≡ Some x → GoesByCase x v next →
        IsAt nodes v answers n used refused → IsAt nodes v answers next used refused
    on_case n used next refused x e g at = record {
      comes = subst (λ m. ComesTo nodes v (root answers) (stop answers m used refused)) g.is
          (further _ _ _ at.comes
          (by_case n (drop used answers) refused g.place g.branches g.branch (e ∙ ap (λ y. Some y) g.node)
          g.taken));
      few = at.few;
      count = at.count;
    }

    -- a guard refuses
    pub on_refusal : (n used next : ℕ) (refused : List ℕ) (x : MNode) (answer : Option Bool) →
        slice_get nodes n ≡ Some x →
        answer ≡ slice_get answers used → GoesByRefusal x answer next →
        IsAt nodes v answers n used refused → IsAt nodes v answers next (used + 1) (refused ++ n ∷ [])
    on_refusal n used next refused x answer e f g at =
        let next_is : slice_get answers used ≡ Some false = sym f ∙ g.refuses in
        let within : used < length answers = slice_get_within answers used false next_is in
        let from : ComesTo nodes v (root answers)
        (record { node = n; left = false ∷ drop (suc used) answers; refused = refused }) =
        subst (λ l. ComesTo nodes v (root answers) (record { node = n; left = l; refused = refused }))
        (rest_at answers used false next_is) at.comes in
        let to : ComesTo nodes v (root answers) (stop answers next (suc used) (refused ++ n ∷ [])) =
        further _ _ _ from (by_refusal n (drop (suc used) answers) refused g.arm g.binds next
        (e ∙ ap (λ y. Some y) g.node)) in
        record {
          comes = subst (λ m. ComesTo nodes v (root answers) (stop answers next m (refused ++ n ∷ [])))
              (sym (add-one used)) to;
          few = omega arith;
          count = length-append refused (n ∷ []) ∙ ap (λ m. m + 1) at.count;
        }

    -- each stop is sound
    pub sound_there : (n used : ℕ) (refused : List ℕ) → IsDefinedOn nodes v → IsAt nodes v answers n used refused →
        IsTrue (is_sound v (slice_get nodes n))
    sound_there n used refused d at = d answers (stop answers n used refused) at.comes

  -- where a switch goes on, fewer nodes are left
  pub case_falls : (n next : ℕ) (x : MNode) → IsForward nodes → slice_get nodes n ≡ Some x → GoesByCase x v next →
      length nodes - next < length nodes - n
  case_falls n next x f e g =
      let there : slice_get nodes n ≡ Some (SwitchNode g.place g.branches) = e ∙ ap (λ y. Some y) g.node in
      let within : n < length nodes = slice_get_within nodes n x e in
      let on : n < g.branch.next =
      f n g.branch.next (SwitchNode g.place g.branches) there (next_within g.place g.branches v g.branch g.taken) in
      let is : g.branch.next ≡ next = g.is in
      omega arith

  -- where a guard refuses, fewer nodes are left
  pub refusal_falls : (n next : ℕ) (x : MNode) (answer : Option Bool) → IsForward nodes → slice_get nodes n ≡ Some x →
      GoesByRefusal x answer next →
      length nodes - next < length nodes - n
  refusal_falls n next x answer f e g =
      let there : slice_get nodes n ≡ Some (AskNode g.arm g.binds next) = e ∙ ap (λ y. Some y) g.node in
      let within : n < length nodes = slice_get_within nodes n x e in
      let on : n < next = f n next (AskNode g.arm g.binds next) there (0, lit< tt, refl) in
      omega arith
