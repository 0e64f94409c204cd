-- A walk leaves the indices of what was finished before it.
use Rattle.std.proofs.Common.{◌≡◌, ℕ, suc, ◌+◌, List, [], ◌∷◌, length, arith}
use Rattle.match_model.specs.Trees.{MBranch}
use Rattle.match_model.specs.DecisionTrees.{MTree, SwitchTree, AskTree, TakeTree, MissTree, VoidTree, MBranches}
use Rattle.match_model.specs.Lists.{Each}
use Rattle.match_model.specs.SharedTrees.{CaseTree, Walks, known, to_take, to_miss, to_void, to_ask, to_switch, WalksAll, nothing, last_first}
use Rattle.tree_sharing.specs.Table.{IsAt, IsCaseAt}

at-more : (ts : List MTree) (x : MTree) (i : ℕ) (t : MTree) → IsAt ts i t → IsAt (x ∷ ts) i t
at-more ts x i t a =
    let e : a.later + suc i ≡ length ts = a.count in record {
      later = suc a.later;
      count = omega (arith, e);
      there = a.there;
    }

mutual
  pub keeps-at : (done : List MTree) (t : MTree) (after : List MTree) (i : ℕ) (x : MTree) → Walks done t after →
      IsAt done i x → IsAt after i x
  keeps-at _ _ _ i x (known done t a) h = h
  keeps-at _ _ _ i x (to_take done arm binds n) h = at-more done (TakeTree arm binds) i x h
  keeps-at _ _ _ i x (to_miss done n) h = at-more done MissTree i x h
  keeps-at _ _ _ i x (to_void done n) h = at-more done VoidTree i x h
  keeps-at _ _ _ i x (to_ask done then arm binds t n w) h =
      at-more then (AskTree arm binds t) i x (keeps-at done t then i x w h)
  keeps-at _ _ _ i x (to_switch done then place branches n w) h =
      at-more then (SwitchTree place branches) i x (keep-all done branches then i x w h)

  pub keep-all : (done : List MTree) (bs : MBranches) (after : List MTree) (i : ℕ) (x : MTree) → WalksAll done bs after →
      IsAt done i x → IsAt after i x
  keep-all _ _ _ i x (nothing done) h = h
  keep-all _ _ _ i x (last_first done then after c t rest w v) h =
      keeps-at then t after i x v (keep-all done rest then i x w h)

-- the cases of a switch keep theirs
pub keep-cases : (done : List MTree) (t : MTree) (after : List MTree) (l : List CaseTree) (bs : List MBranch) →
    Walks done t after → Each (IsCaseAt done) l bs → Each (IsCaseAt after) l bs
keep-cases done t after [] [] w e = tt
keep-cases done t after [] (b ∷ bs) w e = elim e [ ]
keep-cases done t after (a ∷ l) [] w e = elim e [ ]
keep-cases done t after (a ∷ l) (b ∷ bs) w e =
    ((e.0.0, keeps-at done t after b.next a.tree w e.0.1), keep-cases done t after l bs w e.1)
