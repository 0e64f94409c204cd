-- Where the first row is taken, the tree of it alone is that of all rows.
use Rattle.std.proofs.Common.{◌≡◌, inl, inr, ℕ, Bool, List, [], ◌∷◌, sym, subst}
use Rattle.match_model.specs.Values.{MValue}
use Rattle.match_model.specs.ArenaPatterns.{MDeMatch}
use Rattle.match_model.specs.Contexts.{Context}
use Rattle.match_model.specs.DecisionTrees.{TakeTree, row_binds}
use Rattle.match_model.specs.Keys.{Decision}
use Rattle.match_model.specs.Lists.{Every, Ordered}
use Rattle.match_model.specs.Lowering.{takes}
use Rattle.match_model.specs.Matrices.{MColumn, MRow}
use Rattle.keyed_steps.specs.Good.{IsGood, IsGoodRow}
use Rattle.tree_laws.proofs.OneFewest.{one-fewest-tree}
use Rattle.decision_tree.specs.Fronts.{IsFront}
use Rattle.decision_tree.specs.Known.{IsHeadOf, IsInScope}
use Rattle.decision_tree.specs.Waiting.{IsBare, Leads, Makes}

module _ {T : Type 0} where
  pub front-every : (P : MRow T → Type 0) (front rows : List (MRow T)) → IsFront front rows → Every P rows → Every P front
  front-every P front rows (inl e) h = subst (Every P) (sym e) h
  front-every P front rows (inr k) h =
      let all : Every P (k.taken.row ∷ k.others) = subst (Every P) k.first h in
      subst (Every P) (sym k.taken.alone) (all.0, tt)

  pub front-ordered : (R : MRow T → MRow T → Type 0) (front rows : List (MRow T)) → IsFront front rows → Ordered R rows →
      Ordered R front
  front-ordered R front rows (inl e) o = subst (Ordered R) (sym e) o
  front-ordered R front rows (inr k) o = subst (Ordered R) (sym k.taken.alone) (tt, tt)

  module _ (cx : Context T) where
    -- they are as well formed
    pub front-good : (IsType : T → Type 0) (decides : ℕ → Decision) (columns : List (MColumn T))
        (front rows : List (MRow T)) → IsFront front rows → IsGood IsType cx decides columns rows →
        IsGood IsType cx decides columns front
    front-good IsType decides columns front rows f g = record {
      columns_are = g.columns_are;
      rows_are = front-every (IsGoodRow cx decides columns) front rows f g.rows_are;
    }

    pub front-scope : (m : MDeMatch T) (columns : List (MColumn T)) (front rows : List (MRow T)) → IsFront front rows →
        IsInScope cx m columns rows → IsInScope cx m columns front
    front-scope m columns front rows f s = record {
      columns_are = s.columns_are;
      rows_are = front-every (λ r. Every (IsHeadOf m.arms) r.heads) front rows f s.rows_are;
    }

module _ {T : Type 0} (IsType : T → Type 0) (cx : Context T) (V : T → Bool → MValue → Type 0)
    (decides : ℕ → Decision) (m : MDeMatch T) where
  -- they have one tree
  pub front-leads : (columns : List (MColumn T)) (front rows : List (MRow T)) → IsFront front rows →
      Leads IsType cx V decides m columns front columns rows
  front-leads columns front rows (inl e) = λ t l. subst (λ rs. Makes IsType cx V decides m columns rs t) e l
  front-leads columns front rows (inr k) = λ t l.
      let r : MRow T = k.taken.row in
      let same : TakeTree r.arm (row_binds columns r) ≡ t = one-fewest-tree cx V decides (IsBare V m) columns (r ∷ [])
      (TakeTree r.arm (row_binds columns r)) t (takes columns r [] k.taken.wild k.taken.unguarded)
      (subst (λ rs. Makes IsType cx V decides m columns rs t) k.taken.alone l) in
      subst (λ rs. Makes IsType cx V decides m columns rs t) (sym k.first)
      (subst (λ s. Makes IsType cx V decides m columns (r ∷ k.others) s) same
      (takes columns r k.others k.taken.wild k.taken.unguarded))
