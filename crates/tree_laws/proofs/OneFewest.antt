-- One column has the fewest branches, and it is one that the first row asks.
use Rattle.std.proofs.Common.{◌≡◌, ◌<◌, ◌≤◌, inl, inr, ℕ, zero, suc, Bool, true, false, ◌&&◌, List, [], ◌∷◌, drop, refl, arith, IsTrue}
use Rattle.std.specs.List.{list_all}
use Rattle.std.proofs.lemmas.Bool.{cases_lt}
use Rattle.match_model.specs.Values.{MValue}
use Rattle.match_model.specs.Contexts.{Context}
use Rattle.match_model.specs.Rows.{Head, is_wild, starts_wild}
use Rattle.match_model.specs.Matrices.{MColumn, MRow}
use Rattle.match_model.specs.DecisionTrees.{MTree, all_wild}
use Rattle.match_model.specs.Keys.{Decision}
use Rattle.match_model.specs.Lowering.{Lowers}
use Rattle.match_model.specs.FewestBranches.{IsFewest}
use Rattle.tree_laws.proofs.OneTree.{one-tree}

asked-open : {T : Type 0} (i : ℕ) (hs : List (Head T)) → starts_wild (drop i hs) ≡ false → list_all is_wild hs ≡ false
asked-open zero [] e = cc
asked-open (suc i) [] e = cc
asked-open zero (h ∷ hs) e = rw e refl
asked-open (suc i) (h ∷ hs) e = go (is_wild h) (list_all is_wild hs) (asked-open i hs e)
  where
    go : (a b : Bool) → b ≡ false → (a && b) ≡ false
    go true b h = h
    go false b h = refl

module _ {T : Type 0} (cx : Context T) (V : T → Bool → MValue → Type 0) where
  pub fewest-open : (cs : List (MColumn T)) (r : MRow T) (rows : List (MRow T)) (i : ℕ) →
      IsFewest cx V cs (r ∷ rows) i → all_wild r ≡ false
  fewest-open cs r rows i f = asked-open i r.heads (go (starts_wild (drop i r.heads)) f.asked)
    where
      go : (b : Bool) → IsTrue (elim b [ true ↦ false | false ↦ true ]) → b ≡ false
      go true h = cc
      go false h = refl

  pub fewest-some : (cs : List (MColumn T)) (i : ℕ) → IsFewest cx V cs [] i → ⊥
  fewest-some cs i f = no f.asked
    where
      no : IsTrue false → ⊥
      no h = cc

  pub fewest-one : (cs : List (MColumn T)) (rows : List (MRow T)) (i j : ℕ) → IsFewest cx V cs rows i →
      IsFewest cx V cs rows j → i ≡ j
  fewest-one cs rows i j f g =
      let a = f.fewest j g.column g.count g.there g.asked g.branches in
      let b = g.fewest i f.column f.count f.there f.asked f.branches in
      let no-more : f.count ≤ g.count = a.1 in
      let no-less : g.count ≤ f.count = b.1 in
      elim (cases_lt i j) [
        | inl l ↦ (let less : g.count < f.count = b.0 l in absurd (omega (arith, less, no-more)))
        | inr m ↦ (elim (cases_lt j i) [
          | inl l ↦ (let less : f.count < g.count = a.0 l in absurd (omega (arith, less, no-less)))
          | inr n ↦ omega (arith, m, n)
        ])
      ]

  -- rows have one tree, the place with the fewest branches being looked at first
  pub one-fewest-tree : (decides : ℕ → Decision) (BareOnly : Type 0) (cs : List (MColumn T)) (rows : List (MRow T))
      (s t : MTree) →
      Lowers cx V decides (IsFewest cx V) BareOnly cs rows s → Lowers cx V decides (IsFewest cx V) BareOnly cs rows t →
      s ≡ t
  one-fewest-tree decides BareOnly = one-tree cx V decides (IsFewest cx V) BareOnly fewest-one fewest-open fewest-some
