-- The nodes of every well-typed match: right, defined, nothing looked at twice, all alive, none twice.
use Rattle.std.proofs.Common.{◌≡◌, inl, inr, ℕ, zero, suc, Bool, true, List, [], ◌∷◌, Some, slice_get, refl, sym, ◌∙◌, subst, arith}
use Rattle.std.specs.List.{list_all, Contains}
use Rattle.match_model.specs.Values.{MValue, Unseen}
use Rattle.match_model.specs.Contexts.{Context}
use Rattle.match_model.specs.ContextLaws.{PartsLaw, ValuesLaw}
use Rattle.match_model.specs.Select.{Selected, select}
use Rattle.match_model.specs.ArenaPatterns.{MDeArm, MDeMatch}
use Rattle.match_model.specs.ArenaWays.{InMatchDomain, match_arms}
use Rattle.match_model.specs.Places.{MStep}
use Rattle.match_model.specs.Trees.{MBranch, MNode, SwitchNode, VoidNode, successors}
use Rattle.match_model.specs.Matrices.{MColumn, MRow, first_rows, first_matrix}
use Rattle.match_model.specs.DecisionTrees.{MTree}
use Rattle.match_model.specs.WellTyped.{IsTyped, names_differ, IsWellTyped}
use Rattle.match_model.specs.OfType.{place_is_of, tree_is_of}
use Rattle.match_model.specs.MatchTree.{AreNodesOf, nothing_to_lower, lowered, IsMatchTree, AreGoodNodes}
use Rattle.match_model.specs.SharedTrees.{IsShared}
use Rattle.match_model.specs.Keys.{Decision}
use Rattle.match_model.specs.Lists.{Every, Among}
use Rattle.match_model.specs.Lowering.{Lowers}
use Rattle.match_model.specs.Numbering.{AreArmsNumbered, match_decisions}
use Rattle.keyed_rows.proofs.Members.{among-contains, contains-among}
use Rattle.keyed_rows.proofs.ArmNumbers.{arms-numbered}
use Rattle.tree_sharing.proofs.OneShared.{one-shared}
use Rattle.tree_laws.proofs.OneFewest.{one-fewest-tree}
use Rattle.tree_laws.proofs.Top.{good-match}
use Rattle.match_model.specs.Made.{IsMadePat, AreArmsMade}
use Rattle.keyed_steps.specs.Good.{IsGoodRow, IsGood, IsReady}
use Rattle.keyed_steps.proofs.Differing.{fine-from}
use Rattle.tree_laws.proofs.Engine.{context-engine}
use Rattle.tree_laws.proofs.OfType.{shared-of, lowered-of}

-- an arm: typed, with names that differ, of constructors that a program writes
pub record IsGoodArm {T : Type 0} (cx : Context T) (t : T) (a : MDeArm T) : Type 0 where
  pub typed : IsTyped cx t a.pat
  pub names : names_differ a.pat ≡ true
  pub made : IsMadePat a.pat

module _ {T : Type 0} (IsType : T → Type 0) (cx : Context T) (V : T → Bool → MValue → Type 0)
    (law : PartsLaw IsType V cx) (values : ValuesLaw IsType V cx) (decides : ℕ → Decision) where
  pub first-good : (t : T) (sure : Bool) (j : ℕ) (arms : List (MDeArm T)) → Every (IsGoodArm cx t) arms →
      AreArmsNumbered decides arms →
      Every (IsGoodRow cx decides (record { place = []; type = t; sure = sure } ∷ [])) (first_rows j arms)
  first-good t sure j [] g n = tt
  first-good t sure j (a ∷ arms) g n = (
    record {
      typed = (g.0.typed, tt);
      names =
          fine-from [] (Some a.pat ∷ [])
          (record { distinct = refl; each = (g.0.names, tt); beside = λ x p q. p; apart = (λ x p q. q, tt) });
      free = (n.0.0, omega arith, n.0.1, (λ o p q. refl), tt);
      made = (g.0.made, tt);
    },
    first-good t sure (suc j) arms g.1 n.1,
  )

  -- the tree theorem without an engine
  pub typed-match : (Chooses : List (MColumn T) → List (MRow T) → ℕ → Type 0) (BareOnly : Type 0) (m : MDeMatch T)
      (tree : MTree) (nodes : List MNode) (v : MValue) → IsType m.type → Every (IsGoodArm cx m.type) m.arms →
      AreArmsNumbered decides m.arms → InMatchDomain V m v →
      Lowers cx V decides Chooses BareOnly (first_matrix m).columns (first_matrix m).rows tree → IsShared tree nodes →
      AreGoodNodes (InMatchDomain V m) (λ u answers. select (match_arms m) u answers) nodes
  typed-match Chooses BareOnly m tree nodes v type arms numbered inside lowers shared =
      good-match cx V decides (IsGood IsType cx decides) (IsReady IsType cx decides)
      (context-engine IsType cx V law values decides) Chooses BareOnly m tree nodes v inside numbered
      (record {
        columns_are = (record { type = type; straight = tt }, tt);
        rows_are = first-good m.type m.sure 0 m.arms
            arms numbered;
      }) lowers shared

  -- the arms of a well-typed match are good
  pub arms-good : (m : MDeMatch T) → IsWellTyped IsType cx m → AreArmsMade m.arms → Every (IsGoodArm cx m.type) m.arms
  arms-good m w made = go m.arms (λ a i. i) made
    where
      go : (arms : List (MDeArm T)) → ((a : MDeArm T) → Among a arms → Among a m.arms) → AreArmsMade arms →
          Every (IsGoodArm cx m.type) arms
      go [] inside h = tt
      go (a ∷ arms) inside h =
          let c : Contains m.arms a = among-contains m.arms a (inside a (inl refl)) in
          (record { typed = w.typed a c; names = w.names a c; made = h.0 }, go arms (λ b i. inside b (inr i)) h.1)

-- the lone node of an empty domain is good
void-good : (Domain : MValue → Type 0) (select : MValue → List Bool → Selected) → ((v : MValue) → ¬ Domain v) →
    AreGoodNodes Domain select (VoidNode ∷ [])
void-good Domain select none = record {
  means = λ v d answers. absurd (none v d);
  defined = λ v d. absurd (none v d);
  once = λ v d answers a b c p x y z e f. none v d;
  live =
      record {
        reached = λ n less. inr (refl, none);
        taken = λ n i place branches e less. absurd
            (no-switch n place branches e);
      };
  forward = λ n k x e c. absurd (no-successor n k x e c);
  apart = λ i j x e f. lone i x e ∙ sym (lone j x f);
}
  where
    no-switch : (n : ℕ) (place : List MStep) (branches : List MBranch) →
        slice_get (VoidNode ∷ []) n ≡ Some (SwitchNode place branches) → ⊥
    no-switch zero place branches e = cc
    no-switch (suc n) place branches e = cc

    no-successor : (n k : ℕ) (x : MNode) → slice_get (VoidNode ∷ []) n ≡ Some x → Contains (successors x) k → ⊥
    no-successor zero k x e c =
        (let same : VoidNode ≡ x = cc in contains-among [] k (subst (λ y. Contains (successors y) k) (sym same) c))
    no-successor (suc n) k x e c = cc

    lone : (n : ℕ) (x : MNode) → slice_get (VoidNode ∷ []) n ≡ Some x → n ≡ 0
    lone zero x e = refl
    lone (suc n) x e = cc

module _ {T : Type 0} (IsType : T → Type 0) (cx : Context T) (V : T → Bool → MValue → Type 0) where
  -- the nodes of a tree of a well-typed match are good, whatever places are looked at next
  pub good-tree : PartsLaw IsType V cx → ValuesLaw IsType V cx →
      (Chooses : List (MColumn T) → List (MRow T) → ℕ → Type 0) (m : MDeMatch T) (nodes : List MNode) →
      IsWellTyped IsType cx m → AreArmsMade m.arms → AreNodesOf cx V Chooses m nodes →
      AreGoodNodes (InMatchDomain V m) (λ u answers. select (match_arms m) u answers) nodes
  good-tree law values Chooses m _ w made (nothing_to_lower none) =
      void-good (InMatchDomain V m) (λ u answers. select (match_arms m) u answers) none
  good-tree law values Chooses m _ w made (lowered v tree nodes inside lowers shared) =
      typed-match IsType cx V law values (match_decisions m) Chooses
      ((u : MValue) → InMatchDomain V m u → u ≡ Unseen) m tree nodes v w.type
      (arms-good IsType cx V law values (match_decisions m) m w made) (arms-numbered m w.uids) inside lowers shared

  -- a match has one tree in which a place with the fewest branches is looked at next
  pub one-match-tree : (m : MDeMatch T) (ns ms : List MNode) → IsMatchTree cx V m ns → IsMatchTree cx V m ms → ns ≡ ms
  one-match-tree m _ _ (nothing_to_lower none) (nothing_to_lower _) = refl
  one-match-tree m _ _ (nothing_to_lower none) (lowered v t ms h l s) = absurd (none v h)
  one-match-tree m _ _ (lowered v t ns h l s) (nothing_to_lower none) = absurd (none v h)
  one-match-tree m _ _ (lowered v t ns h l s) (lowered u r ms k b q) =
      let same : r ≡ t = one-fewest-tree cx V (match_decisions m) ((u : MValue) → InMatchDomain V m u → u ≡ Unseen)
      (first_matrix m).columns (first_matrix m).rows r t b l in
      one-shared t ns ms s (subst (λ x. IsShared x ms) same q)

  -- its places and cases are of the match's type
  pub tree-of-type : PartsLaw IsType V cx → ValuesLaw IsType V cx →
      (Chooses : List (MColumn T) → List (MRow T) → ℕ → Type 0) (m : MDeMatch T) (nodes : List MNode) →
      IsWellTyped IsType cx m → AreArmsMade m.arms → AreNodesOf cx V Chooses m nodes → tree_is_of cx m.type nodes ≡ true
  tree-of-type law values Chooses m _ w made (nothing_to_lower none) = refl
  tree-of-type law values Chooses m _ w made (lowered v tree nodes inside lowers shared) =
      let arms : Every (IsGoodArm cx m.type) m.arms = arms-good IsType cx V law values (match_decisions m) m w made in
      let good : IsGood IsType cx (match_decisions m) (first_matrix m).columns (first_matrix m).rows = record {
        columns_are = (record { type = w.type; straight = tt }, tt);
        rows_are = first-good IsType cx V law values
            (match_decisions m) m.type m.sure 0 m.arms arms (arms-numbered m w.uids);
      } in
      shared-of cx m.type tree nodes
      (lowered-of IsType cx V law values (match_decisions m) m.type Chooses
      ((u : MValue) → InMatchDomain V m u → u ≡ Unseen) (first_matrix m).columns (first_matrix m).rows tree lowers good
      (refl, tt) (nothing-caught 0 m.arms)) shared
    where
      nothing-caught : (j : ℕ) (arms : List (MDeArm T)) → Every (λ (r : MRow T). list_all
          (λ b. place_is_of cx m.type b.place) r.caught ≡ true) (first_rows j arms)
      nothing-caught j [] = tt
      nothing-caught j (a ∷ arms) = (refl, nothing-caught (suc j) arms)
