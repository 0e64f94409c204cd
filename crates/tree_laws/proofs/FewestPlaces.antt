-- A place has one number of branches, and how to show that a place has the fewest.
use Rattle.std.proofs.Common.{◌≡◌, ◌<◌, ◌≤◌, ◌⊎◌, inl, inr, ℕ, ◌+◌, Bool, false, List, Some, slice_get, refl, sym, ap, ◌∙◌, subst, arith, IsTrue}
use Rattle.match_model.specs.Values.{MValue}
use Rattle.match_model.specs.Constructors.{MCtor}
use Rattle.match_model.specs.Contexts.{Context}
use Rattle.match_model.specs.Matrices.{MColumn, MRow}
use Rattle.match_model.specs.Steps.{expand_head, rows_at}
use Rattle.match_model.specs.PieceStates.{is_present}
use Rattle.match_model.specs.Lowering.{ctors_at, all_wild_at}
use Rattle.match_model.specs.FewestBranches.{AreCases, nothing_missing, something_missing, no_branch_of, branch_of, AreBranches, no_branches, as_cases, is_asked, IsFewest}
use Rattle.match_model.proofs.OnePieces.{one_pieces}
use Rattle.tree_laws.proofs.OneTree.{clash}

not-both : {A B : Type 0} (present : Bool) → (present ≡ false) ⊎ ¬ B → IsTrue present → B → A
not-both present (inl e) h v = clash present h e
not-both present (inr n) h v = absurd (n v)

module _ {T : Type 0} (V : T → Bool → MValue → Type 0) (c : MColumn T) (heads all : List MCtor) where
  one-cases : (ps : List MCtor) (n m : ℕ) → AreCases V c heads all ps n → AreCases V c heads all ps m → n ≡ m
  one-cases _ _ _ (nothing_missing f) (nothing_missing g) = refl
  one-cases _ _ _ (nothing_missing f) (something_missing p m v) = absurd (f p m v)
  one-cases _ _ _ (something_missing p m v) (nothing_missing f) = absurd (f p m v)
  one-cases _ _ _ (something_missing p m v) (something_missing q o w) = refl
  one-cases _ _ _ (no_branch_of p rest n f a) (no_branch_of _ _ m g b) = one-cases rest n m a b
  one-cases _ _ _ (no_branch_of p rest n f a) (branch_of _ _ m h v b) = not-both (is_present heads p) f h v
  one-cases _ _ _ (branch_of p rest n h v a) (no_branch_of _ _ m f b) = not-both (is_present heads p) f h v
  one-cases _ _ _ (branch_of p rest n h v a) (branch_of _ _ m k w b) = ap (λ x. 1 + x) (one-cases rest n m a b)

module _ {T : Type 0} (cx : Context T) (V : T → Bool → MValue → Type 0) where
  -- the place of a column has one number of branches
  pub one-count : (i : ℕ) (c : MColumn T) (rows : List (MRow T)) (n m : ℕ) → AreBranches cx V i c rows n →
      AreBranches cx V i c rows m → n ≡ m
  one-count i c rows _ _ (no_branches h) (no_branches k) = refl
  one-count i c rows _ _ (no_branches h) (as_cases ps m e are a) =
      clash (all_wild_at i (rows_at expand_head c.place i rows)) h e
  one-count i c rows _ _ (as_cases ps n e are a) (no_branches h) =
      clash (all_wild_at i (rows_at expand_head c.place i rows)) h e
  one-count i c rows _ _ (as_cases ps n e are a) (as_cases qs m f is b) =
      let same : qs ≡ ps = sym (one_pieces (cx.set_of c.type) (ctors_at i
      (rows_at expand_head c.place i rows)) ps qs are is) in
      one-cases V c (ctors_at i (rows_at expand_head c.place i rows)) ps ps n m a
      (subst (λ l. AreCases V c (ctors_at i (rows_at expand_head c.place i rows)) l l m) same b)

  -- a column has the fewest branches where every other column that the first row asks stands behind it and has as many, or
  -- stands before it and has more
  pub fewest-of : (cs : List (MColumn T)) (rows : List (MRow T)) (i : ℕ) (c : MColumn T) (n : ℕ) →
      IsTrue (is_asked i rows) → slice_get cs i ≡ Some c → AreBranches cx V i c rows n →
      ((j : ℕ) (d : MColumn T) → slice_get cs j ≡ Some d → IsTrue (is_asked j rows) → (j ≡ i)
      ⊎ ((m : ℕ) × AreBranches cx V j d rows m × (j < i → n < m) × (n ≤ m))) → IsFewest cx V cs rows i
  fewest-of cs rows i c n asked there branches others = record {
    asked = asked;
    column = c;
    there = there;
    count = n;
    branches = branches;
    fewest = λ j d k e h b. by j d k e b (others j d e h);
  }
    where
      some-is : (x y : MColumn T) → Some x ≡ Some y → x ≡ y
      some-is x y e = cc

      by : (j : ℕ) (d : MColumn T) (k : ℕ) → slice_get cs j ≡ Some d → AreBranches cx V j d rows k → (j ≡ i)
          ⊎ ((m : ℕ) × AreBranches cx V j d rows m × (j < i → n < m) × (n ≤ m)) → (j < i → n < k) × (n ≤ k)
      by j d k e b (inl same) =
          let column : d ≡ c = some-is d c (sym e ∙ ap (slice_get cs) same ∙ there) in
          let moved : AreBranches cx V i c rows k = subst (λ x. AreBranches cx V i x rows k) column
          (subst (λ x. AreBranches cx V x d rows k) same b) in
          let count : n ≡ k = one-count i c rows n k branches moved in
          ((λ less. absurd (omega (arith, less, same))), omega (arith, count))
      by j d k e b (inr m) =
          let count : m.0 ≡ k = one-count j d rows m.0 k m.1 b in (
            (λ less. (let f : n < m.0 = m.2 less in omega (arith, f, count))),
            (let g : n ≤ m.0 = m.3 in omega (arith, g, count)),
          )
