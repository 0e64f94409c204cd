-- Rows have the tree that they have without what was decided of an arm that has only one of them.
use Rattle.std.proofs.Common.{◌≡◌, ◌<◌, ◌≤◌, inl, inr, ℕ, suc, ◌+◌, Bool, true, false, List, [], ◌∷◌, ◌++◌, map, refl, sym, ap, ◌∙◌, append-nil, arith, subst, nat_eq, nat_lt, cond}
use Rattle.std.proofs.lemmas.Bool.Decides.{nat_tests}
use Rattle.match_model.specs.Values.{MValue}
use Rattle.match_model.specs.Contexts.{Context}
use Rattle.match_model.specs.DecisionTrees.{MTree}
use Rattle.match_model.specs.FewestBranches.{IsFewest}
use Rattle.match_model.specs.Keys.{Decision, Key, key_of}
use Rattle.match_model.specs.Lists.{Ordered, Among}
use Rattle.match_model.specs.Lowering.{Lowers}
use Rattle.match_model.specs.Matrices.{MColumn, MRow}
use Rattle.match_model.specs.RowOrder.{row_key}
use Rattle.match_model.specs.Rows.{Head}
use Rattle.keyed_rows.specs.Dividing.{head_count, AreFree}
use Rattle.keyed_rows.specs.Parting.{RowParted}
use Rattle.keyed_rows.proofs.Lists.{every-map, every-all, ordered-map}
use Rattle.keyed_rows.proofs.Parting.{among-every}
use Rattle.keyed_rows.proofs.RowOrder.{every-among}
use Rattle.keyed_steps.specs.Engine.{IsEngine}
use Rattle.keyed_steps.specs.Good.{IsGoodRow, IsGood, IsReady}
use Rattle.decision_tree.specs.Lone.{arm_count, is_alone, emptied, lone_row, lone}
use Rattle.decision_tree.proofs.Based.{based, all_based, IsFresh, tree-based}

-- what the first row of the arm has chosen
abbrev first_chosen : {T : Type 0} → ℕ → List (MRow T) → List ℕ
first_chosen arm [] = []
first_chosen arm (r ∷ rows) = cond (nat_eq r.arm arm) r.chosen (first_chosen arm rows)

-- what the one row of the arm has chosen
abbrev front_of : {T : Type 0} → List (MRow T) → ℕ → List ℕ
front_of rows arm = cond (is_alone arm rows) (first_chosen arm rows) []

eq-is : (m n : ℕ) → nat_eq m n ≡ true → m ≡ n
eq-is m n e = grind (arith, nat_tests)

is-eq : (m n : ℕ) → m ≡ n → nat_eq m n ≡ true
is-eq m n e = grind (arith, nat_tests)

lt-is : (m n : ℕ) → nat_lt m n ≡ true → m < n
lt-is m n e = grind (arith, nat_tests)

is-lt : (m n : ℕ) → m < n → nat_lt m n ≡ true
is-lt m n e = grind (arith, nat_tests)

-- a row counts
counted : {T : Type 0} (rows : List (MRow T)) (r : MRow T) → Among r rows → 1 ≤ arm_count r.arm rows
counted [] r i = elim i [ ]
counted (x ∷ rows) r (inl e) = rw (is-eq x.arm r.arm (ap (λ s. s.arm) (sym e))) (omega arith)
counted (x ∷ rows) r (inr i) = go (nat_eq x.arm r.arm) (counted rows r i)
  where
    go : (b : Bool) → 1 ≤ arm_count r.arm rows → 1 ≤ cond b (suc (arm_count r.arm rows)) (arm_count r.arm rows)
    go true h = omega arith
    go false h = h

-- the row of the arm is the first
first-is : {T : Type 0} (rows : List (MRow T)) (r : MRow T) → Among r rows → arm_count r.arm rows < 2 →
    first_chosen r.arm rows ≡ r.chosen
first-is [] r i h = elim i [ ]
first-is (x ∷ rows) r (inl e) h = rw (is-eq x.arm r.arm (ap (λ s. s.arm) (sym e))) (ap (λ s. s.chosen) (sym e))
first-is (x ∷ rows) r (inr i) h = go (nat_eq x.arm r.arm) h (counted rows r i) (first-is rows r i)
  where
    go : (b : Bool) → cond b (suc (arm_count r.arm rows)) (arm_count r.arm rows) < 2 → 1 ≤ arm_count r.arm rows →
        (arm_count r.arm rows < 2 → first_chosen r.arm rows ≡ r.chosen) →
        cond b x.chosen (first_chosen r.arm rows) ≡ r.chosen
    go true l k f = absurd (omega (arith, l, k))
    go false l k f = f l

map-id : {A : Type 0} (f : A → A) (xs : List A) → ((x : A) → Among x xs → f x ≡ x) → map f xs ≡ xs
map-id f [] h = refl
map-id f (x ∷ xs) h = λ k. h x (inl refl) k ∷ map-id f xs (λ y i. h y (inr i)) k

map-map : {A B C : Type 0} (f : A → B) (g : B → C) (xs : List A) → map g (map f xs) ≡ map (λ x. g (f x)) xs
map-map f g [] = refl
map-map f g (x ∷ xs) = ap (λ l. g (f x) ∷ l) (map-map f g xs)

module _ {T : Type 0} (rows : List (MRow T)) where
  alone-count : (arm : ℕ) → 2 ≤ arm_count arm rows → is_alone arm rows ≡ false
  alone-count arm h = grind (arith, nat_tests)

  -- what of a pair of rows of one arm is known besides
  abbrev WithCount : (MRow T → MRow T → Type 0) → MRow T → MRow T → Type 0
  WithCount R r s = R r s × (r.arm ≡ s.arm → 2 ≤ arm_count r.arm rows)

  fewer-behind : (r : MRow T) (rest : List (MRow T)) → ((arm : ℕ) → arm_count arm (r ∷ rest) ≤ arm_count arm rows) →
      (arm : ℕ) → arm_count arm rest ≤ arm_count arm rows
  fewer-behind r rest h arm = go (nat_eq r.arm arm) (h arm)
    where
      go : (b : Bool) → cond b (suc (arm_count arm rest)) (arm_count arm rest) ≤ arm_count arm rows →
          arm_count arm rest ≤ arm_count arm rows
      go true l = omega (arith, l)
      go false l = l

  two-count : (r s : MRow T) (rest : List (MRow T)) → Among s rest → r.arm ≡ s.arm → 2 ≤ arm_count r.arm (r ∷ rest)
  two-count r s rest i e =
      let one : 1 ≤ arm_count r.arm rest = subst (λ arm. 1 ≤ arm_count arm rest) (sym e) (counted rest s i) in
      rw (is-eq r.arm r.arm refl) (omega (arith, one))

  with-count : (R : MRow T → MRow T → Type 0) (part : List (MRow T)) →
      ((arm : ℕ) → arm_count arm part ≤ arm_count arm rows) → Ordered R part → Ordered (WithCount R) part
  with-count R [] h o = tt
  with-count R (r ∷ rest) h o = (
    every-among (WithCount R r) rest (λ s i. (among-every (R r) rest s o.0 i, both s i)),
    with-count R rest (fewer-behind r rest h) o.1,
  )
    where
      both : (s : MRow T) → Among s rest → r.arm ≡ s.arm → 2 ≤ arm_count r.arm rows
      both s i e =
          let two : 2 ≤ arm_count r.arm (r ∷ rest) = two-count r s rest i e in
          let all : arm_count r.arm (r ∷ rest) ≤ arm_count r.arm rows = h r.arm in
          omega (arith, two, all)

module _ {T : Type 0} (decides : ℕ → Decision) where
  pair-kept : (b d : Bool) (r s : MRow T) → RowParted decides r s → (r.arm ≡ s.arm → (b ≡ false) × (d ≡ false)) →
      RowParted decides (cond b (emptied r) r) (cond d (emptied s) s)
  pair-kept true true r s (inl l) h = inl l
  pair-kept true false r s (inl l) h = inl l
  pair-kept false true r s (inl l) h = inl l
  pair-kept false false r s (inl l) h = inl l
  pair-kept true d r s (inr p) h = let e = (h p.0).0 in cc
  pair-kept false true r s (inr p) h = let e = (h p.0).1 in cc
  pair-kept false false r s (inr p) h = inr p

  -- rows without what was decided where one is alone are parted as they were
  pub lone-parted : (rows : List (MRow T)) → Ordered (RowParted decides) rows →
      Ordered (RowParted decides) (lone rows)
  lone-parted rows o =
      ordered-map (WithCount rows (RowParted decides)) (RowParted decides) (lone_row rows) rows
      (λ r s h. pair-kept (is_alone r.arm rows) (is_alone s.arm rows) r s h.0 (λ e. (
        alone-count rows r.arm (h.1 e),
        subst (λ arm. is_alone arm rows ≡ false) e (alone-count rows r.arm (h.1 e)),
      )))
      (with-count rows (RowParted decides) rows (λ arm. omega arith) o)

  -- what is free of a key is free of none
  free-none : (k : Key) (low : ℕ) (hs : List (Head T)) → AreFree decides k low hs → AreFree decides (key_of []) low hs
  free-none k low [] a = tt
  free-none k low (h ∷ hs) a =
      (a.0, a.1, a.2, (λ o p q. refl), free-none k (head_count h + a.0) hs a.4)

  module _ (IsType : T → Type 0) (cx : Context T) where
    row-emptied : (columns : List (MColumn T)) (b : Bool) (r : MRow T) → IsGoodRow cx decides columns r →
        IsGoodRow cx decides columns (cond b (emptied r) r)
    row-emptied columns true r g = record {
      typed = g.typed;
      names = g.names;
      free = free-none (row_key decides r) 0 r.heads g.free;
      made = g.made;
    }
    row-emptied columns false r g = g

    -- they are as well formed as they were
    pub lone-good : (columns : List (MColumn T)) (rows : List (MRow T)) → IsGood IsType cx decides columns rows →
        IsGood IsType cx decides columns (lone rows)
    lone-good columns rows g = record {
      columns_are = g.columns_are;
      rows_are =
          every-map (IsGoodRow cx decides columns) (IsGoodRow cx decides columns) (lone_row rows) rows
          (λ r k. row-emptied columns (is_alone r.arm rows) r k) g.rows_are;
    }

    module _ (V : T → Bool → MValue → Type 0)
        (E : IsEngine cx V decides (IsGood IsType cx decides) (IsReady IsType cx decides)) (BareOnly : Type 0) where
      abbrev Whole : (front : ℕ → List ℕ) → MRow T → MRow T
      Whole front r = based cx V decides front r

      whole-row : (rows : List (MRow T)) (r : MRow T) → Among r rows →
          Whole (front_of rows) (lone_row rows r) ≡ r
      whole-row rows r i = go (is_alone r.arm rows) refl
        where
          go : (b : Bool) → is_alone r.arm rows ≡ b → Whole (front_of rows) (cond b (emptied r) r) ≡ r
          go true e =
              ap (λ l. record r { chosen = l })
              (append-nil (front_of rows r.arm) ∙ ap (λ z. cond z (first_chosen r.arm rows) []) e
              ∙ first-is rows r i (lt-is (arm_count r.arm rows) 2 e))
          go false e =
              ap (λ z. record r { chosen = cond z (first_chosen r.arm rows) [] ++ r.chosen }) e

      whole : (rows : List (MRow T)) → all_based cx V decides (front_of rows) (lone rows) ≡ rows
      whole rows =
          map-map (lone_row rows) (Whole (front_of rows)) rows
          ∙ map-id (λ r. Whole (front_of rows) (lone_row rows r)) rows (whole-row rows)

      fresh-row : (rows : List (MRow T)) (r : MRow T) → IsFresh cx V decides (front_of rows) (lone_row rows r)
      fresh-row rows r = go (is_alone r.arm rows) refl
        where
          go : (b : Bool) → is_alone r.arm rows ≡ b →
              IsFresh cx V decides (front_of rows) (cond b (emptied r) r)
          go true e o = inr refl
          go false e o = inl (ap (λ z. key_of (map decides (cond z (first_chosen r.arm rows) [])) o) e)

      -- rows have the tree that they have without what was decided of an arm that has only one of them
      pub lone-leads : (columns : List (MColumn T)) (rows : List (MRow T)) (t : MTree) →
          IsGood IsType cx decides columns rows →
          Lowers cx V decides (IsFewest cx V) BareOnly columns (lone rows) t →
          Lowers cx V decides (IsFewest cx V) BareOnly columns rows t
      lone-leads columns rows t g l =
          subst (λ (rs : List (MRow T)). Lowers cx V decides (IsFewest cx V) BareOnly columns rs t) (whole rows)
          (tree-based cx V decides (front_of rows) IsType E BareOnly columns (lone rows) t
          (every-map (λ (r : MRow T). Unit {0}) (IsFresh cx V decides (front_of rows)) (lone_row rows) rows
          (λ r u. fresh-row rows r) (every-all (λ (r : MRow T). Unit {0}) rows (λ r. tt)))
          (subst (IsGood IsType cx decides columns) (sym (whole rows)) g) l)
