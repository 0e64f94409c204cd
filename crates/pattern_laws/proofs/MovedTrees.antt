-- Along a view of a context, a match with other types and uids has the same tree.
use Rattle.std.proofs.Common.{◌≡◌, ◌⊎◌, inl, inr, ℕ, zero, suc, Bool, false, List, [], ◌∷◌, ◌++◌, map, Some, slice_get, IsTrue, refl, sym, ap, subst, ◌∙◌}
use Rattle.std.proofs.lemmas.List.{map-append}
use Rattle.std.proofs.lemmas.Option.{slice_get-map}
use Rattle.std.specs.Prelude.{option_map}
use Rattle.match_model.specs.Values.{MValue}
use Rattle.match_model.specs.Constructors.{MCtor, sure_inside}
use Rattle.match_model.specs.Contexts.{Context}
use Rattle.match_model.specs.ContextViews.{Seen}
use Rattle.match_model.specs.Lists.{Every, Ordered, Among, SameMembers}
use Rattle.match_model.specs.Pieces.{each_below, ArePieces}
use Rattle.match_model.specs.PieceStates.{HasValue, named_in, is_present}
use Rattle.match_model.specs.Keys.{Decision, key_of, IsBefore}
use Rattle.match_model.specs.Matrices.{MColumn, MRow, open_of, column_at, part_step, part_columns}
use Rattle.match_model.specs.Rows.{part_open}
use Rattle.match_model.specs.RowOrder.{row_key, RowFirst, AreInOrder}
use Rattle.match_model.specs.Steps.{expand_head, specialise_head, default_head, replaced_at, rows_at}
use Rattle.match_model.specs.DecisionTrees.{MTree, TakeTree, AskTree, MBranches, is_switchless, IsMissing}
use Rattle.match_model.specs.Lowering.{ctors_at, all_wild_at, Lowers, no_value_left, no_row_left, takes, asks, drops, opens, switches, Branches, no_else, with_else, no_case, one_case}
use Rattle.match_model.specs.FewestBranches.{AreCases, nothing_missing, something_missing, no_branch_of, branch_of, AreBranches, no_branches, as_cases, IsFewest}
use Rattle.pattern_laws.proofs.MovedRows.{column_moved, row_moved, replaced_map, expand_moved, specialise_moved, default_moved, rows_moved, ctors_moved, wild_at_moved, asked_moved, all_wild_moved, row_binds_moved}

-- ---- lists

among_moved : {A B : Type 0} (h : A → B) (x : A) (xs : List A) → Among x xs → Among (h x) (map h xs)
among_moved h x [] i = absurd i
among_moved h x (y ∷ ys) (inl e) = inl (ap h e)
among_moved h x (y ∷ ys) (inr i) = inr (among_moved h x ys i)

among_old : {A B : Type 0} (h : A → B) (y : B) (xs : List A) → Among y (map h xs) → (x : A) × Among x xs × (y ≡ h x)
among_old h y [] i = absurd i
among_old h y (x ∷ xs) (inl e) = (x, inl refl, e)
among_old h y (x ∷ xs) (inr i) = let old = among_old h y xs i in (old.0, inr old.1, old.2)

members_moved : {A B : Type 0} (h : A → B) (xs ys : List A) → SameMembers xs ys → SameMembers (map h xs) (map h ys)
members_moved h xs ys s = record {
  forth = λ y i.
      let old = among_old h y xs i in
      subst (λ z. Among z (map h ys)) (sym old.2) (among_moved h old.0 ys (s.forth old.0 old.1));
  back = λ y i.
      let old = among_old h y ys i in
      subst (λ z. Among z (map h xs)) (sym old.2) (among_moved h old.0 xs (s.back old.0 old.1));
}

every_moved : {A B : Type 0} (h : A → B) (P : A → Type 0) (Q : B → Type 0) → ((x : A) → P x → Q (h x)) →
    (xs : List A) → Every P xs → Every Q (map h xs)
every_moved h P Q k [] e = tt
every_moved h P Q k (x ∷ xs) e = (k x e.0, every_moved h P Q k xs e.1)

ordered_moved : {A B : Type 0} (h : A → B) (R : A → A → Type 0) (Q : B → B → Type 0) →
    ((x y : A) → R x y → Q (h x) (h y)) → (xs : List A) → Ordered R xs → Ordered Q (map h xs)
ordered_moved h R Q k [] o = tt
ordered_moved h R Q k (x ∷ xs) o = (every_moved h (R x) (Q (h x)) (k x) xs o.0, ordered_moved h R Q k xs o.1)

below_moved : {A B : Type 0} (h : A → B) (a : ℕ → A) (b : ℕ → B) → ((i : ℕ) → h (a i) ≡ b i) → (n : ℕ) →
    map h (each_below a n) ≡ each_below b n
below_moved h a b same zero = refl
below_moved h a b same (suc n) =
    map-append h (each_below a n) (a n ∷ [])
    ∙ (ap (λ os. os ++ h (a n) ∷ []) (below_moved h a b same n) ∙ ap (λ o. each_below b n ++ o ∷ []) (same n))

map_twice : {A B C : Type 0} (h : A → B) (k : B → C) (j : A → C) → ((a : A) → k (h a) ≡ j a) → (xs : List A) →
    map k (map h xs) ≡ map j xs
map_twice h k j same [] = refl
map_twice h k j same (x ∷ xs) = ap (λ y. y ∷ map k (map h xs)) (same x) ∙ ap (λ ys. j x ∷ ys) (map_twice h k j same xs)

module _ {S U : Type 0} (f : S → U) (g : ℕ → ℕ) (cy : Context S) (cx : Context U)
    (set : (s : S) → cx.set_of (f s) ≡ cy.set_of s)
    (arity : (c : MCtor) (s : S) → cx.arity c (f s) ≡ cy.arity c s)
    (sub : (c : MCtor) (s : S) (i : ℕ) → cx.sub c (f s) i ≡ f (cy.sub c s i)) (V : U → Bool → MValue → Type 0) where
  abbrev column : MColumn S → MColumn U
  column c = column_moved f g c

  abbrev row : MRow S → MRow U
  row r = row_moved f g r

  parts_moved : (c : MColumn S) (piece : MCtor) →
      part_columns cx (column c) piece ≡ map column (part_columns cy c piece)
  parts_moved c piece =
      ap (each_below (λ i. column_at (c.place ++ part_step piece i ∷ []) (part_open cx (open_of (column c)) piece i)))
      (arity piece c.type)
      ∙ sym (below_moved column
      (λ i. column_at (c.place ++ part_step piece i ∷ []) (part_open cy (open_of c) piece i))
      (λ i. column_at (c.place ++ part_step piece i ∷ []) (part_open cx (open_of (column c)) piece i))
      (λ i. ap (λ t. record { place = c.place ++ part_step piece i ∷ []; type = t; sure = sure_inside piece c.sure })
      (sym (sub piece c.type i))) (cy.arity piece c.type))

  -- ---- order

  module _ (decides by : ℕ → Decision) (told : (u : ℕ) → by (g u) ≡ decides u) where
    key_moved : (r : MRow S) → row_key by (row r) ≡ row_key decides r
    key_moved r = ap key_of (map_twice g by decides told r.chosen)

    first_moved : (r s : MRow S) → RowFirst decides r s → RowFirst by (row r) (row s)
    first_moved r s (inl l) = inl l
    first_moved r s (inr (e, b)) =
        inr (
          e,
          subst (λ k. IsBefore k (row_key by (row s))) (sym (key_moved r))
              (subst (λ k. IsBefore (row_key decides r) k) (sym (key_moved s)) b),
        )

    order_moved : (rows sorted : List (MRow S)) → AreInOrder decides rows sorted →
        AreInOrder by (map row rows) (map row sorted)
    order_moved rows sorted o = record {
      same = members_moved row rows sorted o.same;
      ordered = ordered_moved row (RowFirst decides) (RowFirst by) first_moved sorted o.ordered;
    }

    module _ (Chooses : List (MColumn S) → List (MRow S) → ℕ → Type 0)
        (Picks : List (MColumn U) → List (MRow U) → ℕ → Type 0)
        (picks : (columns : List (MColumn S)) (rows : List (MRow S)) (i : ℕ) → Chooses columns rows i →
        Picks (map column columns) (map row rows) i) (BareOnly : Type 0) where
      abbrev Old : List (MColumn S) → List (MRow S) → MTree → Type 0
      Old columns rows tree = Lowers cy (Seen f V) decides Chooses BareOnly columns rows tree

      abbrev New : List (MColumn U) → List (MRow U) → MTree → Type 0
      New columns rows tree = Lowers cx V by Picks BareOnly columns rows tree

      there : (columns : List (MColumn S)) (i : ℕ) (c : MColumn S) → slice_get columns i ≡ Some c →
          slice_get (map column columns) i ≡ Some (column c)
      there columns i c e = slice_get-map column columns i ∙ ap (option_map column) e

      expanded : (place : List _) (i : ℕ) (rows xs : List (MRow S)) →
          AreInOrder decides (rows_at expand_head place i rows) xs →
          AreInOrder by (rows_at expand_head place i (map row rows)) (map row xs)
      expanded place i rows xs o =
          subst (λ ys. AreInOrder by ys (map row xs))
          (sym (rows_moved f g expand_head expand_head (expand_moved f g) place i rows))
          (order_moved (rows_at expand_head place i rows) xs o)

      rested : (place : List _) (i : ℕ) (rows xs : List (MRow S)) →
          AreInOrder decides (rows_at default_head place i rows) xs →
          AreInOrder by (rows_at default_head place i (map row rows)) (map row xs)
      rested place i rows xs o =
          subst (λ ys. AreInOrder by ys (map row xs))
          (sym (rows_moved f g default_head default_head (default_moved f g) place i rows))
          (order_moved (rows_at default_head place i rows) xs o)

      special : (piece : MCtor) (c : MColumn S) (i : ℕ) (rows xs : List (MRow S)) →
          AreInOrder decides (rows_at (specialise_head piece (cy.arity piece c.type)) c.place i rows) xs →
          AreInOrder by (rows_at (specialise_head piece (cx.arity piece (f c.type))) c.place i (map row rows))
          (map row xs)
      special piece c i rows xs o =
          subst (λ n. AreInOrder by (rows_at (specialise_head piece n) c.place i (map row rows)) (map row xs))
          (sym (arity piece c.type))
          (subst (λ ys. AreInOrder by ys (map row xs))
          (sym (rows_moved f g (specialise_head piece (cy.arity piece c.type))
          (specialise_head piece (cy.arity piece c.type)) (specialise_moved f g piece (cy.arity piece c.type))
          c.place i rows))
          (order_moved (rows_at (specialise_head piece (cy.arity piece c.type)) c.place i rows) xs o))

      without : (i : ℕ) (columns : List (MColumn S)) (rows : List (MRow S)) (tree : MTree) →
          New (map column (replaced_at i columns [])) (map row rows) tree →
          New (replaced_at i (map column columns) []) (map row rows) tree
      without i columns rows tree h =
          subst (λ cs. New cs (map row rows) tree) (sym (replaced_map column i columns [])) h

      opened : (i : ℕ) (columns : List (MColumn S)) (c : MColumn S) (piece : MCtor) (rows : List (MRow S))
          (tree : MTree) →
          New (map column (replaced_at i columns (part_columns cy c piece))) (map row rows) tree →
          New (replaced_at i (map column columns) (part_columns cx (column c) piece)) (map row rows) tree
      opened i columns c piece rows tree h =
          subst (λ new. New (replaced_at i (map column columns) new) (map row rows) tree) (sym (parts_moved c piece))
          (subst (λ cs. New cs (map row rows) tree) (sym (replaced_map column i columns (part_columns cy c piece))) h)

      pieces_moved : (i : ℕ) (c : MColumn S) (rows : List (MRow S)) (pieces : List MCtor) →
          ArePieces (cy.set_of c.type) (ctors_at i rows) pieces →
          ArePieces (cx.set_of (f c.type)) (ctors_at i (map row rows)) pieces
      pieces_moved i c rows pieces h =
          subst (λ st. ArePieces st (ctors_at i (map row rows)) pieces) (sym (set c.type))
          (subst (λ cs. ArePieces (cy.set_of c.type) cs pieces) (sym (ctors_moved f g i rows)) h)

      mutual
        pub lowered_moved : (columns : List (MColumn S)) (rows : List (MRow S)) (tree : MTree) → Old columns rows tree →
            New (map column columns) (map row rows) tree
        lowered_moved columns _ _ (no_value_left _ b) = no_value_left (map column columns) b
        lowered_moved columns _ _ (no_row_left _ b) = no_row_left (map column columns) b
        lowered_moved columns _ _ (takes _ r rows w e) =
            subst (λ bs. New (map column columns) (row r ∷ map row rows) (TakeTree r.arm bs))
            (row_binds_moved f g columns r)
            (takes (map column columns) (row r) (map row rows)
            (subst (λ b. IsTrue b) (sym (all_wild_moved f g r)) w) e)
        lowered_moved columns _ _ (asks _ r rows refused w e h) =
            subst (λ bs. New (map column columns) (row r ∷ map row rows) (AskTree r.arm bs refused))
            (row_binds_moved f g columns r)
            (asks (map column columns) (row r) (map row rows) refused
            (subst (λ b. IsTrue b) (sym (all_wild_moved f g r)) w) e (lowered_moved columns rows refused h))
        lowered_moved columns rows tree (drops i c _ _ xs next _ p e o w d h) =
            drops i (column c) (map column columns) (map row rows) (map row xs) (map row next) tree
            (picks columns rows i p) (there columns i c e) (expanded c.place i rows xs o)
            (subst (λ b. IsTrue b) (sym (wild_at_moved f g i xs)) w) (rested c.place i xs next d)
            (without i columns next tree (lowered_moved (replaced_at i columns []) next tree h))
        lowered_moved columns rows tree (opens i c _ _ xs next piece _ p e o w s a d h) =
            opens i (column c) (map column columns) (map row rows) (map row xs) (map row next) piece tree
            (picks columns rows i p) (there columns i c e) (expanded c.place i rows xs o)
            (wild_at_moved f g i xs ∙ w)
            (subst (λ st. IsTrue (is_switchless st)) (sym (set c.type)) s) (pieces_moved i c xs (piece ∷ []) a)
            (special piece c i xs next d)
            (opened i columns c piece next tree
            (lowered_moved (replaced_at i columns (part_columns cy c piece)) next tree h))
        lowered_moved columns rows _ (switches i c _ _ xs pieces branches p e o w s a h) =
            switches i (column c) (map column columns) (map row rows) (map row xs) pieces branches
            (picks columns rows i p) (there columns i c e) (expanded c.place i rows xs o)
            (wild_at_moved f g i xs ∙ w) (ap is_switchless (set c.type) ∙ s) (pieces_moved i c xs pieces a)
            (branches_moved i c columns xs pieces pieces branches h)

        branches_moved : (i : ℕ) (c : MColumn S) (columns : List (MColumn S)) (rows : List (MRow S))
            (all pieces : List MCtor) (branches : MBranches) →
            Branches cy (Seen f V) decides Chooses BareOnly i c columns rows all pieces branches →
            Branches cx V by Picks BareOnly i (column c) (map column columns) (map row rows) all pieces branches
        branches_moved i c columns rows all _ _ (no_else _ _ _ _ _ n) =
            no_else i (column c) (map column columns) (map row rows) all
            (λ p m. n p (subst (λ cs. IsMissing all cs p) (ctors_moved f g i rows) m))
        branches_moved i c columns rows all _ _ (with_else _ _ _ _ next _ piece tree m v d h) =
            with_else i (column c) (map column columns) (map row rows) (map row next) all piece tree
            (subst (λ cs. IsMissing all cs piece) (sym (ctors_moved f g i rows)) m) v (rested c.place i rows next d)
            (without i columns next tree (lowered_moved (replaced_at i columns []) next tree h))
        branches_moved i c columns rows all _ branches (no_case _ _ _ _ _ piece pieces _ n h) =
            no_case i (column c) (map column columns) (map row rows) all piece pieces branches (absent n)
            (branches_moved i c columns rows all pieces branches h)
          where
            absent : is_present (ctors_at i rows) piece ≡ false
                ⊎ ¬ HasValue (Seen f V) (open_of c) (named_in all) piece →
                is_present (ctors_at i (map row rows)) piece ≡ false
                ⊎ ¬ HasValue V (open_of (column c)) (named_in all) piece
            absent (inl e) = inl (ap (λ cs. is_present cs piece) (ctors_moved f g i rows) ∙ e)
            absent (inr k) = inr k
        branches_moved i c columns rows all _ _ (one_case _ _ _ _ next _ piece pieces tree branches m v d h k) =
            one_case i (column c) (map column columns) (map row rows) (map row next) all piece pieces tree branches
            (subst (λ cs. IsTrue (is_present cs piece)) (sym (ctors_moved f g i rows)) m) v
            (special piece c i rows next d)
            (opened i columns c piece next tree
            (lowered_moved (replaced_at i columns (part_columns cy c piece)) next tree h))
            (branches_moved i c columns rows all pieces branches k)

  -- ---- the place with the fewest branches

  cases_there : (c : MColumn S) (heads all rest : List MCtor) (n : ℕ) → AreCases (Seen f V) c heads all rest n →
      AreCases V (column c) heads all rest n
  cases_there c heads all _ _ (nothing_missing h) = nothing_missing h
  cases_there c heads all _ _ (something_missing p m v) = something_missing p m v
  cases_there c heads all _ _ (no_branch_of p rest n a h) = no_branch_of p rest n a (cases_there c heads all rest n h)
  cases_there c heads all _ _ (branch_of p rest n a v h) = branch_of p rest n a v (cases_there c heads all rest n h)

  cases_back : (c : MColumn S) (heads all rest : List MCtor) (n : ℕ) → AreCases V (column c) heads all rest n →
      AreCases (Seen f V) c heads all rest n
  cases_back c heads all _ _ (nothing_missing h) = nothing_missing h
  cases_back c heads all _ _ (something_missing p m v) = something_missing p m v
  cases_back c heads all _ _ (no_branch_of p rest n a h) = no_branch_of p rest n a (cases_back c heads all rest n h)
  cases_back c heads all _ _ (branch_of p rest n a v h) = branch_of p rest n a v (cases_back c heads all rest n h)

  expanded_rows : (i : ℕ) (c : MColumn S) (rows : List (MRow S)) →
      rows_at expand_head c.place i (map row rows) ≡ map row (rows_at expand_head c.place i rows)
  expanded_rows i c rows = rows_moved f g expand_head expand_head (expand_moved f g) c.place i rows

  expanded_wild : (i : ℕ) (c : MColumn S) (rows : List (MRow S)) →
      all_wild_at i (rows_at expand_head c.place i (map row rows)) ≡ all_wild_at i (rows_at expand_head c.place i rows)
  expanded_wild i c rows =
      ap (all_wild_at i) (expanded_rows i c rows) ∙ wild_at_moved f g i (rows_at expand_head c.place i rows)

  expanded_ctors : (i : ℕ) (c : MColumn S) (rows : List (MRow S)) →
      ctors_at i (rows_at expand_head c.place i (map row rows)) ≡ ctors_at i (rows_at expand_head c.place i rows)
  expanded_ctors i c rows =
      ap (ctors_at i) (expanded_rows i c rows) ∙ ctors_moved f g i (rows_at expand_head c.place i rows)

  count_there : (i : ℕ) (c : MColumn S) (rows : List (MRow S)) (n : ℕ) → AreBranches cy (Seen f V) i c rows n →
      AreBranches cx V i (column c) (map row rows) n
  count_there i c rows _ (no_branches w) = no_branches (subst (λ b. IsTrue b) (sym (expanded_wild i c rows)) w)
  count_there i c rows _ (as_cases pieces n w a h) =
      as_cases pieces n (expanded_wild i c rows ∙ w)
      (subst (λ st. ArePieces st (ctors_at i (rows_at expand_head c.place i (map row rows))) pieces) (sym (set c.type))
      (subst (λ cs. ArePieces (cy.set_of c.type) cs pieces) (sym (expanded_ctors i c rows)) a))
      (subst (λ cs. AreCases V (column c) cs pieces pieces n) (sym (expanded_ctors i c rows))
      (cases_there c (ctors_at i (rows_at expand_head c.place i rows)) pieces pieces n h))

  count_back : (i : ℕ) (c : MColumn S) (rows : List (MRow S)) (n : ℕ) →
      AreBranches cx V i (column c) (map row rows) n → AreBranches cy (Seen f V) i c rows n
  count_back i c rows _ (no_branches w) = no_branches (subst (λ b. IsTrue b) (expanded_wild i c rows) w)
  count_back i c rows _ (as_cases pieces n w a h) =
      as_cases pieces n (sym (expanded_wild i c rows) ∙ w)
      (subst (λ st. ArePieces st (ctors_at i (rows_at expand_head c.place i rows)) pieces) (set c.type)
      (subst (λ cs. ArePieces (cx.set_of (f c.type)) cs pieces) (expanded_ctors i c rows) a))
      (cases_back c (ctors_at i (rows_at expand_head c.place i rows)) pieces pieces n
      (subst (λ cs. AreCases V (column c) cs pieces pieces n) (expanded_ctors i c rows) h))

  old_column : (columns : List (MColumn S)) (i : ℕ) (d : MColumn U) → slice_get (map column columns) i ≡ Some d →
      (c : MColumn S) × (slice_get columns i ≡ Some c) × (column c ≡ d)
  old_column [] i d e = absurd cc
  old_column (c ∷ columns) zero d e = (c, refl, cc)
  old_column (c ∷ columns) (suc i) d e = old_column columns i d e

  pub fewest_moved : (columns : List (MColumn S)) (rows : List (MRow S)) (i : ℕ) →
      IsFewest cy (Seen f V) columns rows i →
      IsFewest cx V (map column columns) (map row rows) i
  fewest_moved columns rows i h = record {
    asked = subst (λ b. IsTrue b) (sym (asked_moved f g i rows)) h.asked;
    column = column h.column;
    there = slice_get-map column columns i ∙ ap (option_map column) h.there;
    count = h.count;
    branches = count_there i h.column rows h.count h.branches;
    fewest = λ j d n e a b.
        let old = old_column columns j d e in
        h.fewest j old.0 n old.1 (subst (λ x. IsTrue x) (asked_moved f g j rows) a)
        (count_back j old.0 rows n (subst (λ x. AreBranches cx V j x (map row rows) n) (sym old.2) b));
  }
