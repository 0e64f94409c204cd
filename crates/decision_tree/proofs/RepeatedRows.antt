-- Of rows those are left that repeat none, and they are lowered in place of all.
use Rattle.std.proofs.Common.{◌≡◌, ◌<◌, ◌⊎◌, inl, inr, ℕ, Bool, false, length, get_or, List, [], ◌∷◌, ◌++◌, nat_eq, refl, sym, ap, ◌∙◌, subst, arith}
use Rattle.std.specs.List.{IsDistinct, flat_map}
use Rattle.match_model.specs.Values.{MValue}
use Rattle.match_model.specs.ArenaPatterns.{MDeMatch}
use Rattle.match_model.specs.Contexts.{Context}
use Rattle.match_model.specs.ContextLaws.{PartsLaw, ValuesLaw}
use Rattle.match_model.specs.DecisionTrees.{MTree, all_wild}
use Rattle.match_model.specs.FewestBranches.{IsFewest}
use Rattle.match_model.specs.Keys.{Decision}
use Rattle.match_model.specs.Lists.{Every, Ordered, Among}
use Rattle.match_model.specs.Lowering.{Lowers}
use Rattle.match_model.specs.Matrices.{MColumn, MRow}
use Rattle.match_model.specs.RowOrder.{RowFirst}
use Rattle.match_model.specs.WellTyped.{uids_in}
use Rattle.keyed_rows.proofs.Lists.{ordered-append}
use Rattle.keyed_rows.proofs.Parting.{among-every}
use Rattle.keyed_rows.proofs.PullOut.{left-among, right-among}
use Rattle.keyed_rows.proofs.RowOrder.{among-append, every-among}
use Rattle.keyed_rows.specs.Parting.{RowParted}
use Rattle.keyed_steps.specs.Good.{IsGoodRow, IsGood}
use Rattle.keyed_matrix.specs.Views.{plain_columns, plain_row, plain_rows}
use Rattle.keyed_matrix.specs.declared.rows.KeyedRow.{KeyedRow}
use Rattle.decision_tree.specs.declared.frames.Frame.{Frame}
use Rattle.decision_tree.specs.declared.frames.Matrix.{Matrix}
use Rattle.decision_tree.specs.Known.{IsHeadOf, IsInScope}
use Rattle.decision_tree.specs.Matrices.{matrix_columns, matrix_rows, IsGoodMatrix}
use Rattle.decision_tree.specs.Repeated.{AreLeftOf, none_left, one_stays, one_goes}
use Rattle.decision_tree.specs.Waiting.{IsBare, Awaits}
use Rattle.decision_tree.proofs.Going.{leads-more}
use Rattle.decision_tree.proofs.RepeatedHeads.{Repeats, AreFirsts}
use Rattle.decision_tree.proofs.RepeatedLeads.{parted-first, tree-firsts}
use Rattle.decision_tree.specs.Lone.{lone}
use Rattle.decision_tree.proofs.Knowing.{lone-scope, lone-matrix, lone-waits}
use Rattle.decision_tree.proofs.Telling.{heads-told}

nothing-begins : {A : Type 0} (x : A) (xs : List A) → x ∷ xs ≡ [] → ⊥
nothing-begins x xs e = cc

-- of things in an order those before the last, and how they stand to it
ordered-before : {A : Type 0} (R : A → A → Type 0) (xs : List A) (x : A) → Ordered R (xs ++ x ∷ []) →
    Ordered R xs × ((y : A) → Among y xs → R y x)
ordered-before R [] x o = (tt, λ y i. elim i [ ])
ordered-before R (z ∷ xs) x o = go (ordered-before R xs x o.1)
  where
    before : (ys : List _) → Every (R z) (ys ++ x ∷ []) → Every (R z) ys
    before [] e = tt
    before (y ∷ ys) e = (e.0, before ys e.1)

    last : R z x
    last = among-every (R z) (xs ++ x ∷ []) x o.0 (right-among xs (x ∷ []) x (inl refl))

    stands : ((y : _) → Among y xs → R y x) → (y : _) → (y ≡ z) ⊎ Among y xs → R y x
    stands r y (inl e) = subst (λ w. R w x) (sym e) last
    stands r y (inr i) = r y i

    go : Ordered R xs × ((y : _) → Among y xs → R y x) →
        Ordered R (z ∷ xs) × ((y : _) → Among y (z ∷ xs) → R y x)
    go r = ((before xs o.0, r.0), λ y i. stands r.1 y i)

module _ {T : Type 0} where
  -- the rows that are left are rows
  pub left-some : (rows left : List (MRow T)) → AreLeftOf rows left → (r : MRow T) → Among r left → Among r rows
  left-some _ _ none_left r i = elim i [ ]
  left-some _ _ (one_stays rows left s a) r i =
      go (λ j. left-some rows left a r j) (among-append left (s ∷ []) r i)
    where
      go : (Among r left → Among r rows) → Among r left ⊎ Among r (s ∷ []) → Among r (rows ++ s ∷ [])
      go h (inl j) = left-among rows (s ∷ []) r (h j)
      go h (inr j) = right-among rows (s ∷ []) r j
  left-some _ _ (one_goes rows left first s a j k) r i = left-among rows (s ∷ []) r (left-some rows left a r i)

  -- they stand in their order
  pub left-ordered : (R : MRow T → MRow T → Type 0) (rows left : List (MRow T)) → AreLeftOf rows left →
      Ordered R rows → Ordered R left
  left-ordered R _ _ none_left o = tt
  left-ordered R _ _ (one_stays rows left s a) o =
      let b = ordered-before R rows s o in
      ordered-append R left (s ∷ []) (left-ordered R rows left a b.0) (tt, tt)
      (every-among (λ y. Every (R y) (s ∷ [])) left (λ y i. (b.1 y (left-some rows left a y i), tt)))
  left-ordered R _ _ (one_goes rows left first s a j k) o = left-ordered R rows left a (ordered-before R rows s o).0

  -- both begin with the same row
  pub record BeginSame (rows left : List (MRow T)) : Type 0 where
    pub first : MRow T
    pub behind : List (MRow T)
    pub others : List (MRow T)
    pub rows_are : rows ≡ first ∷ behind
    pub left_are : left ≡ first ∷ others

  pub left-begins : (rows left : List (MRow T)) → AreLeftOf rows left →
      ((rows ≡ []) × (left ≡ [])) ⊎ BeginSame rows left
  left-begins _ _ none_left = inl (refl, refl)
  left-begins _ _ (one_stays rows left s a) = go (left-begins rows left a)
    where
      go : ((rows ≡ []) × (left ≡ [])) ⊎ BeginSame rows left →
          (((rows ++ s ∷ []) ≡ []) × ((left ++ s ∷ []) ≡ [])) ⊎ BeginSame (rows ++ s ∷ []) (left ++ s ∷ [])
      go (inl e) =
          inr (record {
            first = s;
            behind = [];
            others = [];
            rows_are = ap (λ rs. rs ++ s ∷ []) e.0;
            left_are = ap (λ rs. rs ++ s ∷ []) e.1;
          })
      go (inr b) =
          inr (record {
            first = b.first;
            behind = b.behind ++ s ∷ [];
            others = b.others ++ s ∷ [];
            rows_are = ap (λ rs. rs ++ s ∷ []) b.rows_are;
            left_are = ap (λ rs. rs ++ s ∷ []) b.left_are;
          })
  left-begins _ _ (one_goes rows left first s a j k) = go (left-begins rows left a)
    where
      go : ((rows ≡ []) × (left ≡ [])) ⊎ BeginSame rows left →
          (((rows ++ s ∷ []) ≡ []) × (left ≡ [])) ⊎ BeginSame (rows ++ s ∷ []) left
      go (inl e) = absurd (subst (Among first) e.1 j)
      go (inr b) =
          inr (record {
            first = b.first;
            behind = b.behind ++ s ∷ [];
            others = b.others;
            rows_are = ap (λ rs. rs ++ s ∷ []) b.rows_are;
            left_are = b.left_are;
          })

  module _ (IsType : T → Type 0) (cx : Context T) (decides : ℕ → Decision) (V : T → Bool → MValue → Type 0)
      (m : MDeMatch T) (uids : IsDistinct nat_eq (flat_map (λ a. uids_in a.pat) m.arms)) where
    -- the others repeat those that are left
    left-firsts : (rows left : List (MRow T)) → AreLeftOf rows left → Ordered (RowFirst decides) rows →
        Every (λ r. Every (IsHeadOf m.arms) r.heads) rows → AreFirsts decides left rows
    left-firsts rows left a o s = record { some = left-some rows left a; all = all rows left a o s }
      where
        wider : (left : List (MRow T)) (s r : MRow T) → Among r left ⊎ Repeats decides left r →
            Among r (left ++ s ∷ []) ⊎ Repeats decides (left ++ s ∷ []) r
        wider left s r (inl i) = inl (left-among left (s ∷ []) r i)
        wider left s r (inr k) =
            inr (record {
              first = k.first;
              among = left-among left (s ∷ []) k.first k.among;
              unguarded = k.unguarded;
              arm = k.arm;
              heads = k.heads;
              before = k.before;
            })

        front : (P : MRow T → Type 0) (xs ys : List (MRow T)) → Every P (xs ++ ys) → Every P xs
        front P [] ys e = tt
        front P (x ∷ xs) ys e = (e.0, front P xs ys e.1)

        all : (rows left : List (MRow T)) → AreLeftOf rows left → Ordered (RowFirst decides) rows →
            Every (λ r. Every (IsHeadOf m.arms) r.heads) rows → (r : MRow T) → Among r rows →
            Among r left ⊎ Repeats decides left r
        all _ _ none_left o s r i = elim i [ ]
        all _ _ (one_stays rows left x a) o s r i =
            go (λ j. all rows left a (ordered-before (RowFirst decides) rows x o).0
            (front (λ r. Every (IsHeadOf m.arms) r.heads) rows (x ∷ []) s) r j) (among-append rows (x ∷ []) r i)
          where
            go : (Among r rows → Among r left ⊎ Repeats decides left r) → Among r rows ⊎ Among r (x ∷ []) →
                Among r (left ++ x ∷ []) ⊎ Repeats decides (left ++ x ∷ []) r
            go h (inl j) = wider left x r (h j)
            go h (inr j) = inl (right-among left (x ∷ []) r j)
        all _ _ (one_goes rows left first x a f k) o s r i =
            go (λ j. all rows left a (ordered-before (RowFirst decides) rows x o).0
            (front (λ r. Every (IsHeadOf m.arms) r.heads) rows (x ∷ []) s) r j) (among-append rows (x ∷ []) r i)
          where
            P : MRow T → Type 0
            P r = Every (IsHeadOf m.arms) r.heads

            among : Among first rows
            among = left-some rows left a first f

            repeats : RowFirst decides first x → Repeats decides left x
            repeats (inl l) = let e = k.arm in absurd (omega (arith, l, e))
            repeats (inr b) = record {
              first = first;
              among = f;
              unguarded = k.unguarded;
              arm = k.arm;
              heads =
                  heads-told cx m uids first x (among-every P (rows ++ x ∷ []) first s (left-among rows (x ∷ []) first among))
                  (among-every P (rows ++ x ∷ []) x s (right-among rows (x ∷ []) x (inl refl))) k.heads;
              before = b.1;
            }

            go : (Among r rows → Among r left ⊎ Repeats decides left r) → Among r rows ⊎ Among r (x ∷ []) →
                Among r left ⊎ Repeats decides left r
            go h (inl j) = h j
            go h (inr (inl e)) = inr (subst (Repeats decides left) (sym e)
                (repeats ((ordered-before (RowFirst decides) rows x o).1 first among)))
            go h (inr (inr j)) = elim j [ ]

    -- those that are left are as well formed
    pub left-good : (columns : List (MColumn T)) (rows left : List (MRow T)) → AreLeftOf rows left →
        IsGood IsType cx decides columns rows → IsGood IsType cx decides columns left
    left-good columns rows left a g = record {
      columns_are = g.columns_are;
      rows_are = every-among (IsGoodRow cx decides columns) left
          (λ r i. among-every (IsGoodRow cx decides columns) rows r g.rows_are (left-some rows left a r i));
    }

    pub left-scope : (columns : List (MColumn T)) (rows left : List (MRow T)) → AreLeftOf rows left →
        IsInScope cx m columns rows → IsInScope cx m columns left
    left-scope columns rows left a s = record {
      columns_are = s.columns_are;
      rows_are = every-among (λ r. Every (IsHeadOf m.arms) r.heads) left
          (λ r i. among-every (λ r. Every (IsHeadOf m.arms) r.heads) rows r s.rows_are (left-some rows left a r i));
    }

    -- all rows have the tree of those that are left
    pub left-leads : PartsLaw IsType V cx → ValuesLaw IsType V cx → (BareOnly : Type 0) (columns : List (MColumn T))
        (rows left : List (MRow T)) (t : MTree) → AreLeftOf rows left → IsGood IsType cx decides columns rows →
        Ordered (RowParted decides) rows → IsInScope cx m columns rows →
        Lowers cx V decides (IsFewest cx V) BareOnly columns left t →
        Lowers cx V decides (IsFewest cx V) BareOnly columns rows t
    left-leads law values BareOnly columns rows left t a g p s l =
        let o = parted-first IsType cx decides V law values BareOnly rows p in
        tree-firsts IsType cx decides V law values BareOnly columns left t l rows
        (left-firsts rows left a o s.rows_are) (left-ordered (RowFirst decides) rows left a o)
        (record { good = g; parted = p })

    -- the same, of matrices
    pub left-matrix : (e next : Matrix T) → next.columns ≡ e.columns → AreLeftOf (matrix_rows e) (matrix_rows next) →
        IsGoodMatrix IsType cx decides e → IsGoodMatrix IsType cx decides next
    left-matrix e next cs a g = record {
      good =
          subst (λ q. IsGood IsType cx decides q (matrix_rows next)) (ap (λ v. plain_columns v.items) (sym cs))
          (left-good (matrix_columns e) (matrix_rows e) (matrix_rows next) a g.good);
      parted = left-ordered (RowParted decides) (matrix_rows e) (matrix_rows next) a g.parted;
    }

    pub left-in-scope : (e next : Matrix T) → next.columns ≡ e.columns → AreLeftOf (matrix_rows e) (matrix_rows next) →
        IsInScope cx m (matrix_columns e) (matrix_rows e) → IsInScope cx m (matrix_columns next) (matrix_rows next)
    left-in-scope e next cs a s =
        subst (λ q. IsInScope cx m q (matrix_rows next)) (ap (λ v. plain_columns v.items) (sym cs))
        (left-scope (matrix_columns e) (matrix_rows e) (matrix_rows next) a s)

    -- what waits for the tree of all waits for that of those that are left
    pub left-waits : PartsLaw IsType V cx → ValuesLaw IsType V cx → (frames : List (Frame T)) (now : List MTree)
        (e next : Matrix T) → next.columns ≡ e.columns → AreLeftOf (matrix_rows e) (matrix_rows next) →
        IsGoodMatrix IsType cx decides e → IsInScope cx m (matrix_columns e) (matrix_rows e) →
        Awaits IsType cx V decides m frames now (matrix_columns e) (matrix_rows e) →
        Awaits IsType cx V decides m frames now (matrix_columns next) (matrix_rows next)
    left-waits law values frames now e next cs a g s w =
        subst (λ q. Awaits IsType cx V decides m frames now q (matrix_rows next)) (ap (λ v. plain_columns v.items) (sym cs))
        (leads-more IsType cx V decides m frames now (matrix_columns e) (matrix_columns e) (matrix_rows next)
        (matrix_rows e) (λ t k. left-leads law values (IsBare V m) (matrix_columns e) (matrix_rows e) (matrix_rows next) t a
        g.good g.parted s k) w)

    -- the same where then each row forgets what it has chosen that is alone in its arm
    pub laid-matrix : (e left next : Matrix T) → left.columns ≡ e.columns → next.columns ≡ left.columns →
        AreLeftOf (matrix_rows e) (matrix_rows left) → matrix_rows next ≡ lone (matrix_rows left) →
        IsGoodMatrix IsType cx decides e → IsGoodMatrix IsType cx decides next
    laid-matrix e left next c d a r g = lone-matrix IsType cx V decides m left next d r (left-matrix e left c a g)

    pub laid-scope : (e left next : Matrix T) → left.columns ≡ e.columns → next.columns ≡ left.columns →
        AreLeftOf (matrix_rows e) (matrix_rows left) → matrix_rows next ≡ lone (matrix_rows left) →
        IsInScope cx m (matrix_columns e) (matrix_rows e) → IsInScope cx m (matrix_columns next) (matrix_rows next)
    laid-scope e left next c d a r s = lone-scope IsType cx V decides m left next d r (left-in-scope e left c a s)

    pub laid-waits : PartsLaw IsType V cx → ValuesLaw IsType V cx → (frames : List (Frame T)) (now : List MTree)
        (e left next : Matrix T) → left.columns ≡ e.columns → next.columns ≡ left.columns →
        AreLeftOf (matrix_rows e) (matrix_rows left) → matrix_rows next ≡ lone (matrix_rows left) →
        IsGoodMatrix IsType cx decides e → IsInScope cx m (matrix_columns e) (matrix_rows e) →
        Awaits IsType cx V decides m frames now (matrix_columns e) (matrix_rows e) →
        Awaits IsType cx V decides m frames now (matrix_columns next) (matrix_rows next)
    laid-waits law values frames now e left next c d a r g s w =
        lone-waits IsType cx V decides m law values frames now left next d r (left-matrix e left c a g)
        (left-waits law values frames now e left c a g s w)

  some-left : (r : MRow T) (rows left : List (MRow T)) → AreLeftOf (r ∷ rows) left → left ≡ [] → ⊥
  some-left r rows left a n = go (left-begins (r ∷ rows) left a)
    where
      go : (((r ∷ rows) ≡ []) × (left ≡ [])) ⊎ BeginSame (r ∷ rows) left → ⊥
      go (inl e) = nothing-begins r rows e.0
      go (inr b) = nothing-begins b.first b.others (sym b.left_are ∙ n)

  -- some row is left, and the first is no leaf where it was none
  pub left-some-rows : (rows new : List (KeyedRow T)) → AreLeftOf (plain_rows rows) (plain_rows new) → 0 < length rows →
      0 < length new
  left-some-rows [] new a l = absurd (omega (arith, l))
  left-some-rows (r ∷ rows) [] a l = absurd (some-left (plain_row r) (plain_rows rows) [] a refl)
  left-some-rows (r ∷ rows) (s ∷ new) a l = omega arith

  pub left-open-rows : (rows new : List (KeyedRow T)) → AreLeftOf (plain_rows rows) (plain_rows new) →
      ((d : KeyedRow T) → all_wild (plain_row (get_or rows 0 d)) ≡ false) → 0 < length rows →
      (d : KeyedRow T) → all_wild (plain_row (get_or new 0 d)) ≡ false
  left-open-rows [] new a h l d = absurd (omega (arith, l))
  left-open-rows (r ∷ rows) [] a h l d =
      let none = left-some-rows (r ∷ rows) [] a l in absurd (omega (arith, none))
  left-open-rows (r ∷ rows) (s ∷ new) a h l d = go (left-begins (plain_rows (r ∷ rows)) (plain_rows (s ∷ new)) a)
    where
      first-same : {A : Type 0} (x y : A) (xs ys : List A) → x ∷ xs ≡ y ∷ ys → x ≡ y
      first-same x y xs ys e = cc

      go : ((plain_rows (r ∷ rows) ≡ []) × (plain_rows (s ∷ new) ≡ []))
          ⊎ BeginSame (plain_rows (r ∷ rows)) (plain_rows (s ∷ new)) → all_wild (plain_row s) ≡ false
      go (inl e) = absurd (nothing-begins (plain_row r) (plain_rows rows) e.0)
      go (inr b) =
          ap all_wild (first-same (plain_row s) b.first (plain_rows new) b.others b.left_are
          ∙ sym (first-same (plain_row r) b.first (plain_rows rows) b.behind b.rows_are)) ∙ h r
