-- What steps and columns make of rows and of those that are left where the others repeat them.
use Rattle.std.proofs.Common.{◌≡◌, ◌⊎◌, inl, inr, ℕ, Bool, true, false, List, [], ◌∷◌, map, drop, Option, Some, None, refl, sym, ap, ◌∙◌, subst, IsTrue}
use Rattle.std.specs.List.{list_all, cons_option}
use Rattle.match_model.specs.Values.{MValue}
use Rattle.match_model.specs.Constructors.{MCtor, has_piece}
use Rattle.match_model.specs.Contexts.{Context}
use Rattle.match_model.specs.FewestBranches.{AreCases, nothing_missing, something_missing, no_branch_of, branch_of, AreBranches, no_branches, as_cases}
use Rattle.match_model.specs.Keys.{Decision, both_keys, IsBefore}
use Rattle.match_model.specs.Lists.{Among, SameMembers}
use Rattle.match_model.specs.Lowering.{ctors_at, all_wild_at}
use Rattle.match_model.specs.Matrices.{MColumn, MRow, open_of}
use Rattle.match_model.specs.PieceStates.{HasValue, named_in, is_present}
use Rattle.match_model.specs.Places.{MStep}
use Rattle.match_model.specs.RowOrder.{row_key, AreInOrder}
use Rattle.match_model.specs.Rows.{Head, first_ctor, starts_wild}
use Rattle.match_model.specs.Steps.{Replacement, expand_head, replacements_at, row_replaced, rows_at}
use Rattle.keyed_rows.specs.Dividing.{replacement_key}
use Rattle.keyed_rows.proofs.Lists.{before-keep}
use Rattle.keyed_rows.proofs.Parting.{among-map}
use Rattle.keyed_rows.proofs.PullOut.{flat-among}
use Rattle.keyed_rows.proofs.RowOrder.{among-flat, key-of-row}
use Rattle.tree_eval.proofs.Pointwise.{both, and_true}
use Rattle.pattern_matrix.proofs.Members.{any_same}
use Rattle.decision_tree.proofs.SamePieces.{pieces-same}
use Rattle.decision_tree.proofs.WildColumns.{map-in}

same-tests : (a b : Bool) → (a ≡ true → b ≡ true) → (b ≡ true → a ≡ true) → a ≡ b
same-tests true b f g = sym (f refl)
same-tests false true f g = g refl
same-tests false false f g = refl

pub members-turned : {A : Type 0} (xs ys : List A) → SameMembers xs ys → SameMembers ys xs
members-turned xs ys s = record { forth = s.back; back = s.forth }

module _ {T : Type 0} (decides : ℕ → Decision) where
  -- the row has the heads of one of these, which comes before it in its arm and has no guard
  pub record Repeats (rs : List (MRow T)) (r : MRow T) : Type 0 where
    pub first : MRow T
    pub among : Among first rs
    pub unguarded : first.guarded ≡ false
    pub arm : first.arm ≡ r.arm
    pub heads : first.heads ≡ r.heads
    pub before : IsBefore (row_key decides first) (row_key decides r)

  -- these are rows of the others, and each of the others is one of these or repeats one
  pub record AreFirsts (rs rows : List (MRow T)) : Type 0 where
    pub some : (r : MRow T) → Among r rs → Among r rows
    pub all : (r : MRow T) → Among r rows → Among r rs ⊎ Repeats rs r

  module _ (f : Head T → List (Replacement T)) (place : List MStep) (i : ℕ) where
    made-in : (rows : List (MRow T)) (r : MRow T) (y : Replacement T) → Among r rows →
        Among y (replacements_at f i r.heads) → Among (row_replaced place r y) (rows_at f place i rows)
    made-in rows r y a b =
        flat-among (λ r. map (row_replaced place r) (replacements_at f i r.heads)) rows r (row_replaced place r y) a
        (map-in (row_replaced place r) (replacements_at f i r.heads) y b)

    -- what the same replacement makes of two rows stands in their order
    still-before : (r s : MRow T) (y : Replacement T) → IsBefore (row_key decides r) (row_key decides s) →
        IsBefore (row_key decides (row_replaced place r y)) (row_key decides (row_replaced place s y))
    still-before r s y b =
        subst (λ k. IsBefore k (row_key decides (row_replaced place s y))) (sym (key-of-row decides place r y))
        (subst (λ k. IsBefore (both_keys (row_key decides r) (replacement_key decides y)) k)
        (sym (key-of-row decides place s y))
        (before-keep (row_key decides r) (row_key decides s) (replacement_key decides y) (replacement_key decides y) b
        (λ o p. refl)))

    -- a step keeps it so
    pub firsts-step : (rs rows : List (MRow T)) → AreFirsts rs rows →
        AreFirsts (rows_at f place i rs) (rows_at f place i rows)
    firsts-step rs rows a = record { some = some; all = all }
      where
        some : (x : MRow T) → Among x (rows_at f place i rs) → Among x (rows_at f place i rows)
        some x j =
            let m = among-flat (λ r. map (row_replaced place r) (replacements_at f i r.heads)) rs x j in
            let n = among-map (row_replaced place m.0) (replacements_at f i m.0.heads) x m.2 in
            subst (λ z. Among z (rows_at f place i rows)) (sym n.2) (made-in rows m.0 n.0 (a.some m.0 m.1) n.1)

        one : (r : MRow T) (y : Replacement T) → Among y (replacements_at f i r.heads) →
            Among r rs ⊎ Repeats rs r →
            Among (row_replaced place r y) (rows_at f place i rs) ⊎ Repeats (rows_at f place i rs) (row_replaced place r y)
        one r y j (inl k) = inl (made-in rs r y k j)
        one r y j (inr k) =
            inr (record {
              first = row_replaced place k.first y;
              among =
                  made-in rs k.first y k.among (subst (λ hs. Among y (replacements_at f i hs)) (sym k.heads) j);
              unguarded = k.unguarded;
              arm = k.arm;
              heads = refl;
              before = still-before k.first r y k.before;
            })

        all : (x : MRow T) → Among x (rows_at f place i rows) →
            Among x (rows_at f place i rs) ⊎ Repeats (rows_at f place i rs) x
        all x j =
            let m = among-flat (λ r. map (row_replaced place r) (replacements_at f i r.heads)) rows x j in
            let n = among-map (row_replaced place m.0) (replacements_at f i m.0.heads) x m.2 in
            subst (λ z. Among z (rows_at f place i rs) ⊎ Repeats (rows_at f place i rs) z) (sym n.2)
            (one m.0 n.0 n.1 (a.all m.0 m.1))

  -- rows in order
  pub firsts-in-order : (rs rows next new : List (MRow T)) → AreFirsts rs rows → AreInOrder decides rs next →
      AreInOrder decides rows new → AreFirsts next new
  firsts-in-order rs rows next new a o p = record {
    some = λ r i. p.same.forth r (a.some r (o.same.back r i));
    all = λ r i. moved r (a.all r (p.same.back r i));
  }
    where
      moved : (r : MRow T) → Among r rs ⊎ Repeats rs r → Among r next ⊎ Repeats next r
      moved r (inl i) = inl (o.same.forth r i)
      moved r (inr k) =
          inr (record {
            first = k.first;
            among = o.same.forth k.first k.among;
            unguarded = k.unguarded;
            arm = k.arm;
            heads = k.heads;
            before = k.before;
          })

  -- each of all rows has the heads of one that is left
  headed : (rs rows : List (MRow T)) → AreFirsts rs rows → (r : MRow T) → Among r rows →
      (s : MRow T) × Among s rs × (s.heads ≡ r.heads)
  headed rs rows a r i = go (a.all r i)
    where
      go : Among r rs ⊎ Repeats rs r → (s : MRow T) × Among s rs × (s.heads ≡ r.heads)
      go (inl j) = (r, j, refl)
      go (inr k) = (k.first, k.among, k.heads)

  all-at : (p : MRow T → Bool) (rows : List (MRow T)) (r : MRow T) → list_all p rows ≡ true → Among r rows → p r ≡ true
  all-at p [] r h i = elim i [ ]
  all-at p (x ∷ rows) r h (inl e) = ap p e ∙ (both (p x) (list_all p rows) h).0
  all-at p (x ∷ rows) r h (inr i) = all-at p rows r (both (p x) (list_all p rows) h).1 i

  all-of : (p : MRow T → Bool) (rows : List (MRow T)) → ((r : MRow T) → Among r rows → p r ≡ true) →
      list_all p rows ≡ true
  all-of p [] h = refl
  all-of p (x ∷ rows) h = and_true (p x) (list_all p rows) (h x (inl refl)) (all-of p rows (λ r i. h r (inr i)))

  ctor-in : (i : ℕ) (rows : List (MRow T)) (r : MRow T) (c : MCtor) → Among r rows →
      first_ctor (drop i r.heads) ≡ Some c → Among c (ctors_at i rows)
  ctor-in i [] r c a e = elim a [ ]
  ctor-in i (x ∷ rows) r c (inl q) e =
      subst (λ o. Among c (cons_option o (ctors_at i rows))) (sym (ap (λ y. first_ctor (drop i y.heads)) (sym q) ∙ e))
      (inl refl)
  ctor-in i (x ∷ rows) r c (inr a) e = go (first_ctor (drop i x.heads)) (ctor-in i rows r c a e)
    where
      go : (o : Option MCtor) → Among c (ctors_at i rows) → Among c (cons_option o (ctors_at i rows))
      go None k = k
      go (Some d) k = inr k

  ctor-from : (i : ℕ) (rows : List (MRow T)) (c : MCtor) → Among c (ctors_at i rows) →
      (r : MRow T) × Among r rows × (first_ctor (drop i r.heads) ≡ Some c)
  ctor-from i [] c a = elim a [ ]
  ctor-from i (x ∷ rows) c a = go (first_ctor (drop i x.heads)) refl a (ctor-from i rows c)
    where
      Found : List (MRow T) → Type 0
      Found rs = (r : MRow T) × Among r rs × (first_ctor (drop i r.heads) ≡ Some c)

      further : Found rows → Found (x ∷ rows)
      further (r, j, e) = (r, inr j, e)

      go : (o : Option MCtor) → first_ctor (drop i x.heads) ≡ o → Among c (cons_option o (ctors_at i rows)) →
          (Among c (ctors_at i rows) → Found rows) → Found (x ∷ rows)
      go None e k h = further (h k)
      go (Some d) e (inl q) h = (x, inl refl, e ∙ ap Some (sym q))
      go (Some d) e (inr k) h = further (h k)

  module _ (rs rows : List (MRow T)) (a : AreFirsts rs rows) (i : ℕ) where
    abbrev is_wild_here : MRow T → Bool
    is_wild_here r = starts_wild (drop i r.heads)

    pub wild-firsts : all_wild_at i rs ≡ all_wild_at i rows
    wild-firsts =
        same-tests (all_wild_at i rs) (all_wild_at i rows)
        (λ h. all-of is_wild_here rows (λ r j. (let m = headed rs rows a r j in
        sym (ap (λ hs. starts_wild (drop i hs)) m.2) ∙ all-at is_wild_here rs m.0 h m.1)))
        (λ h. all-of is_wild_here rs (λ r j. all-at is_wild_here rows r h (a.some r j)))

    pub ctors-firsts : SameMembers (ctors_at i rs) (ctors_at i rows)
    ctors-firsts = record {
      forth = λ c k. (let m = ctor-from i rs c k in ctor-in i rows m.0 c (a.some m.0 m.1) m.2);
      back = λ c k. (let m = ctor-from i rows c k in let n = headed rs rows a m.0 m.1 in
          ctor-in i rs n.0 c n.1 (ap (λ hs. first_ctor (drop i hs)) n.2 ∙ m.2));
    }

  module _ (cx : Context T) (V : T → Bool → MValue → Type 0) (c : MColumn T) where
    pub present-same : (xs ys : List MCtor) → SameMembers xs ys → (p : MCtor) → is_present xs p ≡ is_present ys p
    present-same xs ys s p = any_same (λ h. has_piece h p) xs ys s

    cases-same : (xs ys all pieces : List MCtor) (n : ℕ) → SameMembers xs ys → AreCases V c xs all pieces n →
        AreCases V c ys all pieces n
    cases-same xs ys all _ _ s (nothing_missing g) =
        nothing_missing (λ p m. g p (m.0, present-same xs ys s p ∙ m.1))
    cases-same xs ys all _ _ s (something_missing p m v) =
        something_missing p (m.0, sym (present-same xs ys s p) ∙ m.1) v
    cases-same xs ys all _ _ s (no_branch_of p rest n g k) =
        no_branch_of p rest n (none g) (cases-same xs ys all rest n s k)
      where
        none : (is_present xs p ≡ false) ⊎ (¬ HasValue V (open_of c) (named_in all) p) →
            (is_present ys p ≡ false) ⊎ (¬ HasValue V (open_of c) (named_in all) p)
        none (inl x) = inl (sym (present-same xs ys s p) ∙ x)
        none (inr x) = inr x
    cases-same xs ys all _ _ s (branch_of p rest n g v k) =
        branch_of p rest n (subst IsTrue (present-same xs ys s p) g) v (cases-same xs ys all rest n s k)

    -- a column has as many branches where its constructors are the same
    pub branches-same : (i : ℕ) (xs ys : List (MRow T)) (n : ℕ) →
        all_wild_at i (rows_at expand_head c.place i xs) ≡ all_wild_at i (rows_at expand_head c.place i ys) →
        SameMembers (ctors_at i (rows_at expand_head c.place i xs)) (ctors_at i (rows_at expand_head c.place i ys)) →
        AreBranches cx V i c xs n → AreBranches cx V i c ys n
    branches-same i xs ys _ w s (no_branches h) = no_branches (subst IsTrue w h)
    branches-same i xs ys _ w s (as_cases pieces n h are cases) =
        as_cases pieces n (sym w ∙ h)
        (pieces-same (ctors_at i (rows_at expand_head c.place i xs)) (ctors_at i (rows_at expand_head c.place i ys)) s
        (cx.set_of c.type) pieces are)
        (cases-same (ctors_at i (rows_at expand_head c.place i xs)) (ctors_at i (rows_at expand_head c.place i ys))
        pieces pieces n s cases)
