-- Each part of a tree of keyed rows is reached by a value of the domain.
use Rattle.std.proofs.Common.{◌≡◌, ◌≢◌, ◌⊎◌, inl, inr, ℕ, zero, suc, Bool, true, false, List, [], ◌∷◌, ◌++◌, length, Some, slice_get, refl, sym, ap, ◌∙◌, subst, append_assoc}
use Rattle.match_model.specs.Values.{MValue}
use Rattle.match_model.specs.Constructors.{MCtor, builds}
use Rattle.match_model.specs.Contexts.{Context}
use Rattle.match_model.specs.Pieces.{ArePieces}
use Rattle.match_model.specs.Places.{part_at}
use Rattle.match_model.specs.Trees.{ElseCase, case_has, MBranch, number_for}
use Rattle.match_model.specs.Matrices.{MColumn, MRow, part_columns}
use Rattle.match_model.specs.PieceStates.{is_present, named_in}
use Rattle.match_model.specs.DecisionTrees.{MTree, SwitchTree, AskTree, TakeTree, MissTree, VoidTree, MBranches, no_branch, more_branches, is_switchless, case_of}
use Rattle.match_model.specs.Keys.{Decision}
use Rattle.match_model.specs.Lists.{Ordered, Among}
use Rattle.tree_sharing.specs.Runs.{bare_branches, Taking, Lives, LivesAll}
use Rattle.match_model.specs.Steps.{replaced_at}
use Rattle.match_model.specs.Lowering.{ctors_at, Lowers, no_value_left, no_row_left, takes, asks, drops, opens, switches, Branches, no_else, with_else, no_case, one_case}
use Rattle.keyed_steps.specs.Filled.{AreValues, ArePartsAt, IsFilled, IsOpened}
use Rattle.keyed_steps.specs.Engine.{IsCut, IsEngine}
use Rattle.tree_laws.proofs.Filling.{held-replaced, values-replaced, values-back}
use Rattle.tree_laws.proofs.Numbers.{Lacks, NoElse, case-number, else-number}
use Rattle.tree_laws.proofs.Meaning.{not-among, not-true, clash, lacks-more, else-more}
use Rattle.keyed_rows.proofs.Members.{contains-among}

mutual
  -- more values reach no less
  more-live : (D E : MValue → Type 0) (t : MTree) → ((v : MValue) → D v → E v) → Lives D t → Lives E t
  more-live D E (SwitchTree place branches) h l = (
    (l.0.0, h l.0.0 l.0.1),
    more-live-all (Taking D place branches) (Taking E place branches) 0 branches
        (λ i v d. (h v d.0, d.1)) l.1,
  )
  more-live D E (AskTree arm binds t) h l = ((l.0.0, h l.0.0 l.0.1), more-live D E t h l.1)
  more-live D E (TakeTree arm binds) h l = (l.0, h l.0 l.1)
  more-live D E MissTree h l = (l.0, h l.0 l.1)
  more-live D E VoidTree h l = (l.0, h l.0 l.1)

  more-live-all : (D E : ℕ → MValue → Type 0) (i : ℕ) (branches : MBranches) → ((i : ℕ) (v : MValue) → D i v → E i v) →
      LivesAll D i branches → LivesAll E i branches
  more-live-all D E i no_branch h l = tt
  more-live-all D E i (more_branches c t rest) h l =
      (more-live (D i) (E i) t (h i) l.0, more-live-all D E (suc i) rest h l.1)

some-is : {A : Type 0} (x y : A) → Some x ≡ Some y → x ≡ y
some-is x y e = cc

module _ {T : Type 0} (cx : Context T) (V : T → Bool → MValue → Type 0) (decides : ℕ → Decision)
    (Good : List (MColumn T) → List (MRow T) → Type 0) (Ready : ℕ → List (MColumn T) → List (MRow T) → Type 0)
    (engine : IsEngine cx V decides Good Ready) (Chooses : List (MColumn T) → List (MRow T) → ℕ → Type 0)
    (BareOnly : Type 0) where
  someone : (D : MValue → Type 0) (columns : List (MColumn T)) → IsFilled V D columns → (v : MValue) × D v
  someone D columns f = let r = f.filled f.lives.0 f.lives.1 in (r.0, r.1)

  value-at : (cs : List (MColumn T)) (us : List MValue) (i : ℕ) (c : MColumn T) → AreValues V cs us →
      slice_get cs i ≡ Some c → (x : MValue) × V c.type c.sure x
  value-at [] us i c a e = cc
  value-at (d ∷ cs) [] i c a e = elim a [ ]
  value-at (d ∷ cs) (u ∷ us) zero c a e = (u, subst (λ y. V y.type y.sure u) (some-is d c e) a.0)
  value-at (d ∷ cs) (u ∷ us) (suc i) c a e = value-at cs us i c a.1 e

  -- the values whose part at the column passes
  abbrev Passing : (D : MValue → Type 0) → MColumn T → (P : MValue → Type 0) → MValue → Type 0
  Passing D c P v = D v × ((x : MValue) × (V c.type c.sure x × P x) × (part_at c.place v ≡ Some x))

  -- without the column, for the values whose part there passes
  filled-without : (D : MValue → Type 0) (columns : List (MColumn T)) (i : ℕ) (c : MColumn T) (P : MValue → Type 0) →
      IsFilled V D columns → slice_get columns i ≡ Some c → ((x : MValue) × V c.type c.sure x × P x) →
      IsFilled V (Passing D c P) (replaced_at i columns [])
  filled-without D columns i c P f e x = record {
    held = λ v d. held-replaced V columns [] v i (f.held v d.0) ([], tt, tt);
    filled = λ ws a. go ws a;
    lives = values-replaced V columns [] i f.lives ([], tt);
  }
    where
      make : (us : List MValue) → AreValues V [] us → (y : MValue) × V c.type c.sure y × (V c.type c.sure y × P y)
          × ((v : MValue) → part_at c.place v ≡ Some y → ArePartsAt {T = T} v [] us)
      make [] a = (x.0, x.1, (x.1, x.2), λ v h. tt)
      make (u ∷ us) a = elim a [ ]

      go : (ws : List MValue) → AreValues V (replaced_at i columns []) ws → (v : MValue) × Passing D c P v
          × ArePartsAt v (replaced_at i columns []) ws
      go ws a =
          let b = values-back V columns [] i c (λ y. V c.type c.sure y × P y) ws e a make in
          let r = f.filled b.us b.are in
          let p = b.part r.0 r.2 in
          (r.0, (r.1, (p.0, p.1, p.2)), b.at r.0 r.2)

  -- with the parts of a piece in its place
  filled-inside : (D : MValue → Type 0) (columns : List (MColumn T)) (i : ℕ) (c : MColumn T) (named : List (List ℕ))
      (piece : MCtor) → IsFilled V D columns → slice_get columns i ≡ Some c → IsOpened cx V c named piece →
      IsFilled V (Passing D c (λ x. builds named piece x ≡ true)) (replaced_at i columns (part_columns cx c piece))
  filled-inside D columns i c named piece f e o = record {
    held =
        λ v d. held-replaced V columns (part_columns cx c piece) v i (f.held v d.0)
        (o.gives v d.1.0 d.1.2 d.1.1.0 d.1.1.1);
    filled = λ ws a. go ws a;
    lives = values-replaced V columns (part_columns cx c piece) i f.lives o.lives;
  }
    where
      P : MValue → Type 0
      P x = builds named piece x ≡ true

      make : (us : List MValue) → AreValues V (part_columns cx c piece) us → (y : MValue) × V c.type c.sure y
          × (V c.type c.sure y × P y) × ((v : MValue) → part_at c.place v ≡ Some y →
          ArePartsAt v (part_columns cx c piece) us)
      make us a = let m = o.makes us a in (m.0, m.1, (m.1, m.2), m.3)

      go : (ws : List MValue) → AreValues V (replaced_at i columns (part_columns cx c piece)) ws → (v : MValue)
          × Passing D c P v × ArePartsAt v (replaced_at i columns (part_columns cx c piece)) ws
      go ws a =
          let b = values-back V columns (part_columns cx c piece) i c (λ y. V c.type c.sure y × P y) ws e a make in
          let r = f.filled b.us b.are in
          let p = b.part r.0 r.2 in
          (r.0, (r.1, (p.0, p.1, p.2)), b.at r.0 r.2)

  -- a switch over the pieces, some of whose cases are done
  record Cases (D : MValue → Type 0) (i : ℕ) (c : MColumn T) (columns : List (MColumn T)) (rows : List (MRow T))
      (all : List MCtor) : Type 0 where
    pub filled : IsFilled V D columns
    pub ready : Ready i columns rows
    pub there : slice_get columns i ≡ Some c
    pub are : ArePieces (cx.set_of c.type) (ctors_at i rows) all
    pub cut : IsCut cx V i c rows all
    pub sw : is_switchless (cx.set_of c.type) ≡ false

  -- what is done has no value of a piece that is still to come, or that no row has
  abbrev Ahead : (i : ℕ) (c : MColumn T) (rows : List (MRow T)) (all pieces : List MCtor) (done : List MBranch) → Type 0
  Ahead i c rows all pieces done =
      (x : MValue) → V c.type c.sure x → (q : MCtor) → Among q all → builds (named_in all) q x ≡ true → Among q pieces
      ⊎ (is_present (ctors_at i rows) q ≡ false) → Lacks x done

  mutual
    pub lowered-lives : (columns : List (MColumn T)) (rows : List (MRow T)) (t : MTree) →
        Lowers cx V decides Chooses BareOnly columns rows t → (D : MValue → Type 0) → Good columns rows →
        IsFilled V D columns → Lives D t
    lowered-lives _ _ _ (no_value_left columns b) D g f = someone D columns f
    lowered-lives _ _ _ (no_row_left columns n) D g f = someone D columns f
    lowered-lives _ _ _ (takes columns r rows w u) D g f = someone D columns f
    lowered-lives _ _ _ (asks columns r rows refused w u t) D g f =
        (someone D columns f, lowered-lives columns rows refused t D (engine.others columns r rows g) f)
    lowered-lives _ _ _ (drops i c columns rows expanded next tree pk e o w q t) D g f =
        let ready = engine.expanded i c columns rows expanded g e o in
        let x = value-at columns f.lives.0 i c f.lives.1 e in
        more-live (Passing D c (λ x. Unit {0})) D tree (λ v d. d.0)
        (lowered-lives (replaced_at i columns []) next tree t (Passing D c (λ x. Unit {0}))
        (engine.dropped i c columns expanded next ready e q) (filled-without D columns i c (λ x. Unit {0}) f e
        (x.0, x.1, tt)))
    lowered-lives _ _ _ (opens i c columns rows expanded next piece tree pk e o w sl are q t) D g f =
        let ready = engine.expanded i c columns rows expanded g e o in
        let cut = engine.cut i c columns expanded (piece ∷ []) ready e are w in
        let x = value-at columns f.lives.0 i c f.lives.1 e in
        let one = cut.one x.0 x.1 in
        let same : one.0 ≡ piece = elim one.1 [ inl h ↦ h | inr h ↦ absurd h ] in
        let built : builds (named_in (piece ∷ [])) piece x.0 ≡ true = subst
        (λ y. builds (named_in (piece ∷ [])) y x.0 ≡ true) same one.2 in
        let opened = cut.opened piece (inl refl) (x.0, x.1, built) in
        more-live (Passing D c (λ x. builds (named_in (piece ∷ [])) piece x ≡ true)) D tree (λ v d. d.0)
        (lowered-lives (replaced_at i columns (part_columns cx c piece)) next tree t
        (Passing D c (λ x. builds (named_in (piece ∷ [])) piece x ≡ true))
        (engine.entered i c columns expanded next (piece ∷ []) piece ready e are (inl refl) q)
        (filled-inside D columns i c (named_in (piece ∷ [])) piece f e opened))
    lowered-lives _ _ _ (switches i c columns rows expanded pieces branches pk e o w sl are k) D g f =
        let ready = engine.expanded i c columns rows expanded g e o in
        let cut = engine.cut i c columns expanded pieces ready e are w in (
          someone D columns f,
          branches-live i c columns expanded pieces pieces branches k D
              (record { filled = f; ready = ready; there = e; are = are; cut = cut; sw = sl }) branches [] refl tt
              (λ x a q m b h. tt) (λ x m. m) cut.distinct,
        )

    branches-live : (i : ℕ) (c : MColumn T) (columns : List (MColumn T)) (rows : List (MRow T))
        (all pieces : List MCtor) (branches : MBranches) →
        Branches cx V decides Chooses BareOnly i c columns rows all pieces branches →
        (D : MValue → Type 0) → Cases D i c columns rows all → (whole : MBranches) (done : List MBranch) →
        bare_branches whole ≡ done ++ bare_branches branches → NoElse done → Ahead i c rows all pieces done →
        ((x : MCtor) → Among x pieces → Among x all) → Ordered (λ (p q : MCtor). p ≢ q) pieces →
        LivesAll (Taking D c.place whole) (length done) branches
    branches-live _ _ _ _ _ _ _ (no_else i c columns rows all none) D s whole done e n a sub d = tt
    branches-live _ _ _ _ _ _ _ (with_else i c columns rows next all piece tree m h o t) D s whole done e n a sub d = (
      more-live Missing (Taking D c.place whole (length done)) tree taking
          (lowered-lives (replaced_at i columns []) next tree t Missing
          (engine.dropped i c columns rows next s.ready s.there o) (filled-without D columns i c
          (λ x. builds (named_in all) piece x ≡ true) s.filled s.there (h.0, h.1, h.2))),
      tt,
    )
      where
        Missing : MValue → Type 0
        Missing = Passing D c (λ x. builds (named_in all) piece x ≡ true)

        taking : (v : MValue) → Missing v → Taking D c.place whole (length done) v
        taking v p = (
          p.0,
          (
            p.1.0,
            p.1.2,
            subst (λ l. number_for p.1.0 l ≡ Some (length done)) (sym e)
                (else-number p.1.0 done (record { case = ElseCase; next = 0 })
                (a p.1.0 p.1.1.0 piece (contains-among all piece m.0) p.1.1.1 (inr m.1)) refl n refl),
          ),
        )
    branches-live _ _ _ _ _ _ _ (no_case i c columns rows all piece pieces branches x k) D s whole done e n a sub d =
        branches-live i c columns rows all pieces branches k D s whole done e n
        (λ y w q m b h. a y w q m b (elim h [ inl z ↦ inl (inr z) | inr z ↦ inr z ])) (λ y m. sub y (inr m)) d.1
    branches-live _ _ _ _ _ _ _ (one_case i c columns rows next all piece pieces tree branches pr h o t k) D s whole done e n a sub d = (
      more-live Inside (Taking D c.place whole (length done)) tree taking
          (lowered-lives (replaced_at i columns (part_columns cx c piece)) next tree t Inside
          (engine.entered i c columns rows next all piece s.ready s.there s.are mine o)
          (filled-inside D columns i c (named_in all) piece s.filled s.there (s.cut.opened piece mine h))),
      subst (λ m. LivesAll (Taking D c.place whole) m branches) (one-more done)
          (branches-live i c columns rows all pieces branches k D s whole (done ++ branch ∷ [])
          (e ∙ sym (append_assoc done (branch ∷ []) (bare_branches branches)))
          (else-more cx V decides Good Ready engine Chooses BareOnly done branch n
          (s.cut.case piece h.0 mine pr s.sw).1) ahead (λ y m. sub y (inr m)) d.1),
    )
      where
        branch : MBranch
        branch = record { case = case_of piece; next = 0 }

        mine : Among piece all
        mine = sub piece (inl refl)

        Inside : MValue → Type 0
        Inside = Passing D c (λ x. builds (named_in all) piece x ≡ true)

        taking : (v : MValue) → Inside v → Taking D c.place whole (length done) v
        taking v p =
            let has : case_has (case_of piece) p.1.0 ≡ true = (s.cut.case piece p.1.0 mine pr s.sw).0 ∙ p.1.1.1 in (
              p.0,
              (
                p.1.0,
                p.1.2,
                subst (λ l. number_for p.1.0 l ≡ Some (length done)) (sym e)
                    (case-number p.1.0 done (bare_branches branches) branch (a p.1.0 p.1.1.0 piece mine p.1.1.1
                    (inl (inl refl))) has),
              ),
            )

        one-more : (l : List MBranch) → length (l ++ branch ∷ []) ≡ suc (length l)
        one-more [] = refl
        one-more (b ∷ l) = ap suc (one-more l)

        other : (x : MValue) → V c.type c.sure x → (q : MCtor) → Among q all → builds (named_in all) q x ≡ true →
            Among q pieces ⊎ (is_present (ctors_at i rows) q ≡ false) → builds (named_in all) piece x ≡ true → ⊥
        other x w q m b z y = apart-from z
          where
            one : (p : MCtor) × Among p all × (builds (named_in all) p x ≡ true)
                × ((r : MCtor) → Among r all → builds (named_in all) r x ≡ true → r ≡ p)
            one = s.cut.one x w

            same : piece ≡ q
            same = one.3 piece mine y ∙ sym (one.3 q m b)

            apart-from : Among q pieces ⊎ (is_present (ctors_at i rows) q ≡ false) → ⊥
            apart-from (inl k) = not-among cx V decides Good Ready engine piece q pieces d.0 k same
            apart-from (inr k) =
                clash cx V decides Good Ready engine (is_present (ctors_at i rows) q)
                (subst (λ z. is_present (ctors_at i rows) z ≡ true) same pr) k

        ahead : Ahead i c rows all pieces (done ++ branch ∷ [])
        ahead x w q m b z =
            lacks-more cx V decides Good Ready engine Chooses BareOnly x done branch
            (a x w q m b (elim z [ inl k ↦ inl (inr k) | inr k ↦ inr k ]))
            ((s.cut.case piece x mine pr s.sw).0 ∙ not-true cx V decides Good Ready engine (builds
            (named_in all) piece x) (other x w q m b z))
