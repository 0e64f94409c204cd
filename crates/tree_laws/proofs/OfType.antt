-- The places and cases of a lowered tree are of the match's type.
use Rattle.std.proofs.Common.{◌≡◌, inl, inr, ℕ, Bool, true, false, List, [], ◌∷◌, ◌++◌, map, cond, nat_eq, Some, None, slice_get, Ordering, Less, Equal, Greater, refl, sym, ap, ◌∙◌, subst}
use Rattle.std.specs.List.{list_all}
use Rattle.std.specs.Ordering.{match_ordering}
use Rattle.match_model.specs.Texts.{compare_texts}
use Rattle.match_model.specs.Values.{MValue}
use Rattle.match_model.specs.Ways.{put_by}
use Rattle.match_model.specs.Constructors.{FixedShape, LongerShape, MCtor, SingleCtor, PointCtor, LaterCtor, OtherTextCtor, WildCtor, OrCtor, VariantCtor, FlagCtor, NumbersCtor, TextCtor, RowCtor, belongs, has_piece}
use Rattle.match_model.specs.Contexts.{Context}
use Rattle.match_model.specs.ContextLaws.{PartsLaw, ValuesLaw}
use Rattle.match_model.specs.ArenaPatterns.{MPart, WholePart, MiddlePart, MBound, de_pat, de_pats_list}
use Rattle.match_model.specs.Pieces.{ArePieces}
use Rattle.match_model.specs.Places.{MiddleStep}
use Rattle.match_model.specs.Trees.{MBind, MBranch, MNode}
use Rattle.match_model.specs.Rows.{Head, Choice, choices_of, heads_of}
use Rattle.match_model.specs.Matrices.{MColumn, MRow, bind_at, head_binds, part_columns}
use Rattle.match_model.specs.WellTyped.{part_is_of, is_written, IsTyped, IsHeadTyped, AreHeadsTyped}
use Rattle.match_model.specs.OfType.{has_ctor, place_is_of, type_at_place, case_is_of, cases_are_of, node_is_of, tree_is_of}
use Rattle.match_model.specs.Lists.{Every, Among, Each}
use Rattle.match_model.specs.Keys.{Decision}
use Rattle.match_model.specs.Steps.{Replacement, own_binds, expand_head, specialise_head, default_head, replacements_at, replaced_at, row_replaced, rows_at}
use Rattle.match_model.specs.RowOrder.{AreInOrder}
use Rattle.match_model.specs.DecisionTrees.{MTree, SwitchTree, AskTree, TakeTree, MissTree, VoidTree, MBranches, no_branch, more_branches, all_head_binds, by_name, row_binds, case_of}
use Rattle.match_model.specs.Lowering.{ctors_at, Lowers, no_value_left, no_row_left, takes, asks, drops, opens, switches, Branches, no_else, with_else, no_case, one_case}
use Rattle.match_model.specs.SharedTrees.{case_trees, Walks, known, to_take, to_miss, to_void, to_ask, to_switch, WalksAll, nothing, last_first, IsBranchOf, IsNodeOf, switch_of, ask_of, take_of, miss_of, void_of, IsShared}
use Rattle.match_model.proofs.Basics.{both, and_true, untrue, nat_equal}
use Rattle.keyed_rows.proofs.Parting.{among-map, among-every}
use Rattle.keyed_rows.proofs.RowOrder.{among-flat, every-among}
use Rattle.keyed_steps.specs.Engine.{IsEngine}
use Rattle.keyed_steps.specs.Good.{IsGoodRow, IsGoodColumn, IsGood, IsReady}
use Rattle.keyed_steps.specs.Piecewise.{IsFit}
use Rattle.keyed_steps.proofs.Caught.{IsMadeAt, made-at}
use Rattle.keyed_steps.proofs.HeadExpands.{AreWhole, choices-whole}
use Rattle.keyed_steps.proofs.Keeping.{replaced-every}
use Rattle.keyed_steps.proofs.PartTypes.{every-below}
use Rattle.keyed_steps.proofs.Standing.{column-at, head-at}
use Rattle.tree_laws.proofs.PiecesFit.{pieces-fit}
use Rattle.tree_laws.proofs.Engine.{context-engine}
use Rattle.tree_laws.proofs.PlaceTypes.{type-behind, place-behind, part-entered}

module _ {T : Type 0} (cx : Context T) (root : T) where
  -- the names' places are of the type
  abbrev AreOf : List MBind → Type 0
  AreOf bs = list_all (λ b. place_is_of cx root b.place) bs ≡ true

  abbrev pub CasesOf : T → MBranches → Type 0
  CasesOf t no_branch = Unit {0}
  CasesOf t (more_branches c tree rest) = (case_is_of cx t c ≡ true) × CasesOf t rest

  abbrev mutual
    -- the places and cases of the tree are of the type
    pub IsTreeOf : MTree → Type 0
    IsTreeOf (SwitchTree place branches) =
        ((t : T) × (type_at_place cx root place ≡ Some t) × CasesOf t branches) × AreTreesOf branches
    IsTreeOf (AskTree arm binds t) = AreOf binds × IsTreeOf t
    IsTreeOf (TakeTree arm binds) = AreOf binds
    IsTreeOf MissTree = Unit {0}
    IsTreeOf VoidTree = Unit {0}

    pub AreTreesOf : MBranches → Type 0
    AreTreesOf no_branch = Unit {0}
    AreTreesOf (more_branches c t rest) = IsTreeOf t × AreTreesOf rest

  -- a walk finishes trees of the type alone
  mutual
    walk-of : (done : List MTree) (t : MTree) (after : List MTree) → Walks done t after → Every IsTreeOf done →
        IsTreeOf t → Every IsTreeOf after
    walk-of _ _ _ (known done t a) d h = d
    walk-of _ _ _ (to_take done arm binds n) d h = (h, d)
    walk-of _ _ _ (to_miss done n) d h = (tt, d)
    walk-of _ _ _ (to_void done n) d h = (tt, d)
    walk-of _ _ _ (to_ask done others arm binds t n w) d h = (h, walk-of done t others w d h.1)
    walk-of _ _ _ (to_switch done others place branches n w) d h = (h, walk-all-of done branches others w d h.1)

    walk-all-of : (done : List MTree) (bs : MBranches) (after : List MTree) → WalksAll done bs after →
        Every IsTreeOf done → AreTreesOf bs → Every IsTreeOf after
    walk-all-of _ _ _ (nothing done) d h = d
    walk-all-of _ _ _ (last_first done others final c t rest w v) d h =
        walk-of others t final v (walk-all-of done rest others w d h.1) h.0

  branches-of-type : (trees : List MTree) (t : T) (bs : MBranches) (xs : List MBranch) → CasesOf t bs →
      Each (IsBranchOf trees) (case_trees bs) xs → list_all (λ b. case_is_of cx t b.case) xs ≡ true
  branches-of-type trees t no_branch [] h e = refl
  branches-of-type trees t no_branch (x ∷ xs) h e = elim e [ ]
  branches-of-type trees t (more_branches c tree rest) [] h e = elim e [ ]
  branches-of-type trees t (more_branches c tree rest) (x ∷ xs) h e =
      and_true (case_is_of cx t x.case) (list_all (λ b. case_is_of cx t b.case) xs)
      (subst (λ y. case_is_of cx t y ≡ true) (sym e.0.0) h.0) (branches-of-type trees t rest xs h.1 e.1)

  node-of : (trees : List MTree) (t : MTree) (x : MNode) → IsTreeOf t → IsNodeOf trees t x → node_is_of cx root x ≡ true
  node-of trees _ _ h (switch_of place branches bs e) =
      ap (λ o. cases_are_of cx o bs) h.0.1 ∙ branches-of-type trees h.0.0 branches bs h.0.2 e
  node-of trees _ _ h (ask_of arm binds t n e) = h.0
  node-of trees _ _ h (take_of arm binds) = h
  node-of trees _ _ h miss_of = refl
  node-of trees _ _ h void_of = refl

  nodes-of : (trees ts : List MTree) (xs : List MNode) → Every IsTreeOf ts → Each (IsNodeOf trees) ts xs →
      tree_is_of cx root xs ≡ true
  nodes-of trees [] [] h e = refl
  nodes-of trees [] (x ∷ xs) h e = elim e [ ]
  nodes-of trees (t ∷ ts) [] h e = elim e [ ]
  nodes-of trees (t ∷ ts) (x ∷ xs) h e =
      and_true (node_is_of cx root x) (tree_is_of cx root xs) (node-of trees t x h.0 e.0) (nodes-of trees ts xs h.1 e.1)

  -- the shared nodes of a tree of the type are of the type
  pub shared-of : (t : MTree) (nodes : List MNode) → IsTreeOf t → IsShared t nodes → tree_is_of cx root nodes ≡ true
  shared-of t nodes h s = nodes-of s.trees s.trees nodes (walk-of [] t s.trees s.walk tt h) s.are

  of-append : (xs ys : List MBind) → AreOf xs → AreOf ys → AreOf (xs ++ ys)
  of-append [] ys p q = q
  of-append (x ∷ xs) ys p q =
      let s = both (place_is_of cx root x.place) (list_all (λ b. place_is_of cx root b.place) xs) p in
      and_true (place_is_of cx root x.place) (list_all (λ b. place_is_of cx root b.place) (xs ++ ys)) s.0
      (of-append xs ys s.1 q)

  put-of : (b : MBind) (bs : List MBind) → AreOf (b ∷ bs) → AreOf (put_by (λ c. c.name) b bs)
  put-of b [] h = h
  put-of b (c ∷ bs) h =
      let s = both (place_is_of cx root b.place) (list_all (λ b. place_is_of cx root b.place) (c ∷ bs)) h in
      let t = both (place_is_of cx root c.place) (list_all (λ b. place_is_of cx root b.place) bs) s.1 in
      go (compare_texts c.name b.name)
      (and_true (place_is_of cx root c.place) (list_all (λ b. place_is_of cx root b.place)
      (put_by (λ c. c.name) b bs)) t.0 (put-of b bs
      (and_true (place_is_of cx root b.place) (list_all (λ b. place_is_of cx root b.place) bs) s.0 t.1)))
    where
      go : (o : Ordering) → AreOf (c ∷ put_by (λ c. c.name) b bs) →
          AreOf (match_ordering o (c ∷ put_by (λ c. c.name) b bs) (b ∷ c ∷ bs) (b ∷ c ∷ bs))
      go Less k = k
      go Equal k = h
      go Greater k = h

  named-of : (bs : List MBind) → AreOf bs → AreOf (by_name bs)
  named-of [] h = refl
  named-of (b ∷ bs) h =
      let s = both (place_is_of cx root b.place) (list_all (λ b. place_is_of cx root b.place) bs) h in
      put-of b (by_name bs) (and_true (place_is_of cx root b.place)
      (list_all (λ b. place_is_of cx root b.place) (by_name bs)) s.0 (named-of bs s.1))

  -- the column's place has its type
  abbrev IsColumnOf : MColumn T → Type 0
  IsColumnOf c = type_at_place cx root c.place ≡ Some c.type

  -- a name at the column's place, or of middle items that its type has there
  abbrev IsPartOf : T → MPart → Type 0
  IsPartOf t WholePart = Unit {0}
  IsPartOf t (MiddlePart f b) = has_ctor cx t (RowCtor (LongerShape f b)) ≡ true

  bound-of : (c : MColumn T) → IsColumnOf c → (bs : List MBound) → Every (λ (b : MBound). IsPartOf c.type b.part) bs →
      AreOf (map (bind_at c.place) bs)
  bound-of c e [] h = refl
  bound-of c e (b ∷ bs) h =
      and_true (place_is_of cx root (bind_at c.place b).place) (list_all (λ b. place_is_of cx root b.place)
      (map (bind_at c.place) bs)) (one b.part refl h.0) (bound-of c e bs h.1)
    where
      one : (p : MPart) → b.part ≡ p → IsPartOf c.type p → place_is_of cx root (bind_at c.place b).place ≡ true
      one WholePart q k =
          subst (λ (x : MPart). place_is_of cx root (bind_at c.place (record b { part = x })).place ≡ true) (sym q)
          (whole (place-behind cx root c.type c.place [] e refl))
        where
          nothing-behind : {A : Type 0} (xs : List A) → xs ++ [] ≡ xs
          nothing-behind [] = refl
          nothing-behind (x ∷ xs) = ap (λ l. x ∷ l) (nothing-behind xs)

          whole : place_is_of cx root (c.place ++ []) ≡ true → place_is_of cx root c.place ≡ true
          whole h = subst (λ l. place_is_of cx root l ≡ true) (nothing-behind c.place) h
      one (MiddlePart f g) q k =
          subst (λ (x : MPart). place_is_of cx root (bind_at c.place (record b { part = x })).place ≡ true) (sym q)
          (place-behind cx root c.type c.place (MiddleStep f g ∷ []) e k)

  -- the names that a typed head binds by itself are such
  own-of : (t : T) (h : Head T) → IsHeadTyped cx t h → Every (λ (b : MBound). IsPartOf t b.part) (own_binds h)
  own-of t None ty = tt
  own-of t (Some (de_pat k u uid at subs binds)) ty = all k (λ f g e. has k f g e ty) binds ty.1
    where
      has : (k : MCtor) (f g : ℕ) → k ≡ RowCtor (LongerShape f g) → IsTyped cx t (de_pat k u uid at subs binds) → has_ctor cx t (RowCtor (LongerShape f g)) ≡ true
      has (RowCtor s) f g e y =
          let r : belongs (cx.set_of t) (RowCtor s) ≡ true = (both (belongs (cx.set_of t) (RowCtor s))
          (is_written (RowCtor s)) y.2.0).0 in subst (λ x. belongs (cx.set_of t) x ≡ true) e r
      has SingleCtor f g e y = cc
      has PointCtor f g e y = cc
      has LaterCtor f g e y = cc
      has OtherTextCtor f g e y = cc
      has WildCtor f g e y = cc
      has OrCtor f g e y = cc
      has (VariantCtor x) f g e y = cc
      has (FlagCtor x) f g e y = cc
      has (NumbersCtor x) f g e y = cc
      has (TextCtor x) f g e y = cc

      part : (k : MCtor) → ((f g : ℕ) → k ≡ RowCtor (LongerShape f g) →
          has_ctor cx t (RowCtor (LongerShape f g)) ≡ true) → (p : MPart) → part_is_of k p ≡ true → IsPartOf t p
      part k h WholePart e = tt
      part (RowCtor (LongerShape f b)) h (MiddlePart g d) e =
          let s = both (nat_eq f g) (nat_eq b d) e in
          let x : f ≡ g = nat_equal f g s.0 in
          let y : b ≡ d = nat_equal b d s.1 in
          subst (λ z. has_ctor cx t (RowCtor (LongerShape z d)) ≡ true) x
          (subst (λ z. has_ctor cx t (RowCtor (LongerShape f z)) ≡ true) y (h f b refl))
      part _ h (MiddlePart g d) e = untrue e

      all : (k : MCtor) → ((f g : ℕ) → k ≡ RowCtor (LongerShape f g) →
          has_ctor cx t (RowCtor (LongerShape f g)) ≡ true) → (bs : List MBound) →
          list_all (λ b. part_is_of k b.part) bs ≡ true → Every (λ (b : MBound). IsPartOf t b.part) bs
      all k h [] e = tt
      all k h (b ∷ bs) e =
          let s = both (part_is_of k b.part) (list_all (λ b. part_is_of k b.part) bs) e in
          (part k h b.part s.0, all k h bs s.1)

  whole-of : (t : T) (bs : List MBound) → AreWhole bs → Every (λ (b : MBound). IsPartOf t b.part) bs
  whole-of t [] h = tt
  whole-of t (b ∷ bs) h =
      let s = both (part_is_of WildCtor b.part) (list_all (λ b. part_is_of WildCtor b.part) bs) h in
      (one b.part s.0, whole-of t bs s.1)
    where
      one : (p : MPart) → part_is_of WildCtor p ≡ true → IsPartOf t p
      one WholePart e = tt
      one (MiddlePart f g) e = untrue e

  -- what a row of wildcards and names binds
  heads-of : (cs : List (MColumn T)) (hs : List (Head T)) → Every IsColumnOf cs → AreHeadsTyped cx cs hs →
      AreOf (all_head_binds cs hs)
  heads-of [] hs e t = refl
  heads-of (c ∷ cs) [] e t = refl
  heads-of (c ∷ cs) (h ∷ hs) e t =
      of-append (head_binds c.place h) (all_head_binds cs hs) (head h t.0) (heads-of cs hs e.1 t.1)
    where
      head : (h : Head T) → IsHeadTyped cx c.type h → AreOf (head_binds c.place h)
      head None y = refl
      head (Some (de_pat k u uid at subs binds)) y =
          bound-of c e.0 binds (own-of c.type (Some (de_pat k u uid at subs binds)) y)

  binds-of : (cs : List (MColumn T)) (r : MRow T) → Every IsColumnOf cs → AreHeadsTyped cx cs r.heads →
      AreOf r.caught → AreOf (row_binds cs r)
  binds-of cs r e t h =
      named-of (r.caught ++ all_head_binds cs r.heads) (of-append r.caught (all_head_binds cs r.heads) h
      (heads-of cs r.heads e t))

  case-of-ctor : (t : T) (p : MCtor) → belongs (cx.set_of t) p ≡ true → case_is_of cx t (case_of p) ≡ true
  case-of-ctor t (VariantCtor k) h = h
  case-of-ctor t (FlagCtor b) h = h
  case-of-ctor t (NumbersCtor r) h = h
  case-of-ctor t (TextCtor u) h = h
  case-of-ctor t (RowCtor (FixedShape n)) h = h
  case-of-ctor t (RowCtor (LongerShape f b)) h = h
  case-of-ctor t SingleCtor h = refl
  case-of-ctor t PointCtor h = refl
  case-of-ctor t LaterCtor h = refl
  case-of-ctor t OtherTextCtor h = refl
  case-of-ctor t WildCtor h = refl
  case-of-ctor t OrCtor h = refl

module _ {T : Type 0} (IsType : T → Type 0) (cx : Context T) (V : T → Bool → MValue → Type 0)
    (law : PartsLaw IsType V cx) (values : ValuesLaw IsType V cx) (decides : ℕ → Decision) (root : T) where
  abbrev Good : List (MColumn T) → List (MRow T) → Type 0
  Good columns rows = IsGood IsType cx decides columns rows

  abbrev Ready : ℕ → List (MColumn T) → List (MRow T) → Type 0
  Ready i columns rows = IsReady IsType cx decides i columns rows

  engine : IsEngine cx V decides Good Ready
  engine = context-engine IsType cx V law values decides

  abbrev ColumnsOf : List (MColumn T) → Type 0
  ColumnsOf columns = Every (IsColumnOf cx root) columns

  abbrev RowsOf : List (MRow T) → Type 0
  RowsOf rows = Every (λ (r : MRow T). AreOf cx root r.caught) rows

  -- what a step catches has places of the type
  step-of : (f : Head T → List (Replacement T)) (i : ℕ) (c : MColumn T) (columns : List (MColumn T))
      (rows next : List (MRow T)) → Every (IsGoodRow cx decides columns) rows → slice_get columns i ≡ Some c →
      IsColumnOf cx root c →
      ((h : Head T) (y : Replacement T) → IsHeadTyped cx c.type h → Among y (f h) →
      Every (λ (b : MBound). IsPartOf cx root c.type b.part) y.binds) →
      AreInOrder decides (rows_at f c.place i rows) next → RowsOf rows → RowsOf next
  step-of f i c columns rows next good there e each order caught =
      every-among (λ (r : MRow T). AreOf cx root r.caught) next (λ r j. one r (order.same.back r j))
    where
      some-head : (x y : Head T) → Some x ≡ Some y → x ≡ y
      some-head x y e = cc

      one : (r : MRow T) → Among r (rows_at f c.place i rows) → AreOf cx root r.caught
      one r j =
          let a = among-flat (λ x. map (row_replaced c.place x) (replacements_at f i x.heads)) rows r j in
          let b = among-map (row_replaced c.place a.0) (replacements_at f i a.0.heads) r a.2 in
          let m : IsMadeAt f i a.0.heads b.0 = made-at f i a.0.heads b.0 b.1 in
          let g : IsGoodRow cx decides columns a.0 = among-every (IsGoodRow cx decides columns) rows a.0 good a.1 in
          let h = head-at cx columns a.0.heads i c g.typed there in
          let typed : IsHeadTyped cx c.type m.head = subst (IsHeadTyped cx c.type)
          (some-head h.0 m.head (sym h.1 ∙ m.there)) h.2 in
          let new : AreOf cx root (map (bind_at c.place) b.0.binds) = subst
          (λ (l : List MBound). AreOf cx root (map (bind_at c.place) l)) (sym m.binds)
          (bound-of cx root c e m.by.binds (each m.head m.by typed m.of)) in
          subst (λ (x : MRow T). AreOf cx root x.caught) (sym b.2) (of-append cx root a.0.caught
          (map (bind_at c.place) b.0.binds) (among-every
          (λ (x : MRow T). AreOf cx root x.caught) rows a.0 caught a.1) new)

  expanded-of : (t : T) (h : Head T) (y : Replacement T) → IsHeadTyped cx t h → Among y (expand_head h) →
      Every (λ (b : MBound). IsPartOf cx root t b.part) y.binds
  expanded-of t None y ty (inl e) =
      subst (λ (x : Replacement T). Every (λ (b : MBound). IsPartOf cx root t b.part) x.binds) (sym e) tt
  expanded-of t None y ty (inr e) = absurd e
  expanded-of t (Some p) y ty j =
      let m = among-map (λ x. record { heads = Some x.pat ∷ []; chosen = x.chosen; binds = x.binds })
      (choices_of p) y j in
      subst (λ (x : Replacement T). Every (λ (b : MBound). IsPartOf cx root t b.part) x.binds) (sym m.2)
      (whole-of cx root t m.0.binds (among-every (λ (x : Choice T). AreWhole x.binds) (choices_of p) m.0
      (choices-whole cx t p ty) m.1))

  lone-of : (t : T) (Y y : Replacement T) (b : Bool) → Every (λ (b : MBound). IsPartOf cx root t b.part) Y.binds →
      Among y (cond b (Y ∷ []) []) → Every (λ (b : MBound). IsPartOf cx root t b.part) y.binds
  lone-of t Y y true h (inl e) =
      subst (λ (x : Replacement T). Every (λ (b : MBound). IsPartOf cx root t b.part) x.binds) (sym e) h
  lone-of t Y y true h (inr e) = absurd e
  lone-of t Y y false h j = absurd j

  default-of : (t : T) (h : Head T) (y : Replacement T) → IsHeadTyped cx t h → Among y (default_head h) →
      Every (λ (b : MBound). IsPartOf cx root t b.part) y.binds
  default-of t h y ty j =
      lone-of t (record { heads = []; chosen = []; binds = own_binds h }) y _ (own-of cx root t h ty) j

  special-of : (p : MCtor) (n : ℕ) (t : T) (h : Head T) (y : Replacement T) → IsHeadTyped cx t h →
      Among y (specialise_head p n h) → Every (λ (b : MBound). IsPartOf cx root t b.part) y.binds
  special-of p n t None y ty (inl e) =
      subst (λ (x : Replacement T). Every (λ (b : MBound). IsPartOf cx root t b.part) x.binds) (sym e) tt
  special-of p n t None y ty (inr e) = absurd e
  special-of p n t (Some (de_pat k u uid at subs binds)) y ty j =
      lone-of t (record { heads = heads_of k (map Some (de_pats_list subs)) n; chosen = []; binds = binds }) y
      (has_piece k p) (own-of cx root t (Some (de_pat k u uid at subs binds)) ty) j

  -- the columns of the parts of a piece
  parts-of : (c : MColumn T) (p : MCtor) → IsType c.type → belongs (cx.set_of c.type) p ≡ true → IsColumnOf cx root c →
      ColumnsOf (part_columns cx c p)
  parts-of c p type b e =
      every-below (IsColumnOf cx root) _ (cx.arity p c.type) (λ i l. type-behind cx root c.type
      (cx.sub p c.type i) c.place _ e (part-entered IsType V cx law c.type type p i b l))

  module _ (Chooses : List (MColumn T) → List (MRow T) → ℕ → Type 0) (BareOnly : Type 0) where
    mutual
      pub lowered-of : (columns : List (MColumn T)) (rows : List (MRow T)) (t : MTree) →
          Lowers cx V decides Chooses BareOnly columns rows t → Good columns rows → ColumnsOf columns → RowsOf rows →
          IsTreeOf cx root t
      lowered-of _ _ _ (no_value_left columns b) g e h = tt
      lowered-of _ _ _ (no_row_left columns n) g e h = tt
      lowered-of _ _ _ (takes columns r rows w u) g e h = binds-of cx root columns r e g.rows_are.0.typed h.0
      lowered-of _ _ _ (asks columns r rows refused w u t) g e h = (
        binds-of cx root columns r e g.rows_are.0.typed h.0,
        lowered-of columns rows refused t
            (engine.others columns r rows g) e h.1,
      )
      lowered-of _ _ _ (drops i c columns rows expanded next tree pk there o w q t) g e h =
          let ready = engine.expanded i c columns rows expanded g there o in
          let at : IsColumnOf cx root c = column-at (IsColumnOf cx root) columns i c e there in
          lowered-of (replaced_at i columns []) next tree t (engine.dropped i c columns expanded next ready there q)
          (replaced-every (IsColumnOf cx root) i columns [] e tt)
          (step-of default_head i c columns expanded next ready.good.rows_are there at (default-of c.type) q
          (step-of expand_head i c columns rows expanded g.rows_are there at (expanded-of c.type) o h))
      lowered-of _ _ _ (opens i c columns rows expanded next piece tree pk there o w sl are q t) g e h =
          let ready = engine.expanded i c columns rows expanded g there o in
          let at : IsColumnOf cx root c = column-at (IsColumnOf cx root) columns i c e there in
          let column : IsGoodColumn IsType c = column-at (IsGoodColumn IsType) columns i c g.columns_are there in
          let fit : IsFit cx i c expanded (piece ∷ []) piece = pieces-fit IsType cx V values decides i c columns
          expanded (piece ∷ []) piece ready there are (inl refl) in
          lowered-of (replaced_at i columns (part_columns cx c piece)) next tree t
          (engine.entered i c columns expanded next (piece ∷ []) piece ready there are (inl refl) q)
          (replaced-every (IsColumnOf cx root) i columns (part_columns cx c piece) e
          (parts-of c piece column.type fit.belong at))
          (step-of (specialise_head piece (cx.arity piece c.type)) i c columns expanded next ready.good.rows_are there
          at (special-of piece (cx.arity piece c.type) c.type) q
          (step-of expand_head i c columns rows expanded g.rows_are there at (expanded-of c.type) o h))
      lowered-of _ _ _ (switches i c columns rows expanded pieces branches pk there o w sl are k) g e h =
          let ready = engine.expanded i c columns rows expanded g there o in
          let at : IsColumnOf cx root c = column-at (IsColumnOf cx root) columns i c e there in
          let r = branches-of i c columns expanded pieces pieces branches k ready there are (λ x m. m) e
          (step-of expand_head i c columns rows expanded g.rows_are there at (expanded-of c.type) o h) in
          ((c.type, at, r.0), r.1)

      branches-of : (i : ℕ) (c : MColumn T) (columns : List (MColumn T)) (rows : List (MRow T))
          (all pieces : List MCtor) (branches : MBranches) →
          Branches cx V decides Chooses BareOnly i c columns rows all pieces branches →
          Ready i columns rows → slice_get columns i ≡ Some c → ArePieces (cx.set_of c.type) (ctors_at i rows) all →
          ((x : MCtor) → Among x pieces → Among x all) → ColumnsOf columns → RowsOf rows →
          CasesOf cx root c.type branches × AreTreesOf cx root branches
      branches-of _ _ _ _ _ _ _ (no_else i c columns rows all none) ready there are sub e h = (tt, tt)
      branches-of _ _ _ _ _ _ _ (with_else i c columns rows next all piece tree m v o t) ready there are sub e h =
          let at : IsColumnOf cx root c = column-at (IsColumnOf cx root) columns i c e there in (
            (refl, tt),
            (
              lowered-of (replaced_at i columns []) next tree t (engine.dropped i c columns rows next ready there o)
                  (replaced-every (IsColumnOf cx root) i columns [] e tt)
                  (step-of default_head i c columns rows next ready.good.rows_are there at (default-of c.type) o h),
              tt,
            ),
          )
      branches-of _ _ _ _ _ _ _ (no_case i c columns rows all piece pieces branches x k) ready there are sub e h =
          branches-of i c columns rows all pieces branches k ready there are (λ y m. sub y (inr m)) e h
      branches-of _ _ _ _ _ _ _ (one_case i c columns rows next all piece pieces tree branches pr v o t k) ready there
          are sub e h =
          let at : IsColumnOf cx root c = column-at (IsColumnOf cx root) columns i c e there in
          let column : IsGoodColumn IsType c = column-at
          (IsGoodColumn IsType) columns i c ready.good.columns_are there in
          let mine : Among piece all = sub piece (inl refl) in
          let fit : IsFit cx i c rows all piece = pieces-fit IsType cx V values decides i c columns rows all piece
          ready there are mine in
          let rest = branches-of i c columns rows all pieces branches k ready there are (λ y m. sub y (inr m)) e h in (
            (case-of-ctor cx root c.type piece fit.belong, rest.0),
            (
              lowered-of (replaced_at i columns (part_columns cx c piece)) next tree t
                  (engine.entered i c columns rows next all piece ready there are mine o)
                  (replaced-every (IsColumnOf cx root) i columns (part_columns cx c piece) e
                  (parts-of c piece column.type fit.belong at))
                  (step-of (specialise_head piece (cx.arity piece c.type)) i c columns rows next ready.good.rows_are
                  there at (special-of piece (cx.arity piece c.type) c.type) o h),
              rest.1,
            ),
          )
