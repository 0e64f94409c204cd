-- A first row of wildcards and names has one way, and its names are there.
use Rattle.std.proofs.Common.{◌≡◌, ℕ, Bool, true, List, [], ◌∷◌, ◌++◌, Some, None, is_some, refl, subst, IsTrue, Ordering, Less, Equal, Greater}
use Rattle.std.specs.List.{list_all}
use Rattle.std.specs.Ordering.{match_ordering}
use Rattle.match_model.specs.Values.{MValue}
use Rattle.match_model.specs.Texts.{compare_texts}
use Rattle.match_model.specs.Constructors.{MCtor, WildCtor}
use Rattle.match_model.specs.Contexts.{Context}
use Rattle.match_model.specs.Ways.{put_by}
use Rattle.match_model.specs.ArenaPatterns.{de_pat}
use Rattle.match_model.specs.Places.{part_at}
use Rattle.match_model.specs.Trees.{MBind, bindings_in, places_are}
use Rattle.match_model.specs.Rows.{Head, is_wild, is_wild_ctor}
use Rattle.match_model.specs.Matrices.{MColumn, MRow, head_binds}
use Rattle.match_model.specs.DecisionTrees.{all_head_binds, by_name, row_binds, all_wild}
use Rattle.match_model.specs.WellTyped.{part_is_of, IsHeadTyped, AreHeadsTyped}
use Rattle.match_model.proofs.Basics.{both, and_true, untrue}
use Rattle.match_model.specs.Keys.{Decision}
use Rattle.match_model.specs.Lists.{Every}
use Rattle.match_model.specs.RowOrder.{row_key}
use Rattle.match_model.specs.KeyedWays.{row_keyed_tries}
use Rattle.keyed_rows.proofs.Leaf.{AreThere, leaf-way, places-bound}
use Rattle.keyed_steps.specs.Filled.{ArePartsAt, IsHeld}
use Rattle.keyed_steps.specs.Good.{IsGoodRow, IsGoodColumn, IsGood}
use Rattle.keyed_steps.proofs.HeadExpands.{AreWhole}
use Rattle.keyed_steps.proofs.Caught.{places-append}
use Rattle.keyed_steps.proofs.Standing.{position-there}

module _ (v : MValue) where
  put-places : (b : MBind) (bs : List MBind) → places_are v (b ∷ bs) ≡ true →
      places_are v (put_by (λ c. c.name) b bs) ≡ true
  put-places b [] h = h
  put-places b (c ∷ bs) h =
      let s = both (is_some (part_at b.place v)) (places_are v (c ∷ bs)) h in
      let t = both (is_some (part_at c.place v)) (places_are v bs) s.1 in
      go (compare_texts c.name b.name) (and_true (is_some (part_at c.place v))
      (places_are v (put_by (λ c. c.name) b bs)) t.0 (put-places b bs
      (and_true (is_some (part_at b.place v)) (places_are v bs) s.0 t.1)))
    where
      go : (o : Ordering) → places_are v (c ∷ put_by (λ c. c.name) b bs) ≡ true →
          places_are v (match_ordering o (c ∷ put_by (λ c. c.name) b bs) (b ∷ c ∷ bs) (b ∷ c ∷ bs)) ≡ true
      go Less k = k
      go Equal k = h
      go Greater k = h

  named-places : (bs : List MBind) → places_are v bs ≡ true → places_are v (by_name bs) ≡ true
  named-places [] h = refl
  named-places (b ∷ bs) h =
      let s = both (is_some (part_at b.place v)) (places_are v bs) h in
      put-places b (by_name bs) (and_true (is_some (part_at b.place v)) (places_are v (by_name bs)) s.0
      (named-places bs s.1))

module _ {T : Type 0} (IsType : T → Type 0) (cx : Context T) (V : T → Bool → MValue → Type 0)
    (decides : ℕ → Decision) where
  all-there : (columns : List (MColumn T)) (us : List MValue) (v : MValue) → Every (IsGoodColumn IsType) columns →
      ArePartsAt v columns us → AreThere v columns
  all-there [] us v g a = tt
  all-there (c ∷ columns) [] v g a = elim a [ ]
  all-there (c ∷ columns) (u ∷ us) v g a =
      (position-there c.place v u g.0.straight a.0, ((u, a.0), all-there columns us v g.1 a.1))

  wild : (k : MCtor) → is_wild_ctor k ≡ true → k ≡ WildCtor
  wild WildCtor w = refl
  wild _ w = untrue w

  one-places : (c : MColumn T) (h : Head T) (v u : MValue) → part_at c.place v ≡ Some u → is_wild h ≡ true →
      IsHeadTyped cx c.type h → places_are v (head_binds c.place h) ≡ true
  one-places c None v u e w t = refl
  one-places c (Some (de_pat k ty uid at subs binds)) v u e w t =
      let whole : AreWhole binds = subst (λ x. list_all (λ b. part_is_of x b.part) binds ≡ true) (wild k w) t.1 in
      places-bound v c.place u binds e whole

  heads-places : (columns : List (MColumn T)) (hs : List (Head T)) (us : List MValue) (v : MValue) →
      ArePartsAt v columns us → list_all is_wild hs ≡ true → AreHeadsTyped cx columns hs →
      places_are v (all_head_binds columns hs) ≡ true
  heads-places [] [] us v a w t = refl
  heads-places [] (h ∷ hs) us v a w t = elim t [ ]
  heads-places (c ∷ columns) [] us v a w t = elim t [ ]
  heads-places (c ∷ columns) (h ∷ hs) [] v a w t = elim a [ ]
  heads-places (c ∷ columns) (h ∷ hs) (u ∷ us) v a w t =
      let s = both (is_wild h) (list_all is_wild hs) w in
      places-append v (head_binds c.place h) (all_head_binds columns hs) (one-places c h v u a.0 s.0 t.0)
      (heads-places columns hs us v a.1 s.1 t.1)

  pub leaf : (columns : List (MColumn T)) (r : MRow T) (rows : List (MRow T)) (v : MValue) →
      IsGood IsType cx decides columns (r ∷ rows) → IsTrue (all_wild r) → IsHeld V columns v →
      IsTrue (places_are v r.caught) →
      (row_keyed_tries decides columns v r ≡ record {
        arm = r.arm;
        guarded = r.guarded;
        key = row_key decides r;
        bindings = bindings_in
            v (row_binds columns r);
      } ∷ [])
      × IsTrue (places_are v (row_binds columns r))
  leaf columns r rows v good w held caught =
      let g : IsGoodRow cx decides columns r = good.rows_are.0 in (
        leaf-way cx v decides columns r (all-there columns held.0 v good.columns_are held.2) w g.typed,
        named-places v (r.caught ++ all_head_binds columns r.heads)
            (places-append v r.caught (all_head_binds columns r.heads) caught
            (heads-places columns r.heads held.0 v held.2 w g.typed)),
      )

  pub others : (columns : List (MColumn T)) (r : MRow T) (rows : List (MRow T)) →
      IsGood IsType cx decides columns (r ∷ rows) → IsGood IsType cx decides columns rows
  others columns r rows good = record { columns_are = good.columns_are; rows_are = good.rows_are.1 }
