-- A step at any column keeps what there is to try.
use Rattle.std.proofs.Common.{◌≡◌, inl, inr, ℕ, List, [], ◌∷◌, ◌++◌, map, Option, Some, None, refl, sym, ap, ◌∙◌, subst}
use Rattle.match_model.specs.Values.{MValue}
use Rattle.match_model.specs.Ways.{Way, Binding, bind_into}
use Rattle.match_model.specs.Places.{part_at}
use Rattle.match_model.specs.Trees.{MBind, bindings_in}
use Rattle.match_model.specs.Rows.{Head}
use Rattle.match_model.specs.Matrices.{MColumn, MRow, ways_at, heads_ways, bind_at}
use Rattle.match_model.specs.Keys.{Decision}
use Rattle.match_model.specs.Lists.{Every, Among, SameMembers}
use Rattle.match_model.specs.Steps.{Replacement, replaced_at, replacements_at, row_replaced, rows_at}
use Rattle.match_model.specs.RowOrder.{row_key, AreInOrder}
use Rattle.match_model.specs.KeyedWays.{KeyedTry, keyed_try, row_keyed_tries, keyed_tries}
use Rattle.keyed_rows.proofs.Parting.{among-map}
use Rattle.keyed_rows.proofs.RowOrder.{among-flat, key-of-row}
use Rattle.keyed_rows.proofs.Bindings.{Canonical, canonical-into, both-put, put_all, put-into}
use Rattle.keyed_rows.proofs.PullOut.{Done, times, times-assoc, map-among, flat-among, done_of, replacement_done, StepsAt, pull, push, Pulled}

module _ (v : MValue) where
  -- the binding of a name, where its place is there
  abbrev pub bound_into : MBind → Option MValue → List Binding → List Binding
  bound_into b None bs = bs
  bound_into b (Some u) bs = bind_into (record { name = b.name; mode = b.mode; value = u }) bs

  pub bound : (b : MBind) (bs : List MBind) → bindings_in v (b ∷ bs) ≡ bound_into b (part_at b.place v) (bindings_in
      v bs)
  bound b bs = go (part_at b.place v)
    where
      go : (o : Option MValue) → (elim o [
        | None ↦ bindings_in v bs
        | Some u ↦ bind_into
            (record { name = b.name; mode = b.mode; value = u }) (bindings_in v bs)
      ]) ≡ bound_into b o (bindings_in v bs)
      go None = refl
      go (Some u) = refl

  bound-canonical : (b : MBind) (o : Option MValue) (bs : List Binding) → Canonical bs → Canonical (bound_into b o bs)
  bound-canonical b None bs h = h
  bound-canonical b (Some u) bs h = canonical-into (record { name = b.name; mode = b.mode; value = u }) bs h

  bound-put : (b : MBind) (o : Option MValue) (xs ys : List Binding) →
      bound_into b o (put_all xs ys) ≡ put_all (bound_into b o xs) ys
  bound-put b None xs ys = refl
  bound-put b (Some u) xs ys = sym (put-into (record { name = b.name; mode = b.mode; value = u }) xs ys)

  pub caught-canonical : (bs : List MBind) → Canonical (bindings_in v bs)
  caught-canonical [] = refl
  caught-canonical (b ∷ bs) =
      subst Canonical (sym (bound b bs)) (bound-canonical b (part_at b.place v) (bindings_in v bs)
      (caught-canonical bs))

  pub caught-append : (xs ys : List MBind) → bindings_in v (xs ++ ys) ≡ put_all (bindings_in v xs) (bindings_in v ys)
  caught-append [] ys = refl
  caught-append (b ∷ xs) ys =
      bound b (xs ++ ys) ∙ (ap (bound_into b (part_at b.place v)) (caught-append xs ys)
      ∙ (bound-put b (part_at b.place v) (bindings_in v xs) (bindings_in v ys)
      ∙ ap (λ l. put_all l (bindings_in v ys)) (sym (bound b xs))))

module _ {T : Type 0} (decides : ℕ → Decision) (f : Head T → List (Replacement T)) (e : MColumn T)
    (new : List (MColumn T)) (v : MValue)
    (canonical : (h : Head T) (o : Option (List ℕ)) (u : Option MValue) (a : Way) → Among a (ways_at o u h) →
    Canonical a.bindings)
    (canonical_ways : (cs : List (MColumn T)) (hs : List (Head T)) (w : Way) → Among w (heads_ways cs hs v) →
    Canonical w.bindings) where
  -- what the row has decided and caught
  abbrev R : MRow T → Done
  R r = record { key = row_key decides r; bindings = bindings_in v r.caught }

  row-done : (r : MRow T) (y : Replacement T) → R (row_replaced e.place r y) ≡ times (R r)
      (replacement_done decides e.place v y)
  row-done r y =
      rw (
        key-of-row decides e.place r y,
        caught-append v r.caught (map (bind_at e.place) y.binds)
            ∙ sym (both-put (bindings_in v r.caught) (bindings_in v (map (bind_at e.place) y.binds))
            (caught-canonical v r.caught)),
      ) refl

  abbrev as_tried : MRow T → Done → KeyedTry
  as_tried r d = record { arm = r.arm; guarded = r.guarded; key = d.key; bindings = d.bindings }

  -- a way of the row, and one of a row that it becomes
  same-tried : (r : MRow T) (y : Replacement T) (a w : Way) →
      done_of decides a ≡ times (replacement_done decides e.place v y) (done_of decides w) →
      keyed_try decides v r a ≡ keyed_try decides v (row_replaced e.place r y) w
  same-tried r y a w h =
      ap (λ d. as_tried r (times (R r) d)) h
      ∙ (ap (as_tried r) (sym (times-assoc (R r) (replacement_done decides e.place v y) (done_of decides w)
      (caught-canonical v r.caught) (caught-canonical v (map (bind_at e.place) y.binds))))
      ∙ ap (λ d. as_tried r (times d (done_of decides w))) (sym (row-done r y)))

  module _ (i : ℕ) (cs : List (MColumn T)) where
    -- what there is to try of the rows after the step
    abbrev After : List (MRow T) → List KeyedTry
    After rows = keyed_tries decides (replaced_at i cs new) v (rows_at f e.place i rows)

    forth : (rows : List (MRow T)) → Every (λ r. StepsAt decides f e new v i cs r.heads) rows → (z : KeyedTry) →
        Among z (keyed_tries decides cs v rows) → Among z (After rows)
    forth rows s z a =
        let k = among-flat (row_keyed_tries decides cs v) rows z a in
        let m = among-map (keyed_try decides v k.0) (heads_ways cs k.0.heads v) z k.2 in
        go k.0 k.1 m.0 m.2 (pull decides f e new v canonical (λ y. caught-canonical v
        (map (bind_at e.place) y.binds)) canonical_ways i cs k.0.heads (steps rows s k.0 k.1) m.0 m.1)
      where
        steps : (l : List (MRow T)) → Every (λ r. StepsAt decides f e new v i cs r.heads) l → (r : MRow T) →
            Among r l → StepsAt decides f e new v i cs r.heads
        steps [] s r a = elim a [ ]
        steps (x ∷ l) s r (inl h) = subst (λ y. StepsAt decides f e new v i cs y.heads) (sym h) s.0
        steps (x ∷ l) s r (inr a) = steps l s.1 r a

        go : (r : MRow T) → Among r rows → (a : Way) → z ≡ keyed_try decides v r a →
            Pulled decides f e new v canonical (λ y. caught-canonical v
            (map (bind_at e.place) y.binds)) canonical_ways i cs r.heads (done_of decides a) → Among z (After rows)
        go r j a h p =
            subst (λ x. Among x (After rows)) (sym (h ∙ same-tried r p.replacement a p.way p.is))
            (flat-among (row_keyed_tries decides (replaced_at i cs new) v) (rows_at f e.place i rows)
            (row_replaced e.place r p.replacement) (keyed_try decides v (row_replaced e.place r p.replacement) p.way)
            (flat-among (λ x. map (row_replaced e.place x) (replacements_at f i x.heads)) rows r
            (row_replaced e.place r p.replacement) j (map-among (row_replaced e.place r)
            (replacements_at f i r.heads) p.replacement p.by))
            (map-among (keyed_try decides v (row_replaced e.place r p.replacement))
            (heads_ways (replaced_at i cs new) p.replacement.heads v) p.way p.of))

    back : (rows : List (MRow T)) → Every (λ r. StepsAt decides f e new v i cs r.heads) rows → (z : KeyedTry) →
        Among z (After rows) → Among z (keyed_tries decides cs v rows)
    back rows s z a =
        let k = among-flat (row_keyed_tries decides (replaced_at i cs new) v) (rows_at f e.place i rows) z a in
        let m = among-flat (λ x. map (row_replaced e.place x) (replacements_at f i x.heads)) rows k.0 k.1 in
        let n = among-map (row_replaced e.place m.0) (replacements_at f i m.0.heads) k.0 m.2 in
        go m.0 m.1 n.0 n.1 (subst (λ x. Among z (row_keyed_tries decides (replaced_at i cs new) v x)) n.2 k.2)
      where
        steps : (l : List (MRow T)) → Every (λ r. StepsAt decides f e new v i cs r.heads) l → (r : MRow T) →
            Among r l → StepsAt decides f e new v i cs r.heads
        steps [] s r a = elim a [ ]
        steps (x ∷ l) s r (inl h) = subst (λ y. StepsAt decides f e new v i cs y.heads) (sym h) s.0
        steps (x ∷ l) s r (inr a) = steps l s.1 r a

        go : (r : MRow T) → Among r rows → (y : Replacement T) → Among y (replacements_at f i r.heads) →
            Among z (row_keyed_tries decides (replaced_at i cs new) v (row_replaced e.place r y)) →
            Among z (keyed_tries decides cs v rows)
        go r j y b t =
            let w = among-map (keyed_try decides v (row_replaced e.place r y))
            (heads_ways (replaced_at i cs new) y.heads v) z t in
            let p = push decides f e new v canonical (λ y. caught-canonical v
            (map (bind_at e.place) y.binds)) canonical_ways i cs r.heads (steps rows s r j) y b w.0 w.1 in
            subst (λ x. Among x (keyed_tries decides cs v rows)) (sym (w.2 ∙ sym (same-tried r y p.way w.0 p.is)))
            (flat-among (row_keyed_tries decides cs v) rows r (keyed_try decides v r p.way) j
            (map-among (keyed_try decides v r) (heads_ways cs r.heads v) p.way p.of))

    member : (rows sorted : List (MRow T)) → SameMembers rows sorted → (z : KeyedTry) →
        Among z (keyed_tries decides (replaced_at i cs new) v rows) →
        Among z (keyed_tries decides (replaced_at i cs new) v sorted)
    member rows sorted s z a =
        let k = among-flat (row_keyed_tries decides (replaced_at i cs new) v) rows z a in
        flat-among (row_keyed_tries decides (replaced_at i cs new) v) sorted k.0 z (s.forth k.0 k.1) k.2

    -- a step at column `i` keeps what there is to try, in whatever order its rows then stand
    pub step-same : (rows sorted : List (MRow T)) → Every (λ r. StepsAt decides f e new v i cs r.heads) rows →
        AreInOrder decides (rows_at f e.place i rows) sorted →
        SameMembers (keyed_tries decides cs v rows) (keyed_tries decides (replaced_at i cs new) v sorted)
    step-same rows sorted s o = record {
      forth = λ z a. member (rows_at f e.place i rows) sorted o.same z (forth rows s z a);
      back =
          λ z a. back rows s z (member sorted (rows_at f e.place i rows)
          (record { forth = o.same.back; back = o.same.forth }) z a);
    }
