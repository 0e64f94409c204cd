-- A row of wildcards and names has one way, which binds what the row binds.
use Rattle.std.proofs.Common.{◌≡◌, ℕ, Bool, true, ◌&&◌, List, [], ◌∷◌, ◌++◌, map, Option, Some, None, is_some, refl, sym, ap, ◌∙◌, subst, IsTrue, Ordering, Less, Equal, Greater}
use Rattle.std.specs.Ordering.{match_ordering}
use Rattle.std.specs.List.{list_all}
use Rattle.match_model.specs.Values.{MValue}
use Rattle.match_model.specs.Texts.{compare_texts}
use Rattle.match_model.specs.Constructors.{SingleCtor, PointCtor, LaterCtor, OtherTextCtor, WildCtor, OrCtor, VariantCtor, FlagCtor, NumbersCtor, TextCtor, RowCtor}
use Rattle.match_model.specs.Contexts.{Context}
use Rattle.match_model.specs.Ways.{Way, Binding, bare_way, join, combine, put_by, bind_into, bindings_of_both}
use Rattle.match_model.specs.ArenaPatterns.{MBound, MPart, WholePart, MiddlePart, de_pat}
use Rattle.match_model.specs.ArenaWays.{with_bounds, bound_part}
use Rattle.match_model.specs.Places.{MStep, part_at, position_at}
use Rattle.match_model.specs.Trees.{MBind, bindings_in, places_are}
use Rattle.match_model.specs.Rows.{Head, is_wild}
use Rattle.match_model.specs.Matrices.{MColumn, MRow, under_all, ways_at, heads_ways, head_binds, bind_at}
use Rattle.match_model.specs.DecisionTrees.{all_head_binds, by_name, row_binds}
use Rattle.match_model.specs.WellTyped.{part_is_of, IsHeadTyped, AreHeadsTyped}
use Rattle.match_model.proofs.Basics.{both}
use Rattle.match_model.specs.Keys.{Decision, both_keys}
use Rattle.match_model.specs.Numbering.{way_key}
use Rattle.match_model.specs.RowOrder.{row_key}
use Rattle.match_model.specs.KeyedWays.{keyed_try, row_keyed_tries}
use Rattle.keyed_rows.proofs.Lists.{or_else-none}
use Rattle.keyed_rows.proofs.Bindings.{Canonical, swap-less, put_all, both-put}
use Rattle.keyed_rows.proofs.StepSame.{bound_into, bound, caught-canonical, caught-append}

-- each column's place is there
abbrev pub AreThere : {T : Type 0} → MValue → List (MColumn T) → Type 0
AreThere v [] = Unit {0}
AreThere v (c ∷ cs) =
    ((p : List ℕ) × (position_at c.place v ≡ Some p)) × (((u : MValue) × (part_at c.place v ≡ Some u)) × AreThere v cs)

module _ (v : MValue) where
  -- the order in which names are bound does not count
  bound-swap : (b c : MBind) (o p : Option MValue) (bs : List Binding) → compare_texts c.name b.name ≡ Less →
      bound_into v c p (bound_into v b o bs) ≡ bound_into v b o (bound_into v c p bs)
  bound-swap b c None p bs h = refl
  bound-swap b c (Some u) None bs h = refl
  bound-swap b c (Some u) (Some w) bs h =
      swap-less (record { name = c.name; mode = c.mode; value = w })
      (record { name = b.name; mode = b.mode; value = u }) bs h

  put-bound : (b : MBind) (bs : List MBind) → bindings_in v (put_by (λ c. c.name) b bs) ≡ bindings_in v (b ∷ bs)
  put-bound b [] = refl
  put-bound b (c ∷ rest) = go (compare_texts c.name b.name) refl (put-bound b rest)
    where
      go : (o : Ordering) → compare_texts c.name b.name ≡ o → bindings_in v (put_by (λ c. c.name) b rest) ≡ bindings_in
          v (b ∷ rest) →
          bindings_in v (match_ordering o (c ∷ put_by (λ c. c.name) b rest) (b ∷ c ∷ rest)
          (b ∷ c ∷ rest)) ≡ bindings_in v (b ∷ c ∷ rest)
      go Less e ih =
          bound v c (put_by (λ c. c.name) b rest)
          ∙ (ap (bound_into v c (part_at c.place v)) (ih ∙ bound v b rest)
          ∙ (bound-swap b c (part_at b.place v) (part_at c.place v) (bindings_in v rest) e
          ∙ (ap (bound_into v b (part_at b.place v)) (sym (bound v c rest)) ∙ sym (bound v b (c ∷ rest)))))
      go Equal e ih = refl
      go Greater e ih = refl

  pub named-same : (bs : List MBind) → bindings_in v (by_name bs) ≡ bindings_in v bs
  named-same [] = refl
  named-same (b ∷ bs) =
      put-bound b (by_name bs) ∙ (bound v b (by_name bs) ∙ (ap (bound_into v b (part_at b.place v)) (named-same bs)
      ∙ sym (bound v b bs)))

  -- whole values, at a place that is there
  pub whole-bound : (place : List MStep) (u : MValue) (bs : List MBound) → part_at place v ≡ Some u →
      IsTrue (list_all (λ b. part_is_of WildCtor b.part) bs) → (with_bounds bs u bare_way).bindings ≡ bindings_in
      v (map (bind_at place) bs)
  whole-bound place u [] e h = refl
  whole-bound place u (b ∷ bs) e h =
      go b.part refl (both (part_is_of WildCtor b.part) (list_all (λ b. part_is_of WildCtor b.part) bs) h).0
      (whole-bound place u bs e (both (part_is_of WildCtor b.part) (list_all (λ b. part_is_of WildCtor b.part) bs) h).1)
    where
      go : (p : MPart) → b.part ≡ p → part_is_of WildCtor p ≡ true → (with_bounds bs u bare_way).bindings ≡ bindings_in
          v (map (bind_at place) bs) → (with_bounds (b ∷ bs) u bare_way).bindings ≡ bindings_in
          v (map (bind_at place) (b ∷ bs))
      go WholePart q k ih =
          let here : part_at (bind_at place b).place v ≡ Some u = subst
          (λ p. part_at (bind_at place (record b { part = p })).place v ≡ Some u) (sym q) e in
          let value : bound_part b.part u ≡ u = ap (λ p. bound_part p u) q in
          ap (λ x. bind_into (record { name = b.name; mode = b.mode; value = x }) (with_bounds bs u bare_way).bindings)
          value
          ∙ (ap (bind_into (record { name = b.name; mode = b.mode; value = u })) ih
          ∙ (ap (λ o. bound_into v (bind_at place b) o (bindings_in v (map (bind_at place) bs))) (sym here)
          ∙ sym (bound v (bind_at place b) (map (bind_at place) bs))))
      go (MiddlePart f g) q k ih = cc

  pub places-bound : (place : List MStep) (u : MValue) (bs : List MBound) → part_at place v ≡ Some u →
      IsTrue (list_all (λ b. part_is_of WildCtor b.part) bs) → IsTrue (places_are v (map (bind_at place) bs))
  places-bound place u [] e h = refl
  places-bound place u (b ∷ bs) e h =
      both-true _ _ (go b.part refl (both (part_is_of WildCtor b.part)
      (list_all (λ b. part_is_of WildCtor b.part) bs) h).0) (places-bound place u bs e
      (both (part_is_of WildCtor b.part) (list_all (λ b. part_is_of WildCtor b.part) bs) h).1)
    where
      both-true : (a c : Bool) → a ≡ true → c ≡ true → (a && c) ≡ true
      both-true a c p q = rw (p, q) refl

      go : (p : MPart) → b.part ≡ p → part_is_of WildCtor p ≡ true → is_some (part_at (bind_at place b).place v) ≡ true
      go WholePart q k =
          let here : part_at (bind_at place b).place v ≡ Some u = subst
          (λ p. part_at (bind_at place (record b { part = p })).place v ≡ Some u) (sym q) e in
          ap is_some here
      go (MiddlePart f g) q k = cc

pub under-bare : (is : List ℕ) (w : Way) → ((under_all is w).trace ≡ w.trace) × ((under_all is w).bindings ≡ w.bindings)
under-bare [] w = (refl, refl)
under-bare (i ∷ is) w = under-bare is w

pub bounds-trace : (bs : List MBound) (v : MValue) (w : Way) → (with_bounds bs v w).trace ≡ w.trace
bounds-trace [] v w = refl
bounds-trace (b ∷ rest) v w = bounds-trace rest v w

module _ {T : Type 0} (cx : Context T) (v : MValue) where
  -- the one way of some heads
  record Lone (ws : List Way) (binds : List MBind) : Type 0 where
    pub way : Way
    pub is : ws ≡ way ∷ []
    pub trace : way.trace ≡ []
    pub bindings : way.bindings ≡ bindings_in v binds
    pub canonical : Canonical way.bindings

  wild-lone : (c : MColumn T) (h : Head T) (is : List ℕ) (u : MValue) → part_at c.place v ≡ Some u →
      IsTrue (is_wild h) → IsHeadTyped cx c.type h → Lone (ways_at (Some is) (Some u) h) (head_binds c.place h)
  wild-lone c None is u e w t =
      record {
        way = under_all is bare_way;
        is = refl;
        trace = (under-bare is bare_way).0;
        bindings = (under-bare is bare_way).1;
        canonical = subst Canonical (sym (under-bare is bare_way).1) refl;
      }
  wild-lone c (Some (de_pat WildCtor ty uid at subs binds)) is u e w t =
      let x : Way = with_bounds binds u bare_way in
      let b : (under_all is x).bindings ≡ bindings_in v (map (bind_at c.place) binds) = (under-bare is x).1
      ∙ whole-bound v c.place u binds e t.1 in
      record {
        way = under_all is x;
        is = refl;
        trace = (under-bare is x).0
            ∙ bounds-trace binds u bare_way;
        bindings = b;
        canonical = subst Canonical (sym b)
            (caught-canonical v (map (bind_at c.place) binds));
      }
  wild-lone c (Some (de_pat SingleCtor ty uid at subs binds)) is u e w t = cc
  wild-lone c (Some (de_pat PointCtor ty uid at subs binds)) is u e w t = cc
  wild-lone c (Some (de_pat LaterCtor ty uid at subs binds)) is u e w t = cc
  wild-lone c (Some (de_pat OtherTextCtor ty uid at subs binds)) is u e w t = cc
  wild-lone c (Some (de_pat OrCtor ty uid at subs binds)) is u e w t = cc
  wild-lone c (Some (de_pat (VariantCtor k) ty uid at subs binds)) is u e w t = cc
  wild-lone c (Some (de_pat (FlagCtor b) ty uid at subs binds)) is u e w t = cc
  wild-lone c (Some (de_pat (NumbersCtor r) ty uid at subs binds)) is u e w t = cc
  wild-lone c (Some (de_pat (TextCtor x) ty uid at subs binds)) is u e w t = cc
  wild-lone c (Some (de_pat (RowCtor s) ty uid at subs binds)) is u e w t = cc

  -- a row of wildcards has one way
  wilds-lone : (cs : List (MColumn T)) (hs : List (Head T)) → AreThere v cs → IsTrue (list_all is_wild hs) →
      AreHeadsTyped cx cs hs → Lone (heads_ways cs hs v) (all_head_binds cs hs)
  wilds-lone [] [] there w t = record { way = bare_way; is = refl; trace = refl; bindings = refl; canonical = refl }
  wilds-lone [] (h ∷ hs) there w t = elim t [ ]
  wilds-lone (c ∷ cs) [] there w t = elim t [ ]
  wilds-lone (c ∷ cs) (h ∷ hs) there w t =
      let k = both (is_wild h) (list_all is_wild hs) w in
      let a = wild-lone c h there.0.0 there.1.0.0 there.1.0.1 k.0 t.0 in
      let b = wilds-lone cs hs there.1.1 k.1 t.1 in
      let first : ways_at (position_at c.place v) (part_at c.place v) h ≡ a.way ∷ [] = rw
      (there.0.1, there.1.0.1) a.is in
      let joined : bindings_of_both a.way.bindings b.way.bindings ≡ bindings_in v (head_binds c.place h ++ all_head_binds cs hs) =
      both-put a.way.bindings b.way.bindings a.canonical ∙ (ap (λ l. put_all l b.way.bindings) a.bindings ∙
      (ap (put_all (bindings_in v (head_binds c.place h))) b.bindings
      ∙ sym (caught-append v (head_binds c.place h) (all_head_binds cs hs)))) in
      record {
        way = join a.way b.way;
        is = ap (λ l. combine l (heads_ways cs hs v)) first ∙ ap (combine (a.way ∷ [])) b.is;
        trace = ap (λ l. l ++ b.way.trace) a.trace ∙ b.trace;
        bindings = joined;
        canonical = subst Canonical (sym joined) (caught-canonical v (head_binds c.place h ++ all_head_binds cs hs));
      }

  -- and it binds what the row binds
  pub leaf-way : (decides : ℕ → Decision) (cs : List (MColumn T)) (r : MRow T) → AreThere v cs →
      IsTrue (list_all is_wild r.heads) → AreHeadsTyped cx cs r.heads →
      row_keyed_tries decides cs v r ≡ record
      { arm = r.arm; guarded = r.guarded; key = row_key decides r; bindings = bindings_in v (row_binds cs r) } ∷ []
  leaf-way decides cs r there w t =
      let l = wilds-lone cs r.heads there w t in
      let key : both_keys (row_key decides r) (way_key decides l.way) ≡ row_key decides r = same-key l.way l.trace in
      let bindings : bindings_of_both (bindings_in v r.caught) l.way.bindings ≡ bindings_in v (row_binds cs r) =
      both-put (bindings_in v r.caught) l.way.bindings (caught-canonical v r.caught)
      ∙ (ap (put_all (bindings_in v r.caught)) l.bindings
      ∙ (sym (caught-append v r.caught (all_head_binds cs r.heads))
      ∙ sym (named-same v (r.caught ++ all_head_binds cs r.heads)))) in
      ap (map (keyed_try decides v r)) l.is ∙ rw (key, bindings) refl
    where
      same-key : (w : Way) → w.trace ≡ [] → both_keys (row_key decides r) (way_key decides w) ≡ row_key decides r
      same-key w e = λ i. λ o. at o i
        where
          at : (o : ℕ) → both_keys (row_key decides r) (way_key decides w) o ≡ row_key decides r o
          at o = rw e (or_else-none (row_key decides r o))
