-- What a step decides and catches at any column may be taken to the front of a row's ways.
use Rattle.std.proofs.Common.{◌≡◌, ◌⊎◌, inl, inr, ℕ, zero, suc, List, [], ◌∷◌, ◌++◌, map, length, Option, Some, None, refl, sym, ap, ◌∙◌, arith, subst}
use Rattle.std.specs.List.{flat_map}
use Rattle.std.proofs.lemmas.List.{map-append}
use Rattle.match_model.specs.Values.{MValue}
use Rattle.match_model.specs.Ways.{Way, Binding, join, combine, bindings_of_both}
use Rattle.match_model.specs.Places.{MStep, part_at, position_at}
use Rattle.match_model.specs.Trees.{bindings_in}
use Rattle.match_model.specs.Rows.{Head}
use Rattle.match_model.specs.Matrices.{MColumn, ways_at, heads_ways, bind_at}
use Rattle.match_model.proofs.Joins.{combine_bare_left, combine_assoc}
use Rattle.match_model.specs.Keys.{Decision, or_else, Key, key_of, both_keys}
use Rattle.match_model.specs.Lists.{Among}
use Rattle.match_model.specs.Numbering.{way_key}
use Rattle.match_model.specs.Steps.{Replacement, replaced_at, with_others, with_head, replacements_at}
use Rattle.keyed_rows.specs.Dividing.{replacement_key}
use Rattle.keyed_rows.proofs.Lists.{key_of-append}
use Rattle.keyed_rows.proofs.Parting.{among-map}
use Rattle.keyed_rows.proofs.RowOrder.{among-flat}
use Rattle.keyed_rows.proofs.Bindings.{Canonical, both-swap, both-assoc, Apart}

pub map-among : {A B : Type 0} (f : A → B) (xs : List A) (x : A) → Among x xs → Among (f x) (map f xs)
map-among f [] x a = elim a [ ]
map-among f (y ∷ xs) x (inl e) = inl (ap f e)
map-among f (y ∷ xs) x (inr a) = inr (map-among f xs x a)

pub left-among : {A : Type 0} (xs ys : List A) (x : A) → Among x xs → Among x (xs ++ ys)
left-among [] ys x a = elim a [ ]
left-among (y ∷ xs) ys x (inl e) = inl e
left-among (y ∷ xs) ys x (inr a) = inr (left-among xs ys x a)

pub right-among : {A : Type 0} (xs ys : List A) (x : A) → Among x ys → Among x (xs ++ ys)
right-among [] ys x a = a
right-among (y ∷ xs) ys x a = inr (right-among xs ys x a)

pub flat-among : {A B : Type 0} (f : A → List B) (xs : List A) (x : A) (y : B) → Among x xs → Among y (f x) →
    Among y (flat_map f xs)
flat-among f [] x y a b = elim a [ ]
flat-among f (z ∷ xs) x y (inl e) b = left-among (f z) (flat_map f xs) y (subst (λ w. Among y (f w)) e b)
flat-among f (z ∷ xs) x y (inr a) b = right-among (f z) (flat_map f xs) y (flat-among f xs x y a b)

-- what is decided and what is bound
pub record Done : Type 0 where
  pub key : Key
  pub bindings : List Binding

-- both together
abbrev pub times : Done → Done → Done
times x y = record { key = both_keys x.key y.key; bindings = bindings_of_both x.bindings y.bindings }

keys-assoc : (f g h : Key) → both_keys (both_keys f g) h ≡ both_keys f (both_keys g h)
keys-assoc f g h = λ i. λ o. at o i
  where
    go : (a b c : Option ℕ) → or_else (or_else a b) c ≡ or_else a (or_else b c)
    go None b c = refl
    go (Some x) b c = refl

    at : (o : ℕ) → both_keys (both_keys f g) h o ≡ both_keys f (both_keys g h) o
    at o = go (f o) (g o) (h o)

-- no or-pattern is decided by both
abbrev pub Separate : Key → Key → Type 0
Separate f g = (o : ℕ) → (f o ≡ None) ⊎ (g o ≡ None)

keys-swap : (f g : Key) → Separate f g → both_keys f g ≡ both_keys g f
keys-swap f g s = λ i. λ o. at o i
  where
    none : (a : Option ℕ) → a ≡ or_else a None
    none None = refl
    none (Some x) = refl

    at : (o : ℕ) → both_keys f g o ≡ both_keys g f o
    at o = elim (s o) [
      | inl e ↦ rw e (none (g o))
      | inr e ↦ rw e (sym (none (f o)))
    ]

pub times-assoc : (x y z : Done) → Canonical x.bindings → Canonical y.bindings →
    times (times x y) z ≡ times x (times y z)
times-assoc x y z h k = rw (keys-assoc x.key y.key z.key, both-assoc x.bindings y.bindings z.bindings h k) refl

pub times-swap : (x y : Done) → Separate x.key y.key → Canonical x.bindings → Canonical y.bindings →
    Apart x.bindings y.bindings → times x y ≡ times y x
times-swap x y s h k a = rw (keys-swap x.key y.key s, both-swap x.bindings y.bindings h k a) refl

module _ (decides : ℕ → Decision) where
  abbrev pub done_of : Way → Done
  done_of w = record { key = way_key decides w; bindings = w.bindings }

  way-key-join : (a b : Way) → way_key decides (join a b) ≡ both_keys (way_key decides a) (way_key decides b)
  way-key-join a b = λ i. λ o. at o i
    where
      at : (o : ℕ) → way_key decides (join a b) o ≡ both_keys (way_key decides a) (way_key decides b) o
      at o =
          ap (λ l. key_of l o) (map-append decides a.trace b.trace) ∙ key_of-append (map decides a.trace)
          (map decides b.trace) o

  pub done-join : (a b : Way) → done_of (join a b) ≡ times (done_of a) (done_of b)
  done-join a b = rw (way-key-join a b) refl

  -- the ways of one column and of those behind it
  record Parts (ws us : List Way) (z : Way) : Type 0 where
    pub first : Way
    pub in_first : Among first ws
    pub second : Way
    pub in_second : Among second us
    pub is : z ≡ join first second

  combine-elim : (ws us : List Way) (z : Way) → Among z (combine ws us) → Parts ws us z
  combine-elim ws us z a =
      let f = among-flat (λ w. map (join w) us) ws z a in
      let m = among-map (join f.0) us z f.2 in
      record { first = f.0; in_first = f.1; second = m.0; in_second = m.1; is = m.2 }

  combine-intro : (ws us : List Way) (a b : Way) → Among a ws → Among b us → Among (join a b) (combine ws us)
  combine-intro ws us a b h k = flat-among (λ w. map (join w) us) ws a (join a b) h (map-among (join a) us b k)

module _ {T : Type 0} where
  -- the ways of heads one after the other
  heads-append : (ns cs : List (MColumn T)) (ys hs : List (Head T)) (v : MValue) → length ys ≡ length ns →
      heads_ways (ns ++ cs) (ys ++ hs) v ≡ combine (heads_ways ns ys v) (heads_ways cs hs v)
  heads-append [] cs [] hs v e = sym (combine_bare_left (heads_ways cs hs v))
  heads-append [] cs (y ∷ ys) hs v e = absurd (omega (arith, e))
  heads-append (n ∷ ns) cs [] hs v e = absurd (omega (arith, e))
  heads-append (n ∷ ns) cs (y ∷ ys) hs v e =
      ap (combine (ways_at (position_at n.place v) (part_at n.place v) y))
      (heads-append ns cs ys hs v (omega (arith, e)))
      ∙ sym (combine_assoc (ways_at (position_at n.place v) (part_at n.place v) y) (heads_ways ns ys v)
      (heads_ways cs hs v))

module _ {T : Type 0} (decides : ℕ → Decision) where
  -- what a replacement decides and catches at a place
  abbrev pub replacement_done : List MStep → MValue → Replacement T → Done
  replacement_done place v y =
      record { key = replacement_key decides y; bindings = bindings_in v (map (bind_at place) y.binds) }

  -- a step at one column keeps the ways of its head
  pub record HeadKeeps (f : Head T → List (Replacement T)) (c : MColumn T) (new : List (MColumn T)) (v : MValue)
      (h : Head T) : Type 0 where
    pub wide : (y : Replacement T) → Among y (f h) → length y.heads ≡ length new
    pub forth : (a : Way) → Among a (ways_at (position_at c.place v) (part_at c.place v) h) →
        (y : Replacement T) × Among y (f h) × ((w : Way) × Among w (heads_ways new y.heads v) ×
        (done_of decides a ≡ times (replacement_done c.place v y) (done_of decides w)))
    pub back : (y : Replacement T) → Among y (f h) → (w : Way) → Among w (heads_ways new y.heads v) →
        (a : Way) × Among a (ways_at (position_at c.place v) (part_at c.place v) h)
        × (done_of decides a ≡ times (replacement_done c.place v y) (done_of decides w))

  -- the step at column `i`, whose place this is, keeps the ways of its head; what the columns before decide and catch may
  -- change places with what it decides and catches
  abbrev pub StepsAt : (f : Head T → List (Replacement T)) → MColumn T → (new : List (MColumn T)) → MValue → ℕ →
      List (MColumn T) → List (Head T) → Type 0
  StepsAt f e new v i [] hs = ⊥
  StepsAt f e new v i (c ∷ cs) [] = ⊥
  StepsAt f e new v zero (c ∷ cs) (h ∷ hs) = (c ≡ e) × HeadKeeps f e new v h
  StepsAt f e new v (suc i) (c ∷ cs) (h ∷ hs) =
      ((a : Way) → Among a (ways_at (position_at c.place v) (part_at c.place v) h) → (y : Replacement T) →
      Among y (replacements_at f i hs) → times (done_of decides a) (replacement_done e.place v y) ≡ times
      (replacement_done e.place v y) (done_of decides a))
      × StepsAt f e new v i cs hs

  module _ (f : Head T → List (Replacement T)) (e : MColumn T) (new : List (MColumn T)) (v : MValue)
      (canonical : (h : Head T) (o : Option (List ℕ)) (u : Option MValue) (a : Way) → Among a (ways_at o u h) →
      Canonical a.bindings)
      (canonical_binds : (y : Replacement T) → Canonical (bindings_in v (map (bind_at e.place) y.binds)))
      (canonical_ways : (cs : List (MColumn T)) (hs : List (Head T)) (w : Way) → Among w (heads_ways cs hs v) →
      Canonical w.bindings) where
    abbrev D : Way → Done
    D a = done_of decides a

    abbrev Y : Replacement T → Done
    Y y = replacement_done e.place v y

    -- a way after the step
    pub record Pulled (i : ℕ) (cs : List (MColumn T)) (hs : List (Head T)) (z : Done) : Type 0 where
      pub replacement : Replacement T
      pub by : Among replacement (replacements_at f i hs)
      pub way : Way
      pub of : Among way (heads_ways (replaced_at i cs new) replacement.heads v)
      pub is : z ≡ times (Y replacement) (D way)

    pub pull : (i : ℕ) (cs : List (MColumn T)) (hs : List (Head T)) → StepsAt f e new v i cs hs → (z : Way) →
        Among z (heads_ways cs hs v) → Pulled i cs hs (D z)
    pull i [] hs s z a = elim s [ ]
    pull i (c ∷ cs) [] s z a = elim s [ ]
    pull zero (c ∷ cs) (h ∷ hs) s z a =
        let p = combine-elim decides (ways_at (position_at c.place v) (part_at c.place v) h) (heads_ways cs hs v) z a in
        let k = s.1.forth p.first (subst (λ x. Among p.first
        (ways_at (position_at x.place v) (part_at x.place v) h)) s.0 p.in_first) in
        let whole : heads_ways (new ++ cs) (k.0.heads ++ hs) v ≡ combine (heads_ways new k.0.heads v) (heads_ways cs hs v) = heads-append new cs k.0.heads hs v (s.1.wide k.0 k.1) in
        record {
          replacement = with_others hs k.0;
          by = map-among (with_others hs) (f h) k.0 k.1;
          way = join k.2.0 p.second;
          of =
              subst (Among (join k.2.0 p.second)) (sym whole) (combine-intro decides (heads_ways new k.0.heads v)
              (heads_ways cs hs v) k.2.0 p.second k.2.1 p.in_second);
          is = ap D p.is ∙ (done-join decides p.first p.second ∙ (ap (λ x. times x (D p.second)) k.2.2
              ∙ (times-assoc (Y k.0) (D k.2.0) (D p.second) (canonical_binds k.0)
              (canonical_ways new k.0.heads k.2.0 k.2.1) ∙ ap (times (Y k.0)) (sym
              (done-join decides k.2.0 p.second)))));
        }
    pull (suc i) (c ∷ cs) (h ∷ hs) s z a =
        let p = combine-elim decides (ways_at (position_at c.place v) (part_at c.place v) h) (heads_ways cs hs v) z a in
        let k = pull i cs hs s.1 p.second p.in_second in
        record {
          replacement = with_head h k.replacement;
          by = map-among (with_head h) (replacements_at f i hs) k.replacement k.by;
          way = join p.first k.way;
          of =
              combine-intro decides (ways_at (position_at c.place v) (part_at c.place v) h)
              (heads_ways (replaced_at i cs new) k.replacement.heads v) p.first k.way p.in_first k.of;
          is = ap D p.is ∙ (done-join decides p.first p.second ∙ (ap (times (D p.first)) k.is
              ∙ (sym (times-assoc (D p.first) (Y k.replacement) (D k.way) (canonical h (position_at c.place v)
              (part_at c.place v) p.first p.in_first) (canonical_binds k.replacement))
              ∙ (ap (λ x. times x (D k.way)) (s.0 p.first p.in_first k.replacement k.by)
              ∙ (times-assoc (Y k.replacement) (D p.first) (D k.way) (canonical_binds k.replacement)
              (canonical h (position_at c.place v) (part_at c.place v) p.first p.in_first)
              ∙ ap (times (Y k.replacement)) (sym (done-join decides p.first k.way)))))));
        }

    -- and the other way round
    pub record Pushed (cs : List (MColumn T)) (hs : List (Head T)) (z : Done) : Type 0 where
      pub way : Way
      pub of : Among way (heads_ways cs hs v)
      pub is : D way ≡ z

    pub push : (i : ℕ) (cs : List (MColumn T)) (hs : List (Head T)) → StepsAt f e new v i cs hs → (y : Replacement T) →
        Among y (replacements_at f i hs) → (w : Way) → Among w (heads_ways (replaced_at i cs new) y.heads v) →
        Pushed cs hs (times (Y y) (D w))
    push i [] hs s y b w a = elim s [ ]
    push i (c ∷ cs) [] s y b w a = elim s [ ]
    push zero (c ∷ cs) (h ∷ hs) s y b w a =
        let m = among-map (with_others hs) (f h) y b in
        go m.0 m.1 m.2 (subst (λ x. Among w (heads_ways (new ++ cs) x.heads v)) m.2 a)
      where
        go : (x : Replacement T) → Among x (f h) → y ≡ with_others hs x →
            Among w (heads_ways (new ++ cs) (x.heads ++ hs) v) → Pushed (c ∷ cs) (h ∷ hs) (times (Y y) (D w))
        go x j q r =
            let whole : heads_ways (new ++ cs) (x.heads ++ hs) v ≡ combine (heads_ways new x.heads v) (heads_ways cs hs v) = heads-append new cs x.heads hs v (s.1.wide x j) in
            let p = combine-elim decides (heads_ways new x.heads v) (heads_ways cs hs v) w (subst (Among w) whole r) in
            let k = s.1.back x j p.first p.in_first in
            record {
              way = join k.0 p.second;
              of =
                  combine-intro decides (ways_at (position_at c.place v) (part_at c.place v) h)
                  (heads_ways cs hs v) k.0 p.second (subst
                  (λ z. Among k.0 (ways_at (position_at z.place v) (part_at z.place v) h)) (sym s.0) k.1) p.in_second;
              is = done-join decides k.0 p.second ∙ (ap (λ z. times z (D p.second)) k.2
                  ∙ (times-assoc (Y x) (D p.first) (D p.second) (canonical_binds x)
                  (canonical_ways new x.heads p.first p.in_first)
                  ∙ (ap (times (Y x)) (sym (done-join decides p.first p.second) ∙ sym (ap D p.is))
                  ∙ ap (λ z. times (Y z) (D w)) (sym q))));
            }
    push (suc i) (c ∷ cs) (h ∷ hs) s y b w a =
        let m = among-map (with_head h) (replacements_at f i hs) y b in
        go m.0 m.1 m.2 (subst (λ x. Among w (heads_ways (c ∷ replaced_at i cs new) x.heads v)) m.2 a)
        (λ u r. push i cs hs s.1 m.0 m.1 u r)
      where
        go : (x : Replacement T) → Among x (replacements_at f i hs) → y ≡ with_head h x →
            Among w (heads_ways (c ∷ replaced_at i cs new) (h ∷ x.heads) v) →
            ((u : Way) → Among u (heads_ways (replaced_at i cs new) x.heads v) → Pushed cs hs (times (Y x) (D u))) →
            Pushed (c ∷ cs) (h ∷ hs) (times (Y y) (D w))
        go x j q r ih =
            let p = combine-elim decides (ways_at (position_at c.place v) (part_at c.place v) h)
            (heads_ways (replaced_at i cs new) x.heads v) w r in
            let k = ih p.second p.in_second in
            record {
              way = join p.first k.way;
              of =
                  combine-intro decides (ways_at (position_at c.place v) (part_at c.place v) h)
                  (heads_ways cs hs v) p.first k.way p.in_first k.of;
              is = done-join decides p.first k.way ∙ (ap (times (D p.first)) k.is
                  ∙ (sym (times-assoc (D p.first) (Y x) (D p.second) (canonical h (position_at c.place v)
                  (part_at c.place v) p.first p.in_first) (canonical_binds x))
                  ∙ (ap (λ z. times z (D p.second)) (s.0 p.first p.in_first x j)
                  ∙ (times-assoc (Y x) (D p.first) (D p.second) (canonical_binds x)
                  (canonical h (position_at c.place v) (part_at c.place v) p.first p.in_first)
                  ∙ (ap (times (Y x)) (sym (done-join decides p.first p.second) ∙ sym (ap D p.is))
                  ∙ ap (λ z. times (Y z) (D w)) (sym q))))));
            }
