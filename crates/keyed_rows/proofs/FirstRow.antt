-- A first row of wildcards and names has the first way.
use Rattle.std.proofs.Common.{◌≡◌, ◌<◌, ◌⊎◌, inl, inr, ℕ, ◌+◌, Bool, true, false, ◌&&◌, List, [], ◌∷◌, map, Option, Some, None, refl, sym, ◌∙◌, arith, subst, IsTrue}
use Rattle.std.specs.List.{list_all}
use Rattle.match_model.specs.Values.{MValue}
use Rattle.match_model.specs.Constructors.{SingleCtor, PointCtor, LaterCtor, OtherTextCtor, WildCtor, OrCtor, VariantCtor, FlagCtor, NumbersCtor, TextCtor, RowCtor}
use Rattle.match_model.specs.ArenaPatterns.{de_pat}
use Rattle.match_model.specs.Ways.{Way, bare_way, join, combine}
use Rattle.match_model.specs.ArenaWays.{arena_ways}
use Rattle.match_model.specs.Places.{part_at, position_at}
use Rattle.match_model.specs.Rows.{Head, is_wild}
use Rattle.match_model.specs.Matrices.{MColumn, head_ways, under_all, ways_at, heads_ways}
use Rattle.match_model.specs.Keys.{Decision, Key, both_keys, IsBefore}
use Rattle.keyed_rows.specs.Dividing.{IsWithin, IsAbove}
use Rattle.match_model.specs.Lists.{Every}
use Rattle.match_model.specs.Numbering.{or_count, way_key}
use Rattle.keyed_rows.specs.Parting.{AreAlike, IsParted}
use Rattle.keyed_rows.proofs.Lists.{every-append, every-map, every-to, before-keep}
use Rattle.keyed_rows.proofs.ArmWays.{pat-fine, bounds-trace, join-key}

module _ (decides : ℕ → Decision) where
  -- a way that decides nothing below a number
  abbrev Late : ℕ → Way → Type 0
  Late n w = (o : ℕ) → o < n → way_key decides w o ≡ None

  under-trace : (is : List ℕ) (w : Way) → (under_all is w).trace ≡ w.trace
  under-trace [] w = refl
  under-trace (i ∷ is) w = under-trace is w

  under-late : (n : ℕ) (is : List ℕ) (w : Way) → Late n w → Late n (under_all is w)
  under-late n is w h o l = rw (under-trace is w) (h o l)

  join-late : (n : ℕ) (a b : Way) → Late n a → Late n b → Late n (join a b)
  join-late n a b h k o l = join-key decides a b o ∙ rw (h o l, k o l) refl

  combine-late : (n : ℕ) (ws us : List Way) → Every (Late n) ws → Every (Late n) us → Every (Late n) (combine ws us)
  combine-late n [] us h k = tt
  combine-late n (w ∷ ws) us h k =
      every-append (Late n) (map (join w) us) (combine ws us) (every-map (Late n) (Late n) (join w) us
      (λ u i. join-late n w u h.0 i) k) (combine-late n ws us h.1 k)

  module _ {T : Type 0} where
    -- a head whose or-patterns come later decides later ones alone
    above-late : (d : ℕ) (h : Head T) (v : MValue) → IsAbove decides d h → Every (Late (d + 1)) (head_ways h v)
    above-late d None v a = ((λ o l. refl), tt)
    above-late d (Some p) v a =
        every-to (λ w. IsWithin a.0 (or_count p + a.0) (way_key decides w)) (Late (d + 1)) (arena_ways p v) one
        (pat-fine decides p a.0 v a.2).within
      where
        one : (w : Way) → IsWithin a.0 (or_count p + a.0) (way_key decides w) → Late (d + 1) w
        one w i o l = let over : d < a.0 = a.1 in i.below o (omega (arith, l, over))

    -- a wildcard or a name decides nothing
    wild-late : (n : ℕ) (h : Head T) (v : MValue) → IsTrue (is_wild h) → Every (Late n) (head_ways h v)
    wild-late n None v i = ((λ o l. refl), tt)
    wild-late n (Some (de_pat WildCtor t uid at subs binds)) v i =
        ((λ o l. rw (bounds-trace decides binds v bare_way) refl), tt)
    wild-late n (Some (de_pat SingleCtor t uid at subs binds)) v i = cc
    wild-late n (Some (de_pat PointCtor t uid at subs binds)) v i = cc
    wild-late n (Some (de_pat LaterCtor t uid at subs binds)) v i = cc
    wild-late n (Some (de_pat OtherTextCtor t uid at subs binds)) v i = cc
    wild-late n (Some (de_pat OrCtor t uid at subs binds)) v i = cc
    wild-late n (Some (de_pat (VariantCtor k) t uid at subs binds)) v i = cc
    wild-late n (Some (de_pat (FlagCtor b) t uid at subs binds)) v i = cc
    wild-late n (Some (de_pat (NumbersCtor r) t uid at subs binds)) v i = cc
    wild-late n (Some (de_pat (TextCtor u) t uid at subs binds)) v i = cc
    wild-late n (Some (de_pat (RowCtor s) t uid at subs binds)) v i = cc

    at-late : (n : ℕ) (o : Option (List ℕ)) (u : Option MValue) (h : Head T) →
        ((x : MValue) → Every (Late n) (head_ways h x)) → Every (Late n) (ways_at o u h)
    at-late n None u h k = tt
    at-late n (Some is) None h k = tt
    at-late n (Some is) (Some x) h k =
        every-map (Late n) (Late n) (under_all is) (head_ways h x) (λ w i. under-late n is w i) (k x)

    -- a row of wildcards decides nothing more
    wilds-late : (n : ℕ) (columns : List (MColumn T)) (hs : List (Head T)) (v : MValue) →
        IsTrue (list_all is_wild hs) → Every (Late n) (heads_ways columns hs v)
    wilds-late n [] [] v w = ((λ o l. refl), tt)
    wilds-late n [] (h ∷ hs) v w = tt
    wilds-late n (c ∷ columns) [] v w = tt
    wilds-late n (c ∷ columns) (h ∷ hs) v w =
        combine-late n (ways_at (position_at c.place v) (part_at c.place v) h) (heads_ways columns hs v)
        (at-late n (position_at c.place v) (part_at c.place v) h (λ x. wild-late n h x
        (first (is_wild h) (list_all is_wild hs) w)))
        (wilds-late n columns hs v (second (is_wild h) (list_all is_wild hs) w))
      where
        first : (a b : Bool) → IsTrue (a && b) → IsTrue a
        first true b h = refl
        first false b h = h

        second : (a b : Bool) → IsTrue (a && b) → IsTrue b
        second true b h = h
        second false b h = cc

    -- beside a row of wildcards the other rows of the arm decide later or-patterns alone
    alike-late : (d : ℕ) (columns : List (MColumn T)) (hs gs : List (Head T)) (v : MValue) →
        IsTrue (list_all is_wild hs) → AreAlike decides d hs gs → Every (Late (d + 1)) (heads_ways columns gs v)
    alike-late d [] [] [] v w a = ((λ o l. refl), tt)
    alike-late d [] [] (g ∷ gs) v w a = elim a [ ]
    alike-late d [] (h ∷ hs) [] v w a = elim a [ ]
    alike-late d [] (h ∷ hs) (g ∷ gs) v w a = tt
    alike-late d (c ∷ columns) [] [] v w a = tt
    alike-late d (c ∷ columns) [] (g ∷ gs) v w a = elim a [ ]
    alike-late d (c ∷ columns) (h ∷ hs) [] v w a = elim a [ ]
    alike-late d (c ∷ columns) (h ∷ hs) (g ∷ gs) v w a =
        combine-late (d + 1) (ways_at (position_at c.place v) (part_at c.place v) g) (heads_ways columns gs v)
        (at-late (d + 1) (position_at c.place v) (part_at c.place v) g (λ x. one x a.0))
        (alike-late d columns hs gs v (second (is_wild h) (list_all is_wild hs) w) a.1)
      where
        first : (a b : Bool) → IsTrue (a && b) → IsTrue a
        first true b h = refl
        first false b h = h

        second : (a b : Bool) → IsTrue (a && b) → IsTrue b
        second true b h = h
        second false b h = cc

        one : (x : MValue) → (h ≡ g) ⊎ (IsAbove decides d h × IsAbove decides d g) →
            Every (Late (d + 1)) (head_ways g x)
        one x (inl e) =
            subst (λ k. Every (Late (d + 1)) (head_ways k x)) e (wild-late (d + 1) h x
            (first (is_wild h) (list_all is_wild hs) w))
        one x (inr b) = above-late d g x b.1

    -- the way of a first row of wildcards comes before every way of the other rows of its arm
    pub first-way : (columns : List (MColumn T)) (k l : Key) (hs gs : List (Head T)) (v : MValue) →
        IsTrue (list_all is_wild hs) → IsParted decides k hs l gs →
        Every (λ w. Every (λ x. IsBefore (both_keys k (way_key decides w)) (both_keys l (way_key decides x)))
        (heads_ways columns gs v)) (heads_ways columns hs v)
    first-way columns k l hs gs v w p =
        every-to (Late (p.before.at + 1)) _ (heads_ways columns hs v)
        (λ a i. every-to (Late (p.before.at + 1)) _ (heads_ways columns gs v)
        (λ b j. before-keep k l (way_key decides a) (way_key decides b) p.before
        (λ o m. i o (omega (arith, m)) ∙ sym (j o (omega (arith, m)))))
        (alike-late p.before.at columns hs gs v w p.alike))
        (wilds-late (p.before.at + 1) columns hs v w)
