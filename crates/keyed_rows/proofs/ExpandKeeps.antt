-- Taking or-patterns apart keeps the ways of a head.
use Rattle.std.proofs.Common.{◌≡◌, inl, inr, ℕ, Bool, true, false, List, [], ◌∷◌, map, length, Some, None, refl, sym, ap, ◌∙◌, subst, IsTrue, cond}
use Rattle.std.specs.List.{list_all}
use Rattle.match_model.specs.Values.{MValue}
use Rattle.match_model.specs.Constructors.{SingleCtor, PointCtor, LaterCtor, OtherTextCtor, WildCtor, OrCtor, VariantCtor, FlagCtor, NumbersCtor, TextCtor, RowCtor}
use Rattle.match_model.specs.Ways.{Way, Binding, bare_way, bindings_of_both}
use Rattle.match_model.specs.ArenaPatterns.{MDePat, de_pat}
use Rattle.match_model.specs.ArenaWays.{arena_ways, with_bounds}
use Rattle.match_model.specs.Places.{part_at, position_at}
use Rattle.match_model.specs.Trees.{bindings_in}
use Rattle.match_model.specs.Rows.{Head, is_wild, Choice, choices_of}
use Rattle.match_model.specs.Matrices.{MColumn, head_ways, under_all, ways_at, heads_ways, bind_at}
use Rattle.match_model.specs.WellTyped.{part_is_of}
use Rattle.match_model.proofs.Joins.{combine_bare_right}
use Rattle.match_model.specs.Keys.{Decision, key_of}
use Rattle.match_model.specs.Lists.{Among}
use Rattle.match_model.specs.Steps.{Replacement, own_binds, expand_head, default_head}
use Rattle.keyed_rows.proofs.Parting.{among-map}
use Rattle.keyed_rows.proofs.RowOrder.{among-flat}
use Rattle.keyed_rows.proofs.PullOut.{times, done_of, replacement_done, HeadKeeps, map-among, flat-among}
use Rattle.keyed_rows.proofs.Leaf.{whole-bound, under-bare, bounds-trace}
use Rattle.keyed_rows.proofs.Expanding.{choice_done, choice_ways, choices-ways}

module _ (decides : ℕ → Decision) where
  -- seen from further out a way does the same
  pub under-done : (is : List ℕ) (w : Way) → done_of decides (under_all is w) ≡ done_of decides w
  under-done is w = λ i. record { key = key_of (map decides ((under-bare is w).0 i)); bindings = (under-bare is w).1 i }

  module _ {T : Type 0} where
    abbrev as_replacement_of : Choice T → Replacement T
    as_replacement_of c = record { heads = Some c.pat ∷ []; chosen = c.chosen; binds = c.binds }

    -- the names around alternatives are bound to whole values
    abbrev pub BindWhole : Head T → Type 0
    BindWhole None = Unit {0}
    BindWhole (Some p) =
        (c : Choice T) → Among c (choices_of p) → IsTrue (list_all (λ b. part_is_of WildCtor b.part) c.binds)

    module _ (e : MColumn T) (v u : MValue) (is : List ℕ) (part : part_at e.place v ≡ Some u)
        (position : position_at e.place v ≡ Some is) where
      ways-here : (h : Head T) → ways_at (position_at e.place v) (part_at e.place v) h ≡ map (under_all is)
          (head_ways h u)
      ways-here h = rw (position, part) refl

      one-column : (h : Head T) → heads_ways (e ∷ []) (h ∷ []) v ≡ map (under_all is) (head_ways h u)
      one-column h = combine_bare_right (ways_at (position_at e.place v) (part_at e.place v) h) ∙ ways-here h

      same-done : (c : Choice T) → IsTrue (list_all (λ b. part_is_of WildCtor b.part) c.binds) →
          choice_done decides u c ≡ replacement_done decides e.place v (as_replacement_of c)
      same-done c h =
          λ i. record { key = key_of (map decides c.chosen); bindings = whole-bound v e.place u c.binds part h i }

      -- what the choices do, the pattern does, and the other way round
      choice-forth : (p : MDePat T) (w : Way) → Among w (arena_ways p u) → (c : Choice T) × Among c (choices_of p)
          × ((x : Way) × Among x (arena_ways c.pat u) × (done_of decides w ≡ times (choice_done decides u c)
          (done_of decides x)))
      choice-forth p w a =
          let k = among-flat (λ c. map (λ w. times (choice_done decides u c) (done_of decides w)) (arena_ways c.pat u))
          (choices_of p) (done_of decides w) (subst (Among (done_of decides w)) (choices-ways decides u p)
          (map-among (done_of decides) (arena_ways p u) w a)) in
          let m = among-map (λ w. times (choice_done decides u k.0) (done_of decides w)) (arena_ways k.0.pat u)
          (done_of decides w) k.2 in
          (k.0, k.1, (m.0, m.1, m.2))

      choice-back : (p : MDePat T) (c : Choice T) (x : Way) → Among c (choices_of p) → Among x (arena_ways c.pat u) →
          (w : Way) × Among w (arena_ways p u) × (done_of decides w ≡ times (choice_done decides u c)
          (done_of decides x))
      choice-back p c x a b =
          let d : Among (times (choice_done decides u c) (done_of decides x)) (choice_ways decides u (choices_of p)) =
          flat-among (λ c. map (λ w. times (choice_done decides u c) (done_of decides w)) (arena_ways c.pat u))
          (choices_of p) c _ a (map-among (λ w. times (choice_done decides u c) (done_of decides w))
          (arena_ways c.pat u) x b) in
          let m = among-map (done_of decides) (arena_ways p u) (times (choice_done decides u c) (done_of decides x))
          (subst (Among (times (choice_done decides u c) (done_of decides x))) (sym (choices-ways decides u p)) d)
          in
          (m.0, m.1, sym m.2)

      pub expand-keeps : (h : Head T) → BindWhole h → HeadKeeps decides expand_head e (e ∷ []) v h
      expand-keeps None b = record {
        wide = λ y a. elim a [ inl k ↦ ap (λ x. length x.heads) k | inr k ↦ absurd k ];
        forth =
            λ a i. (
              record { heads = None ∷ []; chosen = []; binds = [] },
              inl refl,
              (a, subst (Among a) (sym (one-column None)) (subst (Among a) (ways-here None) i), refl),
            );
        back = λ y a w i. elim a [
          | inl k ↦ (
            w,
            subst (Among w) (sym (ways-here None)) (subst (Among w) (one-column None)
                (subst (λ x. Among w (heads_ways (e ∷ []) x.heads v)) k i)),
            subst
                (λ x. done_of decides w ≡ times (replacement_done decides e.place v x) (done_of decides w))
                (sym k) refl,
          )
          | inr k ↦ absurd k
        ];
      }
      expand-keeps (Some p) b = record { wide = wide; forth = forth; back = back }
        where
          wide : (y : Replacement T) → Among y (expand_head (Some p)) → length y.heads ≡ 1
          wide y a = let m = among-map as_replacement_of (choices_of p) y a in ap (λ x. length x.heads) m.2

          forth : (a : Way) → Among a (ways_at (position_at e.place v) (part_at e.place v) (Some p)) →
              (y : Replacement T) × Among y (expand_head (Some p)) × ((w : Way) × Among w
              (heads_ways (e ∷ []) y.heads v) × (done_of decides a ≡ times (replacement_done decides e.place v y)
              (done_of decides w)))
          forth a i =
              let m = among-map (under_all is) (arena_ways p u) a (subst (Among a) (ways-here (Some p)) i) in
              let k = choice-forth p m.0 m.1 in
              let x : Way = under_all is k.2.0 in (
                as_replacement_of k.0,
                map-among as_replacement_of (choices_of p) k.0 k.1,
                (
                  x,
                  subst (Among x) (sym (one-column (Some k.0.pat))) (map-among (under_all is)
                      (arena_ways k.0.pat u) k.2.0 k.2.1),
                  ap (done_of decides) m.2 ∙ (under-done is m.0 ∙ (k.2.2 ∙
                      (ap (λ d. times d (done_of decides k.2.0)) (same-done k.0 (b k.0 k.1))
                      ∙ ap (times (replacement_done decides e.place v (as_replacement_of k.0)))
                      (sym (under-done is k.2.0))))),
                ),
              )

          back : (y : Replacement T) → Among y (expand_head (Some p)) → (w : Way) →
              Among w (heads_ways (e ∷ []) y.heads v) →
              (a : Way) × Among a (ways_at (position_at e.place v) (part_at e.place v) (Some p))
              × (done_of decides a ≡ times (replacement_done decides e.place v y) (done_of decides w))
          back y a w i =
              let m = among-map as_replacement_of (choices_of p) y a in
              let n = among-map (under_all is) (arena_ways m.0.pat u) w (subst (Among w) (one-column (Some m.0.pat))
              (subst (λ x. Among w (heads_ways (e ∷ []) x.heads v)) m.2 i)) in
              let k = choice-back p m.0 n.0 m.1 n.1 in
              let x : Way = under_all is k.0 in (
                x,
                subst (Among x) (sym (ways-here (Some p))) (map-among (under_all is) (arena_ways p u) k.0 k.1),
                under-done is k.0 ∙ (k.2 ∙ (ap (λ d. times d (done_of decides n.0)) (same-done m.0 (b m.0 m.1))
                    ∙ (ap (times (replacement_done decides e.place v (as_replacement_of m.0)))
                    (sym (under-done is n.0) ∙ sym (ap (done_of decides) n.2)) ∙ ap (λ z. times
                    (replacement_done decides e.place v z) (done_of decides w)) (sym m.2)))),
              )

      -- a dropped column: wildcards and names have one way, the other heads none
      abbrev pub BindsWhole : Head T → Type 0
      BindsWhole h = IsTrue (list_all (λ b. part_is_of WildCtor b.part) (own_binds h))

      wild-ways : (h : Head T) → is_wild h ≡ true → head_ways h u ≡ with_bounds (own_binds h) u bare_way ∷ []
      wild-ways None w = refl
      wild-ways (Some (de_pat WildCtor t uid at subs binds)) w = refl
      wild-ways (Some (de_pat SingleCtor t uid at subs binds)) w = cc
      wild-ways (Some (de_pat PointCtor t uid at subs binds)) w = cc
      wild-ways (Some (de_pat LaterCtor t uid at subs binds)) w = cc
      wild-ways (Some (de_pat OtherTextCtor t uid at subs binds)) w = cc
      wild-ways (Some (de_pat OrCtor t uid at subs binds)) w = cc
      wild-ways (Some (de_pat (VariantCtor k) t uid at subs binds)) w = cc
      wild-ways (Some (de_pat (FlagCtor b) t uid at subs binds)) w = cc
      wild-ways (Some (de_pat (NumbersCtor r) t uid at subs binds)) w = cc
      wild-ways (Some (de_pat (TextCtor x) t uid at subs binds)) w = cc
      wild-ways (Some (de_pat (RowCtor s) t uid at subs binds)) w = cc

      dropped-done : (h : Head T) → is_wild h ≡ true → BindsWhole h → (y : Replacement T) →
          y ≡ record { heads = []; chosen = []; binds = own_binds h } →
          done_of decides (under_all is (with_bounds (own_binds h) u bare_way)) ≡ times
          (replacement_done decides e.place v y) (done_of decides bare_way)
      dropped-done h w b y k =
          under-done is (with_bounds (own_binds h) u bare_way)
          ∙ (whole ∙ ap (λ x. times (replacement_done decides e.place v x) (done_of decides bare_way)) (sym k))
        where
          nil : (l : List Binding) → l ≡ bindings_of_both l []
          nil [] = refl
          nil (x ∷ l) = refl

          whole : done_of decides (with_bounds (own_binds h) u bare_way) ≡ times
              (replacement_done {T = T} decides e.place v (record { heads = []; chosen = []; binds = own_binds h }))
              (done_of decides bare_way)
          whole = λ i. record {
            key = key_of (map decides (bounds-trace (own_binds h) u bare_way i));
            bindings =
                (whole-bound v e.place u (own_binds h) part b ∙ nil (bindings_in v
                (map (bind_at e.place) (own_binds h)))) i;
          }

      pub drop-keeps : (h : Head T) → BindsWhole h → (is_wild h ≡ false → head_ways h u ≡ []) →
          HeadKeeps decides default_head e [] v h
      drop-keeps h b none = go (is_wild h) refl
        where
          Y : Replacement T
          Y = record { heads = []; chosen = []; binds = own_binds h }

          replacements-are : (t : Bool) → is_wild h ≡ t → default_head h ≡ cond t (Y ∷ []) []
          replacements-are t q = ap (λ x. cond x (Y ∷ []) []) q

          only : (x y : Way) → Among x (y ∷ []) → x ≡ y
          only x y (inl q) = q
          only x y (inr q) = absurd q

          lone : (x y : Replacement T) → Among x (y ∷ []) → x ≡ y
          lone x y (inl q) = q
          lone x y (inr q) = absurd q

          go : (t : Bool) → is_wild h ≡ t → HeadKeeps decides default_head e [] v h
          go true q = record {
            wide = λ y a. ap (λ x. length x.heads) (lone y Y (subst (Among y) (replacements-are true q) a));
            forth = λ a i. (
              Y,
              subst (Among Y) (sym (replacements-are true q)) (inl refl),
              (
                bare_way,
                inl refl,
                ap (done_of decides) (only a (under_all is (with_bounds (own_binds h) u bare_way))
                    (subst (Among a) (ways-here h ∙ ap (map (under_all is)) (wild-ways h q)) i))
                    ∙ dropped-done h q b Y refl,
              ),
            );
            back = λ y a w i. (
              under_all is (with_bounds (own_binds h) u bare_way),
              subst (Among (under_all is (with_bounds (own_binds h) u bare_way)))
                  (sym (ways-here h ∙ ap (map (under_all is)) (wild-ways h q))) (inl refl),
              bare-only y w (lone y Y (subst (Among y) (replacements-are true q) a)) i q,
            );
          }
            where
              bare-only : (y : Replacement T) (w : Way) → y ≡ Y → Among w (heads_ways [] y.heads v) →
                  is_wild h ≡ true → done_of decides (under_all is (with_bounds (own_binds h) u bare_way)) ≡ times
                  (replacement_done decides e.place v y) (done_of decides w)
              bare-only y w k i q =
                  dropped-done h q b y k ∙ ap (λ x. times (replacement_done decides e.place v y) (done_of decides x))
                  (sym (only w bare_way (subst (λ x. Among w (heads_ways [] x.heads v)) k i)))
          go false q = record {
            wide = λ y a. absurd (subst (Among y) (replacements-are false q) a);
            forth = λ a i. absurd (subst (Among a) (ways-here h ∙ ap (map (under_all is)) (none q)) i);
            back = λ y a w i. absurd (subst (Among y) (replacements-are false q) a);
          }
