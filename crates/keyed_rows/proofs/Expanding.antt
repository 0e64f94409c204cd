-- A head and the alternatives in its place have the same ways.
use Rattle.std.proofs.Common.{◌≡◌, ℕ, Bool, true, false, List, [], ◌∷◌, ◌++◌, map, Option, Some, nat_eq, cond, refl, sym, ap, ◌∙◌}
use Rattle.std.specs.List.{flat_map}
use Rattle.std.proofs.lemmas.Grind.{flat_map-append}
use Rattle.std.proofs.lemmas.List.{map-append}
use Rattle.match_model.specs.Values.{MValue}
use Rattle.match_model.specs.Constructors.{MCtor, SingleCtor, PointCtor, LaterCtor, OtherTextCtor, WildCtor, OrCtor, VariantCtor, FlagCtor, NumbersCtor, TextCtor, RowCtor}
use Rattle.match_model.specs.Ways.{Way, Binding, bare_way, choosing, bind_into, bindings_of_both}
use Rattle.match_model.specs.ArenaPatterns.{MBound, MDePat, de_pat, MDePats, no_de_pats, more_de_pats, uid_of}
use Rattle.match_model.specs.ArenaWays.{arena_ways, arena_alternatives_ways, with_bounds, bound_part, chosen_of}
use Rattle.match_model.specs.Rows.{Choice, with_binds, choice_through, choice_among, choices_of, all_choices_of}
use Rattle.match_model.specs.Keys.{Decision, or_else, key_of}
use Rattle.match_model.specs.Numbering.{way_key}
use Rattle.keyed_rows.proofs.Bindings.{Canonical, canonical-into, both-put, put_all, put-into}
use Rattle.keyed_rows.proofs.PullOut.{Done, times, times-assoc, done_of}

module _ (u : MValue) where
  -- what names bind of the value
  abbrev pub bound_of : List MBound → List Binding
  bound_of bs = (with_bounds bs u bare_way).bindings

  pub bound-canonical-of : (bs : List MBound) → Canonical (bound_of bs)
  bound-canonical-of [] = refl
  bound-canonical-of (b ∷ bs) =
      canonical-into (record { name = b.name; mode = b.mode; value = bound_part b.part u }) (bound_of bs)
      (bound-canonical-of bs)

  bounds-put : (bs : List MBound) (w : Way) → (with_bounds bs u w).bindings ≡ put_all (bound_of bs) w.bindings
  bounds-put [] w = refl
  bounds-put (b ∷ bs) w =
      ap (bind_into (record { name = b.name; mode = b.mode; value = bound_part b.part u })) (bounds-put bs w)
      ∙ sym (put-into (record { name = b.name; mode = b.mode; value = bound_part b.part u }) (bound_of bs) w.bindings)

  bounds-trace-of : (bs : List MBound) (w : Way) → (with_bounds bs u w).trace ≡ w.trace
  bounds-trace-of [] w = refl
  bounds-trace-of (b ∷ bs) w = bounds-trace-of bs w

  bound-append : (xs ys : List MBound) → bound_of (xs ++ ys) ≡ put_all (bound_of xs) (bound_of ys)
  bound-append [] ys = refl
  bound-append (b ∷ xs) ys =
      ap (bind_into (record { name = b.name; mode = b.mode; value = bound_part b.part u })) (bound-append xs ys)
      ∙ sym (put-into (record { name = b.name; mode = b.mode; value = bound_part b.part u }) (bound_of xs)
      (bound_of ys))

module _ (decides : ℕ → Decision) (u : MValue) where
  -- names bound around what was done
  abbrev pub act : List MBound → Done → Done
  act bs d = times (record { key = key_of []; bindings = bound_of u bs }) d

  -- an alternative chosen before what was done
  abbrev mark : ℕ → Done → Done
  mark uid d =
      record {
        key = λ o. cond (nat_eq (decides uid).number o) (Some (decides uid).alternative)
            (d.key o);
        bindings = d.bindings;
      }

  done-bounds : (bs : List MBound) (w : Way) → done_of decides (with_bounds bs u w) ≡ act bs (done_of decides w)
  done-bounds bs w =
      λ i. record {
        key = keys i;
        bindings = (bounds-put u bs w ∙ sym (both-put (bound_of u bs) w.bindings
            (bound-canonical-of u bs))) i;
      }
    where
      keys : way_key decides (with_bounds bs u w) ≡ way_key decides w
      keys = ap (λ t. key_of (map decides t)) (bounds-trace-of u bs w)

  pub done-map-bounds : (bs : List MBound) (ws : List Way) → map (done_of decides) (map (with_bounds bs u) ws) ≡ map
      (act bs) (map (done_of decides) ws)
  done-map-bounds bs [] = refl
  done-map-bounds bs (w ∷ ws) = rw (done-bounds bs w, done-map-bounds bs ws) refl

  done-map-through : (uid : ℕ) (ws : List Way) → map (done_of decides) (map (choosing uid) ws) ≡ map (mark uid) (map
      (done_of decides) ws)
  done-map-through uid [] = refl
  done-map-through uid (w ∷ ws) = ap (λ l. mark uid (done_of decides w) ∷ l) (done-map-through uid ws)

  lone-map : {A : Type 0} (xs : List A) → map (λ x. x) xs ++ [] ≡ xs
  lone-map [] = refl
  lone-map (x ∷ xs) = ap (λ l. x ∷ l) (lone-map xs)

  module _ {T : Type 0} where
    -- what a choice decides and binds
    abbrev pub choice_done : Choice T → Done
    choice_done c = record { key = key_of (map decides c.chosen); bindings = bound_of u c.binds }

    -- the ways of choices
    abbrev pub choice_ways : List (Choice T) → List Done
    choice_ways cs = flat_map (λ c. map (λ w. times (choice_done c) (done_of decides w)) (arena_ways c.pat u)) cs

    ways-bind : (bs : List MBound) (cs : List (Choice T)) → choice_ways (map (with_binds bs) cs) ≡ map (act bs)
        (choice_ways cs)
    ways-bind bs [] = refl
    ways-bind bs (c ∷ cs) =
        ap (λ l. l ++ choice_ways (map (with_binds bs) cs)) (each (arena_ways c.pat u))
        ∙ (ap (λ l. map (act bs) (map (λ w. times (choice_done c) (done_of decides w)) (arena_ways c.pat u)) ++ l)
        (ways-bind bs cs)
        ∙ sym (map-append (act bs) (map (λ w. times (choice_done c) (done_of decides w)) (arena_ways c.pat u))
        (choice_ways cs)))
      where
        whole : choice_done (with_binds bs c) ≡ act bs (choice_done c)
        whole =
            λ i. record {
              key = key_of (map decides c.chosen);
              bindings = (bound-append u bs c.binds ∙ sym
                  (both-put (bound_of u bs) (bound_of u c.binds) (bound-canonical-of u bs))) i;
            }

        one : (w : Way) → times (choice_done (with_binds bs c)) (done_of decides w) ≡ act bs
            (times (choice_done c) (done_of decides w))
        one w =
            ap (λ d. times d (done_of decides w)) whole ∙ times-assoc
            (record { key = key_of []; bindings = bound_of u bs }) (choice_done c) (done_of decides w)
            (bound-canonical-of u bs) (bound-canonical-of u c.binds)

        each : (ws : List Way) → map (λ w. times (choice_done (with_binds bs c)) (done_of decides w)) ws ≡ map (act bs)
            (map (λ w. times (choice_done c) (done_of decides w)) ws)
        each [] = refl
        each (w ∷ ws) = rw (one w, each ws) refl

    ways-through : (uid : ℕ) (cs : List (Choice T)) → choice_ways (map (choice_through uid) cs) ≡ map (mark uid)
        (choice_ways cs)
    ways-through uid [] = refl
    ways-through uid (c ∷ cs) =
        ap (λ l. l ++ choice_ways (map (choice_through uid) cs)) (each (arena_ways c.pat u))
        ∙ (ap (λ l. map (mark uid) (map (λ w. times (choice_done c) (done_of decides w)) (arena_ways c.pat u)) ++ l)
        (ways-through uid cs)
        ∙ sym (map-append (mark uid) (map (λ w. times (choice_done c) (done_of decides w)) (arena_ways c.pat u))
        (choice_ways cs)))
      where
        first : (b : Bool) (x : Option ℕ) (y z : Option ℕ) → or_else (cond b x y) z ≡ cond b (or_else x z) (or_else y z)
        first true x y z = refl
        first false x y z = refl

        one : (w : Way) → times (choice_done (choice_through uid c)) (done_of decides w) ≡ mark uid
            (times (choice_done c) (done_of decides w))
        one w =
            λ i. record {
              key = λ o. first (nat_eq (decides uid).number o) (Some (decides uid).alternative)
                  (key_of (map decides c.chosen) o) (way_key decides w o) i;
              bindings = bindings_of_both
                  (bound_of u c.binds) w.bindings;
            }

        each : (ws : List Way) → map (λ w. times (choice_done (choice_through uid c)) (done_of decides w)) ws ≡ map
            (mark uid) (map (λ w. times (choice_done c) (done_of decides w)) ws)
        each [] = refl
        each (w ∷ ws) = rw (one w, each ws) refl

    -- the pattern itself
    self-ways : (p : MDePat T) → map (done_of decides) (arena_ways p u) ≡ choice_ways
        (record { pat = p; chosen = []; binds = [] } ∷ [])
    self-ways p = go (arena_ways p u)
      where
        go : (ws : List Way) → map (done_of decides) ws ≡ map (λ w. times (record { key = key_of []; bindings = [] })
            (done_of decides w)) ws ++ []
        go [] = refl
        go (w ∷ ws) = ap (λ l. done_of decides w ∷ l) (go ws)

    abbrev FirstWays : MDePats T → Type 0
    FirstWays no_de_pats = Unit {0}
    FirstWays (more_de_pats p ps) = map (done_of decides) (arena_ways p u) ≡ choice_ways (choices_of p)

    alternatives-ways : (subs : MDePats T) → FirstWays subs → map (done_of decides)
        (arena_alternatives_ways choosing subs u) ≡ choice_ways (all_choices_of choice_through subs) →
        map (done_of decides) (arena_alternatives_ways (chosen_of subs) subs u) ≡ choice_ways
        (all_choices_of (choice_among subs) subs)
    alternatives-ways no_de_pats f a = refl
    alternatives-ways (more_de_pats p no_de_pats) f a = rw (lone-map (arena_ways p u), lone-map (choices_of p)) f
    alternatives-ways (more_de_pats p (more_de_pats q qs)) f a = a

    or-ways : (t : T) (uid at : ℕ) (subs : MDePats T) (binds : List MBound) →
        map (done_of decides) (arena_alternatives_ways (chosen_of subs) subs u) ≡ choice_ways
        (all_choices_of (choice_among subs) subs) →
        map (done_of decides) (arena_ways (de_pat OrCtor t uid at subs binds) u) ≡ choice_ways
        (choices_of (de_pat OrCtor t uid at subs binds))
    or-ways t uid at subs binds a =
        done-map-bounds binds (arena_alternatives_ways (chosen_of subs) subs u)
        ∙ (ap (map (act binds)) a ∙ sym (ways-bind binds (all_choices_of (choice_among subs) subs)))

    by-ctor-ways : (c : MCtor) (t : T) (uid at : ℕ) (subs : MDePats T) (binds : List MBound) →
        map (done_of decides) (arena_alternatives_ways (chosen_of subs) subs u) ≡ choice_ways
        (all_choices_of (choice_among subs) subs) →
        map (done_of decides) (arena_ways (de_pat c t uid at subs binds) u) ≡ choice_ways
        (choices_of (de_pat c t uid at subs binds))
    by-ctor-ways SingleCtor t uid at subs binds a = self-ways (de_pat SingleCtor t uid at subs binds)
    by-ctor-ways PointCtor t uid at subs binds a = self-ways (de_pat PointCtor t uid at subs binds)
    by-ctor-ways LaterCtor t uid at subs binds a = self-ways (de_pat LaterCtor t uid at subs binds)
    by-ctor-ways OtherTextCtor t uid at subs binds a = self-ways (de_pat OtherTextCtor t uid at subs binds)
    by-ctor-ways (VariantCtor k) t uid at subs binds a = self-ways (de_pat (VariantCtor k) t uid at subs binds)
    by-ctor-ways (FlagCtor b) t uid at subs binds a = self-ways (de_pat (FlagCtor b) t uid at subs binds)
    by-ctor-ways (NumbersCtor r) t uid at subs binds a = self-ways (de_pat (NumbersCtor r) t uid at subs binds)
    by-ctor-ways (TextCtor x) t uid at subs binds a = self-ways (de_pat (TextCtor x) t uid at subs binds)
    by-ctor-ways (RowCtor s) t uid at subs binds a = self-ways (de_pat (RowCtor s) t uid at subs binds)
    by-ctor-ways WildCtor t uid at subs binds a = self-ways (de_pat WildCtor t uid at subs binds)
    by-ctor-ways OrCtor t uid at subs binds a = or-ways t uid at subs binds a

    mutual
      -- a pattern has the ways of its choices
      pub choices-ways : (p : MDePat T) → map (done_of decides) (arena_ways p u) ≡ choice_ways (choices_of p)
      choices-ways (de_pat c t uid at subs binds) =
          by-ctor-ways c t uid at subs binds (alternatives-ways subs (first-ways subs) (all-ways subs))

      all-ways : (subs : MDePats T) → map (done_of decides) (arena_alternatives_ways choosing subs u) ≡ choice_ways
          (all_choices_of choice_through subs)
      all-ways no_de_pats = refl
      all-ways (more_de_pats p ps) =
          map-append (done_of decides) (map (choosing (uid_of p)) (arena_ways p u))
          (arena_alternatives_ways choosing ps u)
          ∙ (ap (λ l. l ++ map (done_of decides) (arena_alternatives_ways choosing ps u))
          (done-map-through (uid_of p) (arena_ways p u) ∙ (ap (map (mark (uid_of p))) (choices-ways p) ∙ sym
          (ways-through (uid_of p) (choices_of p))))
          ∙ (ap (λ l. choice_ways (map (choice_through (uid_of p)) (choices_of p)) ++ l) (all-ways ps)
          ∙ sym (flat_map-append (λ c. map (λ w. times (choice_done c) (done_of decides w)) (arena_ways c.pat u))
          (map (choice_through (uid_of p)) (choices_of p)) (all_choices_of choice_through ps))))

      first-ways : (subs : MDePats T) → FirstWays subs
      first-ways no_de_pats = tt
      first-ways (more_de_pats p ps) = choices-ways p
