-- The ways of a pattern of the engine go through its alternatives alone.
use Rattle.std.proofs.Common.{◌≡◌, inl, inr, ℕ, List, [], ◌∷◌, ◌++◌, map, Option, Some, None, refl, sym, ap, subst, ◌∙◌}
use Rattle.match_model.specs.Lists.{Every}
use Rattle.match_model.specs.Values.{MValue}
use Rattle.match_model.specs.Constructors.{MCtor, WildCtor, OrCtor, NumbersCtor}
use Rattle.match_model.specs.Ways.{Way, combine, join, under, choosing}
use Rattle.match_model.specs.Matching.{span_way}
use Rattle.match_model.specs.Match.{Alternatives, no_alternative, alternative, and_others}
use Rattle.match_model.specs.ArenaPatterns.{MBound, MDePat, de_pat, MDePats, no_de_pats, more_de_pats, uid_of, at_of}
use Rattle.match_model.specs.ArenaWays.{NumberedPart, parts_built, ways_where, with_bounds, with_spans_of, ways_by_ctor, chosen_of, arena_ways, subs_ways, arena_alternatives_ways, alternatives_by_ctor, arena_alternatives, alternatives_in_subs, choices_in}
use Rattle.pattern_laws.proofs.ReadingEntries.{HasChoice}
use Rattle.pattern_laws.proofs.Renamed.{Told, AllTold}

-- the number is the name of an alternative
abbrev IsName : Alternatives → ℕ → Type 0
IsName x u = (a : ℕ) × HasChoice u a x

-- the numbers are names of alternatives
abbrev pub AreNames : Alternatives → List ℕ → Type 0
AreNames x us = Every (IsName x) us

-- the ways go through these alternatives alone
abbrev pub GoWithin : Alternatives → List Way → Type 0
GoWithin x ws = Every (λ w. AreNames x w.trace) ws

names_both : (x : Alternatives) (us vs : List ℕ) → AreNames x us → AreNames x vs → AreNames x (us ++ vs)
names_both x [] vs h k = k
names_both x (u ∷ us) vs h k = (h.0, names_both x us vs h.1 k)

names_more : (x y : Alternatives) → ((i a : ℕ) → HasChoice i a x → HasChoice i a y) → (us : List ℕ) → AreNames x us →
    AreNames y us
names_more x y f [] h = tt
names_more x y f (u ∷ us) h = ((h.0.0, f u h.0.0 h.0.1), names_more x y f us h.1)

within_more : (x y : Alternatives) → ((i a : ℕ) → HasChoice i a x → HasChoice i a y) → (ws : List Way) → GoWithin x ws →
    GoWithin y ws
within_more x y f [] h = tt
within_more x y f (w ∷ ws) h = (names_more x y f w.trace h.0, within_more x y f ws h.1)

within_both : (x : Alternatives) (ws us : List Way) → GoWithin x ws → GoWithin x us → GoWithin x (ws ++ us)
within_both x [] us h k = k
within_both x (w ∷ ws) us h k = (h.0, within_both x ws us h.1 k)

-- a change that keeps the traces
within_same : (x : Alternatives) (f : Way → Way) → ((w : Way) → (f w).trace ≡ w.trace) → (ws : List Way) →
    GoWithin x ws →
    GoWithin x (map f ws)
within_same x f same [] h = tt
within_same x f same (w ∷ ws) h = (subst (AreNames x) (sym (same w)) h.0, within_same x f same ws h.1)

choice_left : (x y : Alternatives) (i a : ℕ) → HasChoice i a x → HasChoice i a (and_others x y)
choice_left no_alternative y i a h = absurd h
choice_left (alternative id at inside others) y i a (inl e) = inl e
choice_left (alternative id at inside others) y i a (inr (inl h)) = inr (inl h)
choice_left (alternative id at inside others) y i a (inr (inr h)) = inr (inr (choice_left others y i a h))

choice_right : (x y : Alternatives) (i a : ℕ) → HasChoice i a y → HasChoice i a (and_others x y)
choice_right no_alternative y i a h = h
choice_right (alternative id at inside others) y i a h = inr (inr (choice_right others y i a h))

-- a choice of both is one of either
choice_either : (P : Type 0) (x y : Alternatives) (i a : ℕ) → (HasChoice i a x → P) → (HasChoice i a y → P) →
    HasChoice i a (and_others x y) → P
choice_either P no_alternative y i a f g h = g h
choice_either P (alternative id at inside others) y i a f g (inl e) = f (inl e)
choice_either P (alternative id at inside others) y i a f g (inr (inl h)) = f (inr (inl h))
choice_either P (alternative id at inside others) y i a f g (inr (inr h)) = choice_either P others y i a
    (λ k. f (inr (inr k))) g h

joins_within : (x y : Alternatives) (w : Way) (us : List Way) → AreNames x w.trace → GoWithin y us →
    GoWithin (and_others x y) (map (join w) us)
joins_within x y w [] h k = tt
joins_within x y w (u ∷ us) h k = (
  names_both (and_others x y) w.trace u.trace (names_more x (and_others x y) (choice_left x y) w.trace h)
      (names_more y (and_others x y) (choice_right x y) u.trace k.0),
  joins_within x y w us h k.1,
)

combined_within : (x y : Alternatives) (ws us : List Way) → GoWithin x ws → GoWithin y us →
    GoWithin (and_others x y) (combine ws us)
combined_within x y [] us h k = tt
combined_within x y (w ∷ ws) us h k =
    within_both (and_others x y) (map (join w) us) (combine ws us) (joins_within x y w us h.0 k)
    (combined_within x y ws us h.1 k)

bounds_trace : (binds : List MBound) (v : MValue) (w : Way) → (with_bounds binds v w).trace ≡ w.trace
bounds_trace [] v w = refl
bounds_trace (b ∷ binds) v w = bounds_trace binds v w

where_within : (x : Alternatives) (o : Option (List NumberedPart)) (f : List NumberedPart → List Way) →
    ((parts : List NumberedPart) → GoWithin x (f parts)) → GoWithin x (ways_where o f)
where_within x None f h = tt
where_within x (Some parts) f h = h parts

-- the ways of alternatives, each chosen
chosen_within : {T : Type 0} (ps : MDePats T) (v : MValue) (p : MDePat T) (more : Alternatives) (ws : List Way) →
    GoWithin (arena_alternatives p) ws → GoWithin (alternative (uid_of p) (at_of p) (arena_alternatives p) more)
    (map (choosing (uid_of p)) ws)
chosen_within ps v p more [] h = tt
chosen_within ps v p more (w ∷ ws) h = (
  (
    (at_of p, inl (refl, refl)),
    names_more (arena_alternatives p) (alternative (uid_of p) (at_of p) (arena_alternatives p) more)
        (λ i a k. inr (inl k)) w.trace h.0,
  ),
  chosen_within ps v p more ws h.1,
)

by_ctor_within : {T : Type 0} (c : MCtor) (at : ℕ) (subs : MDePats T) (choices inside : Alternatives)
    (alternatives : MValue → List Way) (on : List NumberedPart → List Way) (v : MValue) →
    GoWithin (alternatives_by_ctor OrCtor subs choices inside) (alternatives v) →
    ((parts : List NumberedPart) → GoWithin inside (on parts)) →
    GoWithin (alternatives_by_ctor c subs choices inside) (ways_by_ctor c at alternatives on v)
by_ctor_within WildCtor at subs choices inside alternatives on v h k = (tt, tt)
by_ctor_within OrCtor at subs choices inside alternatives on v h k = h
by_ctor_within (NumbersCtor r) at subs choices inside alternatives on v h k =
    within_same inside (with_spans_of (span_way at r)) (λ w. refl) (ways_where (parts_built (NumbersCtor r) v) on)
    (where_within inside (parts_built (NumbersCtor r) v) on k)
by_ctor_within c at subs choices inside alternatives on v h k = where_within inside (parts_built c v) on k

mutual
  -- the ways of a pattern
  pub ways_within : {T : Type 0} (p : MDePat T) (v : MValue) → GoWithin (arena_alternatives p) (arena_ways p v)
  ways_within {T} (de_pat c t uid at subs binds) v =
      within_same (alternatives_by_ctor c subs (choices_in subs) (alternatives_in_subs subs)) (with_bounds binds v)
      (bounds_trace binds v)
      (ways_by_ctor c at (λ u. arena_alternatives_ways (chosen_of subs) subs u) (λ parts. subs_ways subs parts) v)
      (by_ctor_within c at subs (choices_in subs) (alternatives_in_subs subs)
      (λ u. arena_alternatives_ways (chosen_of subs) subs u)
      (λ parts. subs_ways subs parts) v (or_within subs v) (λ parts. parts_within subs parts))

  -- those of alternatives, where one alone is no choice
  or_within : {T : Type 0} (ps : MDePats T) (v : MValue) →
      GoWithin (alternatives_by_ctor OrCtor ps (choices_in ps) (alternatives_in_subs ps))
      (arena_alternatives_ways (chosen_of ps) ps v)
  or_within {T} no_de_pats v = tt
  or_within {T} (more_de_pats p no_de_pats) v =
      within_both (and_others (arena_alternatives p) no_alternative) (map (λ w. w) (arena_ways p v)) []
      (within_more (arena_alternatives p) (and_others (arena_alternatives p) no_alternative)
      (choice_left (arena_alternatives p) no_alternative) (map (λ w. w) (arena_ways p v))
      (within_same (arena_alternatives p) (λ w. w) (λ w. refl) (arena_ways p v) (ways_within p v))) tt
  or_within {T} (more_de_pats p (more_de_pats q qs)) v =
      within_both (choices_in (more_de_pats p (more_de_pats q qs))) (map (choosing (uid_of p)) (arena_ways p v))
      (arena_alternatives_ways choosing (more_de_pats q qs) v)
      (chosen_within qs v p (choices_in (more_de_pats q qs)) (arena_ways p v) (ways_within p v))
      (within_more (choices_in (more_de_pats q qs)) (choices_in (more_de_pats p (more_de_pats q qs)))
      (λ i a k. inr (inr k))
      (arena_alternatives_ways choosing (more_de_pats q qs) v) (choices_within (more_de_pats q qs) v))

  -- those of alternatives that are chosen
  choices_within : {T : Type 0} (ps : MDePats T) (v : MValue) →
      GoWithin (choices_in ps) (arena_alternatives_ways choosing ps v)
  choices_within {T} no_de_pats v = tt
  choices_within {T} (more_de_pats p ps) v =
      within_both (choices_in (more_de_pats p ps)) (map (choosing (uid_of p)) (arena_ways p v))
      (arena_alternatives_ways choosing ps v)
      (chosen_within ps v p (choices_in ps) (arena_ways p v) (ways_within p v))
      (within_more (choices_in ps) (choices_in (more_de_pats p ps)) (λ i a k. inr (inr k))
      (arena_alternatives_ways choosing ps v)
      (choices_within ps v))

  -- those on parts
  parts_within : {T : Type 0} (ps : MDePats T) (parts : List NumberedPart) →
      GoWithin (alternatives_in_subs ps) (subs_ways ps parts)
  parts_within {T} no_de_pats [] = (tt, tt)
  parts_within {T} no_de_pats (n ∷ parts) = tt
  parts_within {T} (more_de_pats p ps) [] = tt
  parts_within {T} (more_de_pats p ps) (n ∷ parts) =
      combined_within (arena_alternatives p) (alternatives_in_subs ps) (map (under n.number) (arena_ways p n.part))
      (subs_ways ps parts)
      (within_same (arena_alternatives p) (under n.number) (λ w. refl) (arena_ways p n.part) (ways_within p n.part))
      (parts_within ps parts)

-- a function that gives each pattern's offset for its uid gives each alternative's
told_ctor : {T : Type 0} (g : ℕ → ℕ) (i a : ℕ) (c : MCtor) (subs : MDePats T) (choices inside : Alternatives) →
    (HasChoice i a choices → g i ≡ a) → (HasChoice i a inside → g i ≡ a) →
    HasChoice i a (alternatives_by_ctor c subs choices inside) → g i ≡ a
told_ctor g i a OrCtor no_de_pats choices inside f h k = h k
told_ctor g i a OrCtor (more_de_pats p no_de_pats) choices inside f h k = h k
told_ctor g i a OrCtor (more_de_pats p (more_de_pats q qs)) choices inside f h k = f k
told_ctor g i a c subs choices inside f h k = h k

told_here : {T : Type 0} (g : ℕ → ℕ) (p : MDePat T) → Told g p → g (uid_of p) ≡ at_of p
told_here g (de_pat c t uid at subs binds) h = h.0

mutual
  pub told_choice : {T : Type 0} (g : ℕ → ℕ) (p : MDePat T) (i a : ℕ) → Told g p →
      HasChoice i a (arena_alternatives p) → g i ≡ a
  told_choice {T} g (de_pat c t uid at subs binds) i a h k =
      told_ctor g i a c subs (choices_in subs) (alternatives_in_subs subs) (λ l. told_choices g subs i a h.1 l)
      (λ l. told_subs g subs i a h.1 l) k

  told_choices : {T : Type 0} (g : ℕ → ℕ) (ps : MDePats T) (i a : ℕ) → AllTold g ps → HasChoice i a (choices_in ps) →
      g i ≡ a
  told_choices {T} g no_de_pats i a h k = absurd k
  told_choices {T} g (more_de_pats p ps) i a h (inl e) = ap g e.0 ∙ (told_here g p h.0 ∙ sym e.1)
  told_choices {T} g (more_de_pats p ps) i a h (inr (inl k)) = told_choice g p i a h.0 k
  told_choices {T} g (more_de_pats p ps) i a h (inr (inr k)) = told_choices g ps i a h.1 k

  told_subs : {T : Type 0} (g : ℕ → ℕ) (ps : MDePats T) (i a : ℕ) → AllTold g ps →
      HasChoice i a (alternatives_in_subs ps) → g i ≡ a
  told_subs {T} g no_de_pats i a h k = absurd k
  told_subs {T} g (more_de_pats p ps) i a h k =
      choice_either (g i ≡ a) (arena_alternatives p) (alternatives_in_subs ps) i a (λ l. told_choice g p i a h.0 l)
      (λ l. told_subs g ps i a h.1 l) k
