-- A way goes only through alternatives that its pattern has.
use Rattle.std.proofs.Common.{◌≡◌, ◌⊎◌, inl, inr, ℕ, Bool, true, false, ◌||◌, List, [], ◌∷◌, ◌++◌, map, cond, Option, Some, None, nat_eq, refl, ap, sym, subst, ◌∙◌}
use Rattle.std.specs.List.{list_any}
use Rattle.match_model.specs.Values.{MValue}
use Rattle.match_model.specs.Ways.{Way, join, combine, under, choosing}
use Rattle.match_model.specs.Constructors.{MCtor, NumbersCtor, WildCtor, OrCtor}
use Rattle.match_model.specs.ArenaPatterns.{MBound, MDePat, de_pat, MDePats, no_de_pats, more_de_pats, uid_of}
use Rattle.match_model.specs.ArenaWays.{NumberedPart, parts_built, ways_where, with_bounds, with_spans_of, ways_by_ctor, chosen_of, arena_ways, subs_ways, arena_alternatives_ways}
use Rattle.match_model.specs.Matching.{span_way}
use Rattle.match_model.specs.Match.{goes_through, counting_ways}
use Rattle.match_model.specs.Numbering.{is_choice}
use Rattle.match_model.specs.Rows.{is_wild, is_or_ctor}
use Rattle.match_model.proofs.Basics.{untrue, either, or_left, or_right}
use Rattle.pattern_matrix.specs.Sparse.{head_at, heads_at}
use Rattle.pattern_matrix.specs.Counting.{head_passes, heads_pass}
use Rattle.pattern_matrix.proofs.Folds.{has, has-append}
use Rattle.usefulness.specs.Done.{choices_within, choices_among}

-- one of the ways goes through the alternative
abbrev some_through : ℕ → List Way → Bool
some_through id ws = list_any (goes_through id) ws

is_or : (c : MCtor) → is_or_ctor c ≡ true → c ≡ OrCtor
is_or OrCtor e = refl
is_or _ e = untrue e

module _ (id : ℕ) where
  through_more : (us vs : List Way) → some_through id (us ++ vs) ≡ true → (some_through id us ≡ true) ⊎ (some_through id vs ≡ true)
  through_more [] vs e = inr e
  through_more (u ∷ us) vs e = elim (either (goes_through id u) (some_through id (us ++ vs)) e) [
    | inl h ↦ inl (or_left (goes_through id u) (some_through id us) h)
    | inr h ↦ elim (through_more us vs h) [
      | inl k ↦ inl (or_right (goes_through id u) (some_through id us) k)
      | inr k ↦ inr k
    ]
  ]

  through_same : (f : Way → Way) → ((w : Way) → (f w).trace ≡ w.trace) → (ws : List Way) → some_through id (map f ws) ≡ some_through id ws
  through_same f same [] = refl
  through_same f same (w ∷ ws) = ap (λ t. has id t || some_through id (map f ws)) (same w) ∙ ap (λ b. has id w.trace || b) (through_same f same ws)

  through_join : (a : Way) (ws : List Way) → some_through id (map (join a) ws) ≡ true → (has id a.trace ≡ true) ⊎ (some_through id ws ≡ true)
  through_join a [] e = untrue e
  through_join a (w ∷ ws) e = elim (either (has id (a.trace ++ w.trace)) (some_through id (map (join a) ws)) e) [
    | inl h ↦ elim (either (has id a.trace) (has id w.trace) (sym (has-append id a.trace w.trace) ∙ h)) [
      | inl k ↦ inl k
      | inr k ↦ inr (or_left (has id w.trace) (some_through id ws) k)
    ]
    | inr h ↦ elim (through_join a ws h) [
      | inl k ↦ inl k
      | inr k ↦ inr (or_right (has id w.trace) (some_through id ws) k)
    ]
  ]

  through_both : (us vs : List Way) → some_through id (combine us vs) ≡ true → (some_through id us ≡ true) ⊎ (some_through id vs ≡ true)
  through_both [] vs e = untrue e
  through_both (u ∷ us) vs e = elim (through_more (map (join u) vs) (combine us vs) e) [
    | inl h ↦ elim (through_join u vs h) [
      | inl k ↦ inl (or_left (has id u.trace) (some_through id us) k)
      | inr k ↦ inr k
    ]
    | inr h ↦ elim (through_both us vs h) [
      | inl k ↦ inl (or_right (has id u.trace) (some_through id us) k)
      | inr k ↦ inr k
    ]
  ]

  through_chosen : (uid : ℕ) (ws : List Way) → some_through id (map (choosing uid) ws) ≡ true → (nat_eq id uid ≡ true) ⊎ (some_through id ws ≡ true)
  through_chosen uid [] e = untrue e
  through_chosen uid (w ∷ ws) e = elim (either (nat_eq id uid || has id w.trace) (some_through id (map (choosing uid) ws)) e) [
    | inl h ↦ elim (either (nat_eq id uid) (has id w.trace) h) [
      | inl k ↦ inl k
      | inr k ↦ inr (or_left (has id w.trace) (some_through id ws) k)
    ]
    | inr h ↦ elim (through_chosen uid ws h) [
      | inl k ↦ inl k
      | inr k ↦ inr (or_right (has id w.trace) (some_through id ws) k)
    ]
  ]

  through_itself : (ws : List Way) → some_through id (map (λ w. w) ws) ≡ some_through id ws
  through_itself ws = through_same (λ w. w) (λ w. refl) ws

  bound_trace : (binds : List MBound) (v : MValue) (w : Way) → (with_bounds binds v w).trace ≡ w.trace
  bound_trace [] v w = refl
  bound_trace (b ∷ binds) v w = bound_trace binds v w

  through_bound : (binds : List MBound) (v : MValue) (ws : List Way) → some_through id (map (with_bounds binds v) ws) ≡ some_through id ws
  through_bound binds v ws = through_same (with_bounds binds v) (bound_trace binds v) ws

  -- ways on the parts of a value
  on_parts : (Q : Type 0) (o : Option (List NumberedPart)) (on : List NumberedPart → List Way) → ((parts : List NumberedPart) → some_through id (on parts) ≡ true → Q) →
      some_through id (ways_where o on) ≡ true → Q
  on_parts Q None on f e = untrue e
  on_parts Q (Some parts) on f e = f parts e

  -- by the constructor
  by_ctor : (Q : Type 0) (c : MCtor) (at : ℕ) (others : MValue → List Way) (on : List NumberedPart → List Way) (v : MValue) →
      (is_or_ctor c ≡ true → some_through id (others v) ≡ true → Q) → ((parts : List NumberedPart) → some_through id (on parts) ≡ true → Q) →
      some_through id (ways_by_ctor c at others on v) ≡ true → Q
  by_ctor Q WildCtor at others on v f g e = untrue e
  by_ctor Q OrCtor at others on v f g e = f refl e
  by_ctor Q (NumbersCtor r) at others on v f g e =
      on_parts Q (parts_built (NumbersCtor r) v) on g
      (sym (through_same (with_spans_of (span_way at r)) (λ w. refl) (ways_where (parts_built (NumbersCtor r) v) on)) ∙ e)
  by_ctor Q c at others on v f g e = on_parts Q (parts_built c v) on g e

  past_own : (choice : Bool) (uid : ℕ) (rest : List ℕ) → has id rest ≡ true → has id (cond choice (uid ∷ []) [] ++ rest) ≡ true
  past_own true uid rest e = or_right (nat_eq id uid) (has id rest) e
  past_own false uid rest e = e

  -- of the ways that count
  counting_through : (g : Bool) (ws : List Way) → some_through id (counting_ways g ws) ≡ true → some_through id ws ≡ true
  counting_through true ws e = e
  counting_through false [] e = untrue e
  counting_through false (w ∷ ws) e = elim (either (goes_through id w) false e) [
    | inl h ↦ or_left (goes_through id w) (some_through id ws) h
    | inr h ↦ untrue h
  ]

  -- whatever was chosen is a choice
  abbrev Chooses : Bool → (ℕ → Way → Way) → Type 0
  Chooses choice choose =
      (uid : ℕ) (ws : List Way) → some_through id (map (choose uid) ws) ≡ true → ((choice ≡ true) × (nat_eq id uid ≡ true)) ⊎ (some_through id ws ≡ true)

  module _ {T : Type 0} where
    in_own : (choice : Bool) (p : MDePat T) (ps : MDePats T) → choice ≡ true → nat_eq id (uid_of p) ≡ true → has id (choices_among choice (more_de_pats p ps)) ≡ true
    in_own true p ps c e = or_left (nat_eq id (uid_of p)) (has id (choices_within p ++ choices_among true ps)) e
    in_own false p ps c e = untrue c

    in_first : (choice : Bool) (p : MDePat T) (ps : MDePats T) → has id (choices_within p) ≡ true → has id (choices_among choice (more_de_pats p ps)) ≡ true
    in_first choice p ps e =
        past_own choice (uid_of p) (choices_within p ++ choices_among choice ps)
        (has-append id (choices_within p) (choices_among choice ps) ∙ or_left (has id (choices_within p)) (has id (choices_among choice ps)) e)

    in_others : (choice : Bool) (p : MDePat T) (ps : MDePats T) → has id (choices_among choice ps) ≡ true → has id (choices_among choice (more_de_pats p ps)) ≡ true
    in_others choice p ps e =
        past_own choice (uid_of p) (choices_within p ++ choices_among choice ps)
        (has-append id (choices_within p) (choices_among choice ps) ∙ or_right (has id (choices_within p)) (has id (choices_among choice ps)) e)

    chooses : (subs : MDePats T) (uid : ℕ) (ws : List Way) → some_through id (map (chosen_of subs uid) ws) ≡ true →
        ((is_choice OrCtor subs ≡ true) × (nat_eq id uid ≡ true)) ⊎ (some_through id ws ≡ true)
    chooses no_de_pats uid ws e = inr (sym (through_itself ws) ∙ e)
    chooses (more_de_pats p no_de_pats) uid ws e = inr (sym (through_itself ws) ∙ e)
    chooses (more_de_pats p (more_de_pats q qs)) uid ws e = elim (through_chosen uid ws e) [ inl k ↦ inl (refl, k) | inr k ↦ inr k ]

    chooses_by : (c : MCtor) (subs : MDePats T) → is_or_ctor c ≡ true → Chooses (is_choice c subs) (chosen_of subs)
    chooses_by c subs e = λ uid ws h. subst (λ d. ((is_choice d subs ≡ true) × (nat_eq id uid ≡ true)) ⊎ (some_through id ws ≡ true)) (sym (is_or c e)) (chooses subs uid ws h)

    mutual
      pub ways_within : (p : MDePat T) (v : MValue) → some_through id (arena_ways p v) ≡ true → has id (choices_within p) ≡ true
      ways_within (de_pat c t uid at subs binds) v e =
          by_ctor (has id (choices_among (is_choice c subs) subs) ≡ true) c at (λ u. arena_alternatives_ways (chosen_of subs) subs u) (λ parts. subs_ways subs parts) v
          (λ o h. alternatives_within (is_choice c subs) (chosen_of subs) (chooses_by c subs o) subs v h)
          (λ parts h. subs_within (is_choice c subs) subs parts h)
          (sym (through_bound binds v (ways_by_ctor c at (λ u. arena_alternatives_ways (chosen_of subs) subs u) (λ parts. subs_ways subs parts) v)) ∙ e)

      alternatives_within : (choice : Bool) (choose : ℕ → Way → Way) → Chooses choice choose → (ps : MDePats T) (v : MValue) →
          some_through id (arena_alternatives_ways choose ps v) ≡ true → has id (choices_among choice ps) ≡ true
      alternatives_within choice choose f no_de_pats v e = untrue e
      alternatives_within choice choose f (more_de_pats p ps) v e = elim (through_more (map (choose (uid_of p)) (arena_ways p v)) (arena_alternatives_ways choose ps v) e) [
        | inl h ↦ elim (f (uid_of p) (arena_ways p v) h) [
          | inl k ↦ in_own choice p ps k.0 k.1
          | inr k ↦ in_first choice p ps (ways_within p v k)
        ]
        | inr h ↦ in_others choice p ps (alternatives_within choice choose f ps v h)
      ]

      subs_within : (choice : Bool) (ps : MDePats T) (parts : List NumberedPart) → some_through id (subs_ways ps parts) ≡ true → has id (choices_among choice ps) ≡ true
      subs_within choice no_de_pats [] e = untrue e
      subs_within choice no_de_pats (n ∷ parts) e = untrue e
      subs_within choice (more_de_pats p ps) [] e = untrue e
      subs_within choice (more_de_pats p ps) (n ∷ parts) e = elim (through_both (map (under n.number) (arena_ways p n.part)) (subs_ways ps parts) e) [
        | inl h ↦ in_first choice p ps (ways_within p n.part (sym (through_same (under n.number) (λ w. refl) (arena_ways p n.part)) ∙ h))
        | inr h ↦ in_others choice p ps (subs_within choice ps parts h)
      ]

    -- of heads that are listed
    abbrev pub some_choice : List (ℕ × MDePat T) → Bool
    some_choice heads = list_any (λ h. has id (choices_within h.1)) heads

    head_through : (g : Bool) (heads : List (ℕ × MDePat T)) (column : ℕ) (v : MValue) → head_passes g id (head_at heads column) v ≡ true → some_choice heads ≡ true
    head_through g [] column v e = untrue (sym (none g) ∙ e)
      where
        none : (g : Bool) → head_passes {T = T} g id None v ≡ false
        none true = refl
        none false = refl
    head_through g (h ∷ heads) column v e = go (nat_eq h.0 column) (is_wild (Some h.1)) (head_through g heads column v) e
      where
        go : (b w : Bool) → (head_passes g id (head_at heads column) v ≡ true → some_choice heads ≡ true) →
            head_passes g id (cond b (cond w None (Some h.1)) (head_at heads column)) v ≡ true → some_choice (h ∷ heads) ≡ true
        go true true f e = untrue (sym (none g) ∙ e)
          where
            none : (g : Bool) → head_passes {T = T} g id None v ≡ false
            none true = refl
            none false = refl
        go true false f e = or_left (has id (choices_within h.1)) (some_choice heads) (ways_within h.1 v (counting_through g (arena_ways h.1 v) e))
        go false w f e = or_right (has id (choices_within h.1)) (some_choice heads) (f e)

    pub heads_through : (g : Bool) (heads : List (ℕ × MDePat T)) (columns : List ℕ) (vs : List MValue) → heads_pass g id (heads_at heads columns) vs ≡ true → some_choice heads ≡ true
    heads_through g heads [] vs e = untrue e
    heads_through g heads (c ∷ columns) [] e = untrue e
    heads_through g heads (c ∷ columns) (v ∷ vs) e = elim (either (head_passes g id (head_at heads c) v) (heads_pass g id (heads_at heads columns) vs) e) [
      | inl h ↦ head_through g heads c v h
      | inr h ↦ heads_through g heads columns vs h
    ]
