-- The ways of a pattern by its offsets are those of the pattern without its uids.
use Rattle.std.proofs.Common.{◌≡◌, ◌⊎◌, inl, inr, ℕ, Bool, true, false, List, [], ◌∷◌, ◌++◌, map, Option, Some, None, nat_eq, refl, sym, ap, subst, ◌∙◌, arith, if◌then◌else◌}
use Rattle.std.proofs.lemmas.Bool.Decides.{nat_tests}
use Rattle.std.proofs.lemmas.List.{map-append}
use Rattle.std.specs.List.{AllByRecursion, IsDistinct}
use Rattle.std.proofs.lemmas.Map.Keys.{IsDistinct-head, IsDistinct-tail}
use Rattle.match_model.specs.Types.{MType}
use Rattle.match_model.specs.Values.{MValue}
use Rattle.match_model.specs.Constructors.{MCtor, WildCtor, OrCtor, NumbersCtor}
use Rattle.match_model.specs.Ways.{Way, combine, join, under, choosing, binding}
use Rattle.match_model.specs.Matching.{span_way}
use Rattle.match_model.specs.Lists.{Among}
use Rattle.match_model.specs.ArenaPatterns.{MBound, MDePat, de_pat, MDePats, no_de_pats, more_de_pats, uid_of, at_of}
use Rattle.match_model.specs.ArenaWays.{NumberedPart, parts_built, ways_where, bound_part, with_bounds, with_spans_of, ways_by_ctor, chosen_of, arena_ways, subs_ways, arena_alternatives_ways}
use Rattle.match_model.specs.WellTyped.{uids_in, uids_in_all}
use Rattle.pattern_rules.specs.ArenaForms.{offset_or, offset_in, offset_in_all, number_or, by_offsets}
use Rattle.pattern_rules.specs.Shown.{uid_under, settled, settled_all}

-- the way with its trace renamed
abbrev pub renamed : (ℕ → ℕ) → Way → Way
renamed g w = record w { trace = map g w.trace }

renamed_join : (g : ℕ → ℕ) (a b : Way) → renamed g (join a b) ≡ join (renamed g a) (renamed g b)
renamed_join g a b = rw (map-append g a.trace b.trace) refl

renamed_map_join : (g : ℕ → ℕ) (a : Way) (ws : List Way) → map (renamed g) (map (join a) ws) ≡ map
    (join (renamed g a)) (map (renamed g) ws)
renamed_map_join g a [] = refl
renamed_map_join g a (w ∷ ws) = rw (renamed_join g a w, renamed_map_join g a ws) refl

renamed_combine : (g : ℕ → ℕ) (xs ys : List Way) → map (renamed g) (combine xs ys) ≡ combine (map (renamed g) xs)
    (map (renamed g) ys)
renamed_combine g [] ys = refl
renamed_combine g (x ∷ xs) ys = map-append (renamed g) (map (join x) ys) (combine xs ys)
    ∙ rw (renamed_map_join g x ys, renamed_combine g xs ys) refl

-- a change that does not look at the trace
renamed_past : (g : ℕ → ℕ) (f : Way → Way) (ws : List Way) → ((w : Way) → renamed g (f w) ≡ f (renamed g w)) →
    map (renamed g) (map f ws) ≡ map f (map (renamed g) ws)
renamed_past g f [] h = refl
renamed_past g f (w ∷ ws) h = rw (h w, renamed_past g f ws h) refl

renamed_bounds : (g : ℕ → ℕ) (bs : List MBound) (v : MValue) (w : Way) → renamed g (with_bounds bs v w)
    ≡ with_bounds bs v (renamed g w)
renamed_bounds g [] v w = refl
renamed_bounds g (b ∷ bs) v w = ap (binding b.name b.mode (bound_part b.part v)) (renamed_bounds g bs v w)

renamed_where : (g : ℕ → ℕ) (o : Option (List NumberedPart)) (f h : List NumberedPart → List Way) →
    ((parts : List NumberedPart) → map (renamed g) (f parts) ≡ h parts) →
    map (renamed g) (ways_where o f) ≡ ways_where o h
renamed_where g None f h e = refl
renamed_where g (Some parts) f h e = e parts

-- the ways of a level from those of its parts
renamed_level : (g : ℕ → ℕ) (c : MCtor) (at : ℕ) (f f' : MValue → List Way) (h h' : List NumberedPart → List Way)
    (v : MValue) →
    (c ≡ OrCtor → map (renamed g) (f v) ≡ f' v) →
    ((parts : List NumberedPart) → map (renamed g) (h parts) ≡ h' parts) →
    map (renamed g) (ways_by_ctor c at f h v) ≡ ways_by_ctor c at f' h' v
renamed_level g WildCtor at f f' h h' v a b = refl
renamed_level g OrCtor at f f' h h' v a b = a refl
renamed_level g (NumbersCtor r) at f f' h h' v a b =
    renamed_past g (with_spans_of (span_way at r)) (ways_where (parts_built (NumbersCtor r) v) h) (λ w. refl)
    ∙ ap (map (with_spans_of (span_way at r))) (renamed_where g (parts_built (NumbersCtor r) v) h h' b)
renamed_level g c at f f' h h' v a b = renamed_where g (parts_built c v) h h' b

-- the function gives each pattern's offset for its uid
abbrev mutual
  pub Told : {T : Type 0} → (ℕ → ℕ) → MDePat T → Type 0
  Told g (de_pat c t uid at subs binds) = (g uid ≡ at) × AllTold g subs

  pub AllTold : {T : Type 0} → (ℕ → ℕ) → MDePats T → Type 0
  AllTold g no_de_pats = Unit {0}
  AllTold g (more_de_pats p ps) = Told g p × AllTold g ps

told_here : {T : Type 0} (g : ℕ → ℕ) (p : MDePat T) → Told g p → g (uid_of p) ≡ at_of p
told_here g (de_pat c t uid at subs binds) h = h.0

uid_settled : {T : Type 0} (type : T → MType) (u : ℕ) (p : MDePat T) → uid_of (settled type u p) ≡ u
uid_settled type u (de_pat c t uid at subs binds) = refl

renamed_chosen : (g : ℕ → ℕ) (choose choose' : ℕ → Way → Way) →
    ((u : ℕ) (w : Way) → renamed g (choose u w) ≡ choose' (g u) (renamed g w)) → (u : ℕ) (ws : List Way) →
    map (renamed g) (map (choose u) ws) ≡ map (choose' (g u)) (map (renamed g) ws)
renamed_chosen g choose choose' h u [] = refl
renamed_chosen g choose choose' h u (w ∷ ws) = rw (h u w, renamed_chosen g choose choose' h u ws) refl

-- alternatives, where they are so however they are chosen
renamed_or : {T : Type 0} (type : T → MType) (g : ℕ → ℕ) (c : MCtor) (ps : MDePats T) (v : MValue) → c ≡ OrCtor →
    ((choose choose' : ℕ → Way → Way) → ((u : ℕ) (w : Way) → renamed g (choose u w) ≡ choose' (g u) (renamed g w)) →
    map (renamed g) (arena_alternatives_ways choose ps v) ≡ arena_alternatives_ways choose'
    (settled_all type OrCtor ps) v) →
    map (renamed g) (arena_alternatives_ways (chosen_of ps) ps v) ≡ arena_alternatives_ways
    (chosen_of (settled_all type c ps)) (settled_all type c ps) v
renamed_or type g c no_de_pats v e h = refl
renamed_or type g c (more_de_pats p no_de_pats) v e h = rw e (h (λ u w. w) (λ u w. w) (λ u w. refl))
renamed_or type g c (more_de_pats p (more_de_pats q ps)) v e h = rw e
    (h (λ u w. choosing u w) (λ u w. choosing u w) (λ u w. refl))

mutual
  -- the ways with each uid replaced by the offset
  pub renamed_ways : {T : Type 0} (type : T → MType) (g : ℕ → ℕ) (p : MDePat T) (u : ℕ) (v : MValue) → Told g p →
      map (renamed g) (arena_ways p v) ≡ arena_ways (settled type u p) v
  renamed_ways {T} type g (de_pat c t uid at subs bs) u v r =
      renamed_past g (with_bounds bs v) (ways_by_ctor c at (λ w. arena_alternatives_ways (chosen_of subs) subs w)
      (λ parts. subs_ways subs parts) v) (λ w. renamed_bounds g bs v w)
      ∙ ap (map (with_bounds bs v))
      (renamed_level g c at (λ w. arena_alternatives_ways (chosen_of subs) subs w)
      (λ w. arena_alternatives_ways (chosen_of (settled_all type c subs)) (settled_all type c subs) w)
      (λ parts. subs_ways subs parts) (λ parts. subs_ways (settled_all type c subs) parts) v
      (λ e. renamed_or type g c subs v e
      (λ choose choose' h. renamed_alternatives type g choose choose' h subs v r.1))
      (λ parts. renamed_subs type g c subs parts r.1))

  renamed_alternatives : {T : Type 0} (type : T → MType) (g : ℕ → ℕ) (choose choose' : ℕ → Way → Way) →
      ((u : ℕ) (w : Way) → renamed g (choose u w) ≡ choose' (g u) (renamed g w)) →
      (ps : MDePats T) (v : MValue) → AllTold g ps → map (renamed g) (arena_alternatives_ways choose ps v)
      ≡ arena_alternatives_ways choose' (settled_all type OrCtor ps) v
  renamed_alternatives {T} type g choose choose' h no_de_pats v r = refl
  renamed_alternatives {T} type g choose choose' h (more_de_pats p ps) v r =
      map-append (renamed g) (map (choose (uid_of p)) (arena_ways p v)) (arena_alternatives_ways choose ps v)
      ∙ rw (
        renamed_chosen g choose choose' h (uid_of p) (arena_ways p v),
        told_here g p r.0,
        uid_settled type (at_of p) p,
        renamed_ways type g p (at_of p) v r.0,
        renamed_alternatives type g choose choose' h ps v r.1,
      ) refl

  renamed_subs : {T : Type 0} (type : T → MType) (g : ℕ → ℕ) (c : MCtor) (ps : MDePats T)
      (parts : List NumberedPart) → AllTold g ps →
      map (renamed g) (subs_ways ps parts) ≡ subs_ways (settled_all type c ps) parts
  renamed_subs {T} type g c no_de_pats [] r = refl
  renamed_subs {T} type g c no_de_pats (n ∷ parts) r = refl
  renamed_subs {T} type g c (more_de_pats p ps) [] r = refl
  renamed_subs {T} type g c (more_de_pats p ps) (n ∷ parts) r =
      renamed_combine g (map (under n.number) (arena_ways p n.part)) (subs_ways ps parts)
      ∙ rw (
        renamed_past g (under n.number) (arena_ways p n.part) (λ w. refl),
        renamed_ways type g p (uid_under c p) n.part r.0,
        renamed_subs type g c ps parts r.1,
      ) refl

-- what holds of all holds of one
all_among : (P : ℕ → Type 0) (xs : List ℕ) (x : ℕ) → AllByRecursion P xs → Among x xs → P x
all_among P [] x h a = absurd a
all_among P (y ∷ xs) x h (inl e) = subst P (sym e) h.0
all_among P (y ∷ xs) x h (inr a) = all_among P xs x h.1 a

all_left : (P : ℕ → Type 0) (xs ys : List ℕ) → AllByRecursion P (xs ++ ys) → AllByRecursion P xs
all_left P [] ys h = tt
all_left P (x ∷ xs) ys h = (h.0, all_left P xs ys h.1)

all_right : (P : ℕ → Type 0) (xs ys : List ℕ) → AllByRecursion P (xs ++ ys) → AllByRecursion P ys
all_right P [] ys h = h
all_right P (x ∷ xs) ys h = all_right P xs ys h.1

-- no number stands twice
abbrev pub Differ : List ℕ → Type 0
Differ [] = Unit {0}
Differ (x ∷ xs) = AllByRecursion (λ y. nat_eq x y ≡ false) xs × Differ xs

pub differ_from : (xs : List ℕ) → IsDistinct nat_eq xs → Differ xs
differ_from [] h = tt
differ_from (x ∷ xs) h = (IsDistinct-head nat_eq x xs h, differ_from xs (IsDistinct-tail nat_eq x xs h))

distinct_left : (xs ys : List ℕ) → Differ (xs ++ ys) → Differ xs
distinct_left [] ys h = tt
distinct_left (x ∷ xs) ys h = (all_left (λ y. nat_eq x y ≡ false) xs ys h.0, distinct_left xs ys h.1)

distinct_right : (xs ys : List ℕ) → Differ (xs ++ ys) → Differ ys
distinct_right [] ys h = h
distinct_right (x ∷ xs) ys h = distinct_right xs ys h.1

distinct_apart : (xs ys : List ℕ) (u : ℕ) → Differ (xs ++ ys) → Among u xs → Among u ys → ⊥
distinct_apart [] ys u h a b = a
distinct_apart (x ∷ xs) ys u h (inl e) b = apart
    (all_among (λ y. nat_eq x y ≡ false) ys u (all_right (λ y. nat_eq x y ≡ false) xs ys h.0) b)
  where
    apart : nat_eq x u ≡ false → ⊥
    apart n = let t : nat_eq x u ≡ true = grind (arith, nat_tests, e) in clash (sym n ∙ t)
      where
        clash : false ≡ true → ⊥
        clash z = absurd cc
distinct_apart (x ∷ xs) ys u h (inr a) b = distinct_apart xs ys u h.1 a b

among_either : (xs ys : List ℕ) (u : ℕ) → Among u (xs ++ ys) → Among u xs ⊎ Among u ys
among_either [] ys u h = inr h
among_either (x ∷ xs) ys u (inl e) = inl (inl e)
among_either (x ∷ xs) ys u (inr h) = by (among_either xs ys u h)
  where
    by : Among u xs ⊎ Among u ys → Among u (x ∷ xs) ⊎ Among u ys
    by (inl a) = inl (inr a)
    by (inr a) = inr a

among_left : (xs ys : List ℕ) (u : ℕ) → Among u xs → Among u (xs ++ ys)
among_left [] ys u h = absurd h
among_left (x ∷ xs) ys u (inl e) = inl e
among_left (x ∷ xs) ys u (inr h) = inr (among_left xs ys u h)

among_right : (xs ys : List ℕ) (u : ℕ) → Among u ys → Among u (xs ++ ys)
among_right [] ys u h = h
among_right (x ∷ xs) ys u h = inr (among_right xs ys u h)

-- an offset is found where the uid is
IsThere : Option ℕ → Type 0
IsThere None = ⊥
IsThere (Some n) = Unit {0}

or_there : (a b : Option ℕ) → IsThere a → offset_or a b ≡ a
unfolding IsThere
or_there None b h = absurd h
or_there (Some n) b h = refl

mutual
  unfolding IsThere

  found_in : {T : Type 0} (p : MDePat T) (u : ℕ) → Among u (uids_in p) → IsThere (offset_in u p)
  found_in {T} (de_pat c t uid at subs binds) u (inl e) = let same : nat_eq u uid ≡ true = grind
      (arith, nat_tests, e) in rw same tt
  found_in {T} (de_pat c t uid at subs binds) u (inr a) = go (nat_eq u uid) (found_in_all subs u a)
    where
      go : (b : Bool) → IsThere (offset_in_all u subs) → IsThere (if b then Some at else offset_in_all u subs)
      go true h = tt
      go false h = h

  found_in_all : {T : Type 0} (ps : MDePats T) (u : ℕ) → Among u (uids_in_all ps) → IsThere (offset_in_all u ps)
  found_in_all {T} no_de_pats u a = absurd a
  found_in_all {T} (more_de_pats p ps) u a = go (among_either (uids_in p) (uids_in_all ps) u a) (λ b. found_in p u b)
      (λ b. found_in_all ps u b)
    where
      either : (x y : Option ℕ) → IsThere x ⊎ IsThere y → IsThere (offset_or x y)
      either None y (inl h) = absurd h
      either None y (inr h) = h
      either (Some n) y h = tt

      go : Among u (uids_in p) ⊎ Among u (uids_in_all ps) → (Among u (uids_in p) → IsThere (offset_in u p)) →
          (Among u (uids_in_all ps) → IsThere (offset_in_all u ps)) →
          IsThere (offset_or (offset_in u p) (offset_in_all u ps))
      go (inl b) f g = either (offset_in u p) (offset_in_all u ps) (inl (f b))
      go (inr b) f g = either (offset_in u p) (offset_in_all u ps) (inr (g b))

mutual
  -- none is found where the uid is not
  none_in : {T : Type 0} (p : MDePat T) (u : ℕ) → (Among u (uids_in p) → ⊥) → offset_in u p ≡ None
  none_in {T} (de_pat c t uid at subs binds) u h =
      let other : nat_eq u uid ≡ false = different in
      rw other (none_in_all subs u (λ a. h (inr a)))
    where
      different : nat_eq u uid ≡ false
      different = go (nat_eq u uid) refl
        where
          go : (b : Bool) → nat_eq u uid ≡ b → nat_eq u uid ≡ false
          go false e = e
          go true e = let same : u ≡ uid = grind (arith, nat_tests, e) in absurd (h (inl same))

  none_in_all : {T : Type 0} (ps : MDePats T) (u : ℕ) → (Among u (uids_in_all ps) → ⊥) → offset_in_all u ps ≡ None
  none_in_all {T} no_de_pats u h = refl
  none_in_all {T} (more_de_pats p ps) u h =
      rw (
        none_in p u (λ a. h (among_left (uids_in p) (uids_in_all ps) u a)),
        none_in_all ps u
            (λ a. h (among_right (uids_in p) (uids_in_all ps) u a)),
      ) refl

-- the function that looks uids up in a pattern whose uids differ
mutual
  pub told_in : {T : Type 0} (L : ℕ → Option ℕ) (p : MDePat T) → Differ (uids_in p) →
      ((u : ℕ) → Among u (uids_in p) → L u ≡ offset_in u p) → Told (λ u. number_or u (L u)) p
  told_in {T} L (de_pat c t uid at subs binds) d h = (here, told_in_all L subs d.1 below)
    where
      same : nat_eq uid uid ≡ true
      same = grind (arith, nat_tests)

      found : L uid ≡ Some at
      found = h uid (inl refl) ∙ rw same refl

      here : number_or uid (L uid) ≡ at
      here = rw found refl

      below : (u : ℕ) → Among u (uids_in_all subs) → L u ≡ offset_in_all u subs
      below u a =
          let differs : nat_eq uid u ≡ false = all_among (λ y. nat_eq uid y ≡ false) (uids_in_all subs) u d.0 a in
          let other : nat_eq u uid ≡ false = grind (arith, nat_tests, differs) in
          h u (inr a) ∙ rw other refl

  told_in_all : {T : Type 0} (L : ℕ → Option ℕ) (ps : MDePats T) → Differ (uids_in_all ps) →
      ((u : ℕ) → Among u (uids_in_all ps) → L u ≡ offset_in_all u ps) → AllTold (λ u. number_or u (L u)) ps
  told_in_all {T} L no_de_pats d h = tt
  told_in_all {T} L (more_de_pats p ps) d h = (
    told_in L p (distinct_left (uids_in p) (uids_in_all ps) d)
        (λ u a. h u (among_left (uids_in p) (uids_in_all ps) u a) ∙ or_there (offset_in u p) (offset_in_all u ps)
        (found_in p u a)),
    told_in_all L ps (distinct_right (uids_in p) (uids_in_all ps) d)
        (λ u a. h u (among_right (uids_in p) (uids_in_all ps) u a) ∙ ap (λ x. offset_or x (offset_in_all u ps))
        (none_in p u (λ b. distinct_apart (uids_in p) (uids_in_all ps) u d b a))),
  )

-- the ways by offsets
pub offset_ways : {T : Type 0} (type : T → MType) (p : MDePat T) (u : ℕ) (v : MValue) →
    IsDistinct nat_eq (uids_in p) → map (by_offsets p) (arena_ways p v) ≡ arena_ways (settled type u p) v
offset_ways {T} type p u v d = renamed_ways type (λ n. number_or n (offset_in n p)) p u v
    (told_in (λ n. offset_in n p) p (differ_from (uids_in p) d) (λ n a. refl))
