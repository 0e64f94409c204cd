-- Entering a piece keeps the ways of a head: they are the products of what its patterns do on the parts.
use Rattle.std.proofs.Common.{◌≡◌, ◌≤◌, inl, inr, ℕ, zero, suc, true, List, [], ◌∷◌, ◌++◌, map, length, take, drop, Some, refl, sym, ap, ◌∙◌, arith, subst, cond}
use Rattle.std.specs.List.{flat_map}
use Rattle.std.proofs.lemmas.List.{map-append, append-nil}
use Rattle.match_model.specs.Values.{MValue}
use Rattle.match_model.specs.Constructors.{MCtor, has_piece}
use Rattle.match_model.specs.Ways.{Way, join, combine, under}
use Rattle.match_model.specs.ArenaPatterns.{MBound, de_pat, MDePats, no_de_pats, more_de_pats, de_pats_list}
use Rattle.match_model.specs.ArenaWays.{NumberedPart, arena_ways, subs_ways, arena_alternatives_ways, chosen_of, ways_by_ctor}
use Rattle.match_model.specs.Places.{part_at, position_at}
use Rattle.match_model.specs.Trees.{bindings_in}
use Rattle.match_model.specs.Rows.{Head, wildcards, heads_of}
use Rattle.match_model.specs.Matrices.{MColumn, head_ways, under_all, ways_at, heads_ways, bind_at}
use Rattle.match_model.specs.Keys.{Decision, key_of}
use Rattle.match_model.specs.Lists.{Among}
use Rattle.match_model.specs.Steps.{Replacement, specialise_head}
use Rattle.keyed_rows.proofs.Parting.{among-map}
use Rattle.keyed_rows.proofs.PullOut.{Done, times, done_of, done-join, replacement_done, HeadKeeps, map-among}
use Rattle.keyed_rows.proofs.Expanding.{bound_of, act, done-map-bounds}
use Rattle.keyed_rows.proofs.ExpandKeeps.{under-done}

-- nothing done
abbrev pub nothing_done : Done
nothing_done = record { key = key_of []; bindings = [] }

-- all pairs, joined
abbrev pub products : List Done → List Done → List Done
products xs ys = flat_map (λ x. map (times x) ys) xs

module _ (decides : ℕ → Decision) where
  abbrev pub all_done : List Way → List Done
  all_done ws = map (done_of decides) ws

  done-joins : (w : Way) (us : List Way) → all_done (map (join w) us) ≡ map (times (done_of decides w)) (all_done us)
  done-joins w [] = refl
  done-joins w (u ∷ us) = rw (done-join decides w u, done-joins w us) refl

  done-combine : (ws us : List Way) → all_done (combine ws us) ≡ products (all_done ws) (all_done us)
  done-combine [] us = refl
  done-combine (w ∷ ws) us =
      map-append (done_of decides) (map (join w) us) (combine ws us) ∙ rw (done-joins w us, done-combine ws us) refl

  done-under-all : (is : List ℕ) (ws : List Way) → all_done (map (under_all is) ws) ≡ all_done ws
  done-under-all is [] = refl
  done-under-all is (w ∷ ws) = rw (under-done decides is w, done-under-all is ws) refl

  done-under : (i : ℕ) (ws : List Way) → all_done (map (under i) ws) ≡ all_done ws
  done-under i [] = refl
  done-under i (w ∷ ws) = ap (λ l. done_of decides w ∷ l) (done-under i ws)

  alone : (ys : List Done) → products (nothing_done ∷ []) ys ≡ ys
  alone ys = append-nil (map (times nothing_done) ys) ∙ go ys
    where
      go : (l : List Done) → map (times nothing_done) l ≡ l
      go [] = refl
      go (y ∷ l) = ap (λ k. y ∷ k) (go l)

  module _ {T : Type 0} where
    -- what heads do on values, one by one
    abbrev pub heads_done : List (Head T) → List MValue → List Done
    heads_done [] [] = nothing_done ∷ []
    heads_done [] (x ∷ xs) = []
    heads_done (h ∷ hs) [] = []
    heads_done (h ∷ hs) (x ∷ xs) = products (all_done (head_ways h x)) (heads_done hs xs)

    -- wildcards do nothing
    wild-done : (m : ℕ) (ys xs : List MValue) (hs : List (Head T)) → length ys ≡ m →
        heads_done (wildcards m ++ hs) (ys ++ xs) ≡ heads_done hs xs
    wild-done zero [] xs hs e = refl
    wild-done zero (y ∷ ys) xs hs e = absurd (omega (arith, e))
    wild-done (suc m) [] xs hs e = absurd (omega (arith, e))
    wild-done (suc m) (y ∷ ys) xs hs e =
        alone (heads_done (wildcards m ++ hs) (ys ++ xs)) ∙ wild-done m ys xs hs (omega (arith, e))

    -- wildcards put in between
    pub between-done : (g m : ℕ) (hs : List (Head T)) (xs ys zs : List MValue) → length xs ≡ g → length ys ≡ m →
        g ≤ length hs → heads_done (take g hs ++ (wildcards m ++ drop g hs)) (xs ++ (ys ++ zs)) ≡ heads_done hs
        (xs ++ zs)
    between-done zero m hs [] ys zs e f l = wild-done m ys zs hs f
    between-done zero m hs (x ∷ xs) ys zs e f l = absurd (omega (arith, e))
    between-done (suc g) m hs [] ys zs e f l = absurd (omega (arith, e))
    between-done (suc g) m [] (x ∷ xs) ys zs e f l = absurd (omega (arith, l))
    between-done (suc g) m (h ∷ hs) (x ∷ xs) ys zs e f l =
        ap (products (all_done (head_ways h x))) (between-done g m hs xs ys zs (omega (arith, e)) f (omega (arith, l)))

    -- the patterns of parts do so
    pub subs-done : (subs : MDePats T) (parts : List NumberedPart) → length (de_pats_list subs) ≡ length parts →
        all_done (subs_ways subs parts) ≡ heads_done (map Some (de_pats_list subs)) (map (λ n. n.part) parts)
    subs-done no_de_pats [] e = refl
    subs-done no_de_pats (n ∷ parts) e = absurd (omega (arith, e))
    subs-done (more_de_pats p ps) [] e = absurd (omega (arith, e))
    subs-done (more_de_pats p ps) (n ∷ parts) e =
        done-combine (map (under n.number) (arena_ways p n.part)) (subs_ways ps parts)
        ∙ rw (done-under n.number (arena_ways p n.part), subs-done ps parts (omega (arith, e))) refl

    -- values at the places of columns
    abbrev pub AtColumns : MValue → List (MColumn T) → List MValue → Type 0
    AtColumns v [] [] = Unit {0}
    AtColumns v [] (x ∷ xs) = ⊥
    AtColumns v (c ∷ cs) [] = ⊥
    AtColumns v (c ∷ cs) (x ∷ xs) =
        (part_at c.place v ≡ Some x) × (((is : List ℕ) × (position_at c.place v ≡ Some is)) × AtColumns v cs xs)

    pub columns-done : (v : MValue) (cs : List (MColumn T)) (hs : List (Head T)) (xs : List MValue) →
        AtColumns v cs xs → length hs ≡ length cs → all_done (heads_ways cs hs v) ≡ heads_done hs xs
    columns-done v [] [] [] a e = refl
    columns-done v [] [] (x ∷ xs) a e = elim a [ ]
    columns-done v [] (h ∷ hs) xs a e = absurd (omega (arith, e))
    columns-done v (c ∷ cs) [] xs a e = absurd (omega (arith, e))
    columns-done v (c ∷ cs) (h ∷ hs) [] a e = elim a [ ]
    columns-done v (c ∷ cs) (h ∷ hs) (x ∷ xs) a e =
        done-combine (ways_at (position_at c.place v) (part_at c.place v) h) (heads_ways cs hs v)
        ∙ (ap (λ l. products l (all_done (heads_ways cs hs v))) one
        ∙ ap (products (all_done (head_ways h x))) (columns-done v cs hs xs a.1.1 (omega (arith, e))))
      where
        one : all_done (ways_at (position_at c.place v) (part_at c.place v) h) ≡ all_done (head_ways h x)
        one = rw (a.1.0.1, a.0) (done-under-all a.1.0.0 (head_ways h x))

    -- a head that has the piece
    module _ (piece : MCtor) (n : ℕ) (e : MColumn T) (cols : List (MColumn T)) (v u : MValue) (is : List ℕ)
        (xs : List MValue) (part : part_at e.place v ≡ Some u) (position : position_at e.place v ≡ Some is)
        (columns : AtColumns v cols xs) (count : length cols ≡ n) where
      here : (h : Head T) → all_done (ways_at (position_at e.place v) (part_at e.place v) h) ≡ all_done (head_ways h u)
      here h = rw (position, part) (done-under-all is (head_ways h u))

      -- from equal lists of what is done
      keeps-by : (h : Head T) (y : Replacement T) → specialise_head piece n h ≡ y ∷ [] → length y.heads ≡ length cols →
          all_done (head_ways h u) ≡ map (times (replacement_done decides e.place v y)) (heads_done y.heads xs) →
          HeadKeeps decides (specialise_head piece n) e cols v h
      keeps-by h y only wide same = record {
        wide = λ z a. ap (λ x. length x.heads) (lone z (subst (Among z) only a)) ∙ wide;
        forth = forth;
        back = λ z a w i. back z (lone z (subst (Among z) only a)) w i;
      }
        where
          lone : (z : Replacement T) → Among z (y ∷ []) → z ≡ y
          lone z (inl q) = q
          lone z (inr q) = absurd q

          all : all_done (ways_at (position_at e.place v) (part_at e.place v) h) ≡ map
              (times (replacement_done decides e.place v y)) (all_done (heads_ways cols y.heads v))
          all =
              here h ∙ (same ∙ ap (map (times (replacement_done decides e.place v y)))
              (sym (columns-done v cols y.heads xs columns wide)))

          forth : (a : Way) → Among a (ways_at (position_at e.place v) (part_at e.place v) h) →
              (z : Replacement T) × Among z (specialise_head piece n h) × ((w : Way) × Among w
              (heads_ways cols z.heads v) × (done_of decides a ≡ times (replacement_done decides e.place v z)
              (done_of decides w)))
          forth a i =
              let d = subst (Among (done_of decides a)) all (map-among (done_of decides)
              (ways_at (position_at e.place v) (part_at e.place v) h) a i) in
              let m = among-map (times (replacement_done decides e.place v y)) (all_done (heads_ways cols y.heads v))
              (done_of decides a) d in
              let w = among-map (done_of decides) (heads_ways cols y.heads v) m.0 m.1 in (
                y,
                subst (Among y) (sym only) (inl refl),
                (
                  w.0,
                  w.1,
                  m.2 ∙ ap
                      (times (replacement_done decides e.place v y)) w.2,
                ),
              )

          back : (z : Replacement T) → z ≡ y → (w : Way) → Among w (heads_ways cols z.heads v) → (a : Way)
              × Among a (ways_at (position_at e.place v) (part_at e.place v) h)
              × (done_of decides a ≡ times (replacement_done decides e.place v z) (done_of decides w))
          back z q w i =
              let j = subst (λ x. Among w (heads_ways cols x.heads v)) q i in
              let d = map-among (times (replacement_done decides e.place v y)) (all_done (heads_ways cols y.heads v))
              (done_of decides w) (map-among (done_of decides) (heads_ways cols y.heads v) w j) in
              let m = among-map (done_of decides) (ways_at (position_at e.place v) (part_at e.place v) h)
              (times (replacement_done decides e.place v y) (done_of decides w))
              (subst (Among (times (replacement_done decides e.place v y) (done_of decides w))) (sym all) d) in
              (m.0, m.1, sym m.2 ∙ ap (λ x. times (replacement_done decides e.place v x) (done_of decides w)) (sym q))

      -- a pattern whose constructor has the piece: its patterns do on the parts what its ways do
      pub piece-keeps : (c : MCtor) (t : T) (uid at : ℕ) (subs : MDePats T) (binds : List MBound) →
          has_piece c piece ≡ true → length (heads_of c (map Some (de_pats_list subs)) n) ≡ n →
          bound_of u binds ≡ bindings_in v (map (bind_at e.place) binds) →
          all_done (ways_by_ctor c at (λ w. arena_alternatives_ways (chosen_of subs) subs w)
          (λ parts. subs_ways subs parts) u) ≡ heads_done (heads_of c (map Some (de_pats_list subs)) n) xs →
          HeadKeeps decides (specialise_head piece n) e cols v (Some (de_pat c t uid at subs binds))
      piece-keeps c t uid at subs binds has wide bound ways =
          keeps-by (Some (de_pat c t uid at subs binds)) Y (ap (λ b. cond b (Y ∷ []) []) has) (wide ∙ sym count)
          (done-map-bounds decides u binds (ways_by_ctor c at (λ w. arena_alternatives_ways (chosen_of subs) subs w)
          (λ parts. subs_ways subs parts) u)
          ∙ (ap (map (act decides u binds)) ways ∙ ap (λ l. map (times (record { key = key_of []; bindings = l }))
          (heads_done (heads_of c (map Some (de_pats_list subs)) n) xs)) bound))
        where
          Y : Replacement T
          Y = record { heads = heads_of c (map Some (de_pats_list subs)) n; chosen = []; binds = binds }
