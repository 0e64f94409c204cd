-- The ways of an arm's pattern come in the order of what they decide.
use Rattle.std.proofs.Common.{◌≡◌, ◌<◌, ◌≤◌, inl, inr, ℕ, suc, ◌+◌, true, false, List, [], ◌∷◌, ◌++◌, map, Option, Some, None, refl, sym, ap, ◌∙◌, arith, cond, nat_eq, subst}
use Rattle.std.proofs.lemmas.Bool.Decides.{nat_tests}
use Rattle.std.proofs.lemmas.Bool.{cases_lt}
use Rattle.std.proofs.lemmas.List.{map-append}
use Rattle.match_model.specs.Values.{MValue}
use Rattle.match_model.specs.Constructors.{MCtor, SingleCtor, PointCtor, LaterCtor, OtherTextCtor, WildCtor, OrCtor, VariantCtor, FlagCtor, NumbersCtor, TextCtor, RowCtor}
use Rattle.match_model.specs.ArenaPatterns.{MBound, MDePat, de_pat, MDePats, no_de_pats, more_de_pats, uid_of}
use Rattle.match_model.specs.Ways.{Way, bare_way, join, combine, under, choosing}
use Rattle.match_model.specs.Matching.{span_way}
use Rattle.match_model.specs.ArenaWays.{NumberedPart, arena_ways, subs_ways, arena_alternatives_ways, with_bounds, with_spans_of, ways_where, parts_built, ways_by_ctor, chosen_of}
use Rattle.match_model.specs.Keys.{Decision, or_else, Key, IsBefore}
use Rattle.keyed_rows.specs.Dividing.{IsWithin}
use Rattle.match_model.specs.Lists.{Every, Ordered}
use Rattle.match_model.specs.Numbering.{own_count, or_count, or_counts, AreAlternatives, IsDecided, IsNumbered, AreNumbered, way_key}
use Rattle.keyed_rows.proofs.Lists.{every-append, every-map, every-to, ordered-append, ordered-map, key_of-append}

none_is_not : {A : Type 0} (f : Key) (o x : ℕ) → f o ≡ None → f o ≡ Some x → A
none_is_not f o x e h = cc

itself : (n : ℕ) → nat_eq n n ≡ true
itself n = grind (arith, nat_tests)

differs : (n o : ℕ) → o < n → nat_eq n o ≡ false
differs n o h = grind (arith, nat_tests)

differs_above : (n o : ℕ) → n < o → nat_eq n o ≡ false
differs_above n o h = grind (arith, nat_tests)

module _ (decides : ℕ → Decision) where
  -- the key of a way
  abbrev K : Way → Key
  K w = way_key decides w

  -- the way comes before the other
  abbrev pub Earlier : Way → Way → Type 0
  Earlier w u = IsBefore (K w) (K u)

  -- the ways come in order, and decide nothing outside these numbers
  pub record Fine (low high : ℕ) (ws : List Way) : Type 0 where
    pub ordered : Ordered Earlier ws
    pub within : Every (λ w. IsWithin low high (K w)) ws

  pub join-key : (a b : Way) (o : ℕ) → K (join a b) o ≡ or_else (K a o) (K b o)
  join-key a b o = rw (map-append decides a.trace b.trace) (key_of-append (map decides a.trace) (map decides b.trace) o)

  pub bounds-trace : (bs : List MBound) (v : MValue) (w : Way) → (with_bounds bs v w).trace ≡ w.trace
  bounds-trace [] v w = refl
  bounds-trace (b ∷ rest) v w = bounds-trace rest v w

  wider : (low high low' high' : ℕ) (f : Key) → low' ≤ low → high ≤ high' → IsWithin low high f → IsWithin low' high' f
  wider low high low' high' f h k w = record {
    below = λ o b. w.below o (omega (arith, b, h));
    above = λ o b. w.above o (omega (arith, b, k));
  }

  fine-wider : (low high low' high' : ℕ) (ws : List Way) → low' ≤ low → high ≤ high' → Fine low high ws →
      Fine low' high' ws
  fine-wider low high low' high' ws h k f = record {
    ordered = f.ordered;
    within =
        every-to (λ w. IsWithin low high (K w)) (λ w. IsWithin low' high' (K w)) ws
        (λ w i. wider low high low' high' (K w) h k i) f.within;
  }

  -- a map of ways that leaves what they decided
  fine-map : (low high : ℕ) (f : Way → Way) (ws : List Way) → ((w : Way) → (f w).trace ≡ w.trace) → Fine low high ws →
      Fine low high (map f ws)
  fine-map low high f ws h i = record {
    ordered = ordered-map Earlier Earlier f ws (λ w u b. before w u b) i.ordered;
    within = every-map (λ w. IsWithin low high (K w)) (λ w. IsWithin low high (K w)) f ws (λ w k. inside w k) i.within;
  }
    where
      before : (w u : Way) → Earlier w u → Earlier (f w) (f u)
      before w u b = rw (h w, h u) b

      inside : (w : Way) → IsWithin low high (K w) → IsWithin low high (K (f w))
      inside w k = rw (h w) k

  join-within : (low mid high : ℕ) (a b : Way) → low ≤ mid → mid ≤ high → IsWithin low mid (K a) → IsWithin
      mid high (K b) → IsWithin low high (K (join a b))
  join-within low mid high a b h k i j = record {
    below = λ o l. join-key a b o ∙ rw (i.below o l, j.below o (omega (arith, l, h))) refl;
    above = λ o l. join-key a b o ∙ rw (i.above o (omega (arith, l, k)), j.above o l) refl;
  }

  -- the second part comes before, the first being one
  join-second : (low mid high : ℕ) (a b c : Way) → IsWithin low mid (K a) → IsWithin mid high (K b) → Earlier b c →
      Earlier (join a b) (join a c)
  join-second low mid high a b c i j e =
      record {
        at = e.at;
        one = e.one;
        other = e.other;
        first = join-key a b e.at ∙ rw (i.above e.at late, e.first) refl;
        second = join-key a c e.at ∙ rw (i.above e.at late, e.second) refl;
        less = e.less;
        same = λ o l. join-key a b o ∙ rw (e.same o l) (sym (join-key a c o));
      }
    where
      late : mid ≤ e.at
      late = elim (cases_lt e.at mid) [ inl l ↦ none_is_not (K b) e.at e.one (j.below e.at l) e.first | inr l ↦ l ]

  -- the first part comes before
  join-first : (low mid high : ℕ) (a b c d : Way) → IsWithin low mid (K a) → IsWithin mid high (K b) → IsWithin
      mid high (K d) → Earlier a c → Earlier (join a b) (join c d)
  join-first low mid high a b c d i j k e =
      record {
        at = e.at;
        one = e.one;
        other = e.other;
        first = join-key a b e.at ∙ rw e.first refl;
        second = join-key c d e.at ∙ rw e.second refl;
        less = e.less;
        same = λ o l. join-key a b o ∙ (alike o l ∙ sym (join-key c d o));
      }
    where
      early : e.at < mid
      early = elim (cases_lt e.at mid) [ inl l ↦ l | inr l ↦ none_is_not (K a) e.at e.one (i.above e.at l) e.first ]

      alike : (o : ℕ) → o < e.at → or_else (K a o) (K b o) ≡ or_else (K c o) (K d o)
      alike o l =
          let below : o < mid = omega (arith, l, early) in
          rw (e.same o l, j.below o below, k.below o below) refl

  joins-ordered : (low mid high : ℕ) (a : Way) (us : List Way) → IsWithin low mid (K a) → Ordered Earlier us →
      Every (λ w. IsWithin mid high (K w)) us → Ordered Earlier (map (join a) us)
  joins-ordered low mid high a [] i o w = tt
  joins-ordered low mid high a (b ∷ us) i o w = (later us o.0, joins-ordered low mid high a us i o.1 w.1)
    where
      later : (cs : List Way) → Every (Earlier b) cs → Every (Earlier (join a b)) (map (join a) cs)
      later [] e = tt
      later (c ∷ cs) e = (join-second low mid high a b c i w.0 e.0, later cs e.1)

  joins-within : (low mid high : ℕ) (a : Way) (us : List Way) → low ≤ mid → mid ≤ high → IsWithin low mid (K a) →
      Every (λ w. IsWithin mid high (K w)) us → Every (λ w. IsWithin low high (K w)) (map (join a) us)
  joins-within low mid high a [] h k i w = tt
  joins-within low mid high a (b ∷ us) h k i w =
      (join-within low mid high a b h k i w.0, joins-within low mid high a us h k i w.1)

  joins-later : (low mid high : ℕ) (a b : Way) (ws us : List Way) → IsWithin low mid (K a) → IsWithin mid high (K b) →
      Every (Earlier a) ws → Every (λ w. IsWithin mid high (K w)) us → Every (Earlier (join a b)) (combine ws us)
  joins-later low mid high a b [] us i j e w = tt
  joins-later low mid high a b (c ∷ ws) us i j e w =
      every-append (Earlier (join a b)) (map (join c) us) (combine ws us) (go us w)
      (joins-later low mid high a b ws us i j e.1 w)
    where
      go : (ds : List Way) → Every (λ x. IsWithin mid high (K x)) ds → Every (Earlier (join a b)) (map (join c) ds)
      go [] k = tt
      go (d ∷ ds) k = (join-first low mid high a b c d i j k.0 e.0, go ds k.1)

  pub fine-combine : (low mid high : ℕ) (ws us : List Way) → low ≤ mid → mid ≤ high → Fine low mid ws →
      Fine mid high us → Fine low high (combine ws us)
  fine-combine low mid high [] us h k f g = record { ordered = tt; within = tt }
  fine-combine low mid high (a ∷ ws) us h k f g =
      let rest : Fine low high (combine ws us) = fine-combine low mid high ws us h k
      (record { ordered = f.ordered.1; within = f.within.1 }) g in
      record {
        ordered =
            ordered-append Earlier (map (join a) us) (combine ws us)
            (joins-ordered low mid high a us f.within.0 g.ordered g.within) rest.ordered (cross us g.within);
        within =
            every-append (λ w. IsWithin low high (K w)) (map (join a) us) (combine ws us)
            (joins-within low mid high a us h k f.within.0 g.within) rest.within;
      }
    where
      cross : (bs : List Way) → Every (λ w. IsWithin mid high (K w)) bs →
          Every (λ x. Every (Earlier x) (combine ws us)) (map (join a) bs)
      cross [] w = tt
      cross (b ∷ bs) w = (joins-later low mid high a b ws us f.within.0 w.0 f.ordered.0 g.within, cross bs w.1)

  -- the ways of alternatives: each has decided the or-pattern, from this alternative on
  record Chosen (n k low high : ℕ) (ws : List Way) : Type 0 where
    pub fine : Fine n high ws
    pub choice : Every (λ w. (a : ℕ) × (K w n ≡ Some a) × (k ≤ a)) ws

  choosing-key : (uid n k : ℕ) (w : Way) (o : ℕ) → decides uid ≡ record { number = n; alternative = k } →
      K (choosing uid w) o ≡ cond (nat_eq n o) (Some k) (K w o)
  choosing-key uid n k w o e = rw e refl

  choosing-here : (uid n k : ℕ) (w : Way) → decides uid ≡ record { number = n; alternative = k } →
      K (choosing uid w) n ≡ Some k
  choosing-here uid n k w e = choosing-key uid n k w n e ∙ rw (itself n) refl

  choosing-within : (uid n k m high : ℕ) (w : Way) → decides uid ≡ record { number = n; alternative = k } → n < m →
      m ≤ high → IsWithin m high (K w) → IsWithin n high (K (choosing uid w))
  choosing-within uid n k m high w e h g i = record {
    below = λ o l. choosing-key uid n k w o e ∙ rw (differs n o l, i.below o (omega (arith, l, h))) refl;
    above = λ o l. choosing-key uid n k w o e ∙ rw (differs_above n o (omega (arith, l, h, g)), i.above o l) refl;
  }

  choosing-earlier : (uid n k m high : ℕ) (w u : Way) → decides uid ≡ record { number = n; alternative = k } → n < m →
      IsWithin m high (K w) → Earlier w u → Earlier (choosing uid w) (choosing uid u)
  choosing-earlier uid n k m high w u e h i b =
      record {
        at = b.at;
        one = b.one;
        other = b.other;
        first = choosing-key uid n k w b.at e ∙ rw (differs_above n b.at late, b.first) refl;
        second = choosing-key uid n k u b.at e ∙ rw (differs_above n b.at late, b.second) refl;
        less = b.less;
        same = λ o l. choosing-key uid n k w o e ∙ rw (b.same o l) (sym (choosing-key uid n k u o e));
      }
    where
      late : n < b.at
      late =
          elim (cases_lt b.at m) [
            | inl l ↦ none_is_not (K w) b.at b.one (i.below b.at l) b.first
            | inr l ↦ omega
                (arith, h, l)
          ]

  -- the ways of the first alternative come before those of the later ones
  chosen-cross : (uid n k m high : ℕ) (ws us : List Way) → decides uid ≡ record { number = n; alternative = k } →
      Every (λ w. IsWithin m high (K w)) ws → n < m → Chosen n (suc k) n high us →
      Every (λ x. Every (Earlier x) us) (map (choosing uid) ws)
  chosen-cross uid n k m high [] us e i h c = tt
  chosen-cross uid n k m high (w ∷ ws) us e i h c =
      (go us c.choice c.fine.within, chosen-cross uid n k m high ws us e i.1 h c)
    where
      go : (xs : List Way) → Every (λ x. (a : ℕ) × (K x n ≡ Some a) × (suc k ≤ a)) xs →
          Every (λ x. IsWithin n high (K x)) xs → Every (Earlier (choosing uid w)) xs
      go [] p q = tt
      go (x ∷ xs) p q = (
        record {
          at = n;
          one = k;
          other = p.0.0;
          first = choosing-here uid n k w e;
          second = p.0.1;
          less = let later : suc k ≤ p.0.0 = p.0.2 in omega (arith, later);
          same =
              λ o l. choosing-key uid n k w o e ∙ rw (
                differs n o l,
                i.0.below o
                    (omega (arith, l, h)),
                q.0.below o l,
              ) refl;
        },
        go xs p.1 q.1,
      )

  chosen-join : (uid n k m high : ℕ) (ws us : List Way) → decides uid ≡ record { number = n; alternative = k } →
      n < m → m ≤ high → Fine m high ws → Chosen n (suc k) n high us →
      Chosen n k n high (map (choosing uid) ws ++ us)
  chosen-join uid n k m high ws us e h g f c =
      record {
        fine = record {
          ordered =
              ordered-append Earlier (map (choosing uid) ws) us (own ws f.ordered f.within) c.fine.ordered
              (chosen-cross uid n k m high ws us e f.within h c);
          within = every-append (λ w. IsWithin n high (K w)) (map (choosing uid) ws) us
              (every-map (λ w. IsWithin m high (K w)) (λ w. IsWithin n high (K w)) (choosing uid) ws
              (λ w i. choosing-within uid n k m high w e h g i) f.within) c.fine.within;
        };
        choice =
            every-append (λ w. (a : ℕ) × (K w n ≡ Some a) × (k ≤ a)) (map (choosing uid) ws) us (mine ws)
            (every-to _ _ us (λ w i. (i.0, i.1, lower i.0 i.2)) c.choice);
      }
    where
      lower : (a : ℕ) → suc k ≤ a → k ≤ a
      lower a l = omega (arith, l)

      own : (xs : List Way) → Ordered Earlier xs → Every (λ w. IsWithin m high (K w)) xs →
          Ordered Earlier (map (choosing uid) xs)
      own [] o w = tt
      own (x ∷ xs) o w = (after xs o.0, own xs o.1 w.1)
        where
          after : (ys : List Way) → Every (Earlier x) ys → Every (Earlier (choosing uid x)) (map (choosing uid) ys)
          after [] l = tt
          after (y ∷ ys) l = (choosing-earlier uid n k m high x y e h w.0 l.0, after ys l.1)

      mine : (xs : List Way) → Every (λ w. (a : ℕ) × (K w n ≡ Some a) × (k ≤ a)) (map (choosing uid) xs)
      mine [] = tt
      mine (x ∷ xs) = ((k, choosing-here uid n k x e, omega arith), mine xs)

  bare-fine : (low high : ℕ) → Fine low high (bare_way ∷ [])
  bare-fine low high = record { ordered = (tt, tt); within = (record { below = λ o l. refl; above = λ o l. refl }, tt) }

  none-fine : (low high : ℕ) → Fine low high []
  none-fine low high = record { ordered = tt; within = tt }

  where-fine : (low high : ℕ) (o : Option (List NumberedPart)) (ways_on : List NumberedPart → List Way) →
      ((ps : List NumberedPart) → Fine low high (ways_on ps)) → Fine low high (ways_where o ways_on)
  where-fine low high None ways_on h = none-fine low high
  where-fine low high (Some ps) ways_on h = h ps

  -- by the constructor, from what holds of the patterns below
  ctor-fine : {T : Type 0} (c : MCtor) (subs : MDePats T) (at n : ℕ) (v : MValue) →
      ((ps : List NumberedPart) → Fine n (own_count c subs + or_counts subs + n) (subs_ways subs ps)) →
      (c ≡ OrCtor → Fine n (own_count c subs + or_counts subs + n) (arena_alternatives_ways (chosen_of subs) subs v)) →
      Fine n (own_count c subs + or_counts subs + n) (ways_by_ctor c at
      (λ u. arena_alternatives_ways (chosen_of subs) subs u) (λ ps. subs_ways subs ps) v)
  ctor-fine SingleCtor subs at n v parts or = where-fine n _ (parts_built SingleCtor v) _ parts
  ctor-fine PointCtor subs at n v parts or = where-fine n _ (parts_built PointCtor v) _ parts
  ctor-fine LaterCtor subs at n v parts or = where-fine n _ (parts_built LaterCtor v) _ parts
  ctor-fine OtherTextCtor subs at n v parts or = where-fine n _ (parts_built OtherTextCtor v) _ parts
  ctor-fine (VariantCtor k) subs at n v parts or = where-fine n _ (parts_built (VariantCtor k) v) _ parts
  ctor-fine (FlagCtor b) subs at n v parts or = where-fine n _ (parts_built (FlagCtor b) v) _ parts
  ctor-fine (NumbersCtor r) subs at n v parts or =
      fine-map n _ (with_spans_of (span_way at r)) _ (λ w. refl) (where-fine n _
      (parts_built (NumbersCtor r) v) _ parts)
  ctor-fine (TextCtor t) subs at n v parts or = where-fine n _ (parts_built (TextCtor t) v) _ parts
  ctor-fine (RowCtor s) subs at n v parts or = where-fine n _ (parts_built (RowCtor s) v) _ parts
  ctor-fine WildCtor subs at n v parts or = bare-fine n _
  ctor-fine OrCtor subs at n v parts or = or refl

  same-sum : (a b m : ℕ) → a + (b + m) ≡ b + a + m
  same-sum a b m = omega arith

  -- the ways of the first of the patterns
  abbrev FirstFine : {T : Type 0} → ℕ → MValue → MDePats T → Type 0
  FirstFine n v no_de_pats = Unit {0}
  FirstFine n v (more_de_pats p ps) = Fine n (or_count p + n) (arena_ways p v)

  map-same : (ws : List Way) → map (λ w. w) ws ++ [] ≡ ws
  map-same [] = refl
  map-same (w ∷ ws) = ap (λ l. w ∷ l) (map-same ws)

  -- the ways of an or-pattern, from those of its alternatives
  only-or : {T : Type 0} (subs : MDePats T) (n : ℕ) (v : MValue) → IsDecided decides n OrCtor subs →
      AreNumbered decides (own_count OrCtor subs + n) subs →
      FirstFine (own_count OrCtor subs + n) v subs →
      (AreAlternatives decides n 0 subs → AreNumbered decides (1 + n) subs →
      Chosen n 0 n (or_counts subs + (1 + n)) (arena_alternatives_ways choosing subs v)) →
      Fine n (own_count OrCtor subs + or_counts subs + n) (arena_alternatives_ways (chosen_of subs) subs v)
  only-or no_de_pats n v d i f h = none-fine n _
  only-or (more_de_pats p no_de_pats) n v d i f h =
      rw (map-same (arena_ways p v)) (fine-wider (0 + n) (or_count p + (0 + n)) n (0 + (or_count p + 0) + n)
      (arena_ways p v) (omega arith) (omega arith) f)
  only-or (more_de_pats p (more_de_pats q qs)) n v d i f h =
      let c : Chosen n 0 n (or_count p + (or_count q + or_counts qs) + (1 + n)) (arena_alternatives_ways choosing (more_de_pats p (more_de_pats q qs)) v) = h d i in
      fine-wider n (or_count p + (or_count q + or_counts qs) + (1 + n)) n
      (1 + (or_count p + (or_count q + or_counts qs)) + n) (arena_alternatives_ways choosing
      (more_de_pats p (more_de_pats q qs)) v) (omega arith) (omega arith) c.fine

  or-fine : {T : Type 0} (c : MCtor) (subs : MDePats T) (n : ℕ) (v : MValue) → c ≡ OrCtor →
      IsDecided decides n c subs → AreNumbered decides (own_count c subs + n) subs →
      FirstFine (own_count c subs + n) v subs →
      (AreAlternatives decides n 0 subs → AreNumbered decides (1 + n) subs →
      Chosen n 0 n (or_counts subs + (1 + n)) (arena_alternatives_ways choosing subs v)) →
      Fine n (own_count c subs + or_counts subs + n) (arena_alternatives_ways (chosen_of subs) subs v)
  or-fine SingleCtor subs n v e d i f h = cc
  or-fine PointCtor subs n v e d i f h = cc
  or-fine LaterCtor subs n v e d i f h = cc
  or-fine OtherTextCtor subs n v e d i f h = cc
  or-fine (VariantCtor k) subs n v e d i f h = cc
  or-fine (FlagCtor b) subs n v e d i f h = cc
  or-fine (NumbersCtor r) subs n v e d i f h = cc
  or-fine (TextCtor t) subs n v e d i f h = cc
  or-fine (RowCtor s) subs n v e d i f h = cc
  or-fine WildCtor subs n v e d i f h = cc
  or-fine OrCtor subs n v e d i f h = only-or subs n v d i f h

  mutual
    -- the ways of a pattern that is numbered from `n` come in order, and decide its or-patterns alone
    pub pat-fine : {T : Type 0} (p : MDePat T) (n : ℕ) (v : MValue) → IsNumbered decides n p →
        Fine n (or_count p + n) (arena_ways p v)
    pat-fine (de_pat c t uid at subs binds) n v i =
        fine-map n _ (with_bounds binds v) _ (bounds-trace binds v)
        (
        ctor-fine c subs at n v
        (λ parts. fine-wider (own_count c subs + n) (or_counts subs + (own_count c subs + n)) n
        (own_count c subs + or_counts subs + n) (subs_ways subs parts) (omega arith) (omega arith)
        (subs-fine subs (own_count c subs + n) parts i.1))
        (λ e. or-fine c subs n v e i.0 i.1 (first-fine subs (own_count c subs + n) v i.1)
        (λ a j. choices-fine subs n 0 (1 + n) v a j (omega arith)))
        )

    pub subs-fine : {T : Type 0} (subs : MDePats T) (n : ℕ) (parts : List NumberedPart) → AreNumbered decides n subs →
        Fine n (or_counts subs + n) (subs_ways subs parts)
    subs-fine no_de_pats n [] i = bare-fine n _
    subs-fine no_de_pats n (q ∷ parts) i = none-fine n _
    subs-fine (more_de_pats p ps) n [] i = none-fine n _
    subs-fine (more_de_pats p ps) n (q ∷ parts) i =
        fine-wider n (or_counts ps + (or_count p + n)) n (or_count p + or_counts ps + n)
        (combine (map (under q.number) (arena_ways p q.part)) (subs_ways ps parts)) (omega arith) (omega arith)
        (
        fine-combine n (or_count p + n) (or_counts ps + (or_count p + n)) _ _ (omega arith) (omega arith)
        (fine-map n (or_count p + n) (under q.number) (arena_ways p q.part) (λ w. refl) (pat-fine p n q.part i.0))
        (subs-fine ps (or_count p + n) parts i.1)
        )

    choices-fine : {T : Type 0} (subs : MDePats T) (n k m : ℕ) (v : MValue) → AreAlternatives decides n k subs →
        AreNumbered decides m subs → n < m →
        Chosen n k n (or_counts subs + m) (arena_alternatives_ways choosing subs v)
    choices-fine no_de_pats n k m v a i h = record { fine = none-fine n _; choice = tt }
    choices-fine (more_de_pats p ps) n k m v a i h =
        chosen-join (uid_of p) n k m (or_count p + or_counts ps + m) (arena_ways p v)
        (arena_alternatives_ways choosing ps v) a.0 h (omega arith)
        (fine-wider m (or_count p + m) m (or_count p + or_counts ps + m) (arena_ways p v) (omega arith) (omega arith)
        (pat-fine p m v i.0))
        (subst (λ x. Chosen n (suc k) n x (arena_alternatives_ways choosing ps v))
        (same-sum (or_counts ps) (or_count p) m) (choices-fine ps n (suc k) (or_count p + m) v a.1 i.1
        (omega (arith, h))))

    first-fine : {T : Type 0} (subs : MDePats T) (n : ℕ) (v : MValue) → AreNumbered decides n subs → FirstFine n v subs
    first-fine no_de_pats n v i = tt
    first-fine (more_de_pats p ps) n v i = pat-fine p n v i.0
