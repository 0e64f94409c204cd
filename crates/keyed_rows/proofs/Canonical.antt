-- The bindings of a way are what comes of putting them in one by one, and have names of its pattern.
use Rattle.std.proofs.Common.{◌≡◌, inl, inr, ℕ, List, [], ◌∷◌, ◌++◌, map, Option, Some, None, refl, sym, subst, Ordering, Less, Equal, Greater}
use Rattle.std.specs.Ordering.{match_ordering}
use Rattle.match_model.specs.Values.{MValue}
use Rattle.match_model.specs.Texts.{compare_texts}
use Rattle.match_model.specs.Constructors.{MCtor, SingleCtor, PointCtor, LaterCtor, OtherTextCtor, WildCtor, OrCtor, VariantCtor, FlagCtor, NumbersCtor, TextCtor, RowCtor}
use Rattle.match_model.specs.ArenaPatterns.{MBound, MDePat, de_pat, MDePats, no_de_pats, more_de_pats, uid_of}
use Rattle.match_model.specs.Matching.{span_way}
use Rattle.match_model.specs.Ways.{Way, Binding, bare_way, join, combine, under, bind_into}
use Rattle.match_model.specs.ArenaWays.{NumberedPart, arena_ways, subs_ways, arena_alternatives_ways, with_bounds, bound_part, with_spans_of, ways_where, parts_built, ways_by_ctor, chosen_of}
use Rattle.match_model.specs.WellTyped.{names_in, names_in_all, bound_names}
use Rattle.match_model.specs.Lists.{Every, Among}
use Rattle.keyed_rows.proofs.Lists.{every-append, every-map, every-to}
use Rattle.keyed_rows.proofs.Bindings.{Canonical, canonical-into, canonical-both, both-put, put_all}
use Rattle.keyed_rows.proofs.PullOut.{left-among, right-among}

-- the bindings have these names alone
abbrev pub Named : List (List ℕ) → List Binding → Type 0
Named names bs = Every (λ b. Among b.name names) bs

pub named-into : (names : List (List ℕ)) (a : Binding) (bs : List Binding) → Among a.name names → Named names bs →
    Named names (bind_into a bs)
named-into names a [] h n = (h, tt)
named-into names a (b ∷ bs) h n = go (compare_texts b.name a.name) (named-into names a bs h n.1)
  where
    go : (o : Ordering) → Named names (bind_into a bs) → Named names (match_ordering o (b ∷ bind_into a bs)
        (a ∷ b ∷ bs) (a ∷ b ∷ bs))
    go Less k = (n.0, k)
    go Equal k = (h, n)
    go Greater k = (h, n)

named-put : (names : List (List ℕ)) (xs ys : List Binding) → Named names xs → Named names ys →
    Named names (put_all xs ys)
named-put names [] ys h k = k
named-put names (a ∷ xs) ys h k = named-into names a (put_all xs ys) h.0 (named-put names xs ys h.1 k)

named-more : (names others : List (List ℕ)) (bs : List Binding) → ((n : List ℕ) → Among n names → Among n others) →
    Named names bs → Named others bs
named-more names others bs h n = every-to _ _ bs (λ b i. h b.name i) n

-- a way whose bindings are in order and have these names
pub record Neat (names : List (List ℕ)) (w : Way) : Type 0 where
  pub canonical : Canonical w.bindings
  pub named : Named names w.bindings

neat-more : (names others : List (List ℕ)) (w : Way) → ((n : List ℕ) → Among n names → Among n others) → Neat names w →
    Neat others w
neat-more names others w h n = record { canonical = n.canonical; named = named-more names others w.bindings h n.named }

neat-join : (names : List (List ℕ)) (a b : Way) → Neat names a → Neat names b → Neat names (join a b)
neat-join names a b m n = record {
  canonical = canonical-both a.bindings b.bindings m.canonical n.canonical;
  named =
      subst (Named names) (sym (both-put a.bindings b.bindings m.canonical))
      (named-put names a.bindings b.bindings m.named n.named);
}

neat-combine : (names : List (List ℕ)) (ws us : List Way) → Every (Neat names) ws → Every (Neat names) us →
    Every (Neat names) (combine ws us)
neat-combine names [] us m n = tt
neat-combine names (w ∷ ws) us m n =
    every-append (Neat names) (map (join w) us) (combine ws us)
    (every-map (Neat names) (Neat names) (join w) us (λ u k. neat-join names w u m.0 k) n)
    (neat-combine names ws us m.1 n)

neat-bounds : (names : List (List ℕ)) (bs : List MBound) (v : MValue) (w : Way) → Every (λ b. Among b.name names) bs →
    Neat names w → Neat names (with_bounds bs v w)
neat-bounds names [] v w h n = n
neat-bounds names (b ∷ rest) v w h n =
    let k = neat-bounds names rest v w h.1 n in
    record {
      canonical =
          canonical-into (record { name = b.name; mode = b.mode; value = bound_part b.part v })
          (with_bounds rest v w).bindings k.canonical;
      named =
          named-into names (record { name = b.name; mode = b.mode; value = bound_part b.part v })
          (with_bounds rest v w).bindings h.0 k.named;
    }

own-names : (bs : List MBound) (names : List (List ℕ)) → ((n : List ℕ) → Among n (bound_names bs) → Among n names) →
    Every (λ b. Among b.name names) bs
own-names [] names h = tt
own-names (b ∷ bs) names h = (h b.name (inl refl), own-names bs names (λ n a. h n (inr a)))

neat-where : (names : List (List ℕ)) (o : Option (List NumberedPart)) (on : List NumberedPart → List Way) →
    ((ps : List NumberedPart) → Every (Neat names) (on ps)) → Every (Neat names) (ways_where o on)
neat-where names None on h = tt
neat-where names (Some ps) on h = h ps

-- a change that leaves the bindings
neat-map : (names : List (List ℕ)) (f : Way → Way) (ws : List Way) → ((w : Way) → (f w).bindings ≡ w.bindings) →
    Every (Neat names) ws → Every (Neat names) (map f ws)
neat-map names f ws h n =
    every-map (Neat names) (Neat names) f ws
    (λ w k. record {
      canonical = subst Canonical (sym (h w)) k.canonical;
      named = subst (Named names)
          (sym (h w)) k.named;
    }) n

bare-neat : (names : List (List ℕ)) → Neat names bare_way
bare-neat names = record { canonical = refl; named = tt }

neat-ctor : {T : Type 0} (names : List (List ℕ)) (c : MCtor) (subs : MDePats T) (at : ℕ) (v : MValue)
    (alternatives : MValue → List Way) (on : List NumberedPart → List Way) →
    ((u : MValue) → Every (Neat names) (alternatives u)) → ((ps : List NumberedPart) → Every (Neat names) (on ps)) →
    Every (Neat names) (ways_by_ctor c at alternatives on v)
neat-ctor names SingleCtor subs at v a o h k = neat-where names (parts_built SingleCtor v) o k
neat-ctor names PointCtor subs at v a o h k = neat-where names (parts_built PointCtor v) o k
neat-ctor names LaterCtor subs at v a o h k = neat-where names (parts_built LaterCtor v) o k
neat-ctor names OtherTextCtor subs at v a o h k = neat-where names (parts_built OtherTextCtor v) o k
neat-ctor names (VariantCtor i) subs at v a o h k = neat-where names (parts_built (VariantCtor i) v) o k
neat-ctor names (FlagCtor b) subs at v a o h k = neat-where names (parts_built (FlagCtor b) v) o k
neat-ctor names (NumbersCtor r) subs at v a o h k =
    neat-map names (with_spans_of (span_way at r)) (ways_where (parts_built (NumbersCtor r) v) o) (λ w. refl)
    (neat-where names (parts_built (NumbersCtor r) v) o k)
neat-ctor names (TextCtor t) subs at v a o h k = neat-where names (parts_built (TextCtor t) v) o k
neat-ctor names (RowCtor s) subs at v a o h k = neat-where names (parts_built (RowCtor s) v) o k
neat-ctor names WildCtor subs at v a o h k = (bare-neat names, tt)
neat-ctor names OrCtor subs at v a o h k = h v

chosen-bindings : {T : Type 0} (subs : MDePats T) (uid : ℕ) (w : Way) → (chosen_of subs uid w).bindings ≡ w.bindings
chosen-bindings no_de_pats uid w = refl
chosen-bindings (more_de_pats p no_de_pats) uid w = refl
chosen-bindings (more_de_pats p (more_de_pats q qs)) uid w = refl

mutual
  pub pat-neat : {T : Type 0} (p : MDePat T) (v : MValue) → Every (Neat (names_in p)) (arena_ways p v)
  pat-neat (de_pat c t uid at subs binds) v =
      every-map (Neat (bound_names binds ++ names_in_all subs)) (Neat (bound_names binds ++ names_in_all subs))
      (with_bounds binds v) _
      (λ w k. neat-bounds (bound_names binds ++ names_in_all subs) binds v w
      (own-names binds (bound_names binds ++ names_in_all subs) (λ n a. left-among (bound_names binds)
      (names_in_all subs) n a)) k)
      (neat-ctor (bound_names binds ++ names_in_all subs) c subs at v
      (λ u. arena_alternatives_ways (chosen_of subs) subs u) (λ parts. subs_ways subs parts)
      (λ u. every-to (Neat (names_in_all subs)) (Neat (bound_names binds ++ names_in_all subs))
      (arena_alternatives_ways (chosen_of subs) subs u) (λ w k. neat-more (names_in_all subs)
      (bound_names binds ++ names_in_all subs) w (λ n a. right-among (bound_names binds) (names_in_all subs) n a) k)
      (alternatives-neat subs (chosen_of subs) (λ i w. chosen-bindings subs i w) u))
      (λ parts. every-to (Neat (names_in_all subs)) (Neat (bound_names binds ++ names_in_all subs))
      (subs_ways subs parts) (λ w k. neat-more (names_in_all subs) (bound_names binds ++ names_in_all subs) w
      (λ n a. right-among (bound_names binds) (names_in_all subs) n a) k) (subs-neat subs parts)))

  subs-neat : {T : Type 0} (subs : MDePats T) (parts : List NumberedPart) →
      Every (Neat (names_in_all subs)) (subs_ways subs parts)
  subs-neat no_de_pats [] = (bare-neat [], tt)
  subs-neat no_de_pats (q ∷ parts) = tt
  subs-neat (more_de_pats p ps) [] = tt
  subs-neat (more_de_pats p ps) (q ∷ parts) =
      neat-combine (names_in p ++ names_in_all ps) (map (under q.number) (arena_ways p q.part)) (subs_ways ps parts)
      (neat-map (names_in p ++ names_in_all ps) (under q.number) (arena_ways p q.part) (λ w. refl)
      (every-to (Neat (names_in p)) (Neat (names_in p ++ names_in_all ps)) (arena_ways p q.part)
      (λ w k. neat-more (names_in p) (names_in p ++ names_in_all ps) w
      (λ n a. left-among (names_in p) (names_in_all ps) n a) k) (pat-neat p q.part)))
      (every-to (Neat (names_in_all ps)) (Neat (names_in p ++ names_in_all ps)) (subs_ways ps parts)
      (λ w k. neat-more (names_in_all ps) (names_in p ++ names_in_all ps) w
      (λ n a. right-among (names_in p) (names_in_all ps) n a) k) (subs-neat ps parts))

  alternatives-neat : {T : Type 0} (subs : MDePats T) (choose : ℕ → Way → Way) →
      ((i : ℕ) (w : Way) → (choose i w).bindings ≡ w.bindings) → (v : MValue) →
      Every (Neat (names_in_all subs)) (arena_alternatives_ways choose subs v)
  alternatives-neat no_de_pats choose h v = tt
  alternatives-neat (more_de_pats p ps) choose h v =
      every-append (Neat (names_in p ++ names_in_all ps)) (map (choose (uid_of p)) (arena_ways p v))
      (arena_alternatives_ways choose ps v)
      (neat-map (names_in p ++ names_in_all ps) (choose (uid_of p)) (arena_ways p v) (h (uid_of p))
      (every-to (Neat (names_in p)) (Neat (names_in p ++ names_in_all ps)) (arena_ways p v)
      (λ w k. neat-more (names_in p) (names_in p ++ names_in_all ps) w
      (λ n a. left-among (names_in p) (names_in_all ps) n a) k) (pat-neat p v)))
      (every-to (Neat (names_in_all ps)) (Neat (names_in p ++ names_in_all ps)) (arena_alternatives_ways choose ps v)
      (λ w k. neat-more (names_in_all ps) (names_in p ++ names_in_all ps) w
      (λ n a. right-among (names_in p) (names_in_all ps) n a) k) (alternatives-neat ps choose h v))
