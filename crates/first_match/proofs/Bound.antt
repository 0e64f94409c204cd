-- What the ways of a pattern bind, level by level.
use Rattle.std.proofs.Common.{◌≡◌, ◌<◌, ℕ, zero, suc, ◌+◌, ◌-◌, Bool, true, false, List, [], ◌∷◌, ◌++◌, map, length, take, drop, get_or, Option, Some, None, refl, sym, ap, subst, ◌∙◌, arith}
use Rattle.std.proofs.lemmas.List.{map-append, length-map, take-map, drop-map}
use Rattle.match_model.specs.ArenaPatterns.{MBound, de_pat, MDePats, no_de_pats, more_de_pats, de_pats_of}
use Rattle.match_model.specs.ArenaWays.{NumberedPart, numbered_from, parts_built, ways_where, with_bounds, with_spans_of, chosen_of, arena_ways, subs_ways, arena_alternatives_ways, parts_met}
use Rattle.match_model.specs.Constructors.{MCtor, SingleCtor, PointCtor, LaterCtor, OtherTextCtor, WildCtor, OrCtor, VariantCtor, FlagCtor, NumbersCtor, TextCtor, RowCtor, FixedShape, LongerShape, builds}
use Rattle.match_model.specs.Matching.{span_way}
use Rattle.match_model.specs.Places.{some_if}
use Rattle.match_model.specs.Values.{MValue, Point, parts_of}
use Rattle.match_model.specs.Ways.{Way, Binding, bind_into, bindings_of_both, combine, join, under}
use Rattle.pat_context.specs.Views.{plain_ctor}
use Rattle.pattern_arena.specs.declared.pattern.DePat.{DePat, out-DePat}
use Rattle.pattern_arena.specs.Trees.{tree, placed_subs, plain_bound}
use Rattle.pattern_arena.proofs.TreeFacts.{tree_out}
use Rattle.first_match.specs.Bound.{bound_by, bound_ways, inner_ways, all_both, bound_on, bound_in, is_wild, is_or, weight, weight_all}
use Rattle.first_match.specs.Names.{bound_to, put_all}
use Rattle.first_match.specs.Parts.{values_met}
use Rattle.first_match.proofs.Joined.{both_none, put_put}

-- ---- a pattern's own names

one_bound : (binds : List MBound) (v : MValue) (w : Way) →
    (with_bounds binds v w).bindings ≡ put_all (map (bound_to v) binds) w.bindings
one_bound [] v w = refl
one_bound (b ∷ rest) v w = ap (bind_into (bound_to v b)) (one_bound rest v w)

each_bound : (binds : List MBound) (v : MValue) (ws : List Way) →
    bound_by (map (with_bounds binds v) ws) ≡ map (put_all (map (bound_to v) binds)) (bound_by ws)
each_bound binds v [] = refl
each_bound binds v (w ∷ ws) =
    ap (λ (bs : List Binding). bs ∷ bound_by (map (with_bounds binds v) ws)) (one_bound binds v w)
    ∙ ap (λ (bss : List (List Binding)). put_all (map (bound_to v) binds) w.bindings ∷ bss) (each_bound binds v ws)

-- ---- combinations

under_bound : (i : ℕ) (ws : List Way) → bound_by (map (under i) ws) ≡ bound_by ws
under_bound i [] = refl
under_bound i (w ∷ ws) = ap (λ (bss : List (List Binding)). w.bindings ∷ bss) (under_bound i ws)

spans_bound : (s : Way) (ws : List Way) → bound_by (map (with_spans_of s) ws) ≡ bound_by ws
spans_bound s [] = refl
spans_bound s (w ∷ ws) = ap (λ (bss : List (List Binding)). w.bindings ∷ bss) (spans_bound s ws)

joined_bound : (a : Way) (ws : List Way) → bound_by (map (join a) ws) ≡ map (bindings_of_both a.bindings) (bound_by ws)
joined_bound a [] = refl
joined_bound a (w ∷ ws) =
    ap (λ (bss : List (List Binding)). bindings_of_both a.bindings w.bindings ∷ bss) (joined_bound a ws)

combined_bound : (xs ys : List Way) → bound_by (combine xs ys) ≡ all_both (bound_by xs) (bound_by ys)
combined_bound [] ys = refl
combined_bound (x ∷ xs) ys =
    map-append (λ (w : Way). w.bindings) (map (join x) ys) (combine xs ys)
    ∙ ap (λ (bss : List (List Binding)). bss ++ bound_by (combine xs ys)) (joined_bound x ys)
    ∙ ap (λ (bss : List (List Binding)). map (bindings_of_both x.bindings) (bound_by ys) ++ bss) (combined_bound xs ys)

-- ---- parts, and their numbers, which do not count

abbrev parts_alone : List NumberedPart → List MValue
parts_alone ns = map (λ n. n.part) ns

on_bound : {T : Type 0} (ps : MDePats T) (ns : List NumberedPart) → bound_by (subs_ways ps ns) ≡ bound_on ps (parts_alone ns)
on_bound no_de_pats [] = refl
on_bound no_de_pats (n ∷ ns) = refl
on_bound (more_de_pats p ps) [] = refl
on_bound (more_de_pats p ps) (n ∷ ns) =
    combined_bound (map (under n.number) (arena_ways p n.part)) (subs_ways ps ns)
    ∙ ap (λ (bss : List (List Binding)). all_both bss (bound_by (subs_ways ps ns))) (under_bound n.number (arena_ways p n.part))
    ∙ ap (all_both (bound_ways p n.part)) (on_bound ps ns)

alone_numbered : (i : ℕ) (vs : List MValue) → parts_alone (numbered_from i vs) ≡ vs
alone_numbered i [] = refl
alone_numbered i (v ∷ vs) = ap (λ (us : List MValue). v ∷ us) (alone_numbered (suc i) vs)

met_longer : (f b : ℕ) (ns : List NumberedPart) →
    parts_alone (parts_met (RowCtor (LongerShape f b)) ns) ≡ parts_met (RowCtor (LongerShape f b)) (parts_alone ns)
met_longer f b ns =
    let part : NumberedPart → MValue = λ n. n.part in
    map-append part (take f ns) (drop (length ns - b) ns)
    ∙ ap (λ (us : List MValue). us ++ map part (drop (length ns - b) ns)) (sym (take-map part f ns))
    ∙ ap (λ (us : List MValue). take f (map part ns) ++ us) (sym (drop-map part (length ns - b) ns))
    ∙ ap (λ (n : ℕ). take f (map part ns) ++ drop (n - b) (map part ns)) (sym (length-map ns part))

met_alone : (c : MCtor) (ns : List NumberedPart) → parts_alone (parts_met c ns) ≡ parts_met c (parts_alone ns)
met_alone (RowCtor (LongerShape f b)) ns = met_longer f b ns
met_alone (RowCtor (FixedShape n)) ns = refl
met_alone SingleCtor ns = refl
met_alone PointCtor ns = refl
met_alone LaterCtor ns = refl
met_alone OtherTextCtor ns = refl
met_alone WildCtor ns = refl
met_alone OrCtor ns = refl
met_alone (VariantCtor k) ns = refl
met_alone (FlagCtor b) ns = refl
met_alone (NumbersCtor r) ns = refl
met_alone (TextCtor t) ns = refl

-- what is bound on the parts, where there are any
abbrev pub bound_where : {T : Type 0} → Option (List MValue) → MDePats T → List (List Binding)
bound_where None ps = []
bound_where (Some vs) ps = bound_on ps vs

where_bound : {T : Type 0} (c : MCtor) (ps : MDePats T) (v : MValue) →
    bound_by (ways_where (parts_built c v) (λ parts. subs_ways ps parts)) ≡ bound_where (values_met c v) ps
where_bound c ps v = go (builds [] c v)
  where
    go : (b : Bool) →
        bound_by (ways_where (some_if b (parts_met c (numbered_from 0 (parts_of v)))) (λ parts. subs_ways ps parts))
        ≡ bound_where (some_if b (parts_met c (parts_of v))) ps
    go false = refl
    go true =
        on_bound ps (parts_met c (numbered_from 0 (parts_of v)))
        ∙ ap (bound_on ps) (met_alone c (numbered_from 0 (parts_of v)))
        ∙ ap (λ (us : List MValue). bound_on ps (parts_met c us)) (alone_numbered 0 (parts_of v))

-- ---- alternatives, whose choice is no binding

chosen_bound : {T : Type 0} (subs : MDePats T) (uid : ℕ) (ws : List Way) →
    bound_by (map (chosen_of subs uid) ws) ≡ bound_by ws
chosen_bound subs uid [] = refl
chosen_bound subs uid (w ∷ ws) =
    ap (λ (bs : List Binding). bs ∷ bound_by (map (chosen_of subs uid) ws)) (kept subs)
    ∙ ap (λ (bss : List (List Binding)). w.bindings ∷ bss) (chosen_bound subs uid ws)
  where
    kept : {T : Type 0} (qs : MDePats T) → (chosen_of qs uid w).bindings ≡ w.bindings
    kept no_de_pats = refl
    kept (more_de_pats p no_de_pats) = refl
    kept (more_de_pats p (more_de_pats q qs)) = refl

in_bound : {T : Type 0} (subs ps : MDePats T) (v : MValue) →
    bound_by (arena_alternatives_ways (chosen_of subs) ps v) ≡ bound_in ps v
in_bound subs no_de_pats v = refl
in_bound subs (more_de_pats (de_pat c t uid at below binds) ps) v =
    let ws = arena_ways (de_pat c t uid at below binds) v in
    map-append (λ (w : Way). w.bindings) (map (chosen_of subs uid) ws) (arena_alternatives_ways (chosen_of subs) ps v)
    ∙ ap (λ (bss : List (List Binding)). bss ++ bound_by (arena_alternatives_ways (chosen_of subs) ps v)) (chosen_bound subs uid ws)
    ∙ ap (λ (bss : List (List Binding)). bound_by ws ++ bss) (in_bound subs ps v)

-- ---- by constructors

-- what a wildcard, an or-pattern or any other pattern binds
abbrev by_kind : (wild or : Bool) → (alternatives parts : List (List Binding)) → List (List Binding)
by_kind true or alternatives parts = [] ∷ []
by_kind false true alternatives parts = alternatives
by_kind false false alternatives parts = parts

inner_by : {T : Type 0} (c : MCtor) (t : T) (uid at : ℕ) (subs : MDePats T) (binds : List MBound) (v : MValue) →
    inner_ways (de_pat c t uid at subs binds) v
    ≡ by_kind (is_wild c) (is_or c) (bound_in subs v) (bound_where (values_met c v) subs)
inner_by WildCtor t uid at subs binds v = refl
inner_by OrCtor t uid at subs binds v = in_bound subs subs v
inner_by (NumbersCtor r) t uid at subs binds v =
    spans_bound (span_way at r) (ways_where (parts_built (NumbersCtor r) v) (λ parts. subs_ways subs parts))
    ∙ where_bound (NumbersCtor r) subs v
inner_by SingleCtor t uid at subs binds v = where_bound SingleCtor subs v
inner_by PointCtor t uid at subs binds v = where_bound PointCtor subs v
inner_by LaterCtor t uid at subs binds v = where_bound LaterCtor subs v
inner_by OtherTextCtor t uid at subs binds v = where_bound OtherTextCtor subs v
inner_by (VariantCtor k) t uid at subs binds v = where_bound (VariantCtor k) subs v
inner_by (FlagCtor b) t uid at subs binds v = where_bound (FlagCtor b) subs v
inner_by (TextCtor u) t uid at subs binds v = where_bound (TextCtor u) subs v
inner_by (RowCtor s) t uid at subs binds v = where_bound (RowCtor s) subs v

-- ---- patterns of an arena

module _ {T : Type 0} (p : DePat T) where
  abbrev Ctor : MCtor
  Ctor = plain_ctor (out-DePat T p).form.now.ctor

  abbrev Subs : MDePats T
  Subs = de_pats_of (map tree (placed_subs p))

  abbrev Binds : List MBound
  Binds = map plain_bound (out-DePat T p).form.now.binds.now

  -- the own names come before those of the ways below
  pub own_names : (v : MValue) → bound_ways (tree p) v ≡ map (put_all (map (bound_to v) Binds)) (inner_ways (tree p) v)
  own_names v = rw (tree_out p) (each_bound Binds v _)

  inner_is : (v : MValue) →
      inner_ways (tree p) v ≡ by_kind (is_wild Ctor) (is_or Ctor) (bound_in Subs v) (bound_where (values_met Ctor v) Subs)
  inner_is v =
      rw (tree_out p) (inner_by Ctor (out-DePat T p).form.now.ty (out-DePat T p).uid (out-DePat T p).at Subs Binds v)

  pub inner_wild : (v : MValue) → is_wild Ctor ≡ true → inner_ways (tree p) v ≡ [] ∷ []
  inner_wild v e =
      inner_is v ∙ ap (λ b. by_kind b (is_or Ctor) (bound_in Subs v) (bound_where (values_met Ctor v) Subs)) e

  pub inner_or : (v : MValue) → is_wild Ctor ≡ false → is_or Ctor ≡ true → inner_ways (tree p) v ≡ bound_in Subs v
  inner_or v e d =
      inner_is v ∙ ap (λ b. by_kind b (is_or Ctor) (bound_in Subs v) (bound_where (values_met Ctor v) Subs)) e
      ∙ ap (λ b. by_kind false b (bound_in Subs v) (bound_where (values_met Ctor v) Subs)) d

  pub inner_parts : (v : MValue) → is_wild Ctor ≡ false → is_or Ctor ≡ false →
      inner_ways (tree p) v ≡ bound_where (values_met Ctor v) Subs
  inner_parts v e d =
      inner_is v ∙ ap (λ b. by_kind b (is_or Ctor) (bound_in Subs v) (bound_where (values_met Ctor v) Subs)) e
      ∙ ap (λ b. by_kind false b (bound_in Subs v) (bound_where (values_met Ctor v) Subs)) d

  -- a pattern is larger than those below it together
  pub weight_is : weight (tree p) ≡ suc (weight_all Subs)
  weight_is = ap weight (tree_out p)

-- the own names are added to those on the way
pub names_added : {T : Type 0} (p : DePat T) (v : MValue) (old new : List Binding) (all : List (List Binding)) →
    all ≡ map (put_all old) (bound_ways (tree p) v) →
    new ≡ old ++ map (bound_to v) (map plain_bound (out-DePat T p).form.now.binds.now) →
    all ≡ map (put_all new) (inner_ways (tree p) v)
names_added p v old new all h e =
    h ∙ ap (map (put_all old)) (own_names p v)
    ∙ put_put old (map (bound_to v) (Binds p)) (inner_ways (tree p) v)
    ∙ ap (λ (bs : List Binding). map (put_all bs) (inner_ways (tree p) v)) (sym e)

lone_part : (bss : List (List Binding)) → all_both bss ([] ∷ []) ≡ bss
lone_part [] = refl
lone_part (bs ∷ bss) =
    ap (λ (xs : List Binding). xs ∷ all_both bss ([] ∷ [])) (both_none bs)
    ∙ ap (λ (xss : List (List Binding)). bs ∷ xss) (lone_part bss)

-- behind a reference are the ways of the one pattern there
pub inner_point : {T : Type 0} (p q : DePat T) (mutable : Bool) (w : MValue) →
    plain_ctor (out-DePat T p).form.now.ctor ≡ PointCtor → placed_subs p ≡ q ∷ [] →
    inner_ways (tree p) (Point mutable w) ≡ bound_ways (tree q) w
inner_point p q mutable w e d =
    inner_is p (Point mutable w)
    ∙ ap (λ (c : MCtor). by_kind (is_wild c) (is_or c) (bound_in (Subs p) (Point mutable w)) (bound_where (values_met c (Point mutable w)) (Subs p))) e
    ∙ ap (λ (ps : List (DePat _)). bound_on (de_pats_of (map tree ps)) (w ∷ [])) d
    ∙ lone_part (bound_ways (tree q) w)

-- each of several patterns is smaller than all of them
pub weight_at : {T : Type 0} (ps : List (DePat T)) (i : ℕ) (d : DePat T) → i < length ps →
    weight (tree (get_or ps i d)) < weight_all (de_pats_of (map tree ps))
weight_at [] i d h = absurd (omega (arith, h))
weight_at (p ∷ ps) zero d h = omega arith
weight_at (p ∷ ps) (suc i) d h = omega (arith, weight_at ps i d (omega (arith, h)))

pub weight_item : {T : Type 0} (ps : List (DePat T)) (i : ℕ) (p : DePat T) → i < length ps → p ≡ get_or ps i p →
    weight (tree p) < weight_all (de_pats_of (map tree ps))
weight_item ps i p h at =
    subst (λ q. weight (tree q) < weight_all (de_pats_of (map tree ps))) (sym at) (weight_at ps i p h)
