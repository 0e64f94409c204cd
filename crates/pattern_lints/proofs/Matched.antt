-- A pattern matches a value exactly where its constructor builds it and the patterns below match the parts that they meet.
use Rattle.std.proofs.Common.{◌≡◌, inl, inr, ℕ, zero, suc, Bool, true, false, not, List, [], ◌∷◌, map, length, slice_get, Option, Some, None, refl, sym, ap, subst, arith}
use Rattle.match_model.specs.Values.{MValue, parts_of}
use Rattle.match_model.specs.Ways.{Way, bare_way, join, combine, under}
use Rattle.match_model.specs.Lists.{Among}
use Rattle.match_model.specs.Match.{is_empty_list}
use Rattle.match_model.specs.Matching.{span_way}
use Rattle.match_model.specs.Constructors.{MCtor, WildCtor, OrCtor, NumbersCtor, builds, parts_met}
use Rattle.match_model.specs.ArenaPatterns.{MDePat, de_pat, MDePats, no_de_pats, more_de_pats, de_pats_list, ctor_of, subs_of, uid_of}
use Rattle.match_model.specs.ArenaWays.{NumberedPart, numbered_from, parts_built, ways_where, with_bounds, with_spans_of, ways_by_ctor, chosen_of, arena_ways, subs_ways, arena_alternatives_ways}
use Rattle.match_model.specs.Places.{some_if}
use Rattle.match_model.proofs.Basics.{untrue}
use Rattle.keyed_rows.proofs.Parting.{among-map}
use Rattle.keyed_rows.proofs.PullOut.{map-among, left-among, right-among, flat-among}
use Rattle.keyed_rows.proofs.RowOrder.{among-append, among-flat}
use Rattle.pattern_lints.specs.Along.{matches}
use Rattle.pattern_lints.specs.Meeting.{IsSharp}
use Rattle.pattern_lints.proofs.HeadParts.{some_same}

-- ---- ways there are

pub some_way : (ws : List Way) → not (is_empty_list ws) ≡ true → (w : Way) × Among w ws
some_way [] h = untrue h
some_way (w ∷ ws) h = (w, inl refl)

pub way_there : (ws : List Way) (w : Way) → Among w ws → not (is_empty_list ws) ≡ true
way_there [] w a = elim a [ ]
way_there (x ∷ ws) w a = refl

pub both_ways : (xs ys : List Way) (x y : Way) → Among x xs → Among y ys → Among (join x y) (combine xs ys)
both_ways xs ys x y a b = flat-among (λ a. map (join a) ys) xs x (join x y) a (map-among (join x) ys y b)

-- a combination is one of two ways
pub record IsBoth (xs ys : List Way) (w : Way) : Type 0 where
  pub first : Way
  pub second : Way
  pub in_first : Among first xs
  pub in_second : Among second ys
  pub is : w ≡ join first second

pub of_both : (xs ys : List Way) (w : Way) → Among w (combine xs ys) → IsBoth xs ys w
of_both xs ys w a =
    let m = among-flat (λ x. map (join x) ys) xs w a in
    let n = among-map (join m.0) ys w m.2 in
    record { first = m.0; second = n.0; in_first = m.1; in_second = n.1; is = n.2 }

-- ---- the patterns below and their parts

-- there are as many patterns as parts, and each matches its part
pub record AllMatched {T : Type 0} (ps : List (MDePat T)) (parts : List NumberedPart) : Type 0 where
  pub count : length parts ≡ length ps
  pub each : (j : ℕ) (q : MDePat T) (n : NumberedPart) → slice_get ps j ≡ Some q → slice_get parts j ≡ Some n →
      matches q n.part ≡ true

pub none_matched : {T : Type 0} → AllMatched {T = T} [] []
none_matched = record { count = refl; each = λ j q n h k. cc }

pub more_matched : {T : Type 0} (p : MDePat T) (ps : List (MDePat T)) (n : NumberedPart) (parts : List NumberedPart) →
    matches p n.part ≡ true → AllMatched ps parts → AllMatched (p ∷ ps) (n ∷ parts)
more_matched {T} p ps n parts h m = record { count = ap suc m.count; each = each }
  where
    each : (j : ℕ) (q : MDePat T) (k : NumberedPart) → slice_get (p ∷ ps) j ≡ Some q → slice_get (n ∷ parts) j ≡ Some k → matches q k.part ≡ true
    each zero q k e f = subst (λ x. matches x k.part ≡ true) (some_same p q e) (subst (λ (x : NumberedPart). matches p x.part ≡ true) (some_same n k f) h)
    each (suc j) q k e f = m.each j q k e f

pub subs_matched : {T : Type 0} (ps : MDePats T) (parts : List NumberedPart) (w : Way) → Among w (subs_ways ps parts) →
    AllMatched (de_pats_list ps) parts
subs_matched no_de_pats [] w a = none_matched
subs_matched no_de_pats (n ∷ parts) w a = elim a [ ]
subs_matched (more_de_pats p ps) [] w a = elim a [ ]
subs_matched (more_de_pats p ps) (n ∷ parts) w a =
    let b = of_both (map (under n.number) (arena_ways p n.part)) (subs_ways ps parts) w a in
    let m = among-map (under n.number) (arena_ways p n.part) b.first b.in_first in
    more_matched p (de_pats_list ps) n parts (way_there (arena_ways p n.part) m.0 m.1) (subs_matched ps parts b.second b.in_second)

pub matched_rest : {T : Type 0} (p : MDePat T) (ps : List (MDePat T)) (n : NumberedPart) (parts : List NumberedPart) →
    AllMatched (p ∷ ps) (n ∷ parts) → AllMatched ps parts
matched_rest p ps n parts m = record { count = let e : suc (length parts) ≡ suc (length ps) = m.count in omega (arith, e); each = λ j q k e f. m.each (suc j) q k e f }

pub matched_subs : {T : Type 0} (ps : MDePats T) (parts : List NumberedPart) → AllMatched (de_pats_list ps) parts →
    (w : Way) × Among w (subs_ways ps parts)
matched_subs no_de_pats [] m = (bare_way, inl refl)
matched_subs no_de_pats (n ∷ parts) m = let e : suc (length parts) ≡ 0 = m.count in absurd (omega (arith, e))
matched_subs (more_de_pats p ps) [] m = let e : 0 ≡ suc (length (de_pats_list ps)) = m.count in absurd (omega (arith, e))
matched_subs (more_de_pats p ps) (n ∷ parts) m =
    let f = some_way (arena_ways p n.part) (m.each 0 p n refl refl) in
    let r = matched_subs ps parts (matched_rest p (de_pats_list ps) n parts m) in
    (join (under n.number f.0) r.0, both_ways (map (under n.number) (arena_ways p n.part)) (subs_ways ps parts) (under n.number f.0) r.0 (map-among (under n.number) (arena_ways p n.part) f.0 f.1) r.1)

-- ---- patterns by their constructor

-- the constructor builds the value, and the patterns below match what they meet of it
pub record IsPartsMatched {T : Type 0} (c : MCtor) (ps : List (MDePat T)) (v : MValue) : Type 0 where
  pub build : builds [] c v ≡ true
  pub all : AllMatched ps (parts_met c (numbered_from 0 (parts_of v)))

-- the parts that are met, where the value is built
pub parts_where : (c : MCtor) (v : MValue) → builds [] c v ≡ true → parts_built c v ≡ Some (parts_met c (numbered_from 0 (parts_of v)))
parts_where c v h = ap (λ b. some_if b (parts_met c (numbered_from 0 (parts_of v)))) h

pub record IsBuilt (c : MCtor) (v : MValue) (parts : List NumberedPart) : Type 0 where
  pub build : builds [] c v ≡ true
  pub are : parts ≡ parts_met c (numbered_from 0 (parts_of v))

pub built_where : (c : MCtor) (v : MValue) (parts : List NumberedPart) → parts_built c v ≡ Some parts → IsBuilt c v parts
built_where c v parts h = go (builds [] c v) refl h
  where
    go : (b : Bool) → builds [] c v ≡ b → some_if b (parts_met c (numbered_from 0 (parts_of v))) ≡ Some parts → IsBuilt c v parts
    go true e k = record { build = e; are = sym (some_same (parts_met c (numbered_from 0 (parts_of v))) parts k) }
    go false e k = cc

-- the ways on the parts that are met
abbrev pub part_ways : {T : Type 0} → MCtor → MDePats T → MValue → List Way
part_ways c ps v = ways_where (parts_built c v) (λ parts. subs_ways ps parts)

pub ways_of_parts : {T : Type 0} (c : MCtor) (ps : MDePats T) (v : MValue) (w : Way) → Among w (part_ways c ps v) →
    (parts : List NumberedPart) × (parts_built c v ≡ Some parts) × Among w (subs_ways ps parts)
ways_of_parts c ps v w a = go (parts_built c v) refl a
  where
    go : (o : Option (List NumberedPart)) → parts_built c v ≡ o → Among w (ways_where o (λ parts. subs_ways ps parts)) →
        (parts : List NumberedPart) × (parts_built c v ≡ Some parts) × Among w (subs_ways ps parts)
    go None e a = elim a [ ]
    go (Some parts) e a = (parts, e, a)

pub parts_of_ways : {T : Type 0} (c : MCtor) (ps : MDePats T) (v : MValue) (w : Way) (parts : List NumberedPart) → parts_built c v ≡ Some parts →
    Among w (subs_ways ps parts) → Among w (part_ways c ps v)
parts_of_ways c ps v w parts e a = subst (λ o. Among w (ways_where o (λ parts. subs_ways ps parts))) (sym e) a

ctor_ways : {T : Type 0} (c : MCtor) (at : ℕ) (subs : MDePats T) (v : MValue) (w : Way) → IsSharp c →
    Among w (ways_by_ctor c at (λ u. arena_alternatives_ways (chosen_of subs) subs u) (λ parts. subs_ways subs parts) v) →
    (x : Way) × Among x (part_ways c subs v)
ctor_ways WildCtor at subs v w s a = absurd s
ctor_ways OrCtor at subs v w s a = absurd s
ctor_ways (NumbersCtor r) at subs v w s a = let m = among-map (with_spans_of (span_way at r)) (part_ways (NumbersCtor r) subs v) w a in (m.0, m.1)
ctor_ways c at subs v w s a = (w, a)

ways_ctor : {T : Type 0} (c : MCtor) (at : ℕ) (subs : MDePats T) (v : MValue) (w : Way) → IsSharp c → Among w (part_ways c subs v) →
    (x : Way) × Among x (ways_by_ctor c at (λ u. arena_alternatives_ways (chosen_of subs) subs u) (λ parts. subs_ways subs parts) v)
ways_ctor WildCtor at subs v w s a = absurd s
ways_ctor OrCtor at subs v w s a = absurd s
ways_ctor (NumbersCtor r) at subs v w s a =
    (with_spans_of (span_way at r) w, map-among (with_spans_of (span_way at r)) (part_ways (NumbersCtor r) subs v) w a)
ways_ctor c at subs v w s a = (w, a)

-- a pattern that is no wildcard and no or-pattern matches by its parts
pub sharp_forth : {T : Type 0} (p : MDePat T) (v : MValue) → IsSharp (ctor_of p) → matches p v ≡ true → IsPartsMatched (ctor_of p) (subs_of p) v
sharp_forth {T} (de_pat c t uid at subs binds) v s h =
    let w = some_way (arena_ways (de_pat c t uid at subs binds) v) h in
    let m = among-map (with_bounds binds v) (ways_by_ctor c at (λ u. arena_alternatives_ways (chosen_of subs) subs u) (λ parts. subs_ways subs parts) v) w.0 w.1 in
    let x = ctor_ways c at subs v m.0 s m.1 in
    let k = ways_of_parts c subs v x.0 x.1 in
    let b = built_where c v k.0 k.1 in
    record { build = b.build; all = subst (λ parts. AllMatched (de_pats_list subs) parts) b.are (subs_matched subs k.0 x.0 k.2) }

pub sharp_back : {T : Type 0} (p : MDePat T) (v : MValue) → IsSharp (ctor_of p) → IsPartsMatched (ctor_of p) (subs_of p) v → matches p v ≡ true
sharp_back (de_pat c t uid at subs binds) v s h =
    let w = matched_subs subs (parts_met c (numbered_from 0 (parts_of v))) h.all in
    let a = parts_of_ways c subs v w.0 (parts_met c (numbered_from 0 (parts_of v))) (parts_where c v h.build) w.1 in
    let x = ways_ctor c at subs v w.0 s a in
    way_there (arena_ways (de_pat c t uid at subs binds) v) (with_bounds binds v x.0)
    (map-among (with_bounds binds v) (ways_by_ctor c at (λ u. arena_alternatives_ways (chosen_of subs) subs u) (λ parts. subs_ways subs parts) v) x.0 x.1)

-- an or-pattern matches by its alternatives

alternatives_match : {T : Type 0} (choose : ℕ → Way → Way) (ps : MDePats T) (v : MValue) (w : Way) → Among w (arena_alternatives_ways choose ps v) →
    (j : ℕ) × (q : MDePat T) × (slice_get (de_pats_list ps) j ≡ Some q) × (matches q v ≡ true)
alternatives_match choose no_de_pats v w a = elim a [ ]
alternatives_match choose (more_de_pats p ps) v w a =
    elim (among-append (map (choose (uid_of p)) (arena_ways p v)) (arena_alternatives_ways choose ps v) w a) [
      | inl c ↦ (let m = among-map (choose (uid_of p)) (arena_ways p v) w c in (0, p, refl, way_there (arena_ways p v) m.0 m.1))
      | inr c ↦ (let r = alternatives_match choose ps v w c in (suc r.0, r.1, r.2, r.3))
    ]

match_alternatives : {T : Type 0} (choose : ℕ → Way → Way) (ps : MDePats T) (v : MValue) (j : ℕ) (q : MDePat T) → slice_get (de_pats_list ps) j ≡ Some q →
    matches q v ≡ true → (w : Way) × Among w (arena_alternatives_ways choose ps v)
match_alternatives choose no_de_pats v j q e h = cc
match_alternatives choose (more_de_pats p ps) v zero q e h = here (subst (λ x. matches x v ≡ true) (sym (some_same p q e)) h)
  where
    here : matches p v ≡ true → (w : Way) × Among w (arena_alternatives_ways choose (more_de_pats p ps) v)
    here h =
        let w = some_way (arena_ways p v) h in
        (choose (uid_of p) w.0, left-among (map (choose (uid_of p)) (arena_ways p v)) (arena_alternatives_ways choose ps v) (choose (uid_of p) w.0) (map-among (choose (uid_of p)) (arena_ways p v) w.0 w.1))
match_alternatives choose (more_de_pats p ps) v (suc j) q e h =
    let r = match_alternatives choose ps v j q e h in
    (r.0, right-among (map (choose (uid_of p)) (arena_ways p v)) (arena_alternatives_ways choose ps v) r.0 r.1)

pub or_forth : {T : Type 0} (p : MDePat T) (v : MValue) → ctor_of p ≡ OrCtor → matches p v ≡ true →
    (j : ℕ) × (q : MDePat T) × (slice_get (subs_of p) j ≡ Some q) × (matches q v ≡ true)
or_forth (de_pat c t uid at subs binds) v or h =
    let w = some_way (arena_ways (de_pat OrCtor t uid at subs binds) v) (subst (λ x. matches (de_pat x t uid at subs binds) v ≡ true) or h) in
    let m = among-map (with_bounds binds v) (arena_alternatives_ways (chosen_of subs) subs v) w.0 w.1 in
    alternatives_match (chosen_of subs) subs v m.0 m.1

pub or_back : {T : Type 0} (p : MDePat T) (v : MValue) (j : ℕ) (q : MDePat T) → ctor_of p ≡ OrCtor → slice_get (subs_of p) j ≡ Some q → matches q v ≡ true →
    matches p v ≡ true
or_back (de_pat c t uid at subs binds) v j q or e h =
    let w = match_alternatives (chosen_of subs) subs v j q e h in
    subst (λ x. matches (de_pat x t uid at subs binds) v ≡ true) (sym or)
    (way_there (arena_ways (de_pat OrCtor t uid at subs binds) v) (with_bounds binds v w.0) (map-among (with_bounds binds v) (arena_alternatives_ways (chosen_of subs) subs v) w.0 w.1))

-- a wildcard matches everything
pub wild_matches : {T : Type 0} (p : MDePat T) (v : MValue) → ctor_of p ≡ WildCtor → matches p v ≡ true
wild_matches (de_pat c t uid at subs binds) v e = subst (λ x. matches (de_pat x t uid at subs binds) v ≡ true) (sym e) refl
