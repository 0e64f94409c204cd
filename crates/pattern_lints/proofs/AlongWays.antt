-- A way with a met range is there exactly where the range is met along some path.
use Rattle.std.proofs.Common.{◌≡◌, ◌≢◌, inl, inr, ℕ, zero, suc, Bool, true, false, List, [], ◌∷◌, map, length, slice_get, Some, if◌then◌else◌, refl, sym, ap, ◌∙◌, subst, arith}
use Rattle.std.proofs.lemmas.List.{nil_from_length}
use Rattle.std.specs.List.{Contains}
use Rattle.match_model.specs.Values.{MValue, Num, parts_of}
use Rattle.match_model.specs.Numbers.{MRange, has_one_number}
use Rattle.match_model.specs.Ways.{Way, SpanMet, bare_way, join, under, span_under}
use Rattle.match_model.specs.Matching.{span_way}
use Rattle.match_model.specs.Lists.{Among}
use Rattle.match_model.specs.Constructors.{MCtor, WildCtor, OrCtor, NumbersCtor, builds, parts_met}
use Rattle.match_model.specs.ArenaPatterns.{MBound, MDePat, de_pat, MDePats, no_de_pats, more_de_pats, de_pats_list, ctor_of, subs_of, uid_of}
use Rattle.match_model.specs.ArenaWays.{NumberedPart, numbered_from, parts_built, with_bounds, with_spans_of, ways_by_ctor, chosen_of, arena_ways, subs_ways, arena_alternatives_ways}
use Rattle.match_model.proofs.Basics.{untrue}
use Rattle.keyed_rows.proofs.Members.{among-contains, contains-among}
use Rattle.keyed_rows.proofs.Parting.{among-map}
use Rattle.keyed_rows.proofs.PullOut.{map-among, left-among, right-among}
use Rattle.keyed_rows.proofs.RowOrder.{among-append}
use Rattle.pattern_lints.specs.Along.{matches, RangeMet, MeetsAlong, EndsAt}
use Rattle.pattern_lints.proofs.HeadParts.{some_same}
use Rattle.pattern_lints.proofs.Matched.{some_way, both_ways, of_both, subs_matched, matched_subs, built_where, parts_where, part_ways, ways_of_parts, parts_of_ways}

-- the value meets the range along some path
abbrev Along : {T : Type 0} → MDePat T → MValue → SpanMet → Type 0
Along p v s = (path : List ℕ) × MeetsAlong p path v s.position s.at s.range

-- a way of the pattern met the range
abbrev MetIn : {T : Type 0} → MDePat T → MValue → SpanMet → Type 0
MetIn p v s = (w : Way) × Among w (arena_ways p v) × Among s w.spans

-- one of the patterns met it at its part
record SubMet {T : Type 0} (ps : List (MDePat T)) (parts : List NumberedPart) (s : SpanMet) : Type 0 where
  number : ℕ
  sub : MDePat T
  sub_there : slice_get ps number ≡ Some sub
  part : NumberedPart
  part_there : slice_get parts number ≡ Some part
  span : SpanMet
  is : s ≡ span_under part.number span
  along : Along sub part.part span

-- one of the alternatives met it
record AlternativeMet {T : Type 0} (ps : List (MDePat T)) (v : MValue) (s : SpanMet) : Type 0 where
  number : ℕ
  sub : MDePat T
  sub_there : slice_get ps number ≡ Some sub
  along : Along sub v s

bounds_spans : (binds : List MBound) (v : MValue) (w : Way) → (with_bounds binds v w).spans ≡ w.spans
bounds_spans [] v w = refl
bounds_spans (b ∷ rest) v w = bounds_spans rest v w

chosen_spans : {T : Type 0} (ps : MDePats T) (uid : ℕ) (w : Way) → (chosen_of ps uid w).spans ≡ w.spans
chosen_spans no_de_pats uid w = refl
chosen_spans (more_de_pats p no_de_pats) uid w = refl
chosen_spans (more_de_pats p (more_de_pats q qs)) uid w = refl

-- a value of a range of numbers has no parts
pub no_parts : (r : MRange) (v : MValue) → builds [] (NumbersCtor r) v ≡ true → parts_of v ≡ []
no_parts r (Num n) h = refl
no_parts r _ h = untrue h

none_met : (r : MRange) (v : MValue) → builds [] (NumbersCtor r) v ≡ true →
    parts_met (NumbersCtor r) (numbered_from 0 (parts_of v)) ≡ []
none_met r v h = ap (λ us. numbered_from 0 us) (no_parts r v h)

-- ---- from a way to a path

sub_behind : {T : Type 0} (p : MDePat T) (ps : List (MDePat T)) (n : NumberedPart) (parts : List NumberedPart) (s : SpanMet) →
    SubMet ps parts s → SubMet (p ∷ ps) (n ∷ parts) s
sub_behind p ps n parts s m = record {
  number = suc m.number;
  sub = m.sub;
  sub_there = m.sub_there;
  part = m.part;
  part_there = m.part_there;
  span = m.span;
  is = m.is;
  along = m.along;
}

alternative_behind : {T : Type 0} (p : MDePat T) (ps : List (MDePat T)) (v : MValue) (s : SpanMet) →
    AlternativeMet ps v s → AlternativeMet (p ∷ ps) v s
alternative_behind p ps v s m = record { number = suc m.number; sub = m.sub; sub_there = m.sub_there; along = m.along }

first_met : {T : Type 0} (p : MDePat T) (ps : List (MDePat T)) (n : NumberedPart) (parts : List NumberedPart) (w : Way) (s : SpanMet) →
    Among s (map (span_under n.number) w.spans) → ((u : SpanMet) → Among u w.spans → Along p n.part u) →
    SubMet (p ∷ ps) (n ∷ parts) s
first_met p ps n parts w s a f =
    let m = among-map (span_under n.number) w.spans s a in
    record { number = 0; sub = p; sub_there = refl; part = n; part_there = refl; span = m.0; is = m.2; along = f m.0 m.1 }

-- by a constructor with parts
parts_along : {T : Type 0} (c : MCtor) (t : T) (uid at : ℕ) (subs : MDePats T) (binds : List MBound) (v : MValue) (w : Way) (s : SpanMet) →
    Among w (part_ways c subs v) → Among s w.spans →
    ((parts : List NumberedPart) (x : Way) → Among x (subs_ways subs parts) → Among s x.spans → SubMet (de_pats_list subs) parts s) →
    Along (de_pat c t uid at subs binds) v s
parts_along {T} c t uid at subs binds v w s a b f =
    let m = ways_of_parts c subs v w a in
    let r = f m.0 w m.2 b in
    let all = subs_matched subs m.0 w m.2 in
    subst (λ x. Along (de_pat c t uid at subs binds) v x) (sym r.is) (here m.0 m.1 r all.count (λ j q n d. all.each j q n))
  where
    here : (parts : List NumberedPart) → parts_built c v ≡ Some parts → (r : SubMet (de_pats_list subs) parts s) →
        length parts ≡ length (de_pats_list subs) →
        ((j : ℕ) (q : MDePat T) (n : NumberedPart) → j ≢ r.number → slice_get (de_pats_list subs) j ≡ Some q →
        slice_get parts j ≡ Some n → matches q n.part ≡ true) →
        Along (de_pat c t uid at subs binds) v (span_under r.part.number r.span)
    here parts built r count others = (
      r.number ∷ r.along.0,
      inr (record {
        parts = parts;
        built = built;
        count = count;
        sub = r.sub;
        sub_there = r.sub_there;
        part = r.part;
        part_there = r.part_there;
        inner = r.span.position;
        position_is = refl;
        below = r.along.1;
        others = others;
      }),
    )

-- by a range
range_along : {T : Type 0} (r : MRange) (t : T) (uid at : ℕ) (subs : MDePats T) (binds : List MBound) (v : MValue) (w : Way) (s : SpanMet) →
    Among w (map (with_spans_of (span_way at r)) (part_ways (NumbersCtor r) subs v)) → Among s w.spans →
    ((parts : List NumberedPart) (x : Way) → Among x (subs_ways subs parts) → Among s x.spans → SubMet (de_pats_list subs) parts s) →
    Along (de_pat (NumbersCtor r) t uid at subs binds) v s
range_along {T} r t uid at subs binds v w s a b f =
    let m = among-map (with_spans_of (span_way at r)) (part_ways (NumbersCtor r) subs v) w a in
    let k = ways_of_parts (NumbersCtor r) subs v m.0 m.1 in
    let bu = built_where (NumbersCtor r) v k.0 k.1 in
    let none = bu.are ∙ none_met r v bu.build in
    elim (among-append (span_way at r).spans m.0.spans s (subst (λ (x : Way). Among s x.spans) m.2 b)) [
      | inl i ↦ met (has_one_number r) refl i bu.build (nil_from_length (de_pats_list subs) (sym (subs_matched subs k.0 m.0 k.2).count ∙ ap length none))
      | inr i ↦ absurd (not_below k.0 (f k.0 m.0 k.2 i) none)
    ]
  where
    not_below : (parts : List NumberedPart) → SubMet (de_pats_list subs) parts s → parts ≡ [] → ⊥
    not_below parts m e = no_such m.number m.part (subst (λ us. slice_get us m.number ≡ Some m.part) e m.part_there)
      where
        no_such : (i : ℕ) (n : NumberedPart) → slice_get [] i ≡ Some n → ⊥
        no_such i n e = cc

    met : (b : Bool) → has_one_number r ≡ b →
        Among s (if b then [] else record { at = at; position = []; range = r } ∷ []) →
        builds [] (NumbersCtor r) v ≡ true → de_pats_list subs ≡ [] → Along (de_pat (NumbersCtor r) t uid at subs binds) v s
    met true e i h n = elim i [ ]
    met false e (inl is) h n =
        subst (λ x. Along (de_pat (NumbersCtor r) t uid at subs binds) v x) (sym is)
        ([], record { several = e; ctor = refl; bare = n; build = h; position_is = refl; at_is = refl })
    met false e (inr i) h n = elim i [ ]

-- by any constructor
ctor_along : {T : Type 0} (c : MCtor) (t : T) (uid at : ℕ) (subs : MDePats T) (binds : List MBound) (v : MValue) (w : Way) (s : SpanMet) →
    Among w (ways_by_ctor c at (λ u. arena_alternatives_ways (chosen_of subs) subs u) (λ parts. subs_ways subs parts) v) →
    Among s w.spans →
    ((parts : List NumberedPart) (x : Way) → Among x (subs_ways subs parts) → Among s x.spans → SubMet (de_pats_list subs) parts s) →
    ((x : Way) → Among x (arena_alternatives_ways (chosen_of subs) subs v) → Among s x.spans → AlternativeMet (de_pats_list subs) v s) →
    Along (de_pat c t uid at subs binds) v s
ctor_along WildCtor t uid at subs binds v w s (inl e) b f g = elim (subst (λ (x : Way). Among s x.spans) e b) [ ]
ctor_along WildCtor t uid at subs binds v w s (inr a) b f g = elim a [ ]
ctor_along OrCtor t uid at subs binds v w s a b f g =
    let m = g w a b in
    (m.number ∷ m.along.0, inl (record { is_or = refl; sub = m.sub; sub_there = m.sub_there; below = m.along.1 }))
ctor_along (NumbersCtor r) t uid at subs binds v w s a b f g = range_along r t uid at subs binds v w s a b f
ctor_along c t uid at subs binds v w s a b f g = parts_along c t uid at subs binds v w s a b f

mutual
  way_along : {T : Type 0} (p : MDePat T) (v : MValue) (w : Way) (s : SpanMet) → Among w (arena_ways p v) → Among s w.spans → Along p v s
  way_along (de_pat c t uid at subs binds) v w s a b =
      let m = among-map (with_bounds binds v) (ways_by_ctor c at (λ u. arena_alternatives_ways (chosen_of subs) subs u) (λ parts. subs_ways subs parts) v) w a in
      ctor_along c t uid at subs binds v m.0 s m.1 (subst (Among s) (ap (λ (x : Way). x.spans) m.2 ∙ bounds_spans binds v m.0) b)
      (λ parts x i j. subs_along subs parts x s i j)
      (λ x i j. alternatives_along (chosen_of subs) subs v x s (chosen_spans subs) i j)

  subs_along : {T : Type 0} (ps : MDePats T) (parts : List NumberedPart) (w : Way) (s : SpanMet) → Among w (subs_ways ps parts) →
      Among s w.spans → SubMet (de_pats_list ps) parts s
  subs_along no_de_pats [] w s (inl e) b = elim (subst (λ (x : Way). Among s x.spans) e b) [ ]
  subs_along no_de_pats [] w s (inr a) b = elim a [ ]
  subs_along no_de_pats (n ∷ parts) w s a b = elim a [ ]
  subs_along (more_de_pats p ps) [] w s a b = elim a [ ]
  subs_along (more_de_pats p ps) (n ∷ parts) w s a b =
      let o = of_both (map (under n.number) (arena_ways p n.part)) (subs_ways ps parts) w a in
      let m = among-map (under n.number) (arena_ways p n.part) o.first o.in_first in
      elim (among-append o.first.spans o.second.spans s (subst (λ (x : Way). Among s x.spans) o.is b)) [
        | inl c ↦ first_met p (de_pats_list ps) n parts m.0 s (subst (λ (x : Way). Among s x.spans) m.2 c) (λ u i. way_along p n.part m.0 u m.1 i)
        | inr c ↦ sub_behind p (de_pats_list ps) n parts s (subs_along ps parts o.second s o.in_second c)
      ]

  alternatives_along : {T : Type 0} (choose : ℕ → Way → Way) (ps : MDePats T) (v : MValue) (w : Way) (s : SpanMet) →
      ((uid : ℕ) (x : Way) → (choose uid x).spans ≡ x.spans) → Among w (arena_alternatives_ways choose ps v) → Among s w.spans →
      AlternativeMet (de_pats_list ps) v s
  alternatives_along choose no_de_pats v w s keeps a b = elim a [ ]
  alternatives_along choose (more_de_pats p ps) v w s keeps a b =
      elim (among-append (map (choose (uid_of p)) (arena_ways p v)) (arena_alternatives_ways choose ps v) w a) [
        | inl c ↦ (
            let m = among-map (choose (uid_of p)) (arena_ways p v) w c in
            record { number = 0; sub = p; sub_there = refl; along = way_along p v m.0 s m.1 (subst (Among s) (ap (λ (x : Way). x.spans) m.2 ∙ keeps (uid_of p) m.0) b) })
        | inr c ↦ alternative_behind p (de_pats_list ps) v s (alternatives_along choose ps v w s keeps c b)
      ]

-- a range that a way of the pattern met is met along some path
pub met_along : {T : Type 0} (p : MDePat T) (v : MValue) (w : Way) (s : SpanMet) → Contains (arena_ways p v) w → Contains w.spans s →
    (path : List ℕ) × MeetsAlong p path v s.position s.at s.range
met_along p v w s a b = way_along p v w s (contains-among (arena_ways p v) w a) (contains-among w.spans s b)

-- ---- from a path to a way

-- an alternative's way is one of the alternatives'
alternatives_back : {T : Type 0} (choose : ℕ → Way → Way) (ps : MDePats T) (v : MValue) (s : SpanMet) →
    ((uid : ℕ) (x : Way) → (choose uid x).spans ≡ x.spans) → (i : ℕ) (q : MDePat T) → slice_get (de_pats_list ps) i ≡ Some q →
    MetIn q v s → (w : Way) × Among w (arena_alternatives_ways choose ps v) × Among s w.spans
alternatives_back choose no_de_pats v s keeps i q e m = cc
alternatives_back choose (more_de_pats p ps) v s keeps zero q e m = here (subst (λ x. MetIn x v s) (sym (some_same p q e)) m)
  where
    here : MetIn p v s → (w : Way) × Among w (arena_alternatives_ways choose (more_de_pats p ps) v) × Among s w.spans
    here m = (
      choose (uid_of p) m.0,
      left-among (map (choose (uid_of p)) (arena_ways p v)) (arena_alternatives_ways choose ps v) (choose (uid_of p) m.0)
          (map-among (choose (uid_of p)) (arena_ways p v) m.0 m.1),
      subst (Among s) (sym (keeps (uid_of p) m.0)) m.2,
    )
alternatives_back choose (more_de_pats p ps) v s keeps (suc i) q e m =
    let r = alternatives_back choose ps v s keeps i q e m in
    (r.0, right-among (map (choose (uid_of p)) (arena_ways p v)) (arena_alternatives_ways choose ps v) r.0 r.1, r.2)

alternative_back : {T : Type 0} (p : MDePat T) (i : ℕ) (v : MValue) (s : SpanMet) → ctor_of p ≡ OrCtor → (q : MDePat T) →
    slice_get (subs_of p) i ≡ Some q → MetIn q v s → MetIn p v s
alternative_back (de_pat c t uid at subs binds) i v s or q e m =
    let a = alternatives_back (chosen_of subs) subs v s (chosen_spans subs) i q e m in (
      with_bounds binds v a.0,
      subst (λ x. Among (with_bounds binds v a.0) (arena_ways (de_pat x t uid at subs binds) v)) (sym or)
          (map-among (with_bounds binds v) (arena_alternatives_ways (chosen_of subs) subs v) a.0 a.1),
      subst (Among s) (sym (bounds_spans binds v a.0)) a.2,
    )

not_first : (j : ℕ) → suc j ≢ 0
not_first j e = omega (arith, e)

not_behind : (j : ℕ) → 0 ≢ suc j
not_behind j e = omega (arith, e)

-- the way of one of the patterns, with ways of the others
subs_back : {T : Type 0} (ps : MDePats T) (parts : List NumberedPart) (i : ℕ) (q : MDePat T) (n : NumberedPart) (s : SpanMet) →
    length parts ≡ length (de_pats_list ps) → slice_get (de_pats_list ps) i ≡ Some q → slice_get parts i ≡ Some n →
    ((j : ℕ) (p : MDePat T) (k : NumberedPart) → j ≢ i → slice_get (de_pats_list ps) j ≡ Some p → slice_get parts j ≡ Some k → matches p k.part ≡ true) →
    MetIn q n.part s → (w : Way) × Among w (subs_ways ps parts) × Among (span_under n.number s) w.spans
subs_back no_de_pats parts i q n s count e f others m = cc
subs_back (more_de_pats p ps) [] i q n s count e f others m = cc
subs_back {T} (more_de_pats p ps) (k ∷ parts) zero q n s count e f others m =
    subst (λ (x : NumberedPart). (w : Way) × Among w (subs_ways (more_de_pats p ps) (k ∷ parts)) × Among (span_under x.number s) w.spans) (some_same k n f)
    (here (subst (λ x. MetIn x k.part s) (sym (some_same p q e)) (subst (λ (x : NumberedPart). MetIn q x.part s) (sym (some_same k n f)) m)))
  where
    here : MetIn p k.part s → (w : Way) × Among w (subs_ways (more_de_pats p ps) (k ∷ parts)) × Among (span_under k.number s) w.spans
    here m =
        let r = matched_subs ps parts (record {
          count = let c : suc (length parts) ≡ suc (length (de_pats_list ps)) = count in omega (arith, c);
          each = λ j q k e f. others (suc j) q k (not_first j) e f;
        }) in (
          join (under k.number m.0) r.0,
          both_ways (map (under k.number) (arena_ways p k.part)) (subs_ways ps parts) (under k.number m.0) r.0
              (map-among (under k.number) (arena_ways p k.part) m.0 m.1) r.1,
          left-among (map (span_under k.number) m.0.spans) r.0.spans (span_under k.number s) (map-among (span_under k.number) m.0.spans s m.2),
        )
subs_back (more_de_pats p ps) (k ∷ parts) (suc i) q n s count e f others m =
    let w = some_way (arena_ways p k.part) (others 0 p k (not_behind i) refl refl) in
    let r = subs_back ps parts i q n s (let c : suc (length parts) ≡ suc (length (de_pats_list ps)) = count in omega (arith, c)) e f
    (λ j p k d e f. others (suc j) p k (λ (z : suc j ≡ suc i). d (omega (arith, z))) e f) m in (
      join (under k.number w.0) r.0,
      both_ways (map (under k.number) (arena_ways p k.part)) (subs_ways ps parts) (under k.number w.0) r.0
          (map-among (under k.number) (arena_ways p k.part) w.0 w.1) r.1,
      right-among (map (span_under k.number) w.0.spans) r.0.spans (span_under n.number s) r.2,
    )

-- a way on the parts is a way by the constructor
ctor_back : {T : Type 0} (c : MCtor) (at : ℕ) (subs : MDePats T) (v : MValue) (parts : List NumberedPart) (s : SpanMet) (w : Way) →
    parts_built c v ≡ Some parts → Among w (subs_ways subs parts) → Among s w.spans →
    (x : Way) × Among x (ways_by_ctor c at (λ u. arena_alternatives_ways (chosen_of subs) subs u) (λ parts. subs_ways subs parts) v) × Among s x.spans
ctor_back WildCtor at subs v parts s w e a b = cc
ctor_back OrCtor at subs v parts s w e a b = cc
ctor_back (NumbersCtor r) at subs v parts s w e a b = (
  with_spans_of (span_way at r) w,
  map-among (with_spans_of (span_way at r)) (part_ways (NumbersCtor r) subs v) w (parts_of_ways (NumbersCtor r) subs v w parts e a),
  right-among (span_way at r).spans w.spans s b,
)
ctor_back c at subs v parts s w e a b = (w, parts_of_ways c subs v w parts e a, b)

part_back : {T : Type 0} (p : MDePat T) (i : ℕ) (v : MValue) (s : SpanMet) (parts : List NumberedPart) → parts_built (ctor_of p) v ≡ Some parts →
    length parts ≡ length (subs_of p) → (q : MDePat T) → slice_get (subs_of p) i ≡ Some q → (n : NumberedPart) → slice_get parts i ≡ Some n →
    ((j : ℕ) (q : MDePat T) (k : NumberedPart) → j ≢ i → slice_get (subs_of p) j ≡ Some q → slice_get parts j ≡ Some k → matches q k.part ≡ true) →
    MetIn q n.part s → MetIn p v (span_under n.number s)
part_back (de_pat c t uid at subs binds) i v s parts built count q e n f others m =
    let a = subs_back subs parts i q n s count e f others m in
    let b = ctor_back c at subs v parts (span_under n.number s) a.0 built a.1 a.2 in (
      with_bounds binds v b.0,
      map-among (with_bounds binds v) (ways_by_ctor c at (λ u. arena_alternatives_ways (chosen_of subs) subs u) (λ parts. subs_ways subs parts) v) b.0 b.1,
      subst (Among (span_under n.number s)) (sym (bounds_spans binds v b.0)) b.2,
    )

-- the way of a range
range_way : {T : Type 0} (r : MRange) (t : T) (uid at : ℕ) (subs : MDePats T) (binds : List MBound) (v : MValue) →
    has_one_number r ≡ false → de_pats_list subs ≡ [] → builds [] (NumbersCtor r) v ≡ true →
    MetIn (de_pat (NumbersCtor r) t uid at subs binds) v (record { at = at; position = []; range = r })
range_way r t uid at (more_de_pats p ps) binds v several bare h = cc
range_way {T} r t uid at no_de_pats binds v several bare h =
    let one = parts_of_ways {T = T} (NumbersCtor r) no_de_pats v bare_way [] (parts_where (NumbersCtor r) v h ∙ ap Some (none_met r v h)) (inl refl) in (
      with_bounds binds v (with_spans_of (span_way at r) bare_way),
      map-among (with_bounds binds v) (map (with_spans_of (span_way at r)) (part_ways {T = T} (NumbersCtor r) no_de_pats v)) (with_spans_of (span_way at r) bare_way)
          (map-among (with_spans_of (span_way at r)) (part_ways {T = T} (NumbersCtor r) no_de_pats v) bare_way one),
      subst (Among (record { at = at; position = []; range = r })) (sym (bounds_spans binds v (with_spans_of (span_way at r) bare_way)))
          (left-among (span_way at r).spans [] (record { at = at; position = []; range = r })
          (subst (Among (record { at = at; position = []; range = r })) (sym (ap (λ b. if b then [] else record { at = at; position = []; range = r } ∷ []) several)) (inl refl))),
    )

range_back : {T : Type 0} (p : MDePat T) (v : MValue) (position : List ℕ) (offset : ℕ) (r : MRange) → RangeMet p v position offset r →
    MetIn p v (record { at = offset; position = position; range = r })
range_back (de_pat c t uid at subs binds) v position offset r h =
    subst (λ x. MetIn (de_pat x t uid at subs binds) v (record { at = offset; position = position; range = r })) (sym h.ctor)
    (subst (λ (x : List ℕ). MetIn (de_pat (NumbersCtor r) t uid at subs binds) v (record { at = offset; position = x; range = r })) (sym h.position_is)
    (subst (λ (x : ℕ). MetIn (de_pat (NumbersCtor r) t uid at subs binds) v (record { at = x; position = []; range = r })) h.at_is
    (range_way r t uid at subs binds v h.several h.bare h.build)))

path_way : {T : Type 0} (path : List ℕ) (p : MDePat T) (v : MValue) (position : List ℕ) (offset : ℕ) (r : MRange) → MeetsAlong p path v position offset r →
    MetIn p v (record { at = offset; position = position; range = r })
path_way [] p v position offset r h = range_back p v position offset r h
path_way (i ∷ rest) p v position offset r (inl h) =
    alternative_back p i v (record { at = offset; position = position; range = r }) h.is_or h.sub h.sub_there (path_way rest h.sub v position offset r h.below)
path_way {T} (i ∷ rest) p v position offset r (inr h) =
    subst (λ (x : List ℕ). MetIn p v (record { at = offset; position = x; range = r })) (sym h.position_is)
    (part_back p i v (record { at = offset; position = h.inner; range = r }) h.parts h.built h.count h.sub h.sub_there h.part h.part_there h.others
    (path_way rest h.sub h.part.part h.inner offset r h.below))

-- a range that is met along a path is met by some way of the pattern
pub along_met : {T : Type 0} (p : MDePat T) (path : List ℕ) (v : MValue) (s : SpanMet) → MeetsAlong p path v s.position s.at s.range →
    (w : Way) × Contains (arena_ways p v) w × Contains w.spans s
along_met p path v s h =
    let m = path_way path p v s.position s.at s.range h in
    (m.0, among-contains (arena_ways p v) m.0 m.1, among-contains m.0.spans s m.2)

-- ---- where a path ends

-- a range that is met along a path stands at its end
pub along_ends : {T : Type 0} (p : MDePat T) (path : List ℕ) (v : MValue) (position : List ℕ) (offset : ℕ) (r : MRange) →
    MeetsAlong p path v position offset r → EndsAt p path offset r
along_ends p [] v position offset r h = (h.ctor, h.several, h.at_is)
along_ends p (i ∷ rest) v position offset r (inl h) = (h.sub, h.sub_there, along_ends h.sub rest v position offset r h.below)
along_ends p (i ∷ rest) v position offset r (inr h) = (h.sub, h.sub_there, along_ends h.sub rest h.part.part h.inner offset r h.below)

-- a path ends at one range alone
pub ends_are_one : {T : Type 0} (p : MDePat T) (path : List ℕ) (offset other : ℕ) (r s : MRange) → EndsAt p path offset r → EndsAt p path other s →
    (offset ≡ other) × (r ≡ s)
ends_are_one p [] offset other r s h k = (sym h.2 ∙ k.2, one_range r s (sym h.0 ∙ k.0))
  where
    one_range : (r s : MRange) → NumbersCtor r ≡ NumbersCtor s → r ≡ s
    one_range r s e = cc
ends_are_one p (i ∷ rest) offset other r s h k =
    ends_are_one h.0 rest offset other r s h.2 (subst (λ q. EndsAt q rest other s) (some_same k.0 h.0 (sym k.1 ∙ h.1)) k.2)
