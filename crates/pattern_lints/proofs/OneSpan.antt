-- A way of a pattern meets at most one range at a position.
use Rattle.std.proofs.Common.{◌≡◌, ◌<◌, ◌≤◌, inl, inr, ℕ, suc, Bool, true, false, List, [], ◌∷◌, ◌++◌, map, Option, None, Some, refl, sym, ap, subst, ◌∙◌, arith, append-nil, if◌then◌else◌}
use Rattle.std.specs.List.{Contains}
use Rattle.std.proofs.lemmas.List.Elements.{Contains-append_cases}
use Rattle.match_model.specs.Values.{MValue, Num}
use Rattle.match_model.specs.Numbers.{MRange, has_one_number}
use Rattle.match_model.specs.Ways.{Way, SpanMet, bare_way, combine, join, under, span_under}
use Rattle.match_model.specs.Matching.{span_way}
use Rattle.match_model.specs.Constructors.{MCtor, SingleCtor, PointCtor, LaterCtor, OtherTextCtor, WildCtor, OrCtor, VariantCtor, FlagCtor, NumbersCtor, TextCtor, RowCtor, builds}
use Rattle.match_model.specs.ArenaPatterns.{MDePat, de_pat, MDePats, no_de_pats, more_de_pats, MBound, uid_of}
use Rattle.match_model.specs.ArenaWays.{NumberedPart, parts_built, ways_where, with_bounds, with_spans_of, ways_by_ctor, chosen_of, arena_ways, subs_ways, arena_alternatives_ways}
use Rattle.pattern_lints.proofs.Numbered.{Ascend, ascend-built, some-true}
use Rattle.pattern_lints.proofs.SpotLaws.{nothing-in, in-one, first-in, later-in, from-map}

-- no two of the ranges stand at one position
abbrev pub OneEach : List SpanMet → Type 0
OneEach ss = (s t : SpanMet) → Contains ss s → Contains ss t → s.position ≡ t.position → s ≡ t

-- each way has at most one range at a position
abbrev EachOne : List Way → Type 0
EachOne ws = (w : Way) → Contains ws w → OneEach w.spans

one-none : OneEach []
one-none s t g h e = absurd (nothing-in s g)

each-none : EachOne []
each-none w h = absurd (nothing-in w h)

each-bare : EachOne (bare_way ∷ [])
each-bare w h = subst (λ (x : Way). OneEach x.spans) (in-one bare_way w h) one-none

each-append : (vs ws : List Way) → EachOne vs → EachOne ws → EachOne (vs ++ ws)
each-append vs ws f g w h = elim (Contains-append_cases vs ws w h) [ inl here ↦ f w here | inr there ↦ g w there ]

-- a step that leaves the ranges
each-same : (f : Way → Way) → ((w : Way) → (f w).spans ≡ w.spans) → (ws : List Way) → EachOne ws → EachOne (map f ws)
each-same f same ws each w h =
    let from = from-map f ws w h in
    subst OneEach (sym (same from.0) ∙ ap (λ (x : Way). x.spans) from.2) (each from.0 from.1)

bounds-same : (binds : List MBound) (v : MValue) (w : Way) → (with_bounds binds v w).spans ≡ w.spans
bounds-same [] v w = refl
bounds-same (b ∷ rest) v w = bounds-same rest v w

chosen-same : {T : Type 0} (ps : MDePats T) (uid : ℕ) (w : Way) → (chosen_of ps uid w).spans ≡ w.spans
chosen-same no_de_pats uid w = refl
chosen-same (more_de_pats p no_de_pats) uid w = refl
chosen-same (more_de_pats p (more_de_pats q qs)) uid w = refl

-- ---- parts

-- the range stands below a part whose number is at least `k`
abbrev IsFrom : ℕ → SpanMet → Type 0
IsFrom k s = (n : ℕ) × (rest : List ℕ) × (s.position ≡ n ∷ rest) × (k ≤ n)

abbrev AreFrom : ℕ → List Way → Type 0
AreFrom k ws = (w : Way) → Contains ws w → (s : SpanMet) → Contains w.spans s → IsFrom k s

-- the ranges below one part, and below parts with greater numbers
one-join : (n k : ℕ) (ss ts : List SpanMet) → n < k → OneEach ss → OneEach ts → ((s : SpanMet) → Contains ts s → IsFrom k s) → OneEach (map (span_under n) ss ++ ts)
one-join n k ss ts l f g from s t x y e = elim (Contains-append_cases (map (span_under n) ss) ts s x) [
  | inl here ↦ elim (Contains-append_cases (map (span_under n) ss) ts t y) [
    | inl there ↦
        let a = from-map (span_under n) ss s here in
        let b = from-map (span_under n) ss t there in
        let whole : n ∷ a.0.position ≡ n ∷ b.0.position = ap (λ (x : SpanMet). x.position) a.2 ∙ e ∙ sym (ap (λ (x : SpanMet). x.position) b.2) in
        let tails : a.0.position ≡ b.0.position = cc in
        sym a.2 ∙ ap (span_under n) (f a.0 b.0 a.1 b.1 tails) ∙ b.2
    | inr there ↦ absurd (apart n k s t (from-map (span_under n) ss s here) (from t there) e l)
  ]
  | inr here ↦ elim (Contains-append_cases (map (span_under n) ss) ts t y) [
    | inl there ↦ absurd (apart n k t s (from-map (span_under n) ss t there) (from s here) (sym e) l)
    | inr there ↦ g s t here there e
  ]
]
  where
    apart : (n k : ℕ) (s t : SpanMet) → ((a : SpanMet) × Contains ss a × (span_under n a ≡ s)) → IsFrom k t → s.position ≡ t.position → n < k → ⊥
    apart n k s t a b e l =
        let whole : n ∷ a.0.position ≡ b.0 ∷ b.1 = ap (λ (x : SpanMet). x.position) a.2 ∙ e ∙ b.2 in
        let heads : n ≡ b.0 = cc in
        omega (arith, heads, b.3, l)

from-combine : (vs ws : List Way) (w : Way) → Contains (combine vs ws) w → (a b : Way) × Contains vs a × Contains ws b × (join a b ≡ w)
from-combine [] ws w h = absurd (nothing-in w h)
from-combine (v ∷ vs) ws w h = elim (Contains-append_cases (map (join v) ws) (combine vs ws) w h) [
  | inl here ↦ let f = from-map (join v) ws w here in (v, f.0, first-in v vs, f.1, f.2)
  | inr there ↦ let f = from-combine vs ws w there in (f.0, f.1, later-in v vs f.0 f.2, f.3, f.4)
]

each-part : (n : ℕ) (vs ws : List Way) → EachOne vs → EachOne ws → AreFrom (suc n) ws → EachOne (combine (map (under n) vs) ws)
each-part n vs ws f g from w h =
    let c = from-combine (map (under n) vs) ws w h in
    let a = from-map (under n) vs c.0 c.2 in
    let spans : map (span_under n) a.0.spans ++ c.1.spans ≡ w.spans = ap (λ (x : Way). x.spans ++ c.1.spans) a.2 ∙ ap (λ (x : Way). x.spans) c.4 in
    subst OneEach spans (one-join n (suc n) a.0.spans c.1.spans (omega arith) (f a.0 a.1) (g c.1 c.3) (from c.1 c.3))

from-part : (k n : ℕ) (vs ws : List Way) → k ≤ n → AreFrom (suc n) ws → AreFrom k (combine (map (under n) vs) ws)
from-part k n vs ws l from w h s x =
    let c = from-combine (map (under n) vs) ws w h in
    let a = from-map (under n) vs c.0 c.2 in
    let spans : map (span_under n) a.0.spans ++ c.1.spans ≡ w.spans = ap (λ (x : Way). x.spans ++ c.1.spans) a.2 ∙ ap (λ (x : Way). x.spans) c.4 in
    elim (Contains-append_cases (map (span_under n) a.0.spans) c.1.spans s (subst (λ ss. Contains ss s) (sym spans) x)) [
      | inl here ↦ let b = from-map (span_under n) a.0.spans s here in (n, b.0.position, sym (ap (λ (x : SpanMet). x.position) b.2), l)
      | inr there ↦ let b = from c.1 c.3 s there in (b.0, b.1, b.2, omega (arith, b.3, l))
    ]

from-bare : (k : ℕ) → AreFrom k (bare_way ∷ [])
from-bare k w h s x = absurd (nothing-in s (subst (λ (y : Way). Contains y.spans s) (sym (in-one bare_way w h)) x))

subs-from : {T : Type 0} (k : ℕ) (ps : MDePats T) (parts : List NumberedPart) → Ascend k parts → AreFrom k (subs_ways ps parts)
subs-from k no_de_pats [] h = from-bare k
subs-from k no_de_pats (n ∷ parts) h = λ w x s y. absurd (nothing-in w x)
subs-from k (more_de_pats p ps) [] h = λ w x s y. absurd (nothing-in w x)
subs-from k (more_de_pats p ps) (n ∷ parts) h =
    from-part k n.number (arena_ways p n.part) (subs_ways ps parts) h.0 (subs-from (suc n.number) ps parts h.1)

-- ---- all patterns

own-one : (at : ℕ) (r : MRange) → OneEach (span_way at r).spans
own-one at r = go (has_one_number r)
  where
    go : (b : Bool) → OneEach (if b then [] else record { at = at; position = []; range = r } ∷ [])
    go true = one-none
    go false = λ s t g h e. sym (in-one (record { at = at; position = []; range = r }) s g) ∙ in-one (record { at = at; position = []; range = r }) t h

-- where a range builds a value, there are no parts
no-parts : (r : MRange) (v : MValue) (parts : List NumberedPart) → parts_built (NumbersCtor r) v ≡ Some parts → parts ≡ []
no-parts r (Num x) parts e = sym (some-true (builds [] (NumbersCtor r) (Num x)) [] parts e).1
no-parts r _ parts e = cc

each-bare-or-none : {T : Type 0} (ps : MDePats T) (w : Way) → Contains (subs_ways ps []) w → w.spans ≡ []
each-bare-or-none no_de_pats w h = ap (λ (x : Way). x.spans) (sym (in-one bare_way w h))
each-bare-or-none (more_de_pats p ps) w h = absurd (nothing-in w h)

numbers-each : {T : Type 0} (at : ℕ) (r : MRange) (subs : MDePats T) (v : MValue) (o : Option (List NumberedPart)) → parts_built (NumbersCtor r) v ≡ o →
    EachOne (map (with_spans_of (span_way at r)) (ways_where o (λ parts. subs_ways subs parts)))
numbers-each at r subs v None e w h = absurd (nothing-in w h)
numbers-each at r subs v (Some parts) e w h =
    let f = from-map (with_spans_of (span_way at r)) (subs_ways subs parts) w h in
    let bare = each-bare-or-none subs f.0 (subst (λ ps. Contains (subs_ways subs ps) f.0) (no-parts r v parts e) f.1) in
    let spans : (span_way at r).spans ++ [] ≡ w.spans = ap (λ ss. (span_way at r).spans ++ ss) (sym bare) ∙ ap (λ (x : Way). x.spans) f.2 in
    subst OneEach (sym (append-nil (span_way at r).spans) ∙ spans) (own-one at r)

where-each : {T : Type 0} (c : MCtor) (subs : MDePats T) (v : MValue) (o : Option (List NumberedPart)) → parts_built c v ≡ o →
    ((parts : List NumberedPart) (k : ℕ) → Ascend k parts → EachOne (subs_ways subs parts)) → EachOne (ways_where o (λ parts. subs_ways subs parts))
where-each c subs v None e g = each-none
where-each c subs v (Some parts) e g = g parts 0 (ascend-built c v parts e)

ctor-each : {T : Type 0} (c : MCtor) (at : ℕ) (subs : MDePats T) (v : MValue) → EachOne (arena_alternatives_ways (chosen_of subs) subs v) →
    ((parts : List NumberedPart) (k : ℕ) → Ascend k parts → EachOne (subs_ways subs parts)) →
    EachOne (ways_by_ctor c at (λ u. arena_alternatives_ways (chosen_of subs) subs u) (λ parts. subs_ways subs parts) v)
ctor-each WildCtor at subs v f g = each-bare
ctor-each OrCtor at subs v f g = f
ctor-each (NumbersCtor r) at subs v f g = numbers-each at r subs v (parts_built (NumbersCtor r) v) refl
ctor-each SingleCtor at subs v f g = where-each SingleCtor subs v (parts_built SingleCtor v) refl g
ctor-each PointCtor at subs v f g = where-each PointCtor subs v (parts_built PointCtor v) refl g
ctor-each LaterCtor at subs v f g = where-each LaterCtor subs v (parts_built LaterCtor v) refl g
ctor-each OtherTextCtor at subs v f g = where-each OtherTextCtor subs v (parts_built OtherTextCtor v) refl g
ctor-each (VariantCtor k) at subs v f g = where-each (VariantCtor k) subs v (parts_built (VariantCtor k) v) refl g
ctor-each (FlagCtor b) at subs v f g = where-each (FlagCtor b) subs v (parts_built (FlagCtor b) v) refl g
ctor-each (TextCtor t) at subs v f g = where-each (TextCtor t) subs v (parts_built (TextCtor t) v) refl g
ctor-each (RowCtor s) at subs v f g = where-each (RowCtor s) subs v (parts_built (RowCtor s) v) refl g

mutual
  ways-each : {T : Type 0} (p : MDePat T) (v : MValue) → EachOne (arena_ways p v)
  ways-each (de_pat c t uid at subs binds) v =
      each-same (with_bounds binds v) (bounds-same binds v)
      (ways_by_ctor c at (λ u. arena_alternatives_ways (chosen_of subs) subs u) (λ parts. subs_ways subs parts) v)
      (ctor-each c at subs v (alternatives-each (chosen_of subs) (chosen-same subs) subs v) (λ parts k h. subs-each subs parts k h))

  subs-each : {T : Type 0} (ps : MDePats T) (parts : List NumberedPart) (k : ℕ) → Ascend k parts → EachOne (subs_ways ps parts)
  subs-each no_de_pats [] k h = each-bare
  subs-each no_de_pats (n ∷ parts) k h = each-none
  subs-each (more_de_pats p ps) [] k h = each-none
  subs-each (more_de_pats p ps) (n ∷ parts) k h =
      each-part n.number (arena_ways p n.part) (subs_ways ps parts) (ways-each p n.part) (subs-each ps parts (suc n.number) h.1) (subs-from (suc n.number) ps parts h.1)

  alternatives-each : {T : Type 0} (choose : ℕ → Way → Way) → ((uid : ℕ) (w : Way) → (choose uid w).spans ≡ w.spans) → (ps : MDePats T) (v : MValue) →
      EachOne (arena_alternatives_ways choose ps v)
  alternatives-each choose same no_de_pats v = each-none
  alternatives-each choose same (more_de_pats p ps) v =
      each-append (map (choose (uid_of p)) (arena_ways p v)) (arena_alternatives_ways choose ps v)
      (each-same (choose (uid_of p)) (same (uid_of p)) (arena_ways p v) (ways-each p v)) (alternatives-each choose same ps v)

-- a way of a pattern meets at most one range at a position
pub one-span : {T : Type 0} (p : MDePat T) (v : MValue) (w : Way) → Contains (arena_ways p v) w → OneEach w.spans
one-span p v w h = ways-each p v w h
