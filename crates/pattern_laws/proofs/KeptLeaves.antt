-- The ways of elaborated patterns without parts, of references, of names and of alternatives.
use Rattle.std.proofs.Common.{◌≡◌, ℕ, suc, ℤ, pos, negsuc, Bool, true, false, ◌&&◌, List, [], ◌∷◌, map, if◌then◌else◌, int_le, int_eq, refl, ap, ◌∙◌, arith}
use Rattle.std.proofs.lemmas.Bool.Decides.{nat_tests}
use Rattle.match_model.specs.declared.Mode.{Mode}
use Rattle.match_model.specs.Types.{MType, PointType, MTypes, no_types, more_types}
use Rattle.match_model.specs.Values.{MValue, Flag, Num, Text, Point, Unseen}
use Rattle.match_model.specs.Numbers.{MRange, in_range, has_one_number, closed}
use Rattle.match_model.specs.Texts.{text_eq}
use Rattle.match_model.specs.Typing.{is_value}
use Rattle.match_model.specs.Declarations.{MProgram}
use Rattle.match_model.specs.Constructors.{NumbersCtor, TextCtor, FlagCtor}
use Rattle.match_model.specs.Ways.{Way, bare_way, combine, under, binding}
use Rattle.match_model.specs.Matching.{mode_behind, through_points, number_ways, flag_ways, text_ways, span_way, span_ways, bare_if}
use Rattle.match_model.specs.ArenaPatterns.{MBound, de_pat, no_de_pats}
use Rattle.match_model.specs.ArenaWays.{arena_ways, subs_ways, with_bounds, with_spans_of, bound_part, ways_where, ways_by_ctor, chosen_of, arena_alternatives_ways}
use Rattle.match_model.specs.Places.{some_if}
use Rattle.match_model.proofs.Joins.{combine_bare_right}
use Rattle.pattern_rules.specs.Builders.{Built, leaf, span, point, through_type}
use Rattle.pattern_rules.specs.Elaborated.{with_bound}

-- no name bound
pub with_none : (v : MValue) (ws : List Way) → map (with_bounds [] v) ws ≡ ws
with_none v [] = refl
with_none v (w ∷ ws) = ap (λ r. w ∷ r) (with_none v ws)

-- a reference over a pattern, on a reference
pub point_keeps : (t : MType) (p : Built) (m : Bool) (w : MValue) → arena_ways (point t p) (Point m w) ≡ map (under 0)
    (arena_ways p w)
point_keeps t p m w =
    with_none (Point m w) (combine (map (under 0) (arena_ways p w)) (bare_way ∷ []))
    ∙ combine_bare_right (map (under 0) (arena_ways p w))

-- the type is no reference
abbrev pub IsBottom : MType → Type 0
IsBottom (PointType m t) = ⊥
IsBottom _ = Unit {0}

-- what is said of the type behind all references
abbrev pub AtBottom : (MType → Type 0) → MType → Type 0
AtBottom P (PointType mutable t) = AtBottom P t
AtBottom P t = P t

-- the value is no reference
abbrev IsPlain : MValue → Type 0
IsPlain (Point m v) = ⊥
IsPlain _ = Unit {0}

plain_of : (program : MProgram) (sure : Bool) (u : MType) (v : MValue) → IsBottom u →
    is_value program sure u v ≡ true → IsPlain v
plain_of program sure (PointType m t) v r e = absurd r
plain_of program sure u (Point n w) r e = cc
plain_of program sure u v r e = tt

plain_through : (g : Mode → MValue → List Way) (m : Mode) (v : MValue) → IsPlain v → g m v ≡ through_points g m v
plain_through g m (Point n w) r = absurd r
plain_through g m v r = refl

-- a value of a reference type
pub point_value : (program : MProgram) (sure : Bool) (n : Bool) (t : MType) (v : MValue) → is_value program sure
    (PointType n t) v ≡ true →
    (w : MValue) × (v ≡ Point n w) × (is_value program false t w ≡ true)
point_value program sure true t (Point true w) e = (w, refl, e)
point_value program sure false t (Point false w) e = (w, refl, e)
point_value program sure true t (Point false w) e = cc
point_value program sure false t (Point true w) e = cc
point_value program true n t Unseen e = cc
point_value program false n t Unseen e = cc
point_value program sure n t v e = cc

-- inserted references are the source's steps through them
pub through_keeps : (program : MProgram) (P : MType → Type 0) (f : MType → Mode → Built)
    (g : Mode → MValue → List Way) →
    ((u : MType) (m : Mode) (sure : Bool) (v : MValue) → IsBottom u → P u → is_value program sure u v ≡ true →
    arena_ways (f u m) v ≡ g m v) →
    (t : MType) (m : Mode) (sure : Bool) (v : MValue) → AtBottom P t → is_value program sure t v ≡ true →
    arena_ways (through_type f t m) v ≡ through_points g m v
through_keeps program P f g h (PointType n t) m sure v p e =
    go (point_value program sure n t v e) (λ w i. through_keeps program P f g h t (mode_behind n m) false w p i)
  where
    go : (w : MValue) × (v ≡ Point n w) × (is_value program false t w ≡ true) →
        ((w : MValue) → is_value program false t w ≡ true →
        arena_ways (through_type f t (mode_behind n m)) w ≡ through_points g (mode_behind n m) w) →
        arena_ways (through_type f (PointType n t) m) v ≡ through_points g m v
    go (w, s, i) ih =
        rw s (point_keeps (PointType n t) (through_type f t (mode_behind n m)) n w ∙ ap (map (under 0)) (ih w i))
through_keeps program P f g h u m sure v p e = h u m sure v tt p e ∙ plain_through g m v
    (plain_of program sure u v tt e)

same_number : (n : ℤ) → int_le n n ≡ true
same_number (pos n) = grind (arith, nat_tests)
same_number (negsuc n) = grind (arith, nat_tests)

equal_self : (n : ℤ) → int_eq n n ≡ true
equal_self (pos n) = grind (arith, nat_tests)
equal_self (negsuc n) = grind (arith, nat_tests)

-- the spans of a single number are none
one_number : (at : ℕ) (n : ℤ) (w : Way) → with_spans_of (span_way at (closed n n)) w ≡ w
one_number at n w = rw (equal_self n) refl

-- a number between a number and itself is that number
between : (n x : ℤ) → (int_le n x && int_le x n) ≡ int_eq n x
between (pos n) (pos x) = grind (arith, nat_tests)
between (negsuc n) (negsuc x) = grind (arith, nat_tests)
between (pos n) (negsuc x) = refl
between (negsuc n) (pos x) = refl

pub number_keeps : (n : ℤ) (u : MType) (v : MValue) → arena_ways (leaf (NumbersCtor (closed n n)) u) v
    ≡ number_ways n v
number_keeps n u (Num x) = rw (between n x) (go (int_eq n x))
  where
    go : (b : Bool) → map (with_bounds [] (Num x))
        (map (with_spans_of (span_way 0 (closed n n)))
        (ways_where (some_if b []) (λ parts. subs_ways {T = MType} no_de_pats parts))) ≡ bare_if b
    go true = rw (equal_self n) refl
    go false = refl
number_keeps n u v = refl

pub span_keeps : (at : ℕ) (r : MRange) (u : MType) (v : MValue) → arena_ways (span at r u) v ≡ span_ways at r v
span_keeps at r u (Num x) = go (in_range r x) (has_one_number r)
  where
    go : (b c : Bool) → map (with_bounds [] (Num x)) (map (with_spans_of (record bare_way {
      spans = if c then [] else record { at = if c then 0 else at; position = []; range = r } ∷ [];
    })) (ways_where (some_if b []) (λ parts. subs_ways {T = MType} no_de_pats parts)))
        ≡ (if b
        then (record bare_way {
          spans = if c then [] else record { at = at; position = []; range = r } ∷ [];
        }) ∷ []
        else [])
    go true true = refl
    go true false = refl
    go false c = refl
span_keeps at r u v = refl

pub flag_keeps : (b : Bool) (u : MType) (v : MValue) → arena_ways (leaf (FlagCtor b) u) v ≡ flag_ways b v
flag_keeps true u (Flag true) = refl
flag_keeps true u (Flag false) = refl
flag_keeps false u (Flag true) = refl
flag_keeps false u (Flag false) = refl
flag_keeps b u v = refl

pub text_keeps : (s : List ℕ) (u : MType) (w : MValue) → map (under 0) (arena_ways (leaf (TextCtor s) u) w)
    ≡ text_ways s (Point false w)
text_keeps s u (Text x) = go (text_eq s x)
  where
    go : (b : Bool) → map (under 0)
        (map (with_bounds [] (Text x)) (ways_where (some_if b []) (λ parts. subs_ways {T = MType} no_de_pats parts)))
        ≡ bare_if b
    go true = refl
    go false = refl
text_keeps s u w = refl

-- one more name
bound_keeps : (b : MBound) (v : MValue) (bs : List MBound) (ws : List Way) →
    map (with_bounds (b ∷ bs) v) ws ≡ map (binding b.name b.mode (bound_part b.part v)) (map (with_bounds bs v) ws)
bound_keeps b v bs [] = refl
bound_keeps b v bs (w ∷ ws) = ap (λ r. with_bounds (b ∷ bs) v w ∷ r) (bound_keeps b v bs ws)

pub add_keeps : (b : MBound) (p : Built) (v : MValue) →
    arena_ways (with_bound b p) v ≡ map (binding b.name b.mode (bound_part b.part v)) (arena_ways p v)
add_keeps b (de_pat c t uid at subs bs) v =
    bound_keeps b v bs (ways_by_ctor c at (λ u. arena_alternatives_ways (chosen_of subs) subs u)
    (λ parts. subs_ways subs parts) v)

-- the parts one by one
abbrev pub EachType : (ℕ → MType → Type 0) → ℕ → MTypes → Type 0
EachType Q i no_types = Unit {0}
EachType Q i (more_types t ts) = Q i t × EachType Q (suc i) ts
