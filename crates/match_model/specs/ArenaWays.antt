-- The ways in which a pattern of the engine matches a value; they are the source's, by constructors (Rust Reference,
-- Patterns; the documentation of `rustc_pattern_analysis`, deconstructed patterns).
use Rattle.std.specs.Prelude.{ℕ, suc, Bool, List, [], ◌∷◌, ◌++◌, map, Option, Some, None}
use Rattle.match_model.specs.Values.{MValue, Row, parts_of, values_list}
use Rattle.match_model.specs.Ways.{Way, bare_way, combine, under, choosing, binding}
use Rattle.match_model.specs.Matching.{middle_of, span_way}
use Rattle.match_model.specs.Match.{ArmWays, Alternatives, no_alternative, alternative, and_others}
pub use Rattle.match_model.specs.Constructors.{parts_met}
use Rattle.match_model.specs.Constructors.{MCtor, NumbersCtor, WildCtor, OrCtor, builds}
use Rattle.match_model.specs.ArenaPatterns.{MPart, WholePart, MiddlePart, MBound, MDePat, de_pat, MDePats, no_de_pats, more_de_pats, MDeArm, MDeMatch, uid_of, at_of}
use Rattle.match_model.specs.Places.{some_if}

-- a part of a value, and its number there
pub record NumberedPart : Type 0 where
  pub number : ℕ
  pub part : MValue

-- the values numbered from `i`
abbrev pub numbered_from : ℕ → List MValue → List NumberedPart
numbered_from i [] = []
numbered_from i (v ∷ vs) = record { number = i; part = v } ∷ numbered_from (suc i) vs

-- the parts of the value that the patterns meet, where the constructor builds it
abbrev pub parts_built : MCtor → MValue → Option (List NumberedPart)
parts_built c v = some_if (builds [] c v) (parts_met c (numbered_from 0 (parts_of v)))

-- the ways on the parts, where the value is built
abbrev pub ways_where : Option (List NumberedPart) → (List NumberedPart → List Way) → List Way
ways_where None ways_on = []
ways_where (Some parts) ways_on = ways_on parts

-- what a name holds of the value: for the middle of a value that is no row, which no well-typed pattern has, all of it
abbrev pub bound_part : MPart → MValue → MValue
bound_part WholePart v = v
bound_part (MiddlePart f b) (Row items) = middle_of f b (values_list items)
bound_part (MiddlePart f b) v = v

-- the way with the names bound
abbrev pub with_bounds : List MBound → MValue → Way → Way
with_bounds [] v w = w
with_bounds (b ∷ rest) v w = binding b.name b.mode (bound_part b.part v) (with_bounds rest v w)

-- the way with the spans of another one in front
abbrev pub with_spans_of : Way → Way → Way
with_spans_of s w = record w { spans = s.spans ++ w.spans }

-- the ways by the constructor: a wildcard has one; an or-pattern has those of its alternatives; any other those on the
-- parts of a value that it builds, a range of more than one number being met
abbrev pub ways_by_ctor : MCtor → (at : ℕ) → (alternatives : MValue → List Way) → (ways_on : List NumberedPart → List Way) → MValue → List Way
ways_by_ctor WildCtor at alternatives ways_on v = bare_way ∷ []
ways_by_ctor OrCtor at alternatives ways_on v = alternatives v
ways_by_ctor (NumbersCtor r) at alternatives ways_on v =
    map (with_spans_of (span_way at r)) (ways_where (parts_built (NumbersCtor r) v) ways_on)
ways_by_ctor c at alternatives ways_on v = ways_where (parts_built c v) ways_on

-- a lone alternative is no choice
abbrev pub chosen_of : {T : Type 0} → MDePats T → (uid : ℕ) → Way → Way
chosen_of no_de_pats uid w = w
chosen_of (more_de_pats p no_de_pats) uid w = w
chosen_of (more_de_pats p (more_de_pats q qs)) uid w = choosing uid w

abbrev mutual
  -- the ways of the pattern, in order
  pub arena_ways : {T : Type 0} → MDePat T → MValue → List Way
  arena_ways (de_pat c t uid at subs binds) v =
      map (with_bounds binds v) (ways_by_ctor c at (λ u. arena_alternatives_ways (chosen_of subs) subs u) (λ parts. subs_ways subs parts) v)

  -- the combinations of one way per part, the first varying slowest; none where there are not as many patterns as parts
  pub subs_ways : {T : Type 0} → MDePats T → List NumberedPart → List Way
  subs_ways no_de_pats [] = bare_way ∷ []
  subs_ways no_de_pats (_ ∷ _) = []
  subs_ways (more_de_pats p ps) [] = []
  subs_ways (more_de_pats p ps) (n ∷ parts) = combine (map (under n.number) (arena_ways p n.part)) (subs_ways ps parts)

  -- the ways of the alternatives, one after the other, each chosen so
  pub arena_alternatives_ways : {T : Type 0} → (choose : ℕ → Way → Way) → MDePats T → MValue → List Way
  arena_alternatives_ways choose no_de_pats v = []
  arena_alternatives_ways choose (more_de_pats p ps) v = map (choose (uid_of p)) (arena_ways p v) ++ arena_alternatives_ways choose ps v

-- the alternatives of an or-pattern of two or more, else those inside the parts
abbrev pub alternatives_by_ctor : {T : Type 0} → MCtor → MDePats T → (choices inside : Alternatives) → Alternatives
alternatives_by_ctor OrCtor (more_de_pats p (more_de_pats q qs)) choices inside = choices
alternatives_by_ctor _ subs choices inside = inside

abbrev mutual
  -- the alternatives of the pattern, in preorder
  pub arena_alternatives : {T : Type 0} → MDePat T → Alternatives
  arena_alternatives (de_pat c t uid at subs binds) =
      alternatives_by_ctor c subs (choices_in subs) (alternatives_in_subs subs)

  -- the alternatives inside the patterns, one pattern after the other
  pub alternatives_in_subs : {T : Type 0} → MDePats T → Alternatives
  alternatives_in_subs no_de_pats = no_alternative
  alternatives_in_subs (more_de_pats p ps) = and_others (arena_alternatives p) (alternatives_in_subs ps)

  -- each pattern as an alternative, with those inside it
  pub choices_in : {T : Type 0} → MDePats T → Alternatives
  choices_in no_de_pats = no_alternative
  choices_in (more_de_pats p ps) = alternative (uid_of p) (at_of p) (arena_alternatives p) (choices_in ps)

-- the arm as the function from a value to its ways; a trace knows its patterns by their uids
abbrev pub arena_arm : {T : Type 0} → MDeArm T → ArmWays
arena_arm a = record {
  guarded = a.guarded;
  ways_of = arena_ways a.pat;
  id = uid_of a.pat;
  at = at_of a.pat;
  alternatives = arena_alternatives a.pat;
}

-- the arms of a match of the engine
abbrev pub match_arms : {T : Type 0} → MDeMatch T → List ArmWays
match_arms m = map arena_arm m.arms

-- the domain of a match of the engine: the values of the scrutinee's type at a place that is as sure as it says
abbrev pub InMatchDomain : {T : Type 0} → (T → (sure : Bool) → MValue → Type 0) → MDeMatch T → MValue → Type 0
InMatchDomain IsValue m v = IsValue m.type m.sure v
