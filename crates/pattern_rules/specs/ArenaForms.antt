-- Patterns of an engine beside the written ones: ways and alternatives by offsets, and the forms that patterns have.
use Rattle.std.specs.Prelude.{◌≡◌, ℕ, Bool, true, false, not, ◌&&◌, ◌||◌, nat_eq, nat_le, List, [], ◌∷◌, ◌++◌, map, length, Option, Some, None, is_some, if◌then◌else◌}
use Rattle.std.specs.List.{list_all}
use Rattle.match_model.specs.Values.{MValue}
use Rattle.match_model.specs.Typing.{InDomain}
use Rattle.match_model.specs.Numbers.{has_one_number}
use Rattle.match_model.specs.Constructors.{NumbersCtor, TextCtor, OrCtor}
use Rattle.match_model.specs.Ways.{Way}
use Rattle.match_model.specs.Matching.{ways}
use Rattle.match_model.specs.declared.Mode.TheVariants.{Move}
use Rattle.match_model.specs.Match.{Alternatives, no_alternative, alternative, alternatives_in}
use Rattle.match_model.specs.ArenaPatterns.{MDePat, de_pat, MDePats, no_de_pats, more_de_pats, de_pats_list}
use Rattle.match_model.specs.ArenaWays.{arena_ways, arena_alternatives}
use Rattle.decl_syntax.specs.Items.{ArmTree}
use Rattle.pattern_rules.specs.Settings.{Setting, program}
use Rattle.decl_syntax.specs.Functions.{FunctionTree}
use Rattle.pattern_rules.specs.Faults.{scrutinee_type}
use Rattle.pattern_rules.specs.Resolved.{resolved}

-- the offset of a pattern with this uid, if it is one of these two
abbrev pub offset_or : Option ℕ → Option ℕ → Option ℕ
offset_or None other = other
offset_or (Some at) other = Some at

abbrev mutual
  -- the offset of the pattern with this uid
  pub offset_in : {T : Type 0} → (uid : ℕ) → MDePat T → Option ℕ
  offset_in u (de_pat c t uid at subs binds) = if nat_eq u uid then Some at else offset_in_all u subs

  -- the same among several patterns
  pub offset_in_all : {T : Type 0} → (uid : ℕ) → MDePats T → Option ℕ
  offset_in_all u no_de_pats = None
  offset_in_all u (more_de_pats p ps) = offset_or (offset_in u p) (offset_in_all u ps)

-- the number that is there, or the other
abbrev pub number_or : ℕ → Option ℕ → ℕ
number_or n None = n
number_or n (Some m) = m

-- the way, with the offset of each chosen alternative in place of its uid
abbrev pub by_offsets : {T : Type 0} → MDePat T → Way → Way
by_offsets p w = record w { trace = map (λ u. number_or u (offset_in u p)) w.trace }

-- the pattern has the ways that the written one has on each value of the domain
abbrev pub HasWays : {T : Type 0} → Setting → FunctionTree → ArmTree → MDePat T → Type 0
HasWays s f a p = (v : MValue) → InDomain (program s) (is_some f.deref) (scrutinee_type s f) v →
    map (by_offsets p) (arena_ways p v) ≡ ways (resolved s (scrutinee_type s f) a.pattern) Move v

-- an alternative put in front of the first that stands behind it
abbrev pub put_alternative : (at : ℕ) → (inside : Alternatives) → Alternatives → Alternatives
put_alternative at inside no_alternative = alternative at at inside no_alternative
put_alternative at inside (alternative id bt within others) =
    if nat_le at bt then alternative at at inside (alternative id bt within others) else alternative id bt within (put_alternative at inside others)

-- the alternatives by their offsets, in reading order, those inside each other too
abbrev pub in_reading : Alternatives → Alternatives
in_reading no_alternative = no_alternative
in_reading (alternative id at inside others) = put_alternative at (in_reading inside) (in_reading others)

-- the pattern has the written one's alternatives, nested as there, with their offsets
abbrev pub HasAlternatives : {T : Type 0} → Setting → FunctionTree → ArmTree → MDePat T → Type 0
HasAlternatives s f a p = in_reading (arena_alternatives p) ≡ alternatives_in (resolved s (scrutinee_type s f) a.pattern)

abbrev mutual
  -- the pattern and those below it, from the outside in
  pub all_within : {T : Type 0} → MDePat T → List (MDePat T)
  all_within (de_pat c t uid at subs binds) = de_pat c t uid at subs binds ∷ all_below subs

  -- the patterns and those below them
  pub all_below : {T : Type 0} → MDePats T → List (MDePat T)
  all_below no_de_pats = []
  all_below (more_de_pats p ps) = all_within p ++ all_below ps

-- the patterns below, as they stand in it
abbrev pub subs_in : {T : Type 0} → MDePat T → List (MDePat T)
subs_in (de_pat c t uid at subs binds) = de_pats_list subs

-- the pattern is an or-pattern
abbrev pub is_or : {T : Type 0} → MDePat T → Bool
is_or (de_pat OrCtor t uid at subs binds) = true
is_or (de_pat _ t uid at subs binds) = false

-- a range of more than one number
abbrev pub is_wide : {T : Type 0} → MDePat T → Bool
is_wide (de_pat (NumbersCtor r) t uid at subs binds) = not (has_one_number r)
is_wide (de_pat _ t uid at subs binds) = false

-- a text
abbrev pub is_text : {T : Type 0} → MDePat T → Bool
is_text (de_pat (TextCtor text) t uid at subs binds) = true
is_text (de_pat _ t uid at subs binds) = false

-- an or-pattern with one alternative has a range of more than one number there
abbrev pub is_lone_range : {T : Type 0} → MDePat T → Bool
is_lone_range p = not (is_or p && nat_eq (length (subs_in p)) 1) || list_all is_wide (subs_in p)

-- or-patterns with one alternative stand only over ranges of more than one number
abbrev pub lone_ranges_only : {T : Type 0} → MDePat T → Bool
lone_ranges_only p = list_all is_lone_range (all_within p)
