-- How many things of a kind a match may have (our own choice): what a number of 32 bits names are fewer than 2^32.
use Rattle.std.specs.Prelude.{◌<◌, ⊤, ℕ, ◌+◌, ◌^◌, List, [], ◌∷◌, length}
use Rattle.std.specs.List.{Contains}
use Rattle.match_model.specs.Constructors.{MCtor, OrCtor}
use Rattle.match_model.specs.ArenaPatterns.{MDePat, de_pat, MDePats, no_de_pats, more_de_pats, de_pats_list, MDeArm, MDeMatch}

-- an or-pattern counts one
abbrev pub one_if_or : MCtor → ℕ
one_if_or OrCtor = 1
one_if_or _ = 0

abbrev mutual
  -- how many or-patterns a pattern has, itself counted
  pub ors_in : {T : Type 0} → MDePat T → ℕ
  ors_in (de_pat c t uid at subs binds) = one_if_or c + ors_in_all subs

  -- how many or-patterns the patterns have
  pub ors_in_all : {T : Type 0} → MDePats T → ℕ
  ors_in_all no_de_pats = 0
  ors_in_all (more_de_pats p ps) = ors_in p + ors_in_all ps

-- how many or-patterns the arms have
abbrev pub ors_in_arms : {T : Type 0} → List (MDeArm T) → ℕ
ors_in_arms [] = 0
ors_in_arms (a ∷ arms) = ors_in a.pat + ors_in_arms arms

-- what is asked of an or-pattern, and nothing of any other
abbrev pub ForOr : MCtor → Type 0 → Type 0
ForOr OrCtor asked = asked
ForOr _ asked = ⊤

abbrev mutual
  -- no or-pattern of the pattern has 2^32 alternatives
  pub HasFewAlternatives : {T : Type 0} → MDePat T → Type 0
  HasFewAlternatives (de_pat c t uid at subs binds) =
      ForOr c (length (de_pats_list subs) < 2 ^ 32) × HaveFewAlternatives subs

  -- no or-pattern of the patterns has 2^32 alternatives
  pub HaveFewAlternatives : {T : Type 0} → MDePats T → Type 0
  HaveFewAlternatives no_de_pats = ⊤
  HaveFewAlternatives (more_de_pats p ps) = HasFewAlternatives p × HaveFewAlternatives ps

-- the match has fewer than 2^32 arms, or-patterns, and alternatives of any one or-pattern
pub record IsCountable {T : Type 0} (m : MDeMatch T) : Type 0 where
  pub arms : length m.arms < 2 ^ 32
  pub ors : ors_in_arms m.arms < 2 ^ 32
  pub alternatives : (a : MDeArm T) → Contains m.arms a → HasFewAlternatives a.pat
