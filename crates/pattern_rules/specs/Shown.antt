-- No meaning: a pattern of an engine with plain types and without its uids, as the elaborated patterns are.
use Rattle.std.specs.Prelude.{ℕ}
use Rattle.match_model.specs.Types.{MType}
use Rattle.match_model.specs.Constructors.{MCtor, OrCtor}
use Rattle.match_model.specs.ArenaPatterns.{MDePat, de_pat, MDePats, no_de_pats, more_de_pats, at_of}
use Rattle.pattern_rules.specs.Builders.{Built}

-- what stands for the uid of a pattern below this constructor: an alternative's offset, else 0
abbrev pub uid_under : {T : Type 0} → MCtor → MDePat T → ℕ
uid_under OrCtor p = at_of p
uid_under _ p = 0

abbrev mutual
  -- the pattern, with this for its uid
  pub settled : {T : Type 0} → (T → MType) → (uid : ℕ) → MDePat T → Built
  settled type u (de_pat c t uid at subs binds) = de_pat c (type t) u at (settled_all type c subs) binds

  -- the patterns below this constructor
  pub settled_all : {T : Type 0} → (T → MType) → MCtor → MDePats T → MDePats MType
  settled_all type c no_de_pats = no_de_pats
  settled_all type c (more_de_pats p ps) = more_de_pats (settled type (uid_under c p) p) (settled_all type c ps)

-- an arm's pattern, with its offset for its uid
abbrev pub shown : {T : Type 0} → (T → MType) → MDePat T → Built
shown type p = settled type (at_of p) p
