-- What the program can hold of ranges: ends within 128 bits and a sign, none below the other; and the sets, constructors and
-- patterns that have no other ranges.
use Rattle.std.specs.Prelude.{⊤, List, [], ◌∷◌, Option, Some, None, IsTrue, int_le}
pub use Rattle.match_model.specs.Numbers.{ends_ascend}
use Rattle.match_model.specs.Numbers.{MEnd, Free, At, MRange}
use Rattle.match_model.specs.Constructors.{MCtor, NumbersCtor, MSet, NumberSet, least_held, greatest_held}
use Rattle.match_model.specs.ArenaPatterns.{MDePat, de_pat, MDePats, no_de_pats, more_de_pats, MDeArm}

-- the end has no bound, or one that can be held
abbrev pub IsHeldEnd : MEnd → Type 0
IsHeldEnd Free = ⊤
IsHeldEnd (At n) = IsTrue (int_le least_held n) × IsTrue (int_le n greatest_held)

-- the range does not run backward, and its ends can be held
pub record IsMadeRange (r : MRange) : Type 0 where
  pub up : IsTrue (ends_ascend r.low r.high)
  pub low : IsHeldEnd r.low
  pub high : IsHeldEnd r.high

-- the range of the constructor, where it has one, does not run backward
abbrev pub IsForward : MCtor → Type 0
IsForward (NumbersCtor r) = IsTrue (ends_ascend r.low r.high)
IsForward _ = ⊤

-- the range of the constructor, where it has one, can be held
abbrev pub IsMade : MCtor → Type 0
IsMade (NumbersCtor r) = IsMadeRange r
IsMade _ = ⊤

-- the second range of a set, where it has one, can be held
abbrev pub IsMadeSecond : Option MRange → Type 0
IsMadeSecond None = ⊤
IsMadeSecond (Some second) = IsMadeRange second

-- the ranges of the set can be held
abbrev pub IsMadeSet : MSet → Type 0
IsMadeSet (NumberSet first second) = IsMadeRange first × IsMadeSecond second
IsMadeSet _ = ⊤

abbrev mutual
  -- the ranges in the pattern can be held
  pub IsMadePat : {T : Type 0} → MDePat T → Type 0
  IsMadePat (de_pat c t uid at subs binds) = IsMade c × AreMadePats subs

  -- the ranges in the patterns can be held
  pub AreMadePats : {T : Type 0} → MDePats T → Type 0
  AreMadePats no_de_pats = ⊤
  AreMadePats (more_de_pats p ps) = IsMadePat p × AreMadePats ps

-- the ranges in the arms' patterns can be held
abbrev pub AreArmsMade : {T : Type 0} → List (MDeArm T) → Type 0
AreArmsMade [] = ⊤
AreArmsMade (a ∷ arms) = IsMadePat a.pat × AreArmsMade arms
