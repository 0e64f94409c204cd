-- What the worked witness lists share: a match of one arm, small patterns and ranges.
use Rattle.std.proofs.Common.{◌≡◌, ◌↔◌, ℕ, pos, Bool, true, false, [], ◌∷◌, IsTrue, sym, ◌∙◌}
use Rattle.match_model.specs.Types.{MType, BoolType}
use Rattle.match_model.specs.Numbers.{MRange, At}
use Rattle.match_model.specs.Constructors.{FlagCtor, NumbersCtor}
use Rattle.match_model.specs.ArenaPatterns.{MDePat, de_pat, no_de_pats, MDeMatch}

-- a match of one arm without a guard, at a sure place
abbrev pub one : MType → MDePat MType → MDeMatch MType
one t p = record { type = t; sure = true; arms = record { pat = p; guarded = false } ∷ [] }

-- the pattern of a range
abbrev pub num : MRange → MType → MDePat MType
num r t = de_pat (NumbersCtor r) t 1 1 no_de_pats []

-- the range from one number to another
abbrev pub span : ℕ → ℕ → MRange
span a b = record { low = At (pos a); high = At (pos b) }

-- the pattern of a flag
abbrev pub flag_pat : Bool → MDePat MType
flag_pat b = de_pat (FlagCtor b) BoolType 5 5 no_de_pats []

-- equal tests hold together
pub iff_of : (a b : Bool) → a ≡ b → IsTrue a ↔ IsTrue b
iff_of a b e = ((λ h. sym e ∙ h), (λ h. e ∙ h))
