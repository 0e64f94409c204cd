-- A small match over the toy context.
use Rattle.std.specs.Prelude.{ℕ, Bool, false, []}
use Rattle.match_model.specs.Constructors.{FlagCtor}
use Rattle.match_model.specs.ArenaPatterns.{de_pat, no_de_pats, MDeArm}
use Rattle.pat_context.specs.declared.toy.ToyTy.{ToyTy}
use Rattle.pat_context.specs.declared.toy.ToyTy.TheVariants as t

-- the arm of a flag, without a guard; its offset is its uid
abbrev pub flag_arm : Bool → (uid : ℕ) → MDeArm ToyTy
flag_arm b uid = record { pat = de_pat (FlagCtor b) t.Flag uid uid no_de_pats []; guarded = false }
