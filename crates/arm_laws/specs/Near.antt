-- No meaning: matches whose ranges have literal ends, or one beside a literal.
use Rattle.std.specs.Prelude.{◌≡◌, ⊤, ℤ, pos, ◌-ℤ◌, true, false, ◌||◌, List, IsTrue}
use Rattle.std.specs.List.{Contains}
use Rattle.match_model.specs.declared.IntKind.{IntKind}
use Rattle.match_model.specs.Types.{MType, IntType}
use Rattle.match_model.specs.Declarations.{MProgram}
use Rattle.match_model.specs.Numbers.{At, is_at}
use Rattle.match_model.specs.Constructors.{MCtor, NumbersCtor}
use Rattle.match_model.specs.ArenaPatterns.{MDePat, de_pat, MDePats, no_de_pats, more_de_pats, MDeArm, MDeMatch}
use Rattle.match_model.specs.Lists.{Every}
use Rattle.match_model.specs.Made.{AreArmsMade}
use Rattle.match_model.specs.RustTypes.{rust_context, is_type, RustValue}
use Rattle.match_model.specs.WellTyped.{IsTyped}
use Rattle.match_model.specs.Witness.{MWitness}
use Rattle.match_model.specs.WitnessList.{IsWitnessList}
use Rattle.witness_text.specs.Ranges.{begins_above_literals, ends_below_literals}

-- a range may be cut before the number: it is no lower than a literal, and the one before it no higher
abbrev pub IsNear : IntKind → ℤ → Type 0
IsNear kind n =
    (begins_above_literals kind (At (n -ℤ pos 1)) ≡ false) × (ends_below_literals kind (At n) ≡ false)

-- the range of the constructor cuts nowhere else
abbrev pub AreNear : MType → MCtor → Type 0
AreNear (IntType kind) (NumbersCtor r) =
    (n : ℤ) → (is_at n r.low || is_at (n -ℤ pos 1) r.high) ≡ true → IsNear kind n
AreNear t c = ⊤

abbrev mutual
  -- the pattern and those below it have the property, by type and constructor
  pub HasNodes : {T : Type 0} → (T → MCtor → Type 0) → MDePat T → Type 0
  HasNodes P (de_pat c t uid at subs binds) = P t c × HaveNodes P subs

  -- all of these have it
  pub HaveNodes : {T : Type 0} → (T → MCtor → Type 0) → MDePats T → Type 0
  HaveNodes P no_de_pats = ⊤
  HaveNodes P (more_de_pats p ps) = HasNodes P p × HaveNodes P ps

-- the match is well typed, its ranges can be held and have such ends, and the witnesses are its list
pub record IsNearList (program : MProgram) (m : MDeMatch MType) (witnesses : List MWitness) : Type 0 where
  pub type : IsTrue (is_type program m.type)
  pub typed : (a : MDeArm MType) → Contains m.arms a → IsTyped (rust_context program) m.type a.pat
  pub made : AreArmsMade m.arms
  pub near : Every (λ a. HasNodes AreNear a.pat) m.arms
  pub listed : IsWitnessList (rust_context program) (RustValue program) m witnesses
