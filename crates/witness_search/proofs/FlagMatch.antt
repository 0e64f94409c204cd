-- The match of a flag with one arm is well typed.
use Rattle.std.proofs.Common.{◌≡◌, zero, suc, true, [], ◌∷◌, refl, sym, subst, arith}
use Rattle.std.specs.List.{Contains, IsDistinct}
use Rattle.match_model.specs.ArenaPatterns.{MDeArm, MDeMatch}
use Rattle.match_model.specs.WellTyped.{IsWellTyped, IsTyped, names_differ}
use Rattle.pat_context.specs.Toy.{toy_context}
use Rattle.pat_context.specs.ToyLaws.{IsToyType}
use Rattle.pat_context.specs.declared.toy.ToyTy.{ToyTy}
use Rattle.pat_context.specs.declared.toy.ToyTy.TheVariants as t
use Rattle.pattern_arena.specs.Examples.{flag_arm}

-- the match of one arm
abbrev pub match_of : (a : MDeArm ToyTy) → MDeMatch ToyTy
match_of a = record { type = t.Flag; sure = true; arms = a ∷ [] }

of_one : {X : Type 0} (P : X → Type 0) (a x : X) → P a → Contains (a ∷ []) x → P x
of_one P a x p (zero, l, e) = subst P e p
of_one P a x p (suc k, l, e) = absurd (omega (arith, l))

typed : IsWellTyped IsToyType toy_context (match_of (flag_arm true 1))
unfolding IsDistinct
typed = record {
  type = tt;
  typed = λ a h. of_one (λ a. IsTyped toy_context t.Flag a.pat) (flag_arm true 1) a (refl, refl, (refl, refl, tt)) h;
  names = λ a h. of_one (λ a. names_differ a.pat ≡ true) (flag_arm true 1) a refl h;
  uids = (tt, tt);
}

pub is_typed : (a : MDeArm ToyTy) → a ≡ flag_arm true 1 → IsWellTyped IsToyType toy_context (match_of a)
is_typed a e = subst (λ x. IsWellTyped IsToyType toy_context (match_of x)) (sym e) typed
