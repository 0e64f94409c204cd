-- The match of a flag with an arm for each of the two is well typed and exhaustive, and both arms are reached.
use Rattle.std.proofs.Common.{◌≡◌, zero, suc, true, false, [], ◌∷◌, refl, sym, subst, arith}
use Rattle.std.specs.List.{Contains, IsDistinct}
use Rattle.match_model.specs.ArenaPatterns.{MDeArm, MDeMatch}
use Rattle.match_model.specs.ArenaWays.{match_arms, InMatchDomain}
use Rattle.match_model.specs.Match.{IsArmReachable, IsExhaustive}
use Rattle.match_model.specs.Values.{Flag}
use Rattle.match_model.specs.WellTyped.{IsWellTyped, IsTyped, names_differ}
use Rattle.match_model.proofs.Basics.{untrue}
use Rattle.pat_context.specs.Toy.{toy_context, ToyValue}
use Rattle.pat_context.specs.ToyLaws.{IsToyType}
use Rattle.pat_context.specs.declared.toy.ToyTy.{ToyTy}
use Rattle.pat_context.specs.declared.toy.ToyTy.TheVariants as t
use Rattle.pattern_arena.specs.Examples.{flag_arm}

-- the match of two arms
abbrev pub match_of : (a b : MDeArm ToyTy) → MDeMatch ToyTy
match_of a b = record { type = t.Flag; sure = true; arms = a ∷ b ∷ [] }

-- the match of an arm for each flag
abbrev pub both : MDeMatch ToyTy
both = match_of (flag_arm true 1) (flag_arm false 2)

-- the two are the arms of the flags
abbrev Flags : (a b : MDeArm ToyTy) → Type 0
Flags a b = (a ≡ flag_arm true 1) × (b ≡ flag_arm false 2)

of_two : {X : Type 0} (P : X → Type 0) (a b x : X) → P a → P b → Contains (a ∷ b ∷ []) x → P x
of_two P a b x p q (zero, l, e) = subst P e p
of_two P a b x p q (suc zero, l, e) = subst P e q
of_two P a b x p q (suc (suc k), l, e) = absurd (omega (arith, l))

typed : IsWellTyped IsToyType toy_context both
unfolding IsDistinct
typed = record {
  type = tt;
  typed = λ a h. of_two (λ a. IsTyped toy_context t.Flag a.pat) (flag_arm true 1) (flag_arm false 2) a (refl, refl, (refl, refl, tt)) (refl, refl, (refl, refl, tt)) h;
  names = λ a h. of_two (λ a. names_differ a.pat ≡ true) (flag_arm true 1) (flag_arm false 2) a refl refl h;
  uids = ((refl, tt), (tt, tt));
}

exhaustive : IsExhaustive (InMatchDomain ToyValue both) (match_arms both)
exhaustive (Flag true) d n = refl
exhaustive (Flag false) d n = refl
exhaustive _ d n = untrue d

reached : IsArmReachable (InMatchDomain ToyValue both) (match_arms both) 0 × IsArmReachable (InMatchDomain ToyValue both) (match_arms both) 1
reached = ((Flag true, refl, refl), (Flag false, refl, refl))

pub are_typed : (a b : MDeArm ToyTy) → Flags a b → IsWellTyped IsToyType toy_context (match_of a b)
are_typed a b e = subst (λ x. IsWellTyped IsToyType toy_context (match_of x b)) (sym e.0) (subst (λ y. IsWellTyped IsToyType toy_context (match_of (flag_arm true 1) y)) (sym e.1) typed)

abbrev Exhaustive : MDeMatch ToyTy → Type 0
Exhaustive m = IsExhaustive (InMatchDomain ToyValue m) (match_arms m)

pub are_exhaustive : (a b : MDeArm ToyTy) → Flags a b → Exhaustive (match_of a b)
are_exhaustive a b e = subst (λ x. Exhaustive (match_of x b)) (sym e.0) (subst (λ y. Exhaustive (match_of (flag_arm true 1) y)) (sym e.1) exhaustive)

abbrev Reached : MDeMatch ToyTy → Type 0
Reached m = IsArmReachable (InMatchDomain ToyValue m) (match_arms m) 0 × IsArmReachable (InMatchDomain ToyValue m) (match_arms m) 1

pub are_reached : (a b : MDeArm ToyTy) → Flags a b → Reached (match_of a b)
are_reached a b e = subst (λ x. Reached (match_of x b)) (sym e.0) (subst (λ y. Reached (match_of (flag_arm true 1) y)) (sym e.1) reached)
