-- The match of a flag with the arms `true` and `true | false` is well typed.
use Rattle.std.proofs.Common.{◌≡◌, ℕ, zero, suc, true, false, List, [], ◌∷◌, map, refl, ap, sym, subst, ◌∙◌, arith}
use Rattle.std.specs.List.{Contains, IsDistinct}
use Rattle.match_model.specs.Constructors.{MCtor, FlagCtor, OrCtor}
use Rattle.match_model.specs.ArenaPatterns.{MDePat, de_pat, MDePats, no_de_pats, more_de_pats, de_pats_of, MDeArm, MDeMatch}
use Rattle.match_model.specs.WellTyped.{IsWellTyped, IsTyped, names_differ}
use Rattle.pat_context.specs.Toy.{toy_context}
use Rattle.pat_context.specs.ToyLaws.{IsToyType}
use Rattle.pat_context.specs.declared.toy.ToyTy.{ToyTy}
use Rattle.pat_context.specs.declared.toy.ToyTy.TheVariants as t
use Rattle.pattern_arena.specs.declared.pattern.DePat.{DePat}
use Rattle.pattern_arena.specs.Trees.{tree}

-- a pattern of a flag
abbrev pub flag_pattern : MCtor → (uid : ℕ) → MDePats ToyTy → MDePat ToyTy
flag_pattern c uid subs = de_pat c t.Flag uid uid subs []

abbrev pub first_arm : MDeArm ToyTy
first_arm = record { pat = flag_pattern (FlagCtor true) 1 no_de_pats; guarded = false }

abbrev pub second_arm : MDeArm ToyTy
second_arm = record {
  pat = flag_pattern OrCtor 2 (more_de_pats (flag_pattern (FlagCtor true) 3 no_de_pats) (more_de_pats (flag_pattern (FlagCtor false) 4 no_de_pats) no_de_pats));
  guarded = false;
}

abbrev pub two : MDeMatch ToyTy
two = record { type = t.Flag; sure = true; arms = first_arm ∷ second_arm ∷ [] }

of_two : {X : Type 0} (P : X → Type 0) (a b x : X) → P a → P b → Contains (a ∷ b ∷ []) x → P x
of_two P a b x p q (zero, l, e) = subst P e p
of_two P a b x p q (suc zero, l, e) = subst P e q
of_two P a b x p q (suc (suc k), l, e) = absurd (omega (arith, l))

is_typed : IsWellTyped IsToyType toy_context two
unfolding IsDistinct
is_typed = record {
  type = tt;
  typed = λ a h. of_two (λ a. IsTyped toy_context t.Flag a.pat) first_arm second_arm a (refl, refl, (refl, refl, tt))
      (refl, refl, ((refl, refl, (refl, refl, tt)), ((refl, refl, (refl, refl, tt)), tt))) h;
  names = λ a h. of_two (λ a. names_differ a.pat ≡ true) first_arm second_arm a refl refl h;
  uids = ((refl, (refl, (refl, tt))), ((refl, (refl, tt)), ((refl, tt), (tt, tt))));
}

-- as they are placed
pub second_is : {r : MDePat ToyTy} (cs : List (DePat ToyTy)) (p q : DePat ToyTy) → r ≡ flag_pattern OrCtor 2 (de_pats_of (map tree cs)) → cs ≡ p ∷ q ∷ [] →
    tree p ≡ flag_pattern (FlagCtor true) 3 no_de_pats → tree q ≡ flag_pattern (FlagCtor false) 4 no_de_pats → r ≡ second_arm.pat
second_is cs p q e f g h =
    e ∙ ap (λ xs. flag_pattern OrCtor 2 (de_pats_of (map tree xs))) f
    ∙ ap (λ x. flag_pattern OrCtor 2 (more_de_pats x (more_de_pats (tree q) no_de_pats))) g
    ∙ ap (λ x. flag_pattern OrCtor 2 (more_de_pats (flag_pattern (FlagCtor true) 3 no_de_pats) (more_de_pats x no_de_pats))) h

pub typed_at : (first second : MDePat ToyTy) (arms : List (MDeArm ToyTy)) → arms ≡ record { pat = first; guarded = false } ∷ record { pat = second; guarded = false } ∷ [] → first ≡ first_arm.pat → second ≡ second_arm.pat →
    IsWellTyped IsToyType toy_context (record { type = t.Flag; sure = true; arms = arms })
typed_at first second arms e f g =
    subst (λ xs. IsWellTyped IsToyType toy_context (record { type = t.Flag; sure = true; arms = xs }))
    (ap (λ x. record { pat = first_arm.pat; guarded = false } ∷ record { pat = x; guarded = false } ∷ []) (sym g)
    ∙ ap (λ x. record { pat = x; guarded = false } ∷ record { pat = second; guarded = false } ∷ []) (sym f) ∙ sym e) is_typed
