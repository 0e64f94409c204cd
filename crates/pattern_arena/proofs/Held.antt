-- The ranges in the patterns of an arena can be held.
use Rattle.std.proofs.Common.{List, [], ◌∷◌, map, sym, subst}
use Rattle.match_model.specs.ArenaPatterns.{MDePat, de_pats_of}
use Rattle.match_model.specs.Made.{IsMadePat, AreMadePats, AreArmsMade}
use Rattle.pat_context.proofs.Held.{made_ctor}
use Rattle.pattern_arena.specs.declared.matches.CheckedArm.{CheckedArm}
use Rattle.pattern_arena.specs.declared.pattern.DePat.{DePat, DePat-F, map-DePat, roll-DePat, ind-DePat, fold-roll-DePat}
use Rattle.pattern_arena.specs.Trees.{tree, tree_step, plain_arm}

all_made : {T A : Type 0} (f : A → DePat T) → ((a : A) → IsMadePat (tree (f a))) → (qs : List A) → AreMadePats (de_pats_of (map tree (map f qs)))
all_made f h [] = tt
all_made f h (q ∷ qs) = (h q, all_made f h qs)

layer : {T A : Type 0} (f : A → DePat T) → ((a : A) → IsMadePat (tree (f a))) → (y : DePat-F T A) → IsMadePat (tree (roll-DePat T (map-DePat T A (DePat T) f y)))
layer {T} {A} f h y =
    subst IsMadePat (sym (fold-roll-DePat T (MDePat T) tree_step (map-DePat T A (DePat T) f y))) (made_ctor y.form.now.ctor, all_made f h y.form.now.subs.now)

pub tree_made : {T : Type 0} (p : DePat T) → IsMadePat (tree p)
tree_made {T} p = ind-DePat T (λ q. IsMadePat (tree q)) (λ x y e. subst (λ z. IsMadePat (tree (roll-DePat T z))) e (layer (λ s. s.0) (λ s. s.1) y)) p

pub arms_made : {T : Type 0} (arms : List (CheckedArm T)) → AreArmsMade (map plain_arm arms)
arms_made [] = tt
arms_made (a ∷ arms) = (tree_made a.pat, arms_made arms)
