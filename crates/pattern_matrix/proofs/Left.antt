-- What exact marks leave is the list of what is unreachable.
use Rattle.std.proofs.Common.{◌≡◌, ◌↔◌, ◌<◌, ℕ, suc, ◌+◌, Bool, true, false, cond, List, [], ◌∷◌, ◌++◌, length, refl, sym, ◌∙◌, arith}
use Rattle.match_model.specs.Values.{MValue}
use Rattle.match_model.specs.ArenaWays.{match_arms, InMatchDomain}
use Rattle.match_model.specs.Match.{ArmWays, Alternatives, no_alternative, alternative, IsAlternativeReachable}
use Rattle.match_model.specs.Unreachable.{Entry, Listed, nothing_left, is_reachable, is_listed, ListedFrom, no_arm, arm_is_reachable, arm_is_listed}
use Rattle.match_model.proofs.Basics.{untrue}
use Rattle.pattern_matrix.specs.ReachLaws.{left_in, left_from, AreMarksExact, LeftIsUnreachable}

left_listed : (Reachable : ℕ → Type 0) (is_marked : ℕ → Bool) (arm : ℕ) → ((id : ℕ) → (is_marked id ≡ true) ↔ Reachable id) →
    (alts : Alternatives) → Listed Reachable arm alts (left_in is_marked arm alts)
left_listed Reachable is_marked arm f no_alternative = nothing_left
left_listed Reachable is_marked arm f (alternative id at inside others) =
    go (is_marked id) refl (left_listed Reachable is_marked arm f inside) (left_listed Reachable is_marked arm f others)
  where
    go : (b : Bool) → is_marked id ≡ b → Listed Reachable arm inside (left_in is_marked arm inside) →
        Listed Reachable arm others (left_in is_marked arm others) →
        Listed Reachable arm (alternative id at inside others) (cond b (left_in is_marked arm inside) (record { arm = arm; id = id; at = at; whole = false } ∷ []) ++ left_in is_marked arm others)
    go true e i o = is_reachable id at inside others (left_in is_marked arm inside) (left_in is_marked arm others) ((f id).0 e) i o
    go false e i o = is_listed id at inside others (left_in is_marked arm others) (λ r. untrue (sym e ∙ (f id).1 r)) o

left_arms : (Domain : MValue → Type 0) (all : List ArmWays) (is_arm_marked : ℕ → Bool) (is_marked : ℕ → ℕ → Bool) →
    AreMarksExact Domain all is_arm_marked is_marked → (j : ℕ) (arms : List ArmWays) → j + length arms ≡ length all →
    ListedFrom Domain all j arms (left_from is_arm_marked is_marked j arms)
left_arms Domain all is_arm_marked is_marked f j [] l = no_arm j
left_arms Domain all is_arm_marked is_marked f j (a ∷ rest) l =
    go (is_arm_marked j) refl (omega (arith, l)) (left_arms Domain all is_arm_marked is_marked f (suc j) rest (omega (arith, l)))
  where
    inside : List Entry
    inside = left_in (is_marked j) j a.alternatives

    later : List Entry
    later = left_from is_arm_marked is_marked (suc j) rest

    go : (b : Bool) → is_arm_marked j ≡ b → j < length all → ListedFrom Domain all (suc j) rest later →
        ListedFrom Domain all j (a ∷ rest) (cond b inside (record { arm = j; id = a.id; at = a.at; whole = true } ∷ []) ++ later)
    go true e l k =
        arm_is_reachable j a rest inside later ((f.arm j l).0 e) (left_listed (IsAlternativeReachable Domain all j) (is_marked j) j (λ id. f.alternative j id l) a.alternatives) k
    go false e l k = arm_is_listed j a rest later (λ r. untrue (sym e ∙ (f.arm j l).1 r)) k

pub left_is : {T : Type 0} (IsValue : T → Bool → MValue → Type 0) → LeftIsUnreachable IsValue
left_is IsValue m is_arm_marked is_marked f =
    let found = left_arms (InMatchDomain IsValue m) (match_arms m) is_arm_marked is_marked f 0 (match_arms m) (omega arith) in
    (found, (left_from is_arm_marked is_marked 0 (match_arms m), found, refl))
