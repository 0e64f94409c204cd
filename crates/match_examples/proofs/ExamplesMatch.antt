-- Worked examples: what a match does with a value, and what it never does.
use Rattle.std.proofs.Common.{◌≡◌, ℕ, pos, Bool, true, false, List, [], ◌∷◌, ◌++◌, refl, sym, ap, ◌∙◌}
use Rattle.match_model.specs.declared.Mode.TheVariants.{Move}
use Rattle.match_model.specs.Values.{MValue, Flag, Unseen}
use Rattle.match_model.specs.Numbers.{At}
use Rattle.match_model.specs.Patterns.{MPat, WildPat, NumPat, FlagPat, SpanPat, OrPat, more_numbered, no_numbered}
use Rattle.match_model.specs.Ways.{Binding}
use Rattle.match_model.specs.Match.{ArmWays, arm_ways, is_covered, comes_to, comes_through, IsExhaustive, IsArmReachable, IsAlternativeReachable, no_alternative, alternative}
use Rattle.match_model.specs.Select.{select, Took, Missed, Short, Asked}
use Rattle.match_model.specs.Unreachable.{nothing_left, is_reachable, is_listed, no_arm, arm_is_reachable, arm_is_listed, IsUnreachableList}
use Rattle.match_examples.proofs.ExamplesWays.{a_name, b_name, x_name, name, pair, number, tuple, bound, either_side}

-- an arm at offset `at`
abbrev pub arm : MPat → ℕ → Bool → ArmWays
arm p at guarded = arm_ways (record { pat = p; at = at; guarded = guarded })

abbrev asked : ℕ → List Binding → Asked
asked j bs = record { arm = j; bindings = bs }

untrue : false ≡ true → ⊥
untrue e = cc

-- `1 | _ if g` asks its guard twice on 1
abbrev one_or_any : ArmWays
one_or_any = arm (OrPat (more_numbered 3 (NumPat (pos 1)) (more_numbered 7 WildPat no_numbered))) 3 true

pub asks_twice : select (one_or_any ∷ []) (number 1) (false ∷ true ∷ true ∷ []) ≡ record { asked = asked 0 [] ∷ asked 0 [] ∷ []; outcome = Took 0 [] }
asks_twice = refl

-- with one refusing answer the second question is left, and is not among those asked
pub asks_short : select (one_or_any ∷ []) (number 1) (false ∷ []) ≡ record { asked = asked 0 [] ∷ []; outcome = Short }
asks_short = refl

pub asks_once : select (one_or_any ∷ []) (number 2) (false ∷ []) ≡ record { asked = asked 0 [] ∷ []; outcome = Missed }
asks_once = refl

-- without a guard the first way is taken: `(x, _) | (_, x)` on `(true, false)` binds `true`
pub first_way : select (arm either_side 10 false ∷ []) (tuple (Flag true ∷ Flag false ∷ [])) [] ≡ record { asked = []; outcome = Took 0 (bound x_name Move (Flag true) ∷ []) }
first_way = refl

-- the four questions of `((a, _) | (_, a), (b, _) | (_, b)) if g`, the first choice varying slowest
abbrev sides : List ℕ → ℕ → ℕ → MPat
sides n i j = OrPat (more_numbered i (pair (name n) WildPat) (more_numbered j (pair WildPat (name n)) no_numbered))

abbrev two_by_two : MValue
two_by_two = tuple (tuple (number 1 ∷ number 2 ∷ []) ∷ tuple (number 3 ∷ number 4 ∷ []) ∷ [])

abbrev pair_asked : ℕ → ℕ → Asked
pair_asked i j = asked 0 (bound a_name Move (number i) ∷ bound b_name Move (number j) ∷ [])

pub four_questions : select (arm (pair (sides a_name 11 20) (sides b_name 29 38)) 10 true ∷ []) two_by_two (false ∷ false ∷ false ∷ false ∷ true ∷ []) ≡ record { asked = pair_asked 1 3 ∷ pair_asked 1 4 ∷ pair_asked 2 3 ∷ pair_asked 2 4 ∷ []; outcome = Missed }
four_questions = refl

-- arms in order: a guard that refuses lets the next arm have the value
pub next_arm : select (arm (NumPat (pos 1)) 0 true ∷ arm WildPat 9 false ∷ []) (number 1) (false ∷ []) ≡ record { asked = asked 0 [] ∷ []; outcome = Took 1 [] }
next_arm = refl

pub no_question : select (arm (NumPat (pos 1)) 0 true ∷ arm WildPat 9 false ∷ []) (number 2) [] ≡ record { asked = []; outcome = Took 1 [] }
no_question = refl

pub no_arms : select [] (number 2) (true ∷ []) ≡ record { asked = []; outcome = Missed }
no_arms = refl

-- a guard covers nothing
pub guard_covers_nothing : (is_covered (arm WildPat 0 true ∷ []) (number 1) ≡ false) × (is_covered (arm WildPat 0 true ∷ arm WildPat 9 false ∷ []) (number 1) ≡ true)
guard_covers_nothing = (refl, refl)

-- `0..=9 => .., 5 => ..`: 5 does not come to the second arm; behind a guard it does
pub comes : (comes_to (arm (SpanPat 0 (record { low = At (pos 0); high = At (pos 9) })) 0 false ∷ arm (NumPat (pos 5)) 9 false ∷ []) 1 (number 5) ≡ false) × (comes_to (arm (SpanPat 0 (record { low = At (pos 0); high = At (pos 9) })) 0 true ∷ arm (NumPat (pos 5)) 9 false ∷ []) 1 (number 5) ≡ true) × (comes_to (arm WildPat 0 false ∷ []) 1 (number 5) ≡ false)
comes = (refl, refl, refl)

-- the values of `bool`, and the bare unseen of an unsure place of `!`
abbrev pub Bools : MValue → Type 0
Bools v = (b : Bool) × (v ≡ Flag b)

abbrev pub BareUnseen : MValue → Type 0
BareUnseen v = v ≡ Unseen

-- `match *x {}` on `x: &!` is exhaustive: a bare unseen is not asked for
pub bare_is_not_asked : IsExhaustive BareUnseen []
bare_is_not_asked v d n = absurd (n d)

-- but `_` there is reachable, since the bare unseen comes to it
pub bare_comes : IsArmReachable BareUnseen (arm WildPat 0 false ∷ []) 0
bare_comes = (Unseen, refl, refl)

-- `true => .., false => ..` is exhaustive on `bool`
abbrev both_flags : List ArmWays
both_flags = arm (FlagPat true) 0 false ∷ arm (FlagPat false) 9 false ∷ []

pub both_flags_cover : IsExhaustive Bools both_flags
both_flags_cover v (true, e) n = rw e refl
both_flags_cover v (false, e) n = rw e refl

-- `true if g => .., false => ..` is not
pub guarded_flag : IsExhaustive Bools (arm (FlagPat true) 0 true ∷ arm (FlagPat false) 9 false ∷ []) → ⊥
guarded_flag all = untrue (all (Flag true) (true, refl) (λ e. no_unseen e))
  where
    no_unseen : Flag true ≡ Unseen → ⊥
    no_unseen e = cc

-- `0 | 0`: no value comes through the second alternative; with a guard 0 does
abbrev zeros : MPat
zeros = OrPat (more_numbered 2 (NumPat (pos 0)) (more_numbered 6 (NumPat (pos 0)) no_numbered))

pub second_zero : (comes_through (arm zeros 2 false ∷ []) 0 6 (number 0) ≡ false) × (comes_through (arm zeros 2 false ∷ []) 0 2 (number 0) ≡ true) × (comes_through (arm zeros 2 true ∷ []) 0 6 (number 0) ≡ true)
second_zero = (refl, refl, refl)

-- the domain of the numbers 0 and 1
abbrev Zero : MValue → Type 0
Zero v = v ≡ number 0

no_second : IsAlternativeReachable Zero (arm zeros 2 false ∷ []) 0 6 → ⊥
no_second (v, e, h) = untrue (sym (ap (comes_through (arm zeros 2 false ∷ []) 0 6) e) ∙ h)

-- so `0 | 0` lists its second alternative, and `0 | 0 if g` lists none
pub zeros_list : IsUnreachableList Zero (arm zeros 2 false ∷ []) (record { arm = 0; id = 6; at = 6; whole = false } ∷ [])
zeros_list =
    arm_is_reachable 0 (arm zeros 2 false) [] (record { arm = 0; id = 6; at = 6; whole = false } ∷ []) [] (number 0, refl, refl)
    (is_reachable 2 2 no_alternative (alternative 6 6 no_alternative no_alternative) [] (record { arm = 0; id = 6; at = 6; whole = false } ∷ []) (number 0, refl, refl) nothing_left
    (is_listed 6 6 no_alternative no_alternative [] no_second nothing_left))
    (no_arm 1)

pub guarded_zeros_list : IsUnreachableList Zero (arm zeros 2 true ∷ []) []
guarded_zeros_list =
    arm_is_reachable 0 (arm zeros 2 true) [] [] [] (number 0, refl, refl)
    (is_reachable 2 2 no_alternative (alternative 6 6 no_alternative no_alternative) [] [] (number 0, refl, refl) nothing_left
    (is_reachable 6 6 no_alternative no_alternative [] [] (number 0, refl, refl) nothing_left nothing_left))
    (no_arm 1)

abbrev and_any : List ArmWays
and_any = both_flags ++ arm WildPat 18 false ∷ []

no_third : IsArmReachable Bools and_any 2 → ⊥
no_third (v, (true, e), h) = untrue (sym (ap (comes_to and_any 2) e) ∙ h)
no_third (v, (false, e), h) = untrue (sym (ap (comes_to and_any 2) e) ∙ h)

-- `true => .., false => .., _ => ..` lists the whole third arm
pub third_arm : IsUnreachableList Bools and_any (record { arm = 2; id = 18; at = 18; whole = true } ∷ [])
third_arm =
    arm_is_reachable 0 (arm (FlagPat true) 0 false) (arm (FlagPat false) 9 false ∷ arm WildPat 18 false ∷ []) [] (record { arm = 2; id = 18; at = 18; whole = true } ∷ []) (Flag true, (true, refl), refl) nothing_left
    (arm_is_reachable 1 (arm (FlagPat false) 9 false) (arm WildPat 18 false ∷ []) [] (record { arm = 2; id = 18; at = 18; whole = true } ∷ []) (Flag false, (false, refl), refl) nothing_left
    (arm_is_listed 2 (arm WildPat 18 false) [] [] no_third (no_arm 3)))
