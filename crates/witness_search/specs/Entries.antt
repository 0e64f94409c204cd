-- What is left of a match where marks are known, entry by entry.
use Rattle.std.specs.Prelude.{ℕ, Bool, true, false, not, ◌&&◌, cond, List, [], ◌∷◌, map}
use Rattle.std.specs.List.{flat_map}
use Rattle.match_model.specs.ArenaPatterns.{MDePat, uid_of, at_of}
use Rattle.match_model.specs.ArenaWays.{arena_alternatives}
use Rattle.match_model.specs.Match.{ArmWays}
use Rattle.match_model.specs.Unreachable.{Entry}
use Rattle.pattern_matrix.specs.Counting.{Question, to_arm, through_alternative}
use Rattle.pattern_matrix.specs.ReachLaws.{left_in, left_from}
use Rattle.witnesses.specs.declared.judgement.Unreachable.{Unreachable}

-- the entry, as the definitions have it
abbrev pub plain_entry : Unreachable → Entry
plain_entry u = record { arm = u.arm; id = u.uid; at = u.at; whole = u.whole }

-- the entries
abbrev pub plain_entries : List Unreachable → List Entry
plain_entries us = map plain_entry us

-- what is left of a pattern below another, where these are alternatives of which one is chosen, or else parts
abbrev pub left_of_one : {T : Type 0} → (is_marked : ℕ → Bool) → (arm : ℕ) → (chosen : Bool) → MDePat T → List Entry
left_of_one f j chosen p =
    cond (chosen && not (f (uid_of p))) (record { arm = j; id = uid_of p; at = at_of p; whole = false } ∷ []) (left_in f j (arena_alternatives p))

-- the same of patterns, one after the other
abbrev pub left_of_each : {T : Type 0} → (is_marked : ℕ → Bool) → (arm : ℕ) → (chosen : Bool) → List (MDePat T) → List Entry
left_of_each f j chosen ps = flat_map (left_of_one f j chosen) ps

-- what is left of an arm
abbrev pub left_of_arm : (is_marked : Question → Bool) → (arm : ℕ) → ArmWays → List Entry
left_of_arm marked j a =
    cond (marked (to_arm j)) (left_in (λ id. marked (through_alternative j id)) j a.alternatives) (record { arm = j; id = a.id; at = a.at; whole = true } ∷ [])

-- what is left of the arms from a number on
abbrev pub left_of_arms : (is_marked : Question → Bool) → (arm : ℕ) → List ArmWays → List Entry
left_of_arms marked j arms = left_from (λ i. marked (to_arm i)) (λ i id. marked (through_alternative i id)) j arms
