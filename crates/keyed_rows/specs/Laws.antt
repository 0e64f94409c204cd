-- Laws of the numbers of or-patterns.
use Rattle.std.specs.Prelude.{ℕ, nat_eq}
use Rattle.std.specs.List.{flat_map, IsDistinct}
use Rattle.match_model.specs.Values.{MValue}
use Rattle.match_model.specs.ArenaPatterns.{MDePat, MDeMatch}
use Rattle.match_model.specs.ArenaWays.{arena_ways}
use Rattle.match_model.specs.Keys.{Decision, IsBefore}
use Rattle.match_model.specs.WellTyped.{uids_in}
use Rattle.match_model.specs.Lists.{Ordered}
use Rattle.match_model.specs.Numbering.{IsNumbered, way_key, AreArmsNumbered, match_decisions}

-- the ways of a pattern come in the order of what they decide
abbrev pub WaysAscend : (T : Type 0) → Type 0
WaysAscend T = (decides : ℕ → Decision) (p : MDePat T) (n : ℕ) (v : MValue) → IsNumbered decides n p →
    Ordered (λ w u. IsBefore (way_key decides w) (way_key decides u)) (arena_ways p v)

-- where no two patterns of a match have one uid, what its alternatives decide numbers the or-patterns of each arm
abbrev pub ArmsAreNumbered : (T : Type 0) → Type 0
ArmsAreNumbered T = (m : MDeMatch T) → IsDistinct nat_eq (flat_map (λ a. uids_in a.pat) m.arms) →
    AreArmsNumbered (match_decisions m) m.arms
