-- Constructors, one that stands near the same one left out.
use Rattle.std.specs.Prelude.{◌≡◌, ℕ, List, map, Some, slice_get}
use Rattle.match_model.specs.Constructors.{MCtor}
use Rattle.match_model.specs.Lists.{SameMembers}

-- the constructors are all of these, but for how often each stands; each of these has the number of the same one among them
pub record AreDistinct (all ctors : List MCtor) (numbers : List ℕ) : Type 0 where
  pub numbered : map Some all ≡ map (slice_get ctors) numbers
  pub same : SameMembers all ctors
