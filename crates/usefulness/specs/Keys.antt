-- The words that were noted, as plain lists.
use Rattle.std.specs.Prelude.{ℕ, List, map}
use Rattle.usefulness.specs.declared.told.Told.{Told}

-- the lists of words
abbrev pub told_keys : Told → List (List ℕ)
told_keys told = map (λ k. k.items) told.lists.keys
