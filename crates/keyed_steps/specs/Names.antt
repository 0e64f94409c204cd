-- Names that differ, as statements.
use Rattle.std.specs.Prelude.{◌≡◌, ⊤, ℕ, true, List, [], ◌∷◌}
use Rattle.std.specs.List.{flat_map}
use Rattle.match_model.specs.Rows.{Head}
use Rattle.match_model.specs.WellTyped.{are_distinct, head_names, head_names_differ, bound_names}
use Rattle.match_model.specs.Lists.{Every, Among}
use Rattle.match_model.specs.Steps.{Replacement}

-- nothing is in both
abbrev pub Disjoint : List (List ℕ) → List (List ℕ) → Type 0
Disjoint xs ys = (n : List ℕ) → Among n xs → Among n ys → ⊥

-- all of it is in the other
abbrev pub IsInside : List (List ℕ) → List (List ℕ) → Type 0
IsInside xs ys = (n : List ℕ) → Among n xs → Among n ys

-- the names of heads
abbrev pub names_of : {T : Type 0} → List (Head T) → List (List ℕ)
names_of hs = flat_map head_names hs

-- no name stands in two heads
abbrev pub HeadsApart : {T : Type 0} → List (Head T) → Type 0
HeadsApart [] = ⊤
HeadsApart (h ∷ hs) = Disjoint (head_names h) (names_of hs) × HeadsApart hs

-- what is caught and the names of the heads differ
pub record AreFine {T : Type 0} (caught : List (List ℕ)) (hs : List (Head T)) : Type 0 where
  pub distinct : are_distinct caught ≡ true
  pub each : Every (λ h. head_names_differ h ≡ true) hs
  pub beside : Disjoint caught (names_of hs)
  pub apart : HeadsApart hs

-- what stands in place of a head has its names, and they differ
pub record IsFineReplacement {T : Type 0} (h : Head T) (y : Replacement T) : Type 0 where
  pub binds : IsInside (bound_names y.binds) (head_names h)
  pub heads : IsInside (names_of y.heads) (head_names h)
  pub fine : head_names_differ h ≡ true → AreFine (bound_names y.binds) y.heads
