-- Values at the places of columns.
use Rattle.std.specs.Prelude.{◌≡◌, ⊤, ℕ, Bool, true, List, [], ◌∷◌, map, Some}
use Rattle.match_model.specs.Values.{MValue}
use Rattle.match_model.specs.Constructors.{MCtor, builds}
use Rattle.match_model.specs.Contexts.{Context}
use Rattle.match_model.specs.Places.{part_at, position_at}
use Rattle.match_model.specs.Matrices.{MColumn, part_columns}
use Rattle.match_model.specs.Lists.{Ordered}
use Rattle.keyed_steps.specs.Positions.{inside, ArePositions}

-- each is a value of its column
abbrev pub AreValues : {T : Type 0} → (T → Bool → MValue → Type 0) → List (MColumn T) → List MValue → Type 0
AreValues V [] [] = ⊤
AreValues V [] (u ∷ us) = ⊥
AreValues V (c ∷ cs) [] = ⊥
AreValues V (c ∷ cs) (u ∷ us) = V c.type c.sure u × AreValues V cs us

-- they stand at the places of the columns
abbrev pub ArePartsAt : {T : Type 0} → MValue → List (MColumn T) → List MValue → Type 0
ArePartsAt v [] [] = ⊤
ArePartsAt v [] (u ∷ us) = ⊥
ArePartsAt v (c ∷ cs) [] = ⊥
ArePartsAt v (c ∷ cs) (u ∷ us) = (part_at c.place v ≡ Some u) × ArePartsAt v cs us

-- at each column's place stands a value of the column
abbrev pub IsHeld : {T : Type 0} → (T → Bool → MValue → Type 0) → List (MColumn T) → MValue → Type 0
IsHeld V columns v = (us : List MValue) × AreValues V columns us × ArePartsAt v columns us

-- each column has a value
abbrev pub HaveValues : {T : Type 0} → (T → Bool → MValue → Type 0) → List (MColumn T) → Type 0
HaveValues V columns = (us : List MValue) × AreValues V columns us

-- the values of the domain: they hold values of the columns, and any values of the columns stand in one of them
pub record IsFilled {T : Type 0} (V : T → Bool → MValue → Type 0) (Domain : MValue → Type 0)
    (columns : List (MColumn T)) : Type 0 where
  pub held : (v : MValue) → Domain v → IsHeld V columns v
  pub filled : (us : List MValue) → AreValues V columns us → (v : MValue) × Domain v × ArePartsAt v columns us
  pub lives : HaveValues V columns

-- what a piece of a column with a value is: its parts take the column's place
pub record IsOpened {T : Type 0} (cx : Context T) (V : T → Bool → MValue → Type 0) (c : MColumn T)
    (named : List (List ℕ)) (piece : MCtor) : Type 0 where
  pub gives : (v u : MValue) → part_at c.place v ≡ Some u → V c.type c.sure u → builds named piece u ≡ true →
      IsHeld V (part_columns cx c piece) v
  pub places : (v u : MValue) (p : List ℕ) → part_at c.place v ≡ Some u → V c.type c.sure u →
      builds named piece u ≡ true → position_at c.place v ≡ Some p →
      (ks : List ℕ) × Ordered (λ (i j : ℕ). ¬ (i ≡ j)) ks × ArePositions v (part_columns cx c piece)
      (map (inside p) ks)
  pub makes : (us : List MValue) → AreValues V (part_columns cx c piece) us →
      (u : MValue) × V c.type c.sure u × (builds named piece u ≡ true)
      × ((v : MValue) → part_at c.place v ≡ Some u → ArePartsAt v (part_columns cx c piece) us)
  pub lives : HaveValues V (part_columns cx c piece)
