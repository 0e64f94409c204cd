-- Facts on lists, by recursion on the list (our own choice).
use Rattle.std.specs.Prelude.{◌≡◌, ⊤, ◌⊎◌, List, [], ◌∷◌}

-- each of them has the property
abbrev pub Every : {A : Type 0} → (A → Type 0) → List A → Type 0
Every P [] = ⊤
Every P (x ∷ xs) = P x × Every P xs

-- each stands so to all that come after it
abbrev pub Ordered : {A : Type 0} → (A → A → Type 0) → List A → Type 0
Ordered R [] = ⊤
Ordered R (x ∷ xs) = Every (R x) xs × Ordered R xs

-- it is one of them
abbrev pub Among : {A : Type 0} → A → List A → Type 0
Among x [] = ⊥
Among x (y ∷ ys) = (x ≡ y) ⊎ Among x ys

-- the same things, in any order and number
pub record SameMembers {A : Type 0} (xs ys : List A) : Type 0 where
  pub forth : (x : A) → Among x xs → Among x ys
  pub back : (x : A) → Among x ys → Among x xs

-- as many as the others, and each stands so to the other of its number
abbrev pub Each : {A B : Type 0} → (A → B → Type 0) → List A → List B → Type 0
Each R [] [] = ⊤
Each R [] (y ∷ ys) = ⊥
Each R (x ∷ xs) [] = ⊥
Each R (x ∷ xs) (y ∷ ys) = R x y × Each R xs ys
