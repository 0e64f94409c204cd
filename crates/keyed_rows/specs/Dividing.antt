-- What a step does to the or-patterns of a head: a replacement decides the first of them, and its heads have the others.
use Rattle.std.specs.Prelude.{◌≡◌, ◌<◌, ◌≤◌, ⊤, ℕ, zero, suc, ◌+◌, true, List, [], ◌∷◌, map, length, Some, None}
use Rattle.match_model.specs.Constructors.{MCtor, has_piece}
use Rattle.match_model.specs.ArenaPatterns.{MDePat, de_pat, de_pats_list}
use Rattle.match_model.specs.Rows.{Head, heads_of}
use Rattle.match_model.specs.Lists.{Every, Ordered}
use Rattle.match_model.specs.Keys.{Decision, Key, key_of, IsBefore}
use Rattle.match_model.specs.Numbering.{or_count, IsNumbered}
use Rattle.match_model.specs.Steps.{Replacement}

-- the key decides no or-pattern below `low`, and none from `high` on
pub record IsWithin (low high : ℕ) (f : Key) : Type 0 where
  pub below : (o : ℕ) → o < low → f o ≡ None
  pub above : (o : ℕ) → high ≤ o → f o ≡ None

-- the or-patterns of a head
abbrev pub head_count : {T : Type 0} → Head T → ℕ
head_count None = 0
head_count (Some p) = or_count p

-- a head's or-patterns are numbered from `n`
abbrev pub IsHeadNumbered : {T : Type 0} → (decides : ℕ → Decision) → ℕ → Head T → Type 0
IsHeadNumbered decides n None = ⊤
IsHeadNumbered decides n (Some p) = IsNumbered decides n p

-- the heads' or-patterns have ascending numbers from `low` on, and below `high`
abbrev pub HeadsWithin : {T : Type 0} → (decides : ℕ → Decision) → (low high : ℕ) → List (Head T) → Type 0
HeadsWithin decides low high [] = low ≤ high
HeadsWithin decides low high (h ∷ hs) = (n : ℕ) × (low ≤ n) × IsHeadNumbered decides n h
    × HeadsWithin decides (head_count h + n) high hs

-- the key decides none of these
abbrev pub IsOpen : Key → (low high : ℕ) → Type 0
IsOpen k low high = (o : ℕ) → low ≤ o → o < high → k o ≡ None

-- the heads' or-patterns have ascending numbers from `low` on, and none of them is decided
abbrev pub AreFree : {T : Type 0} → (decides : ℕ → Decision) → Key → (low : ℕ) → List (Head T) → Type 0
AreFree decides k low [] = ⊤
AreFree decides k low (h ∷ hs) = (n : ℕ) × (low ≤ n) × IsHeadNumbered decides n h × IsOpen k n (head_count h + n)
    × AreFree decides k (head_count h + n) hs

-- the head's or-patterns have numbers above `d`
abbrev pub IsAbove : {T : Type 0} → (decides : ℕ → Decision) → ℕ → Head T → Type 0
IsAbove decides d h = (n : ℕ) × (d < n) × IsHeadNumbered decides n h

-- what a replacement decided
abbrev pub replacement_key : {T : Type 0} → (decides : ℕ → Decision) → Replacement T → Key
replacement_key decides y = key_of (map decides y.chosen)

-- a replacement of a head whose numbers are from `low` to `high`: it decided the first of them, and its heads have the others
pub record IsReplacement {T : Type 0} (decides : ℕ → Decision) (low high width : ℕ) (y : Replacement T) : Type 0 where
  pub middle : ℕ
  pub from : low ≤ middle
  pub decided : IsWithin low middle (replacement_key decides y)
  pub left : HeadsWithin decides middle high y.heads
  pub wide : length y.heads ≡ width

-- two replacements of a head: the first or-pattern that they decided differently, all others that are left come later
pub record AreReplacements {T : Type 0} (decides : ℕ → Decision) (y z : Replacement T) : Type 0 where
  pub before : IsBefore (replacement_key decides y) (replacement_key decides z)
  pub first_above : Every (IsAbove decides before.at) y.heads
  pub second_above : Every (IsAbove decides before.at) z.heads

-- what a step does with a head
pub record IsDivided {T : Type 0} (decides : ℕ → Decision) (low high width : ℕ)
    (ys : List (Replacement T)) : Type 0 where
  pub each : Every (IsReplacement decides low high width) ys
  pub parted : Ordered (AreReplacements decides) ys

-- the step does so with each good head
abbrev pub Divides : {T : Type 0} → (decides : ℕ → Decision) → (Good : Head T → Type 0) → (width : ℕ) →
    (Head T → List (Replacement T)) → Type 0
Divides {T} decides Good width f = (h : Head T) (n : ℕ) → Good h → IsHeadNumbered decides n h →
    IsDivided decides n (head_count h + n) width (f h)

-- the head of column `i` is good
abbrev pub GoodAt : {T : Type 0} → (Head T → Type 0) → ℕ → List (Head T) → Type 0
GoodAt Good i [] = ⊤
GoodAt Good zero (h ∷ hs) = Good h
GoodAt Good (suc i) (h ∷ hs) = GoodAt Good i hs

-- a head that has the piece has as many parts
abbrev pub HasCount : {T : Type 0} → (piece : MCtor) → ℕ → Head T → Type 0
HasCount piece m None = ⊤
HasCount {T} piece m (Some (de_pat c t uid at subs binds)) = has_piece c piece ≡ true →
    length (heads_of c (map {A = MDePat T} {B = Head T} Some (de_pats_list subs)) m) ≡ m
