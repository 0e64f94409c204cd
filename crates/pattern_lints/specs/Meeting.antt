-- Values that two patterns match, and the patterns that two patterns have for the parts of a value.
use denote.Bor.{Bor}
use Rattle.std.specs.Prelude.{◌≡◌, ◌≢◌, ◌⊎◌, ◌<◌, ◌≤◌, ⊤, ℕ, suc, ◌+◌, ◌-◌, Bool, true, List, length, slice_get, cond, nat_lt, Option, Some, None, IsTrue}
use Rattle.match_model.specs.Values.{MValue}
use Rattle.match_model.specs.Constructors.{FixedShape, LongerShape, MCtor, NumbersCtor, WildCtor, OrCtor, RowCtor, has_piece, Elementary, OneLength, elementary_ctor, is_of_set, sure_inside}
use Rattle.match_model.specs.Contexts.{Context}
use Rattle.match_model.specs.ContextLaws.{parts_count}
use Rattle.match_model.specs.ArenaPatterns.{MDePat, de_pat, MDePats, no_de_pats, more_de_pats, ctor_of, subs_of}
use Rattle.match_model.specs.Rows.{Head}
use Rattle.range_split.specs.Ranges.{Meet}
use Rattle.pattern_arena.specs.declared.pattern.DePat.{DePat}
use Rattle.pattern_arena.specs.Trees.{tree}
use Rattle.pattern_lints.specs.Along.{matches}

-- the pattern, where there is one; where there is none, any value matches
abbrev pub plain_head : {T : Type 0} → Option (Bor (DePat T)) → Head T
plain_head None = None
plain_head (Some p) = Some (tree p.now)

-- the pattern matches the value, or there is none
abbrev pub head_matches : {T : Type 0} → Head T → MValue → Bool
head_matches None v = true
head_matches (Some p) v = matches p v

-- the constructor of the pattern, where there is one
abbrev pub head_ctor : {T : Type 0} → Head T → MCtor
head_ctor None = WildCtor
head_ctor (Some p) = ctor_of p

-- the pattern is no wildcard and no or-pattern
abbrev pub IsSharp : MCtor → Type 0
IsSharp WildCtor = ⊥
IsSharp OrCtor = ⊥
IsSharp _ = ⊤

-- a value of the type that both match
pub record Common {T : Type 0} (IsValue : T → Bool → MValue → Type 0) (t : T) (sure : Bool) (h g : Head T) : Type 0 where
  pub value : MValue
  pub is : IsValue t sure value
  pub first : IsTrue (head_matches h value)
  pub second : IsTrue (head_matches g value)

-- of a value with `n` parts, the pattern for the part with the number `k`: behind a rest they count from the back
abbrev pub head_by : {T : Type 0} → MCtor → List (MDePat T) → (n k : ℕ) → Head T
head_by (RowCtor (LongerShape f b)) ps n k =
    cond (nat_lt k f) (slice_get ps k) (cond (nat_lt b (n - k)) None (slice_get ps (f + b - (n - k))))
head_by _ ps n k = slice_get ps k

-- the pattern for the part, where there is one
abbrev pub part_head : {T : Type 0} → Head T → (n k : ℕ) → Head T
part_head None n k = None
part_head (Some p) n k = head_by (ctor_of p) (subs_of p) n k

-- of a value with `n` parts, the number of the part that the pattern with the number `i` stands at
abbrev pub place_of : MCtor → (n i : ℕ) → ℕ
place_of (RowCtor (LongerShape f b)) n i = cond (nat_lt i f) i (n - (f + b - i))
place_of _ n i = i

-- how many patterns stand at the front, and how many at the back
abbrev pub front_by : MCtor → (count : ℕ) → ℕ
front_by (RowCtor (LongerShape f b)) count = f
front_by _ count = count

-- how many patterns stand at the back
abbrev pub back_by : MCtor → ℕ
back_by (RowCtor (LongerShape f b)) = b
back_by _ = 0

-- how many patterns stand at the front
abbrev pub head_front : {T : Type 0} → Head T → ℕ
head_front None = 0
head_front (Some p) = front_by (ctor_of p) (length (subs_of p))

-- how many patterns stand at the back
abbrev pub head_back : {T : Type 0} → Head T → ℕ
head_back None = 0
head_back (Some p) = back_by (ctor_of p)

-- so many patterns stand in a value with `n` parts
abbrev pub Fits : MCtor → (count n : ℕ) → Type 0
Fits (RowCtor (LongerShape f b)) count n = (count ≡ f + b) × (f + b ≤ n)
Fits WildCtor count n = count ≡ 0
Fits _ count n = count ≡ n

-- the patterns stand in a value with `n` parts
abbrev pub HeadFits : {T : Type 0} → Head T → (n : ℕ) → Type 0
HeadFits None n = ⊤
HeadFits (Some p) n = Fits (ctor_of p) (length (subs_of p)) n

-- the part has a value that both match there, unless it is left out
abbrev pub PartMeets : {T : Type 0} → (T → Bool → MValue → Type 0) → Context T → T → (sure : Bool) → (piece : MCtor) → (n : ℕ) → (Skip : ℕ → Type 0) → (h g : Head T) → (k : ℕ) → Type 0
PartMeets IsValue cx t sure piece n Skip h g k =
    ¬ Skip k → Common IsValue (cx.sub piece t k) (sure_inside piece sure) (part_head h n k) (part_head g n k)

-- each part that is not left out has a value that both match there
abbrev pub AllMeet : {T : Type 0} → (T → Bool → MValue → Type 0) → Context T → T → (sure : Bool) → (piece : MCtor) → (n : ℕ) → (Skip : ℕ → Type 0) → (h g : Head T) → Type 0
AllMeet IsValue cx t sure piece n Skip h g =
    (k : ℕ) → k < n → PartMeets IsValue cx t sure piece n Skip h g k

-- the parts that one of the two writes are so many at the front and so many at the back
pub record IsWritten {T : Type 0} (h g : Head T) (n front back : ℕ) : Type 0 where
  pub within : front + back ≤ n
  pub first : (k : ℕ) → k < n → front ≤ k → back < n - k → part_head h n k ≡ None
  pub second : (k : ℕ) → k < n → front ≤ k → back < n - k → part_head g n k ≡ None

-- the part is one of the first `i` that are written: those at the front, and behind a gap those at the back
abbrev pub IsDone : (front gap i k : ℕ) → Type 0
IsDone front gap i k = ((k < front) × (k < i)) ⊎ ((front + gap ≤ k) × (k < i + gap))

-- the part that is left out, where one is
abbrev pub Skipped : Option ℕ → ℕ → Type 0
Skipped None k = ⊥
Skipped (Some b) k = k ≡ b

-- the numbers of the patterns below two patterns that are to stand at one part
abbrev pub Spot : Type 0
Spot = Option (ℕ × ℕ)

-- the two stand at one part
abbrev pub Stands : MCtor → MCtor → (n : ℕ) → Spot → Type 0
Stands c d n None = ⊤
Stands c d n (Some s) = place_of c n s.0 ≡ place_of d n s.1

-- the part where they stand
abbrev pub spot_part : MCtor → (n : ℕ) → Spot → Option ℕ
spot_part c n None = None
spot_part c n (Some s) = Some (place_of c n s.0)

-- a pattern stands at the part that is left out, where one is
abbrev pub IsPatternAt : {T : Type 0} → Head T → (n : ℕ) → Option ℕ → Type 0
IsPatternAt h n None = ⊤
IsPatternAt h n (Some b) = part_head h n b ≢ None

-- the elementary constructor is one of the type's, both patterns have it, and it has so many parts
pub record IsPiece {T : Type 0} (cx : Context T) (t : T) (c : MCtor) (n : ℕ) (h g : Head T) : Type 0 where
  pub by : Elementary
  pub is : c ≡ elementary_ctor by
  pub of_set : IsTrue (is_of_set (cx.set_of t) by)
  pub count : n ≡ parts_count cx t by
  pub first : has_piece (head_ctor h) c ≡ true
  pub second : has_piece (head_ctor g) c ≡ true

-- some elementary constructor of the type is had by both, with the two patterns at one part, and each other part has a value
-- that both match there
pub record PiecesMeet {T : Type 0} (IsValue : T → Bool → MValue → Type 0) (cx : Context T) (t : T) (sure : Bool) (h g : Head T) (spot : Spot) : Type 0 where
  pub piece : MCtor
  pub count : ℕ
  pub had : IsPiece cx t piece count h g
  pub stand : Stands (head_ctor h) (head_ctor g) count spot
  pub all : AllMeet IsValue cx t sure piece count (Skipped (spot_part (head_ctor h) count spot)) h g

-- of a constructor with so many parts the two patterns stand at one part, and each other part has a value that both match there
pub record PieceMeets {T : Type 0} (IsValue : T → Bool → MValue → Type 0) (cx : Context T) (t : T) (sure : Bool) (piece : MCtor) (n : ℕ) (h g : Head T) (spot : Spot) : Type 0 where
  pub stand : Stands (head_ctor h) (head_ctor g) n spot
  pub all : AllMeet IsValue cx t sure piece n (Skipped (spot_part (head_ctor h) n spot)) h g

-- rows of so many items meet: the type has the length, both patterns have it, the two patterns stand at one item, and each
-- other item has a value that both match there
pub record RowsMeet {T : Type 0} (IsValue : T → Bool → MValue → Type 0) (cx : Context T) (t : T) (sure : Bool) (h g : Head T) (spot : Spot) (n : ℕ) : Type 0 where
  pub allowed : is_of_set (cx.set_of t) (OneLength n) ≡ true
  pub first : has_piece (head_ctor h) (RowCtor (FixedShape n)) ≡ true
  pub second : has_piece (head_ctor g) (RowCtor (FixedShape n)) ≡ true
  pub stand : Stands (head_ctor h) (head_ctor g) n spot
  pub all : AllMeet IsValue cx t sure (RowCtor (FixedShape n)) n (Skipped (spot_part (head_ctor h) n spot)) h g

-- two constructors share an elementary one, as far as they can be told apart without the lengths of rows
abbrev pub IsAlike : MCtor → MCtor → Type 0
IsAlike (NumbersCtor r) (NumbersCtor s) = Meet r s
IsAlike (RowCtor r) (RowCtor s) = ⊤
IsAlike c d = IsTrue (has_piece c d)

-- a pattern that is alike, or none
abbrev pub IsAlikeHead : {T : Type 0} → MCtor → Head T → Type 0
IsAlikeHead c None = ⊤
IsAlikeHead c (Some q) = IsAlike c (ctor_of q)

abbrev mutual
  -- how many patterns there are in a pattern
  pub pattern_size : {T : Type 0} → MDePat T → ℕ
  pattern_size (de_pat c t uid at subs binds) = suc (patterns_size subs)

  -- how many patterns there are in the patterns
  pub patterns_size : {T : Type 0} → MDePats T → ℕ
  patterns_size no_de_pats = 0
  patterns_size (more_de_pats p ps) = pattern_size p + patterns_size ps

-- how many patterns there are, where there is one
abbrev pub head_size : {T : Type 0} → Head T → ℕ
head_size None = 0
head_size (Some p) = pattern_size p
