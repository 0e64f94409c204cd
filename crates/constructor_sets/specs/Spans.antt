-- Which pieces a head has: those between the pieces that lie before them and the pieces behind.
use Rattle.std.specs.Prelude.{◌≡◌, ℕ, ◌-◌, ◌≤◌, ◌<◌, Bool, true, false, not, ◌&&◌, ◌||◌, List, [], ◌∷◌, length, slice_index_or, nat_lt, nat_le, ⊤, IsTrue}
use Rattle.std.specs.Ordering.{is_lt}
use Rattle.std.specs.List.{All}
use Rattle.std.specs.List.Sorted.{IsPartitionPoint}
use Rattle.match_model.specs.Texts.{compare_texts}
use Rattle.match_model.specs.Constructors.{MShape, MCtor, LaterCtor, OtherTextCtor, VariantCtor, FlagCtor, NumbersCtor, TextCtor, RowCtor, least_length, low_within, high_within, has_piece}
use Rattle.pat_context.specs.Views.{plain_ctor}
use Rattle.pat_context.specs.declared.ctor.Ctor.{Ctor}
use Rattle.constructor_sets.specs.declared.piece.Span.{Span}

-- one shape has a shorter row than the other
abbrev pub shape_starts_before : MShape → MShape → Bool
shape_starts_before s t = nat_lt (least_length s) (least_length t)

-- the piece begins before all that the head has, in the order of constructors
abbrev pub starts_before : (piece head : MCtor) → Bool
starts_before (VariantCtor j) (VariantCtor k) = nat_lt j k
starts_before (FlagCtor b) (FlagCtor c) = not b && c
starts_before (NumbersCtor r) (NumbersCtor s) = not (low_within s.low r.low)
starts_before (TextCtor t) (TextCtor u) = is_lt (compare_texts t u)
starts_before (RowCtor s) (RowCtor t) = shape_starts_before s t
starts_before _ _ = false

-- the piece begins before all that the head has, or the head has it
abbrev pub is_up_to_head : (head piece : MCtor) → Bool
is_up_to_head head piece = starts_before piece head || has_piece head piece

-- one piece of a set stands before another in the order of constructors
abbrev pub Precedes : MCtor → MCtor → Type 0
Precedes (VariantCtor j) (VariantCtor k) = j < k
Precedes (VariantCtor j) LaterCtor = ⊤
Precedes (FlagCtor b) (FlagCtor c) = IsTrue (not b && c)
Precedes (NumbersCtor r) (NumbersCtor s) = (low_within s.low r.low ≡ false) × (high_within r.high s.high ≡ false)
Precedes (TextCtor t) (TextCtor u) = IsTrue (is_lt (compare_texts t u))
Precedes (TextCtor t) OtherTextCtor = ⊤
Precedes (RowCtor s) (RowCtor t) = least_length s < least_length t
Precedes _ _ = ⊥

-- the numbers of a span
abbrev pub plain_span : Span → ℕ × ℕ
plain_span s = (s.first, s.end)

-- of the pieces the head has those from the first number to before the second
pub record IsSpan (pieces : List MCtor) (head : MCtor) (span : ℕ × ℕ) : Type 0 where
  pub forward : span.0 ≤ span.1
  pub within : span.1 ≤ length pieces
  pub each : (i : ℕ) (d : MCtor) → i < length pieces → has_piece head (slice_index_or pieces i d) ≡ (nat_le span.0 i && nat_lt i span.1)

-- a span for each head
abbrev pub AreSpans : (pieces heads : List MCtor) → List (ℕ × ℕ) → Type 0
AreSpans pieces [] [] = ⊤
AreSpans pieces (h ∷ heads) (s ∷ spans) = IsSpan pieces h s × AreSpans pieces heads spans
AreSpans pieces _ _ = ⊥

-- each span that does not end before it begins is that of the head at its place
abbrev pub AreKnownSpans : (pieces : List MCtor) (heads : List Ctor) (spans : List Span) → Type 0
AreKnownSpans pieces heads spans = (i : ℕ) (h : Ctor) (s : Span) → i < length spans → (slice_index_or spans i s).first ≤ (slice_index_or spans i s).end →
    IsSpan pieces (plain_ctor (slice_index_or heads i h)) (plain_span (slice_index_or spans i s))

-- each head has each of the pieces
abbrev pub AreHadByAll : (pieces heads : List MCtor) → Type 0
AreHadByAll pieces heads = All (λ p. All (λ h. IsTrue (has_piece h p)) heads) pieces

-- the test holds of the piece just below the place, if there is one
abbrev pub HoldsBelow : (p : Ctor → Bool) → (pieces : List Ctor) → (place : ℕ) → Type 0
HoldsBelow p pieces place = 0 < place → (d : Ctor) → p (slice_index_or pieces (place - 1) d) ≡ true

-- the test fails of the piece at the place, if there is one
abbrev pub FailsAt : (p : Ctor → Bool) → (pieces : List Ctor) → (place : ℕ) → Type 0
FailsAt p pieces place = place < length pieces → (d : Ctor) → p (slice_index_or pieces place d) ≡ false

-- so many of the pieces begin before all that the head has
pub record IsFirst (head : MCtor) (pieces : List Ctor) (count : ℕ) : Type 0 where
  pub bound : count ≤ length pieces
  pub point : IsPartitionPoint (λ (x : Ctor). starts_before (plain_ctor x) head ≡ true) (λ x. starts_before (plain_ctor x) head ≡ false) pieces count

-- so many of the pieces begin before all that the head has, or the head has them
pub record IsEnd (head : MCtor) (pieces : List Ctor) (count : ℕ) : Type 0 where
  pub bound : count ≤ length pieces
  pub point : IsPartitionPoint (λ (x : Ctor). is_up_to_head head (plain_ctor x) ≡ true) (λ x. is_up_to_head head (plain_ctor x) ≡ false) pieces count
