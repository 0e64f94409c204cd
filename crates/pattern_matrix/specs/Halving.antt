-- Which leaves have which pieces.
use Rattle.std.specs.Prelude.{◌≡◌, ℕ, ◌≤◌, ◌<◌, Bool, false, ◌&&◌, nat_le, nat_lt, List, [], ◌∷◌, length, filter, Option, Some, None, slice_get, slice_index_or}
use Rattle.std.specs.List.{All, flat_map}
use Rattle.std.specs.Option.{option_to_list}
use Rattle.match_model.specs.Constructors.{MCtor}
use Rattle.match_model.specs.Rows.{first_ctor}
use Rattle.pattern_matrix.specs.Sparse.{SparseLeaf, bare_head, head_has, columns_from}

-- the constructors of the leaves that are no wildcards
abbrev pub leaf_ctors : {T : Type 0} → List (SparseLeaf T) → List MCtor
leaf_ctors leaves = flat_map (λ l. option_to_list (first_ctor (bare_head l.head ∷ []))) leaves

-- of the pieces the leaf has those from the first number to before the second
pub record IsLeafSpan {T : Type 0} (pieces : List MCtor) (l : SparseLeaf T) (span : ℕ × ℕ) : Type 0 where
  pub forward : span.0 ≤ span.1
  pub within : span.1 ≤ length pieces
  pub each : (i : ℕ) (d : MCtor) → i < length pieces → head_has (slice_index_or pieces i d) l.head ≡ (nat_le span.0 i && nat_lt i span.1)

-- a span for each leaf
abbrev pub AreLeafSpans : {T : Type 0} → (pieces : List MCtor) → List (SparseLeaf T) → List (ℕ × ℕ) → Type 0
AreLeafSpans pieces [] [] = Unit {0}
AreLeafSpans pieces (l ∷ leaves) (s ∷ spans) = IsLeafSpan pieces l s × AreLeafSpans pieces leaves spans
AreLeafSpans pieces _ _ = ⊥

-- the span has the piece
abbrev pub span_has : (piece : ℕ) → Option (ℕ × ℕ) → Bool
span_has piece None = false
span_has piece (Some s) = nat_le s.0 piece && nat_lt piece s.1

-- the span has a piece from the first to before the end
abbrev pub span_meets : (first end : ℕ) → Option (ℕ × ℕ) → Bool
span_meets first end None = false
span_meets first end (Some s) = nat_lt s.0 end && nat_lt first s.1

-- of these numbers those whose span has the piece
abbrev pub having : List (ℕ × ℕ) → (piece : ℕ) → (numbers : List ℕ) → List ℕ
having spans piece numbers = filter (λ k. span_has piece (slice_get spans k)) numbers

-- of these numbers those whose span has a piece from the first to before the end
abbrev pub meeting : List (ℕ × ℕ) → (first end : ℕ) → (numbers : List ℕ) → List ℕ
meeting spans first end numbers = filter (λ k. span_meets first end (slice_get spans k)) numbers

-- the numbers of all spans that have the piece, ascending
abbrev pub leaves_with : List (ℕ × ℕ) → (piece : ℕ) → List ℕ
leaves_with spans piece = having spans piece (columns_from 0 (length spans))

-- a range of pieces, with numbers of leaves among which, for each of these pieces, are all that have it, in order
pub record IsPart (spans : List (ℕ × ℕ)) (first end : ℕ) (numbers : List ℕ) : Type 0 where
  pub some : first < end
  pub within : All (λ k. k < length spans) numbers
  pub complete : (i : ℕ) → first ≤ i → i < end → having spans i numbers ≡ leaves_with spans i

-- the number, if its span meets the range
abbrev pub one_meeting : (first end number : ℕ) → ℕ × ℕ → List ℕ
one_meeting first end number s = filter (λ k. span_meets first end (Some s)) (number ∷ [])
