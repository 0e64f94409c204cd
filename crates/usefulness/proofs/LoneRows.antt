-- Pieces of which one leaf alone matters, since its row stops all values there.
use Rattle.std.proofs.Common.{◌≡◌, inl, inr, ◌≤◌, ◌<◌, ℕ, zero, suc, ◌+◌, ◌-◌, Bool, true, false, not, ◌&&◌, ◌||◌, nat_eq, nat_le, nat_lt, List, [], ◌∷◌, ◌++◌, map, filter, cond, length, take, drop, get_or, Some, refl, ap, sym, subst, ◌∙◌, arith, slice_get, append-nil}
use Rattle.std.proofs.lemmas.Bool.Decides.{nat_tests, eqb_tells}
use Rattle.std.proofs.lemmas.List.{map-append, take_more, take-append-drop}
use Rattle.std.proofs.lemmas.List.Elements.{filter-append}
use Rattle.std.proofs.lemmas.List.Folds.{list_any-append}
use Rattle.std.proofs.lemmas.Option.{slice_get-get_or}
use Rattle.std.specs.List.{list_any}
use Rattle.match_model.specs.Values.{MValue}
use Rattle.match_model.specs.Constructors.{MCtor}
use Rattle.match_model.specs.Contexts.{Context}
use Rattle.match_model.proofs.Basics.{both, untrue}
use Rattle.constructor_sets.specs.declared.piece.Span.{Span}
use Rattle.pattern_matrix.specs.Sparse.{SparseLeaf, columns_from, head_has, leaves_listed}
use Rattle.pattern_matrix.specs.Halving.{span_has, having, leaves_with}
use Rattle.pattern_matrix.specs.Parts.{plain_spans}
use Rattle.pattern_matrix.specs.Counting.{Question}
use Rattle.pattern_matrix.specs.Searching.{Submatrix, StandFor}
use Rattle.pattern_matrix.proofs.Halves.{columns_from-add}
use Rattle.pattern_matrix.proofs.ListedRows as listing
use Rattle.usefulness.specs.declared.frames.Apart.{Apart}
use Rattle.usefulness.specs.declared.marks.Marks.{Marks}
use Rattle.usefulness.specs.Frames.{SparseAsked}
use Rattle.usefulness.specs.Marking.{is_marked, is_answer}
use Rattle.usefulness.specs.Children.{opened_at, opened}
use Rattle.usefulness.specs.Cutting.{is_bare_at, is_wanted_at, is_last_at, entered_rows, AreEnough, IsFirstWith}
use Rattle.usefulness.specs.Listing.{IsListing, IsListedAs, AreAllListed}
use Rattle.usefulness.specs.Scope.{Scope}
use Rattle.usefulness.specs.States.{IsApart, IsEnterable, apart_rows, apart_leaves, other_numbers, piece_view}
use Rattle.usefulness.proofs.Cuts.{one, at, step_last, cut_begins, one_bare}
use Rattle.usefulness.proofs.Dropping.{opened_got}
use Rattle.usefulness.proofs.Left.{none_stays}
use Rattle.usefulness.proofs.Listed.{listing_begins, noted_last}
use Rattle.usefulness.proofs.Looking.{single_listed, none_behind, all_still}

-- ---- the first leaf of a piece

-- numbers of spans that lack the piece
none_having : (ss : List (ℕ × ℕ)) (i first count : ℕ) → ((j : ℕ) → first ≤ j → j < first + count → span_has i (slice_get ss j) ≡ false) → having ss i (columns_from first count) ≡ []
none_having ss i first zero f = refl
none_having ss i first (suc count) f =
    ap (λ b. cond b (first ∷ having ss i (columns_from (suc first) count)) (having ss i (columns_from (suc first) count))) (f first (omega arith) (omega arith))
    ∙ none_having ss i (suc first) count (λ j l h. f j (omega (arith, l)) (omega (arith, h)))

-- of the spans up to one that lacks the piece none has it
pub one_lacking : (ss : List (ℕ × ℕ)) (piece i : ℕ) (s : ℕ × ℕ) → slice_get ss i ≡ Some s → span_has piece (Some s) ≡ false →
    ((j : ℕ) → j < i → span_has piece (slice_get ss j) ≡ false) → (j : ℕ) → j < i + 1 → span_has piece (slice_get ss j) ≡ false
one_lacking ss piece i s at lacks f j h =
    elim (eqb_tells j i) [
      | inl (e, same) ↦ ap (λ n. span_has piece (slice_get ss n)) same ∙ ap (span_has piece) at ∙ lacks
      | inr (e, other) ↦ f j (omega (arith, h, other))
    ]

-- what has the piece stands from the first one on
from_first : (ss : List (ℕ × ℕ)) (i k : ℕ) → IsFirstWith ss i k → k < length ss → leaves_with ss i ≡ having ss i (k ∷ columns_from (suc k) (length ss - suc k))
from_first ss i k f l =
    let rest = length ss - suc k in
    let cut : length ss ≡ k + suc rest = omega (arith, l) in
    let same : 0 + k ≡ k = omega arith in
    ap (λ n. having ss i (columns_from 0 n)) cut
    ∙ ap (having ss i) (columns_from-add 0 k (suc rest))
    ∙ filter-append (λ j. span_has i (slice_get ss j)) (columns_from 0 k) (columns_from (0 + k) (suc rest))
    ∙ ap (λ ys. ys ++ having ss i (columns_from (0 + k) (suc rest))) (none_having ss i 0 k (λ j low h. f.before j (omega (arith, h))))
    ∙ ap (λ n. having ss i (columns_from n (suc rest))) same

-- a span that has the piece
meets_one : (i a b : ℕ) → (nat_le a i && nat_lt i b) ≡ true → (nat_lt a (i + 1) && nat_lt i b) ≡ true
meets_one i a b e = grind (arith, nat_tests)

covers_one : (i a b : ℕ) → (nat_le a i && nat_lt i b) ≡ true → (nat_le a i && nat_le (i + 1) b) ≡ true
covers_one i a b e = grind (arith, nat_tests)

-- of the leaves of the piece the first one is enough, where its row stops all values
module _ {T : Type 0} (missing : Bool) (a : Apart T) (spans : List Span) (piece k : ℕ) (l : SparseLeaf T) (x : SparseAsked T) (s : ℕ × ℕ)
    (leaf : slice_get (apart_leaves a) k ≡ Some l) (row : slice_get (apart_rows a) l.row ≡ Some x) (span : slice_get (plain_spans spans) k ≡ Some s) where
  pub lone_enough : (marks : Marks) → IsFirstWith (plain_spans spans) piece k → k < length spans → k < length (plain_spans spans) → is_last_at a.taken.number x l ≡ true →
      AreEnough (is_marked marks) missing a (leaves_listed (apart_leaves a) (leaves_with (plain_spans spans) piece)) (l ∷ [])
  lone_enough marks f within below last = λ count.
      let ss = plain_spans spans in
      let rest = columns_from (suc k) (length ss - suc k) in
      let has : span_has piece (Some s) ≡ true = ap (span_has piece) (sym span) ∙ f.has in
      let cut = step_last missing a spans k l x s leaf row span marks piece (piece + 1) [] [] (cut_begins missing a spans (is_marked marks) piece (piece + 1)) rest within (meets_one piece s.0 s.1 has) (covers_one piece s.0 s.1 has) last in
      let n = length (columns_from a.next count ++ other_numbers a) in
      let alone : having ss piece (k ∷ []) ≡ k ∷ [] = ap (λ b. cond b (k ∷ []) []) f.has in
      let listed : leaves_listed (apart_leaves a) (having ss piece (k ∷ [])) ≡ l ∷ [] = ap (leaves_listed (apart_leaves a)) alone ∙ rw leaf refl in
      subst (λ ls. StandFor (is_marked marks) n (entered_rows missing a count (leaves_listed (apart_leaves a) ls)) (entered_rows missing a count (l ∷ []))) (sym (from_first ss piece k f below))
      (subst (λ ls. StandFor (is_marked marks) n (at missing a spans piece count (k ∷ rest)) (entered_rows missing a count ls)) listed
      (listing.listed_all (is_marked marks) n (at missing a spans piece count (k ∷ rest)) (at missing a spans piece count (k ∷ [])) (cut.enough piece (omega arith) (omega arith) count)))

-- ---- what is marked of it

-- the leaf's row was marked, so nothing is left of the piece
pub lone_listed : {T : Type 0} (IsValue : T → Bool → MValue → Type 0) (scope : Scope T) (a : Apart T) → IsApart scope a → (old now : Question → Bool) (cx : Context T) (piece : MCtor) (missing : Bool) → IsEnterable IsValue cx a piece →
    (l : SparseLeaf T) (x : SparseAsked T) → slice_get (apart_rows a) l.row ≡ Some x → is_last_at a.taken.number x l ≡ true → AreEnough old missing a (filter (λ h. head_has piece h.head) (apart_leaves a)) (l ∷ []) →
    ((q : Question) → now q ≡ (old q || (is_wanted_at missing x l && is_answer x.row.arm (x.row.chosen ++ l.chosen) q))) → IsListedAs IsValue old now (piece_view cx a missing piece) []
lone_listed IsValue scope a apart old now cx piece missing enter l x row last enough marks =
    let count = cx.arity piece a.taken.column.ty in
    let cols = columns_from a.next count ++ other_numbers a in
    let y = one missing a count l x in
    let k = both (not x.row.guarded) (is_bare_at a.taken.number x.row l) last in
    let through : opened missing a.taken.number a.next count (apart_rows a) (l ∷ []) ≡ [] ++ y ∷ [] =
    append-nil (opened_at missing a.taken.number a.next count (apart_rows a) l) ∙ opened_got missing a.taken.number a.next count (apart_rows a) l x row in
    none_stays IsValue scope a apart old now [] true 0 cx piece missing enter (l ∷ []) refl refl (enough count)
    (subst (λ ys. IsListing old now cols ys [] true) (sym through)
    (noted_last old old now cols [] y (listing_begins old cols) (one_bare missing a count l x k.1) marks (off x.row.guarded k.0)))
  where
    off : (b : Bool) → not b ≡ true → b ≡ false
    off true e = untrue e
    off false e = refl

-- ---- all pieces

module _ {T : Type 0} (IsValue : T → Bool → MValue → Type 0) (old : Question → Bool) (view : MCtor → Submatrix T) (ctors : List MCtor) where
  -- nothing is left of the next piece either
  pub next_gone : (now then : Question → Bool) (i : ℕ) → i < length ctors → ((piece : MCtor) → slice_get ctors i ≡ Some piece → IsListedAs IsValue now then (view piece) []) →
      AreAllListed IsValue old now (map view (take i ctors)) [] → AreAllListed IsValue old then (map view (take (i + 1) ctors)) []
  next_gone now then i h f l =
      let c = get_or ctors i (got ctors i h) in
      let at = slice_get-get_or ctors i (got ctors i h) h in
      subst (λ ss. AreAllListed IsValue old then ss [])
      (sym (ap (map view) (take_more ctors i (got ctors i h) h) ∙ map-append view (take i ctors) (c ∷ [])))
      (none_behind IsValue old now then (map view (take i ctors)) (view c ∷ []) l (single_listed IsValue now then (view c) [] (f c at)))
    where
      got : {A : Type 0} (xs : List A) (i : ℕ) → i < length xs → A
      got [] i l = absurd (omega (arith, l))
      got (x ∷ xs) i l = x

  -- marks of some pieces change nothing of all
  pub all_left : (now : Question → Bool) (i : ℕ) → AreAllListed IsValue old now (map view (take i ctors)) [] → AreAllListed IsValue old now (map view ctors) (map view ctors)
  all_left now i l =
      let whole = sym (map-append view (take i ctors) (drop i ctors)) ∙ ap (map view) (take-append-drop i ctors) in
      subst (λ ss. AreAllListed IsValue old now ss ss) whole (all_still IsValue old now (map view (take i ctors)) (map view (drop i ctors)) l)
