-- Which leaves have a piece, and how many parts they write.
use Rattle.std.proofs.Common.{◌≡◌, ◌<◌, ◌≤◌, ℕ, zero, suc, ◌+◌, Bool, true, false, List, [], ◌∷◌, ◌++◌, map, length, filter, cond, Option, Some, None, slice_get, get_or, refl, sym, ap, subst, ◌∙◌, arith, IsTrue}
use Rattle.std.specs.List.{All}
use Rattle.std.specs.Option.{option_to_list}
use Rattle.std.proofs.lemmas.List.Elements.{All-cons, All-nil, All-head, All-tail, All-filter}
use Rattle.std.proofs.lemmas.Option.{get_or_from_slice_get, slice_get_within}
use Rattle.match_model.specs.Values.{MValue}
use Rattle.match_model.specs.Constructors.{MCtor, WildCtor, belongs}
use Rattle.match_model.specs.Contexts.{Context, Open}
use Rattle.match_model.specs.ContextLaws.{PartsLaw}
use Rattle.match_model.specs.ArenaPatterns.{de_pat}
use Rattle.match_model.specs.Rows.{Head, wildcards}
use Rattle.match_model.specs.Matrices.{specialised_rows}
use Rattle.match_model.specs.WellTyped.{IsHeadTyped}
use Rattle.pattern_matrix.specs.HeadRows.{cols, AllTyped, all_heads}
use Rattle.pattern_matrix.proofs.SpecialTyped.{head_fitted}
use Rattle.pattern_matrix.specs.Halving.{span_has, leaves_with, IsLeafSpan, AreLeafSpans}
use Rattle.pattern_matrix.specs.Sparse.{SparseRow, SparseLeaf, bare_head, bare_row, row_views, leaf_row, leaf_views, leaves_listed, leaf_parts, head_has, columns_from, IsLeafOf, AreParts}
use Rattle.pattern_matrix.proofs.Having.{listed-with, kept_rows}
use Rattle.witness_search.specs.Cuts.{IsNext}
use Rattle.witness_search.specs.Found.{HasAt, ArePieceLeaves}
use Rattle.witness_search.specs.Wells.{leaf_heads}

got_some : {X : Type 0} (xs : List X) (i : ℕ) → i < length xs → (x : X) × (slice_get xs i ≡ Some x)
got_some [] i h = absurd (omega (arith, h))
got_some (x ∷ xs) zero h = (x, refl)
got_some (x ∷ xs) (suc i) h = got_some xs i (omega (arith, h))

at_get : {X : Type 0} (P : X → Type 0) (xs : List X) (i : ℕ) (x : X) → All P xs → slice_get xs i ≡ Some x → P x
at_get P [] i x h e = cc
at_get P (y ∷ ys) zero x h e = let same : y ≡ x = cc in subst P same (All-head P y ys h)
at_get P (y ∷ ys) (suc i) x h e = at_get P ys i x (All-tail P y ys h) e

filter_holds : {X : Type 0} (p : X → Bool) (P : X → Type 0) → ((x : X) → p x ≡ true → P x) → (xs : List X) → All P (filter p xs)
filter_holds p P f [] = All-nil P
filter_holds {X = X} p P f (x ∷ xs) = go (p x) refl (filter_holds p P f xs)
  where
    go : (b : Bool) → p x ≡ b → All P (filter p xs) → All P (cond b (x ∷ filter p xs) (filter p xs))
    go true e a = All-cons P x (filter p xs) (f x e) a
    go false e a = a

-- ---- the heads of leaves are typed

pub leaves_typed : {T : Type 0} (cx : Context T) (o : Open T) (places : List (Open T)) (numbers : List ℕ) (rows : List (SparseRow T)) (leaves : List (SparseLeaf T)) →
    All (λ l. l.row < length rows) leaves → AllTyped cx (cols (o ∷ places)) (leaf_heads numbers rows leaves) →
    All (λ l. IsHeadTyped cx o.type (bare_head l.head)) leaves
leaves_typed cx o places numbers rows [] w t = All-nil (λ l. IsHeadTyped cx o.type (bare_head l.head))
leaves_typed cx o places numbers rows (l ∷ leaves) w t =
    let some = got_some rows l.row (All-head (λ x. x.row < length rows) l leaves w) in
    let here = subst (λ (x : Option (SparseRow _)). AllTyped cx (cols (o ∷ places)) (all_heads (map (leaf_row numbers l) (option_to_list x) ++ leaf_views numbers rows leaves))) some.1 t in
    All-cons (λ x. IsHeadTyped cx o.type (bare_head x.head)) l leaves here.0.0
    (leaves_typed cx o places numbers rows leaves (All-tail (λ x. x.row < length rows) l leaves w) here.1)

wild_length : (T : Type 0) (n : ℕ) → length {A = Head T} (wildcards n) ≡ n
wild_length T zero = refl
wild_length T (suc n) = ap suc (wild_length T n)

module _ {T : Type 0} (IsType : T → Type 0) (IsValue : T → Bool → MValue → Type 0) (cx : Context T) (law : PartsLaw IsType IsValue cx) (t : T) (piece : MCtor) (ty : IsType t) (is : IsTrue (belongs (cx.set_of t) piece)) where
  -- a typed head that has the piece writes as many parts as the piece has
  head_fits : (h : Head T) → IsHeadTyped cx t (bare_head h) → head_has piece h ≡ true → length (leaf_parts (cx.arity piece t) h) ≡ cx.arity piece t
  head_fits None k e = wild_length T (cx.arity piece t)
  head_fits (Some (de_pat WildCtor u uid at subs binds)) k e = wild_length T (cx.arity piece t)
  head_fits (Some (de_pat c u uid at subs binds)) k e = (head_fitted IsType IsValue cx law t c piece u uid at subs binds ty is k e).0

  pub parts_fit : (leaves : List (SparseLeaf T)) (numbers : List ℕ) → All (λ l. IsHeadTyped cx t (bare_head l.head)) leaves → All (HasAt piece leaves) numbers →
      All (AreParts (cx.arity piece t) leaves) numbers
  parts_fit leaves numbers k h = λ i d lt. λ l e. head_fits l.head (at_get (λ x. IsHeadTyped cx t (bare_head x.head)) leaves (get_or numbers i d) l k e) (h i d lt l e)

  having_fit : (leaves : List (SparseLeaf T)) → All (λ l. IsHeadTyped cx t (bare_head l.head)) leaves →
      All (IsLeafOf piece (cx.arity piece t)) (filter (λ l. head_has piece l.head) leaves)
  having_fit [] k = All-nil (IsLeafOf piece (cx.arity piece t))
  having_fit (l ∷ leaves) k = go (head_has piece l.head) refl (having_fit leaves (All-tail (λ x. IsHeadTyped cx t (bare_head x.head)) l leaves k))
    where
      go : (b : Bool) → head_has piece l.head ≡ b → All (IsLeafOf piece (cx.arity piece t)) (filter (λ x. head_has piece x.head) leaves) →
          All (IsLeafOf piece (cx.arity piece t)) (cond b (l ∷ filter (λ x. head_has piece x.head) leaves) (filter (λ x. head_has piece x.head) leaves))
      go true e a =
          All-cons (IsLeafOf piece (cx.arity piece t)) l (filter (λ x. head_has piece x.head) leaves)
          (record { has = e; parts = head_fits l.head (All-head (λ x. IsHeadTyped cx t (bare_head x.head)) l leaves k) e }) a
      go false e a = a

  pub listed_fit : (leaves : List (SparseLeaf T)) (numbers : List ℕ) → All (λ l. IsHeadTyped cx t (bare_head l.head)) leaves → ArePieceLeaves piece leaves numbers →
      All (IsLeafOf piece (cx.arity piece t)) (leaves_listed leaves numbers)
  listed_fit leaves numbers k a = subst (All (IsLeafOf piece (cx.arity piece t))) (sym a.listed) (having_fit leaves k)

-- ---- the leaves of a piece

spans_length : {T : Type 0} (pieces : List MCtor) (leaves : List (SparseLeaf T)) (spans : List (ℕ × ℕ)) → AreLeafSpans pieces leaves spans → length leaves ≡ length spans
spans_length pieces [] [] a = refl
spans_length pieces [] (s ∷ spans) a = absurd a
spans_length pieces (l ∷ leaves) [] a = absurd a
spans_length pieces (l ∷ leaves) (s ∷ spans) a = let e = spans_length pieces leaves spans a.1 in omega (arith, e)

span_at : {T : Type 0} (pieces : List MCtor) (leaves : List (SparseLeaf T)) (spans : List (ℕ × ℕ)) → AreLeafSpans pieces leaves spans → (j : ℕ) (l : SparseLeaf T) →
    slice_get leaves j ≡ Some l → (s : ℕ × ℕ) × (slice_get spans j ≡ Some s) × IsLeafSpan pieces l s
span_at pieces [] spans a j l e = cc
span_at pieces (x ∷ leaves) [] a j l e = absurd a
span_at pieces (x ∷ leaves) (s ∷ spans) a zero l e = let same : x ≡ l = cc in (s, refl, subst (λ (y : SparseLeaf _). IsLeafSpan pieces y s) same a.0)
span_at pieces (x ∷ leaves) (s ∷ spans) a (suc j) l e = span_at pieces leaves spans a.1 j l e

numbers_below : (first n m : ℕ) → first + n ≤ m → All (λ d. d < m) (columns_from first n)
numbers_below first zero m l = All-nil (λ d. d < m)
numbers_below first (suc n) m l = All-cons (λ d. d < m) first (columns_from (suc first) n) (omega (arith, l)) (numbers_below (suc first) n m (omega (arith, l)))

pub piece_leaves : {T : Type 0} (ctors : List MCtor) (leaves : List (SparseLeaf T)) (spans : List (ℕ × ℕ)) (k : ℕ) (c : MCtor) → AreLeafSpans ctors leaves spans →
    slice_get ctors k ≡ Some c → ArePieceLeaves c leaves (leaves_with spans k)
piece_leaves {T = T} ctors leaves spans k c a e =
    let within : k < length ctors = slice_get_within ctors k c e in
    let is = get_or_from_slice_get ctors k c c e in
    record {
      within = All-filter (λ j. span_has k (slice_get spans j)) (λ j. j < length leaves) (columns_from 0 (length spans))
          (numbers_below 0 (length spans) (length leaves) (let s = spans_length ctors leaves spans a in omega (arith, s)));
      listed = listed-with ctors k c leaves spans within a ∙ ap (λ x. filter (λ l. head_has x l.head) leaves) is;
      each = filter_holds (λ j. span_has k (slice_get spans j)) (HasAt c leaves)
          (λ j h. λ l got.
          let s = span_at ctors leaves spans a j l got in
          ap (λ x. head_has x l.head) (sym is) ∙ s.2.each k c within ∙ (ap (span_has k) (sym s.1) ∙ h))
          (columns_from 0 (length spans));
    }

pub next_leaves : {T : Type 0} (ctors : List MCtor) (leaves : List (SparseLeaf T)) (spans : List (ℕ × ℕ)) (numbers left : List ℕ) (k : ℕ) (c : MCtor) → AreLeafSpans ctors leaves spans →
    IsNext ctors numbers c → numbers ≡ k ∷ left → ArePieceLeaves c leaves (leaves_with spans k)
next_leaves ctors leaves spans numbers left k c a (j, rest, e, got) f =
    let same : j ≡ k = cc in
    piece_leaves ctors leaves spans k c a (subst (λ i. slice_get ctors i ≡ Some c) same got)

-- the rows of the leaves that have a piece are all rows of the piece
pub rows_of_piece : {T : Type 0} (piece : MCtor) (n : ℕ) (numbers all : List ℕ) (rows new : List (SparseRow T)) (leaves : List (SparseLeaf T)) (found : List ℕ) → ArePieceLeaves piece leaves found →
    row_views all new ≡ map bare_row (specialised_rows [] piece n (leaf_views numbers rows (leaves_listed leaves found))) →
    row_views all new ≡ map bare_row (specialised_rows [] piece n (leaf_views numbers rows leaves))
rows_of_piece piece n numbers all rows new leaves found a e =
    e ∙ ap (λ ls. map bare_row (specialised_rows [] piece n (leaf_views numbers rows ls))) a.listed ∙ ap (map bare_row) (kept_rows [] piece n numbers rows leaves)
