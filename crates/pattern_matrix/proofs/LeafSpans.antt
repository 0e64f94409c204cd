-- A span for each leaf, from those of the leaves that are no wildcards.
use Rattle.std.proofs.Common.{◌≡◌, ℕ, suc, ◌+◌, ◌≤◌, ◌<◌, Bool, true, false, ◌&&◌, nat_le, nat_lt, List, [], ◌∷◌, ◌++◌, length, map, take, drop, get_or, Some, None, slice_get, slice_index_or, refl, ap, sym, subst, ◌∙◌, inl, inr, arith}
use Rattle.std.specs.Option.{option_to_list}
use Rattle.std.proofs.lemmas.Bool.{cases_lt}
use Rattle.std.proofs.lemmas.Bool.Decides.{nat_tests}
use Rattle.std.proofs.lemmas.List.{drop_all, drop_more, take_more, map-append}
use Rattle.match_model.specs.Constructors.{MCtor, WildCtor, has_piece}
use Rattle.match_model.specs.ArenaPatterns.{de_pat}
use Rattle.match_model.specs.Rows.{Head as MHead, is_wild, first_ctor}
use Rattle.constructor_sets.specs.declared.piece.Span.{Span}
use Rattle.constructor_sets.specs.Spans.{IsSpan, AreSpans, plain_span}
use Rattle.pattern_matrix.specs.Sparse.{SparseLeaf, bare_head, head_has}
use Rattle.pattern_matrix.specs.Parts.{plain_spans}
use Rattle.pattern_matrix.specs.Halving.{leaf_ctors, IsLeafSpan, AreLeafSpans}
use Rattle.pattern_matrix.proofs.Getting.{drop-got}

-- where a leaf is a wildcard it has no constructor
wild_none : {T : Type 0} (h : MHead T) → is_wild h ≡ true → first_ctor (bare_head h ∷ []) ≡ None
wild_none None e = refl
wild_none (Some p) e = rw e refl

-- else it has one, and has the pieces that this one has
record IsOther {T : Type 0} (h : MHead T) : Type 0 where
  pub ctor : MCtor
  pub is : first_ctor (bare_head h ∷ []) ≡ Some ctor
  pub same : (piece : MCtor) → head_has piece h ≡ has_piece ctor piece

other_some : {T : Type 0} (h : MHead T) → is_wild h ≡ false → IsOther h
other_some None e = cc
other_some (Some (de_pat WildCtor t uid at subs binds)) e = cc
other_some (Some (de_pat c t uid at subs binds)) e = record { ctor = c; is = refl; same = λ piece. refl }

-- a wildcard has all pieces
wild_has : {T : Type 0} (piece : MCtor) (h : MHead T) → is_wild h ≡ true → head_has piece h ≡ true
wild_has piece None e = refl
wild_has piece (Some (de_pat WildCtor t uid at subs binds)) e = refl
wild_has piece (Some (de_pat _ t uid at subs binds)) e = cc

in_all : (i n : ℕ) → i < n → true ≡ (nat_le 0 i && nat_lt i n)
in_all i n h = grind (arith, nat_tests)

wild_span : {T : Type 0} (pieces : List MCtor) (l : SparseLeaf T) → is_wild l.head ≡ true → IsLeafSpan pieces l (0, length pieces)
wild_span pieces l e = record {
  forward = omega arith;
  within = omega arith;
  each = λ i d h. wild_has (slice_index_or pieces i d) l.head e ∙ in_all i (length pieces) h;
}

other_span : {T : Type 0} (pieces : List MCtor) (l : SparseLeaf T) (s : ℕ × ℕ) (o : IsOther l.head) → IsSpan pieces o.ctor s → IsLeafSpan pieces l s
other_span pieces l s o is = record { forward = is.forward; within = is.within; each = λ i d h. o.same (slice_index_or pieces i d) ∙ is.each i d h }

-- one that is no wildcard takes the next span
step_other : {T : Type 0} (pieces : List MCtor) (l : SparseLeaf T) (leaves : List (SparseLeaf T)) (spans : List (ℕ × ℕ)) (used : ℕ) (s : ℕ × ℕ) →
    is_wild l.head ≡ false →
    slice_get spans used ≡ Some s → AreSpans pieces (leaf_ctors (l ∷ leaves)) (drop used spans) → IsLeafSpan pieces l s × AreSpans pieces (leaf_ctors leaves) (drop (used + 1) spans)
step_other pieces l leaves spans used s e got h =
    let o = other_some l.head e in
    let one = subst (λ x. AreSpans pieces (option_to_list x ++ leaf_ctors leaves) (drop used spans)) o.is h in
    let two = subst (λ ss. AreSpans pieces (o.ctor ∷ leaf_ctors leaves) ss) (drop-got spans used s got) one in
    (other_span pieces l s o two.0, two.1)

-- a wildcard takes none
step_wild : {T : Type 0} (pieces : List MCtor) (l : SparseLeaf T) (leaves : List (SparseLeaf T)) (spans : List (ℕ × ℕ)) → is_wild l.head ≡ true →
    AreSpans pieces (leaf_ctors (l ∷ leaves)) spans → AreSpans pieces (leaf_ctors leaves) spans
step_wild pieces l leaves spans e h = subst (λ o. AreSpans pieces (option_to_list o ++ leaf_ctors leaves) spans) (wild_none l.head e) h

-- the span of the next leaf, and those of the leaves behind it
pub spans_step : {T : Type 0} (pieces : List MCtor) (l : SparseLeaf T) (leaves : List (SparseLeaf T)) (spans : List (ℕ × ℕ)) (used next : ℕ) (s : ℕ × ℕ) →
    AreSpans pieces (leaf_ctors (l ∷ leaves)) (drop used spans) → (is_wild l.head ≡ true → (s ≡ (0, length pieces)) × (next ≡ used)) →
    (is_wild l.head ≡ false → (slice_get spans used ≡ Some s) × (next ≡ used + 1)) →
    IsLeafSpan pieces l s × AreSpans pieces (leaf_ctors leaves) (drop next spans)
spans_step {T} pieces l leaves spans used next s h wild other = go (is_wild l.head) refl
  where
    go : (b : Bool) → is_wild l.head ≡ b → IsLeafSpan pieces l s × AreSpans pieces (leaf_ctors leaves) (drop next spans)
    go true e =
        let w = wild e in (
          subst (IsLeafSpan pieces l) (sym w.0) (wild_span pieces l e),
          subst (λ n. AreSpans pieces (leaf_ctors leaves) (drop n spans)) (sym w.1) (step_wild pieces l leaves (drop used spans) e h),
        )
    go false e =
        let o = other e in
        let r = step_other pieces l leaves spans used s e o.0 h in
        (r.0, subst (λ n. AreSpans pieces (leaf_ctors leaves) (drop n spans)) (sym o.1) r.1)

-- there is a next one for a leaf that is no wildcard
pub has_next : {T : Type 0} (pieces : List MCtor) (l : SparseLeaf T) (leaves : List (SparseLeaf T)) (spans : List (ℕ × ℕ)) (used : ℕ) →
    AreSpans pieces (leaf_ctors (l ∷ leaves)) (drop used spans) → is_wild l.head ≡ false → used < length spans
has_next pieces l leaves spans used h e =
    elim (cases_lt used (length spans)) [
      | inl below ↦ below
      | inr past ↦ (
          let o = other_some l.head e in
          let one = subst (λ x. AreSpans pieces (option_to_list x ++ leaf_ctors leaves) (drop used spans)) o.is h in
          absurd (subst (λ ss. AreSpans pieces (o.ctor ∷ leaf_ctors leaves) ss) (drop_all used spans past) one))
    ]

-- one leaf and its span more
pub spans_push : {T : Type 0} (pieces : List MCtor) (leaves : List (SparseLeaf T)) (spans : List (ℕ × ℕ)) (l : SparseLeaf T) (s : ℕ × ℕ) →
    AreLeafSpans pieces leaves spans → IsLeafSpan pieces l s →
    AreLeafSpans pieces (leaves ++ l ∷ []) (spans ++ s ∷ [])
spans_push pieces [] [] l s h is = (is, tt)
spans_push pieces (x ∷ leaves) (y ∷ spans) l s h is = (h.0, spans_push pieces leaves spans l s h.1 is)
spans_push pieces [] (y ∷ spans) l s h is = absurd h
spans_push pieces (x ∷ leaves) [] l s h is = absurd h

-- ---- spans that are those of all leaves

-- one that is no wildcard has the first span, and the others have those behind it
record IsSharp {T : Type 0} (pieces : List MCtor) (l : SparseLeaf T) (leaves : List (SparseLeaf T)) (spans : List (ℕ × ℕ)) : Type 0 where
  pub first : ℕ × ℕ
  pub rest : List (ℕ × ℕ)
  pub are : spans ≡ first ∷ rest
  pub one : IsLeafSpan pieces l first
  pub others : AreSpans pieces (leaf_ctors leaves) rest

sharp_step : {T : Type 0} (pieces : List MCtor) (l : SparseLeaf T) (leaves : List (SparseLeaf T)) (spans : List (ℕ × ℕ)) → is_wild l.head ≡ false → AreSpans pieces (leaf_ctors (l ∷ leaves)) spans → IsSharp pieces l leaves spans
sharp_step {T} pieces l leaves spans e h =
    let o = other_some l.head e in
    go o spans (subst (λ x. AreSpans pieces (option_to_list x ++ leaf_ctors leaves) spans) o.is h)
  where
    go : (o : IsOther l.head) (ss : List (ℕ × ℕ)) → AreSpans pieces (o.ctor ∷ leaf_ctors leaves) ss → IsSharp pieces l leaves ss
    go o [] h = absurd h
    go o (s ∷ ss) h = record { first = s; rest = ss; are = refl; one = other_span pieces l s o h.0; others = h.1 }

-- there are no more spans than leaves
few_more : {T : Type 0} (pieces : List MCtor) (l : SparseLeaf T) (leaves : List (SparseLeaf T)) (spans : List (ℕ × ℕ)) →
    ((ss : List (ℕ × ℕ)) → AreSpans pieces (leaf_ctors leaves) ss → length ss ≤ length leaves) → AreSpans pieces (leaf_ctors (l ∷ leaves)) spans → length spans ≤ suc (length leaves)
few_more {T} pieces l leaves spans others h = go (is_wild l.head) refl
  where
    go : (b : Bool) → is_wild l.head ≡ b → length spans ≤ suc (length leaves)
    go true e = let few = others spans (step_wild pieces l leaves spans e h) in omega (arith, few)
    go false e =
        let s = sharp_step pieces l leaves spans e h in
        let few = others s.rest s.others in
        let long : length spans ≡ suc (length s.rest) = ap length s.are in
        omega (arith, few, long)

spans_few : {T : Type 0} (pieces : List MCtor) (leaves : List (SparseLeaf T)) (spans : List (ℕ × ℕ)) → AreSpans pieces (leaf_ctors leaves) spans → length spans ≤ length leaves
spans_few pieces [] [] h = omega arith
spans_few pieces [] (s ∷ spans) h = absurd h
spans_few pieces (l ∷ leaves) spans h = few_more pieces l leaves spans (λ ss k. spans_few pieces leaves ss k) h

-- where there are as many, no leaf is a wildcard
whole_more : {T : Type 0} (pieces : List MCtor) (l : SparseLeaf T) (leaves : List (SparseLeaf T)) (spans : List (ℕ × ℕ)) →
    ((ss : List (ℕ × ℕ)) → AreSpans pieces (leaf_ctors leaves) ss → length ss ≡ length leaves → AreLeafSpans pieces leaves ss) →
    AreSpans pieces (leaf_ctors (l ∷ leaves)) spans → length spans ≡ suc (length leaves) → AreLeafSpans pieces (l ∷ leaves) spans
whole_more {T} pieces l leaves spans others h many = go (is_wild l.head) refl
  where
    go : (b : Bool) → is_wild l.head ≡ b → AreLeafSpans pieces (l ∷ leaves) spans
    go true e = let few = spans_few pieces leaves spans (step_wild pieces l leaves spans e h) in absurd (omega (arith, few, many))
    go false e =
        let s = sharp_step pieces l leaves spans e h in
        let long : length spans ≡ suc (length s.rest) = ap length s.are in
        subst (AreLeafSpans pieces (l ∷ leaves)) (sym s.are) (s.one, others s.rest s.others (omega (arith, long, many)))

pub whole_spans : {T : Type 0} (pieces : List MCtor) (leaves : List (SparseLeaf T)) (spans : List (ℕ × ℕ)) → AreSpans pieces (leaf_ctors leaves) spans → length spans ≡ length leaves → AreLeafSpans pieces leaves spans
whole_spans pieces [] [] h many = tt
whole_spans pieces [] (s ∷ spans) h many = absurd h
whole_spans pieces (l ∷ leaves) spans h many = whole_more pieces l leaves spans (λ ss k e. whole_spans pieces leaves ss k e) h many

-- ---- a loop over the leaves

-- what is left of the spans, and what was found, before the leaf with the number
abbrev pub IsUnderWay : {X T : Type 0} → (f : X → SparseLeaf T) → (pieces : List MCtor) → (leaves : List X) → (i : ℕ) → (left done : List (ℕ × ℕ)) → Type 0
IsUnderWay f pieces leaves i left done = AreSpans pieces (leaf_ctors (map f (drop i leaves))) left × AreLeafSpans pieces (map f (take i leaves)) done

next_leaf : {X T : Type 0} (f : X → SparseLeaf T) (leaves : List X) (i : ℕ) (x : X) → i < length leaves → x ≡ get_or leaves i x →
    map f (drop i leaves) ≡ f x ∷ map f (drop (i + 1) leaves)
next_leaf f leaves i x h e = ap (map f) (drop_more leaves i x h) ∙ ap (λ y. f y ∷ map f (drop (i + 1) leaves)) (sym e)

-- there is a span for a leaf that is no wildcard
pub span_left : {X T : Type 0} (f : X → SparseLeaf T) (pieces : List MCtor) (leaves : List X) (i : ℕ) (x : X) (spans : List (ℕ × ℕ)) (used : ℕ) (done : List (ℕ × ℕ)) → i < length leaves → x ≡ get_or leaves i x →
    IsUnderWay f pieces leaves i (drop used spans) done → is_wild (f x).head ≡ false → used < length spans
span_left f pieces leaves i x spans used done h e way sharp =
    has_next pieces (f x) (map f (drop (i + 1) leaves)) spans used (subst (λ ls. AreSpans pieces (leaf_ctors ls) (drop used spans)) (next_leaf f leaves i x h e) way.0) sharp

-- the next leaf has its span
pub span_more : {X T : Type 0} (f : X → SparseLeaf T) (pieces : List MCtor) (leaves : List X) (i : ℕ) (x : X) (spans : List (ℕ × ℕ)) (used next : ℕ) (s : ℕ × ℕ) (done : List (ℕ × ℕ)) → i < length leaves →
    x ≡ get_or leaves i x → IsUnderWay f pieces leaves i (drop used spans) done → (is_wild (f x).head ≡ true → (s ≡ (0, length pieces)) × (next ≡ used)) →
    (is_wild (f x).head ≡ false → (slice_get spans used ≡ Some s) × (next ≡ used + 1)) → IsUnderWay f pieces leaves (i + 1) (drop next spans) (done ++ s ∷ [])
span_more f pieces leaves i x spans used next s done h e way wild other =
    let r = spans_step pieces (f x) (map f (drop (i + 1) leaves)) spans used next s (subst (λ ls. AreSpans pieces (leaf_ctors ls) (drop used spans)) (next_leaf f leaves i x h e) way.0) wild other in
    let more : map f (take i leaves) ++ f x ∷ [] ≡ map f (take (i + 1) leaves) =
    ap (λ y. map f (take i leaves) ++ f y ∷ []) e ∙ sym (map-append f (take i leaves) (get_or leaves i x ∷ [])) ∙ ap (map f) (sym (take_more leaves i x h)) in
    (r.1, subst (λ ls. AreLeafSpans pieces ls (done ++ s ∷ [])) more (spans_push pieces (map f (take i leaves)) done (f x) s way.1 r.0))

-- one span more, as pairs
pub spans_pushed : (new old : List Span) (span : Span) → new ≡ old ++ span ∷ [] → plain_spans new ≡ plain_spans old ++ plain_span span ∷ []
spans_pushed new old span e = ap plain_spans e ∙ map-append plain_span old (span ∷ [])
