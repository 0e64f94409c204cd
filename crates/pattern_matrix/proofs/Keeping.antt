-- A constructor more, which is kept or stands for one that was.
use Rattle.std.proofs.Common.{◌≡◌, ◌<◌, inl, inr, ℕ, zero, suc, ◌+◌, List, Option, [], ◌∷◌, ◌++◌, map, length, take, get_or, Some, slice_get, refl, ap, sym, ◌∙◌, subst, arith}
use Rattle.std.specs.List.{All}
use Rattle.std.proofs.lemmas.List.{map-append, take_more}
use Rattle.std.proofs.lemmas.List.Elements.{All-nil, All-cons}
use Rattle.std.proofs.lemmas.Option.{slice_get_within}
use Rattle.match_model.specs.Constructors.{MCtor}
use Rattle.match_model.specs.Lists.{Among}
use Rattle.constructor_sets.specs.Spans.{IsSpan, AreSpans, plain_span}
use Rattle.constructor_sets.specs.declared.piece.Span.{Span}
use Rattle.pattern_matrix.specs.Parts.{plain_spans}
use Rattle.pattern_matrix.proofs.Getting.{got-read}
use Rattle.pattern_matrix.specs.Distinct.{AreDistinct}
use Rattle.pattern_matrix.proofs.Members.{among_front, among_back, among_either}

got_front : {A : Type 0} (xs ys : List A) (k : ℕ) (x : A) → slice_get xs k ≡ Some x → slice_get (xs ++ ys) k ≡ Some x
got_front [] ys k x e = cc
got_front (z ∷ xs) ys zero x e = e
got_front (z ∷ xs) ys (suc k) x e = got_front xs ys k x e

got_last : {A : Type 0} (xs : List A) (x : A) → slice_get (xs ++ x ∷ []) (length xs) ≡ Some x
got_last [] x = refl
got_last (z ∷ xs) x = got_last xs x

got_among : {A : Type 0} (xs : List A) (k : ℕ) (x : A) → slice_get xs k ≡ Some x → Among x xs
got_among [] k x e = cc
got_among (z ∷ xs) zero x e = let same : z ≡ x = cc in inl (sym same)
got_among (z ∷ xs) (suc k) x e = inr (got_among xs k x e)

-- numbers in a list are those in a longer one
still_numbered : {A : Type 0} (xs ys all : List A) (numbers : List ℕ) → map Some all ≡ map (slice_get xs) numbers → map Some all ≡ map (slice_get (xs ++ ys)) numbers
still_numbered xs ys [] [] e = refl
still_numbered xs ys [] (k ∷ ks) e = cc
still_numbered xs ys (c ∷ all) [] e = cc
still_numbered xs ys (c ∷ all) (k ∷ ks) e =
    let one : Some c ≡ slice_get xs k = cc in
    let rest : map Some all ≡ map (slice_get xs) ks = cc in
    ap (λ o. o ∷ map Some all) (sym (got_front xs ys k c (sym one))) ∙ ap (λ os. slice_get (xs ++ ys) k ∷ os) (still_numbered xs ys all ks rest)

one_numbered : {A : Type 0} (xs all : List A) (numbers : List ℕ) (c : A) (k : ℕ) → map Some all ≡ map (slice_get xs) numbers → slice_get xs k ≡ Some c →
    map Some (all ++ c ∷ []) ≡ map (slice_get xs) (numbers ++ k ∷ [])
one_numbered xs all numbers c k e h =
    map-append Some all (c ∷ []) ∙ ap (λ os. os ++ Some c ∷ []) e ∙ ap (λ o. map (slice_get xs) numbers ++ o ∷ []) (sym h) ∙ sym (map-append (slice_get xs) numbers (k ∷ []))

only : {A : Type 0} (x c : A) → Among x (c ∷ []) → x ≡ c
only x c (inl e) = e
only x c (inr a) = absurd a

-- one that stands for a kept one
pub more_again : (all ctors : List MCtor) (numbers : List ℕ) (c : MCtor) (k : ℕ) → AreDistinct all ctors numbers → slice_get ctors k ≡ Some c →
    AreDistinct (all ++ c ∷ []) ctors (numbers ++ k ∷ [])
more_again all ctors numbers c k d h = record {
  numbered = one_numbered ctors all numbers c k d.numbered h;
  same = record {
    forth = λ x a. elim (among_either x all (c ∷ []) a) [
      | inl b ↦ d.same.forth x b
      | inr b ↦ subst (λ y. Among y ctors) (sym (only x c b)) (got_among ctors k c h)
    ];
    back = λ x a. among_front x all (c ∷ []) (d.same.back x a);
  };
}

-- one that is kept
pub more_kept : (all ctors : List MCtor) (numbers : List ℕ) (c : MCtor) → AreDistinct all ctors numbers →
    AreDistinct (all ++ c ∷ []) (ctors ++ c ∷ []) (numbers ++ length ctors ∷ [])
more_kept all ctors numbers c d = record {
  numbered = one_numbered (ctors ++ c ∷ []) all numbers c (length ctors) (still_numbered ctors (c ∷ []) all numbers d.numbered) (got_last ctors c);
  same = record {
    forth = λ x a. elim (among_either x all (c ∷ []) a) [
      | inl b ↦ among_front x ctors (c ∷ []) (d.same.forth x b)
      | inr b ↦ among_back x ctors (c ∷ []) b
    ];
    back = λ x a. elim (among_either x ctors (c ∷ []) a) [
      | inl b ↦ among_front x all (c ∷ []) (d.same.back x b)
      | inr b ↦ among_back x all (c ∷ []) b
    ];
  };
}

pub none_kept : AreDistinct [] [] []
none_kept = record { numbered = refl; same = record { forth = λ x a. a; back = λ x a. a } }

-- ---- spans by numbers

long_as : (pieces kept : List MCtor) (spans : List (ℕ × ℕ)) → AreSpans pieces kept spans → length kept ≡ length spans
long_as pieces [] [] h = refl
long_as pieces [] (s ∷ spans) h = absurd h
long_as pieces (c ∷ kept) [] h = absurd h
long_as pieces (c ∷ kept) (s ∷ spans) h = let e = long_as pieces kept spans h.1 in omega (arith, e)

span_at : (pieces kept : List MCtor) (spans : List (ℕ × ℕ)) (k : ℕ) (c : MCtor) (s : ℕ × ℕ) → AreSpans pieces kept spans →
    slice_get kept k ≡ Some c → slice_get spans k ≡ Some s → IsSpan pieces c s
span_at pieces [] spans k c s h e f = cc
span_at pieces (d ∷ kept) [] k c s h e f = absurd h
span_at pieces (d ∷ kept) (t ∷ spans) zero c s h e f =
    let same : d ≡ c = cc in
    let equal : t ≡ s = cc in
    subst (λ x. IsSpan pieces x s) same (subst (IsSpan pieces d) equal h.0)
span_at pieces (d ∷ kept) (t ∷ spans) (suc k) c s h e f = span_at pieces kept spans k c s h.1 e f

pub within_spans : (pieces kept all : List MCtor) (numbers : List ℕ) (spans : List (ℕ × ℕ)) → AreSpans pieces kept spans →
    map Some all ≡ map (slice_get kept) numbers → All (λ k. k < length spans) numbers
within_spans pieces kept [] [] spans h e = All-nil (λ k. k < length spans)
within_spans pieces kept [] (k ∷ ks) spans h e = cc
within_spans pieces kept (c ∷ all) [] spans h e = cc
within_spans pieces kept (c ∷ all) (k ∷ ks) spans h e =
    let one : Some c ≡ slice_get kept k = cc in
    let rest : map Some all ≡ map (slice_get kept) ks = cc in
    let l = slice_get_within kept k c (sym one) in
    let m = long_as pieces kept spans h in
    All-cons (λ i. i < length spans) k ks (omega (arith, l, m)) (within_spans pieces kept all ks spans h rest)

pub spans_of_all : (pieces kept all : List MCtor) (numbers : List ℕ) (spans found : List (ℕ × ℕ)) → AreSpans pieces kept spans →
    map Some all ≡ map (slice_get kept) numbers → map Some found ≡ map (slice_get spans) numbers → AreSpans pieces all found
spans_of_all pieces kept [] [] spans [] h e f = tt
spans_of_all pieces kept [] [] spans (s ∷ found) h e f = cc
spans_of_all pieces kept [] (k ∷ ks) spans found h e f = cc
spans_of_all pieces kept (c ∷ all) [] spans found h e f = cc
spans_of_all pieces kept (c ∷ all) (k ∷ ks) spans [] h e f = cc
spans_of_all pieces kept (c ∷ all) (k ∷ ks) spans (s ∷ found) h e f =
    let one : Some c ≡ slice_get kept k = cc in
    let rest : map Some all ≡ map (slice_get kept) ks = cc in
    let span : Some s ≡ slice_get spans k = cc in
    let more : map Some found ≡ map (slice_get spans) ks = cc in
    (span_at pieces kept spans k c s h (sym one) (sym span), spans_of_all pieces kept all ks spans found h rest more)

-- one span more is read
pub more_spans : (spans found new : List Span) (numbers : List ℕ) (i : ℕ) (d : Span) → i < length numbers → get_or numbers i 0 < length spans → new ≡ found ++ get_or spans (get_or numbers i 0) d ∷ [] →
    map Some (plain_spans found) ≡ map (slice_get (plain_spans spans)) (take i numbers) → map Some (plain_spans new) ≡ map (slice_get (plain_spans spans)) (take (i + 1) numbers)
more_spans spans found new numbers i d l k e h =
    let n = get_or numbers i 0 in
    let s = get_or spans n d in
    let get : ℕ → Option (ℕ × ℕ) = slice_get (plain_spans spans) in
    ap (λ (ss : List Span). map Some (plain_spans ss)) e
    ∙ ap (map Some) (map-append plain_span found (s ∷ []))
    ∙ map-append Some (plain_spans found) (plain_span s ∷ [])
    ∙ ap (λ os. os ++ Some (plain_span s) ∷ []) h
    ∙ ap (λ o. map get (take i numbers) ++ o ∷ []) (sym (got-read plain_span spans n d k))
    ∙ sym (ap (map get) (take_more numbers i 0 l) ∙ map-append get (take i numbers) (n ∷ []))
