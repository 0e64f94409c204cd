-- Numbers of rows that are enough for the pieces of a column.
use Rattle.std.proofs.Common.{◌≡◌, nat_eq, true≢false, inl, inr, ◌≤◌, ◌<◌, ℕ, zero, suc, ◌+◌, Bool, true, false, not, ◌&&◌, nat_le, nat_lt, List, [], ◌∷◌, ◌++◌, map, filter, cond, length, take, drop, get_or, Option, Some, None, refl, sym, ap, subst, ◌∙◌, arith, slice_get, append_assoc, take-append-drop, ◌-◌}
use Rattle.std.proofs.lemmas.Bool.Decides.{nat_tests}
use Rattle.std.proofs.lemmas.List.{length-map, take_more}
use Rattle.std.proofs.lemmas.List.Elements.{All-head, All-tail}
use Rattle.std.proofs.lemmas.List.Folds.{list_all-append}
use Rattle.std.specs.List.{All, list_all}
use Rattle.match_model.specs.ArenaPatterns.{de_pat, de_pats_list, de_pats_of}
use Rattle.match_model.specs.Constructors.{MCtor, RowCtor, LongerShape, WildCtor}
use Rattle.match_model.specs.DecisionTrees.{all_wild}
use Rattle.match_model.specs.Matrices.{MRow}
use Rattle.match_model.specs.Places.{MStep}
use Rattle.match_model.specs.Rows.{Head, is_wild, wildcards, heads_of}
use Rattle.match_model.specs.Steps.{Replacement, specialise_head, replacements_at, row_replaced, rows_at, with_head, with_others}
use Rattle.match_model.proofs.Basics.{both, untrue}
use Rattle.constructor_sets.specs.Spans.{plain_span}
use Rattle.constructor_sets.specs.declared.piece.Span.{Span}
use Rattle.pattern_arena.specs.declared.pattern.DePat.{DePat}
use Rattle.pattern_arena.specs.Trees.{tree, placed_subs}
use Rattle.pattern_arena.proofs.TreeFacts.{tree_out}
use Rattle.pattern_matrix.specs.Halving.{span_has, span_meets, having, meeting, leaves_with}
use Rattle.pattern_matrix.specs.Parts.{plain_spans, IsFull}
use Rattle.pattern_matrix.specs.Sparse.{head_has}
use Rattle.pattern_matrix.specs.declared.halving.Part.{Part}
use Rattle.keyed_matrix.specs.Views.{plain_row, plain_rows}
use Rattle.keyed_matrix.specs.declared.rows.KeyedRow.{KeyedRow}
use Rattle.decision_tree.proofs.Passing.{passed-row}
use Rattle.decision_tree.proofs.Reading.{read-map}
use Rattle.decision_tree.specs.Cutting.{head_there, parts_pass, takes_pieces, TakesPieces, TakesMet, BeginAlike, AreEnough, IsCutPart, IsCutTo, AreLed}

-- ---- a row that takes its pieces

-- it is taken where a piece that it has is entered
pub taken-row : {T : Type 0} (p : MCtor) (n : ℕ) (place : List MStep) (i : ℕ) (r : MRow T) → i < length r.heads →
    takes_pieces i r ≡ true → head_has p (head_there i r.heads) ≡ true →
    (y : MRow T) × (rows_at (specialise_head p n) place i (r ∷ []) ≡ y ∷ []) × (all_wild y ≡ true) × (y.guarded ≡ false)
taken-row p n place i r l takes has =
    let y = passed-row is_wild refl p n place i r l takes has in (y.row, y.alone, y.passes, y.unguarded)

-- ---- what passes a test

kept-step : {X : Type 0} (p : X → Bool) (y : X) (zs : List X) (x : X) (xs : List X) (b : Bool) → p y ≡ b →
    (zs ≡ x ∷ xs → p x ≡ true) → cond b (y ∷ zs) zs ≡ x ∷ xs → p x ≡ true
kept-step p y zs x xs true is ih e = let same : y ≡ x = cc in ap p (sym same) ∙ is
kept-step p y zs x xs false is ih e = ih e

-- the first that is kept passes
pub kept-first : {X : Type 0} (p : X → Bool) (ys : List X) (x : X) (xs : List X) → filter p ys ≡ x ∷ xs → p x ≡ true
kept-first p [] x xs e = cc
kept-first p (y ∷ ys) x xs e = kept-step p y (filter p ys) x xs (p y) refl (kept-first p ys x xs) e

within-step : {X : Type 0} (p q : X → Bool) (x : X) (xs : List X) (b : Bool) → (q x ≡ false → p x ≡ false) → q x ≡ b →
    filter p (filter q xs) ≡ filter p xs → filter p (cond b (x ∷ filter q xs) (filter q xs)) ≡ filter p (x ∷ xs)
within-step p q x xs true none e ih = rw ih refl
within-step p q x xs false none e ih = rw (none e) ih

filter-within : {X : Type 0} (p q : X → Bool) → ((x : X) → q x ≡ false → p x ≡ false) → (xs : List X) →
    filter p (filter q xs) ≡ filter p xs
filter-within p q none [] = refl
filter-within p q none (x ∷ xs) = within-step p q x xs (q x) (none x) refl (filter-within p q none xs)

filter-same : {X : Type 0} (p q : X → Bool) → ((x : X) → p x ≡ q x) → (xs : List X) → filter p xs ≡ filter q xs
filter-same p q same [] = refl
filter-same p q same (x ∷ xs) = rw (same x, filter-same p q same xs) refl

lacks-all : (first end j a b : ℕ) → first ≤ j → j < end → (nat_lt a end && nat_lt first b) ≡ false →
    (nat_le a j && nat_lt j b) ≡ false
lacks-all first end j a b l m e = grind (arith, nat_tests)

span-lacks : (first end j : ℕ) (o : Option (ℕ × ℕ)) → first ≤ j → j < end → span_meets first end o ≡ false →
    span_has j o ≡ false
span-lacks first end j None l m e = refl
span-lacks first end j (Some s) l m e = lacks-all first end j s.0 s.1 l m e

span-meets : (first end j : ℕ) (o : Option (ℕ × ℕ)) → first ≤ j → j < end → span_has j o ≡ true → span_meets first end o ≡ true
span-meets first end j o l m e = go (span_meets first end o) refl
  where
    go : (b : Bool) → span_meets first end o ≡ b → b ≡ true
    go true k = refl
    go false k = let none : span_has j o ≡ false = span-lacks first end j o l m k in cc

one-piece : (first end a b : ℕ) → first + 1 ≡ end → (nat_lt a end && nat_lt first b) ≡ (nat_le a first && nat_lt first b)
one-piece first end a b e = grind (arith, nat_tests)

span-one : (first end : ℕ) (o : Option (ℕ × ℕ)) → first + 1 ≡ end → span_meets first end o ≡ span_has first o
span-one first end None e = refl
span-one first end (Some s) e = one-piece first end s.0 s.1 e

-- what meets a part has all that have a piece of it
pub meeting-has : (spans : List (ℕ × ℕ)) (first end j : ℕ) (numbers : List ℕ) → first ≤ j → j < end →
    having spans j (meeting spans first end numbers) ≡ having spans j numbers
meeting-has spans first end j numbers l m =
    filter-within (λ k. span_has j (slice_get spans k)) (λ k. span_meets first end (slice_get spans k))
    (λ k e. span-lacks first end j (slice_get spans k) l m e) numbers

-- what meets a part of one piece has it
pub meeting-one : (spans : List (ℕ × ℕ)) (first end : ℕ) (numbers : List ℕ) → first + 1 ≡ end →
    meeting spans first end numbers ≡ having spans first numbers
meeting-one spans first end numbers e =
    filter-same (λ k. span_meets first end (slice_get spans k)) (λ k. span_has first (slice_get spans k))
    (λ k. span-one first end (slice_get spans k) e) numbers

-- a span with all pieces of a part
covers-all : (first end j a b : ℕ) → first ≤ j → j < end → (nat_le a first && nat_le end b) ≡ true →
    (nat_le a j && nat_lt j b) ≡ true
covers-all first end j a b l m e = grind (arith, nat_tests)

-- ---- numbers that are enough

module _ {T : Type 0} (i : ℕ) (rows : List (MRow T)) where
  -- of what is enough some is enough
  pub enough-enough : (some mid all : List ℕ) → AreEnough i rows some mid → AreEnough i rows mid all →
      AreEnough i rows some all
  enough-enough some mid all (inl e) k = subst (λ xs. AreEnough i rows xs all) (sym e) k
  enough-enough some mid all (inr b) (inl e) = subst (AreEnough i rows some) e (inr b)
  enough-enough some mid all (inr b) (inr k) =
      let two : b.first ∷ b.others ≡ k.first ∷ k.behind = sym b.all_are ∙ k.some_are in
      let same : b.first ≡ k.first = cc in
      inr (record {
        first = b.first;
        takes = b.takes;
        behind = b.behind;
        others = k.others;
        some_are = b.some_are;
        all_are = k.all_are ∙ ap (λ x. x ∷ k.others) (sym same);
      })

  -- where the first takes its pieces it is enough
  pub first-led : (numbers all : List ℕ) (k : ℕ) (behind : List ℕ) → numbers ≡ k ∷ behind → TakesPieces i rows k →
      AreEnough i rows numbers all → AreLed i rows (k ∷ []) all
  first-led numbers all k behind is takes (inl e) = inr (record {
    first = k;
    takes = takes;
    others = behind;
    alone = refl;
    all_are = sym e ∙ is;
  })
  first-led numbers all k behind is takes (inr b) =
      let two : b.first ∷ b.behind ≡ k ∷ behind = sym b.some_are ∙ is in
      let same : b.first ≡ k = cc in
      inr (record {
        first = k;
        takes = takes;
        others = b.others;
        alone = refl;
        all_are = b.all_are ∙ ap (λ x. x ∷ b.others) same;
      })

  -- where it does not, the numbers are all
  pub all-led : (numbers all : List ℕ) →
      ((k : ℕ) (behind : List ℕ) → numbers ≡ k ∷ behind → ¬ TakesPieces i rows k) → AreEnough i rows numbers all →
      AreLed i rows numbers all
  all-led numbers all none (inl e) = inl e
  all-led numbers all none (inr b) = absurd (none b.first b.behind b.some_are b.takes)

  module _ (spans : List (ℕ × ℕ)) (first end : ℕ) where
    abbrev Takes : ℕ → Type 0
    Takes k = TakesMet i rows spans first end k

    begin-step : (j x : ℕ) (xs ys : List ℕ) (b : Bool) → (b ≡ true → TakesPieces i rows x) → BeginAlike i rows xs ys →
        BeginAlike i rows (cond b (x ∷ xs) xs) (cond b (x ∷ ys) ys)
    begin-step j x xs ys true takes ih = record {
      first = x;
      takes = takes refl;
      behind = xs;
      others = ys;
      some_are = refl;
      all_are = refl;
    }
    begin-step j x xs ys false takes ih = ih

    -- up to one that has all pieces, of rows that take theirs
    begin-alike : (j : ℕ) → first ≤ j → j < end → (xs : List ℕ) (k : ℕ) (zs : List ℕ) → All Takes xs →
        TakesPieces i rows k → span_has j (slice_get spans k) ≡ true →
        BeginAlike i rows (having spans j (xs ++ k ∷ [])) (having spans j (xs ++ k ∷ zs))
    begin-alike j l m [] k zs all takes has = record {
      first = k;
      takes = takes;
      behind = [];
      others = having spans j zs;
      some_are = ap (λ b. cond b (k ∷ []) []) has;
      all_are = ap (λ b. cond b (k ∷ having spans j zs) (having spans j zs)) has;
    }
    begin-alike j l m (x ∷ xs) k zs all takes has =
        begin-step j x (having spans j (xs ++ k ∷ [])) (having spans j (xs ++ k ∷ zs)) (span_has j (slice_get spans x))
        (λ e. All-head Takes x xs all (span-meets first end j (slice_get spans x) l m e))
        (begin-alike j l m xs k zs (All-tail Takes x xs all) takes has)

    -- they are enough
    pub enough-to : (numbers : List ℕ) (n k : ℕ) → n < length numbers → k ≡ get_or numbers n k →
        All Takes (take n numbers) → TakesPieces i rows k → (s : ℕ × ℕ) → slice_get spans k ≡ Some s →
        (nat_le s.0 first && nat_le end s.1) ≡ true → (j : ℕ) → first ≤ j → j < end →
        AreEnough i rows (having spans j (take (n + 1) numbers)) (having spans j numbers)
    enough-to numbers n k l at all takes s got covers j a b =
        let has : span_has j (slice_get spans k) ≡ true =
        ap (span_has j) got ∙ covers-all first end j s.0 s.1 a b covers in
        let front : take (n + 1) numbers ≡ take n numbers ++ k ∷ [] =
        take_more numbers n k l ∙ ap (λ x. take n numbers ++ x ∷ []) (sym at) in
        let whole : numbers ≡ take n numbers ++ k ∷ drop (n + 1) numbers =
        sym (take-append-drop (n + 1) numbers) ∙ ap (λ xs. xs ++ drop (n + 1) numbers) front
        ∙ append_assoc (take n numbers) (k ∷ []) (drop (n + 1) numbers) in
        subst (λ xs. AreEnough i rows (having spans j xs) (having spans j numbers)) (sym front)
        (subst (λ xs. AreEnough i rows (having spans j (take n numbers ++ k ∷ [])) (having spans j xs)) (sym whole)
        (inr (begin-alike j a b (take n numbers) k (drop (n + 1) numbers) all takes has)))

-- ---- rows and spans that are read

module _ {T : Type 0} (i : ℕ) (rows : List (KeyedRow T)) where
  not-both : (a b : Bool) → (a && not b) ≡ false → a ≡ true → b ≡ true
  not-both true true e h = refl
  not-both true false e h = untrue (sym e)
  not-both false b e h = untrue h

  -- the row with the number takes its pieces
  pub takes-read : (k : ℕ) (row : KeyedRow T) → k < length rows → row ≡ get_or rows k row →
      takes_pieces i (plain_row row) ≡ true → TakesPieces i (plain_rows rows) k
  takes-read k row l is takes = record { row = plain_row row; got = read-map plain_row rows k row l is; takes = takes }

  -- where it does not, it has no piece of the part
  pub takes-met : (spans : List (ℕ × ℕ)) (first end k : ℕ) (row : KeyedRow T) (s : ℕ × ℕ) → k < length rows →
      row ≡ get_or rows k row → slice_get spans k ≡ Some s →
      (span_meets first end (Some s) && not (takes_pieces i (plain_row row))) ≡ false →
      TakesMet i (plain_rows rows) spans first end k
  takes-met spans first end k row s l is got shut met =
      takes-read k row l is
      (not-both (span_meets first end (Some s)) (takes_pieces i (plain_row row)) shut (ap (span_meets first end) (sym got) ∙ met))

  -- no number is all of those
  pub empty-led : (numbers all : List ℕ) → length numbers ≡ 0 → AreEnough i (plain_rows rows) numbers all →
      AreLed i (plain_rows rows) numbers all
  empty-led [] all e h = all-led i (plain_rows rows) [] all (λ k behind is. cc) h
  empty-led (x ∷ xs) all e h = absurd (omega (arith, e))

  -- where the first row does not take its pieces, the numbers are all
  pub open-led : (numbers all : List ℕ) (k : ℕ) (row : KeyedRow T) → 0 < length numbers → k ≡ get_or numbers 0 k →
      k < length rows → row ≡ get_or rows k row → takes_pieces i (plain_row row) ≡ false →
      AreEnough i (plain_rows rows) numbers all → AreLed i (plain_rows rows) numbers all
  open-led [] all k row some at l is shut h = absurd (omega (arith, some))
  open-led (x ∷ xs) all k row some at l is shut h = all-led i (plain_rows rows) (x ∷ xs) all none h
    where
      none : (q : ℕ) (behind : List ℕ) → x ∷ xs ≡ q ∷ behind → ¬ TakesPieces i (plain_rows rows) q
      none q behind e t =
          let same : k ≡ q = cc in
          let read : slice_get (plain_rows rows) k ≡ Some (plain_row row) = read-map plain_row rows k row l is in
          let there : Some (plain_row row) ≡ Some t.row = sym read ∙ ap (slice_get (plain_rows rows)) same ∙ t.got in
          let one : plain_row row ≡ t.row = cc in
          absurd (true≢false (sym t.takes ∙ ap (takes_pieces i) (sym one) ∙ shut))

  -- where it does, it is enough
  pub taken-led : (numbers all : List ℕ) (k : ℕ) (row : KeyedRow T) → 0 < length numbers → k ≡ get_or numbers 0 k →
      k < length rows → row ≡ get_or rows k row → takes_pieces i (plain_row row) ≡ true →
      AreEnough i (plain_rows rows) numbers all → AreLed i (plain_rows rows) (take 1 numbers) all
  taken-led [] all k row some at l is takes h = absurd (omega (arith, some))
  taken-led (x ∷ xs) all k row some at l is takes h =
      let same : k ≡ x = at in
      subst (λ q. AreLed i (plain_rows rows) (q ∷ []) all) same
      (first-led i (plain_rows rows) (x ∷ xs) all k xs (ap (λ q. q ∷ xs) (sym same)) (takes-read k row l is takes) h)

-- a span with all pieces of a part has a piece of it
pub covers-meets : (first end a b : ℕ) → first < end → (nat_le a first && nat_le end b) ≡ true →
    (nat_lt a end && nat_lt first b) ≡ true
covers-meets first end a b l e = grind (arith, nat_tests)

-- what is complete is enough
pub full-part : {T : Type 0} (i : ℕ) (rows : List (MRow T)) (spans : List Span) (p : Part) → IsFull spans p →
    IsCutPart i rows spans p
full-part i rows spans p full = record {
  some = full.some;
  within = full-within;
  enough = λ j a b. inl (full.complete j a b);
}
  where
    full-within : All (λ k. k < length spans) p.leaves.items
    full-within = subst (λ n. All (λ k. k < n) p.leaves.items) (length-map spans plain_span) full.within

-- half of a part, of whose numbers some are kept
pub cut-half : {T : Type 0} (i : ℕ) (rows : List (MRow T)) (spans : List Span) (p h : Part) → p.first ≤ h.first → h.first < h.end →
    h.end ≤ p.end → IsCutPart i rows spans p → IsCutTo i rows spans p.first p.end p.leaves.items h.leaves.items →
    IsCutPart i rows spans h
cut-half i rows spans p h low some high part cut = record {
  some = some;
  within = cut.within;
  enough = λ j a b.
      enough-enough i rows (having (plain_spans spans) j h.leaves.items) (having (plain_spans spans) j p.leaves.items)
      (leaves_with (plain_spans spans) j) (cut.enough j (omega arith) (omega arith)) (part.enough j (omega arith) (omega arith));
}

-- ---- heads with only wildcards and names below

listed : {T : Type 0} (ps : List (DePat T)) → map Some (de_pats_list (de_pats_of (map tree ps))) ≡ map (λ p. Some (tree p)) ps
listed [] = refl
listed (p ∷ ps) = ap (λ qs. Some (tree p) ∷ qs) (listed ps)

pub flat-parts : {T : Type 0} (q : Head T → Bool) (p : DePat T) →
    list_all q (map (λ r. Some (tree r)) (placed_subs p)) ≡ parts_pass q (Some (tree p))
flat-parts q p = ap (list_all q) (sym (listed (placed_subs p))) ∙ sym (ap (λ t. parts_pass q (Some t)) (tree_out p))

-- a list that is not empty is longer than none
pub some-length : (n : ℕ) → nat_eq n 0 ≡ false → 0 < n
some-length zero e = untrue (sym e)
some-length (suc n) e = omega arith
