-- Rows that do for others may be listed in their place.
use Rattle.std.proofs.Common.{◌≡◌, ◌⊎◌, inl, inr, ℕ, Bool, true, false, not, ◌&&◌, ◌||◌, List, [], ◌∷◌, ◌++◌, length, nat_eq, refl, sym, ap, subst, ◌∙◌, append-nil}
use Rattle.std.proofs.lemmas.List.{map-append}
use Rattle.std.proofs.lemmas.List.Elements.{All-head, All-tail}
use Rattle.std.specs.List.{All}
use Rattle.match_model.specs.Values.{MValue}
use Rattle.match_model.proofs.Basics.{untrue, either, both, nat_itself}
use Rattle.pattern_matrix.specs.Counting.{Question, WantedRow, row_answers, row_stops, counts}
use Rattle.pattern_matrix.specs.Searching.{heads_in, counts_before, is_bare, IsPart, kept, IsDone, DoFor, StandFor}
use Rattle.pattern_matrix.proofs.ListedRows as listing

heads_behind : {T : Type 0} (xs ys : List (WantedRow T)) → heads_in (xs ++ ys) ≡ heads_in xs ++ heads_in ys
heads_behind xs ys = map-append (λ x. x.row.heads) xs ys

module _ {T : Type 0} (m : Question → Bool) (n : ℕ) where
  -- rows stand for themselves
  pub same_stand : (xs : List (WantedRow T)) → StandFor m n xs xs
  same_stand xs = record { on = λ q vs l c. inr c; back = λ q vs l c. c; part = listing.part_self (heads_in xs) }

  -- what stands for rows that stand for others
  pub stand_both : (xs ys zs : List (WantedRow T)) → StandFor m n xs ys → StandFor m n ys zs → StandFor m n xs zs
  stand_both xs ys zs d e = record {
    on = λ q vs l c. elim (d.on q vs l c) [ inl h ↦ inl h | inr h ↦ e.on q vs l h ];
    back = λ q vs l c. d.back q vs l (e.back q vs l c);
    part = listing.part_both (heads_in zs) (heads_in ys) (heads_in xs) e.part d.part;
  }

  -- what rows of which everything is marked count is marked
  none_new : (q : Question) (ys : List (WantedRow T)) (vs : List MValue) → All (IsDone m) ys → counts q ys vs ≡ true → m q ≡ true
  none_new q [] vs a e = untrue e
  none_new q (y ∷ ys) vs a e = elim (either (y.wanted && row_answers q y.row vs) (not (row_stops y.row vs) && counts q ys vs) e) [
    | inl h ↦ let w = both y.wanted (row_answers q y.row vs) h in All-head (IsDone m) y ys a w.0 q vs w.1
    | inr h ↦ none_new q ys vs (All-tail (IsDone m) y ys a) (both (not (row_stops y.row vs)) (counts q ys vs) h).1
  ]

  before_more : (q : Question) (xs : List (WantedRow T)) (vs : List MValue) (k : Bool) → counts q xs vs ≡ true → counts_before q xs vs k ≡ true
  before_more q [] vs k e = untrue e
  before_more q (x ∷ xs) vs k e = go (x.wanted && row_answers q x.row vs) (not (row_stops x.row vs)) (counts q xs vs) (counts_before q xs vs k) e (before_more q xs vs k)
    where
      go : (b s c d : Bool) → (b || (s && c)) ≡ true → (c ≡ true → d ≡ true) → (b || (s && d)) ≡ true
      go true s c d e f = refl
      go false true c d e f = f e
      go false false c d e f = untrue e

  -- they may be left out behind others
  pub done_behind : (xs ys : List (WantedRow T)) → All (IsDone m) ys → StandFor m n (xs ++ ys) xs
  done_behind xs ys a = record {
    on = λ q vs l c. go q vs (counts q ys vs) refl (sym (listing.counts_append q xs ys vs) ∙ c);
    back = λ q vs l c. listing.counts_append q xs ys vs ∙ before_more q xs vs (counts q ys vs) c;
    part = subst (IsPart (heads_in xs)) (sym (heads_behind xs ys))
        (subst (λ hs. IsPart hs (heads_in xs ++ heads_in ys)) (append-nil (heads_in xs))
        (listing.part_append (heads_in xs) (heads_in xs) [] (heads_in ys) (listing.part_self (heads_in xs)) (listing.part_none (heads_in ys))));
  }
    where
      go : (q : Question) (vs : List MValue) (b : Bool) → counts q ys vs ≡ b → counts_before q xs vs (counts q ys vs) ≡ true → (m q ≡ true) ⊎ (counts q xs vs ≡ true)
      go q vs true e c = inl (none_new q ys vs a e)
      go q vs false e c = inr (sym (listing.before_none q xs vs) ∙ sym (ap (counts_before q xs vs) e) ∙ c)

  -- what does for rows that do for others
  pub both_do : (xs ys zs : List (WantedRow T)) → DoFor m n xs ys → DoFor m n ys zs → DoFor m n xs zs
  both_do xs ys zs d e = record {
    on = λ q vs k l c. elim (d.on q vs k l c) [ inl h ↦ inl h | inr h ↦ e.on q vs k l h ];
    back = λ q vs k l c. d.back q vs k l (e.back q vs k l c);
    part = listing.part_both (heads_in zs) (heads_in ys) (heads_in xs) e.part d.part;
  }

  -- a row more on both sides
  pub kept_do : (xs ys : List (WantedRow T)) (x : WantedRow T) → DoFor m n xs ys → DoFor m n (xs ++ x ∷ []) (ys ++ x ∷ [])
  kept_do xs ys x d = listing.list_row m n xs ys x x.wanted d (λ e. e) (λ f w. untrue (sym f ∙ w))

  -- a bare row without a guard stops all values: else a row behind it, which takes all values, would count though nothing is
  -- looked for in the first one
  pub stops_all : (x : WantedRow T) (vs : List MValue) → length x.row.heads ≡ n → length vs ≡ n → is_bare x ≡ true → x.row.guarded ≡ false → row_stops x.row vs ≡ true
  stops_all x vs k l b g = go (row_stops x.row vs) refl
    where
      none : Question → Bool
      none q = false

      front : WantedRow T
      front = record { row = x.row; wanted = false }

      behind : WantedRow T
      behind = record { row = x.row; wanted = true }

      asked : Question
      asked = record { arm = x.row.arm; whole = true; id = 0 }

      arm_asked : (nat_eq x.row.arm x.row.arm && (true || false)) ≡ true
      arm_asked = ap (λ c. c && (true || false)) (nat_itself x.row.arm)

      counted : counts asked (behind ∷ []) vs ≡ true
      counted = listing.noted_counts none n [] behind [] (listing.none_listed none n) k b refl asked arm_asked vs l

      closed : StandFor none n (front ∷ behind ∷ []) (front ∷ [])
      closed = listing.close none n [] (front ∷ []) front (behind ∷ [])
          (listing.list_row none n [] [] front false (listing.none_listed none n) (λ e. e) (λ f w. untrue w)) k b g

      go : (s : Bool) → row_stops x.row vs ≡ s → row_stops x.row vs ≡ true
      go true e = e
      go false e = elim (closed.on asked vs l (ap (λ s. not s && counts asked (behind ∷ []) vs) e ∙ counted)) [
        | inl h ↦ untrue h
        | inr h ↦ untrue (sym (ap (λ s. not s && false) e) ∙ h)
      ]

  -- behind a row that stops all values nothing counts
  pub closed_do : (xs ys rest : List (WantedRow T)) (x : WantedRow T) → DoFor m n (xs ++ x ∷ []) (ys ++ x ∷ []) → ((vs : List MValue) → length vs ≡ n → row_stops x.row vs ≡ true) →
      DoFor m n (xs ++ x ∷ rest) (ys ++ x ∷ [])
  closed_do xs ys rest x d s = record {
    on = λ q vs k l c. d.on q vs k l (same q vs k l ∙ c);
    back = λ q vs k l c. sym (same q vs k l) ∙ d.back q vs k l c;
    part = listing.part_both (heads_in (ys ++ x ∷ [])) (heads_in (xs ++ x ∷ [])) (heads_in (xs ++ x ∷ rest)) d.part
        (subst (λ hs. IsPart hs (heads_in (xs ++ x ∷ rest))) (sym (heads_behind xs (x ∷ [])))
        (subst (IsPart (heads_in xs ++ x.row.heads ∷ [])) (sym (heads_behind xs (x ∷ rest)))
        (listing.part_append (heads_in xs) (heads_in xs) (x.row.heads ∷ []) (x.row.heads ∷ heads_in rest) (listing.part_self (heads_in xs))
        (kept x.row.heads [] (heads_in rest) (listing.part_none (heads_in rest))))));
  }
    where
      stopped : (q : Question) (vs : List MValue) (a b : Bool) → length vs ≡ n →
          ((x.wanted && row_answers q x.row vs) || (not (row_stops x.row vs) && a)) ≡ ((x.wanted && row_answers q x.row vs) || (not (row_stops x.row vs) && b))
      stopped q vs a b l =
          ap (λ c. (x.wanted && row_answers q x.row vs) || (not c && a)) (s vs l) ∙ sym (ap (λ c. (x.wanted && row_answers q x.row vs) || (not c && b)) (s vs l))

      same : (q : Question) (vs : List MValue) (k : Bool) → length vs ≡ n → counts_before q (xs ++ x ∷ []) vs k ≡ counts_before q (xs ++ x ∷ rest) vs k
      same q vs k l =
          listing.before_append q xs (x ∷ []) vs k
          ∙ ap (counts_before q xs vs) (stopped q vs k (counts_before q rest vs k) l)
          ∙ sym (listing.before_append q xs (x ∷ rest) vs k)
