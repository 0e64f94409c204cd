-- A row of which everything is marked may be wanted no more.
use Rattle.std.proofs.Common.{◌≡◌, ◌⊎◌, inl, inr, ℕ, Bool, true, false, ◌&&◌, ◌||◌, List, [], ◌∷◌, nat_eq, refl, ap, sym, subst, ◌∙◌}
use Rattle.std.specs.List.{list_all}
use Rattle.match_model.specs.Values.{MValue}
use Rattle.match_model.specs.ArenaPatterns.{MDePat}
use Rattle.match_model.proofs.Basics.{untrue, either, both, nat_equal}
use Rattle.pattern_matrix.specs.Sparse.{SparseRow, row_view}
use Rattle.pattern_matrix.specs.Counting.{Question, has_chosen, heads_pass, row_answers, to_arm, through_alternative}
use Rattle.pattern_matrix.specs.Covering.{row_takes}
use Rattle.pattern_matrix.specs.Searching.{IsDone}
use Rattle.pattern_matrix.proofs.Folds.{has}
use Rattle.usefulness.specs.declared.marks.Marks.{Marks}
use Rattle.usefulness.specs.Frames.{SparseAsked, asked_view}
use Rattle.usefulness.specs.Marking.{is_marked}
use Rattle.usefulness.specs.Done.{choices_within, are_marked, is_done}
use Rattle.usefulness.proofs.Through.{some_choice, heads_through}

module _ (m : Marks) (q : Question) where
  -- one of these alternatives, which are all marked
  one_marked : (ids : List ℕ) → are_marked (is_marked m) q.arm ids ≡ true → has q.id ids ≡ true → is_marked m (through_alternative q.arm q.id) ≡ true
  one_marked [] a e = untrue e
  one_marked (id ∷ ids) a e =
      let h = both (is_marked m (through_alternative q.arm id)) (are_marked (is_marked m) q.arm ids) a in
      elim (either (nat_eq q.id id) (has q.id ids) e) [
        | inl same ↦ subst (λ n. is_marked m (through_alternative q.arm n) ≡ true) (sym (nat_equal q.id id same)) h.0
        | inr other ↦ one_marked ids h.1 other
      ]

  in_heads : {T : Type 0} (heads : List (ℕ × MDePat T)) → list_all (λ h. are_marked (is_marked m) q.arm (choices_within h.1)) heads ≡ true → some_choice q.id heads ≡ true →
      is_marked m (through_alternative q.arm q.id) ≡ true
  in_heads [] a e = untrue e
  in_heads (h ∷ heads) a e =
      let k = both (are_marked (is_marked m) q.arm (choices_within h.1)) (list_all (λ h. are_marked (is_marked m) q.arm (choices_within h.1)) heads) a in
      elim (either (has q.id (choices_within h.1)) (some_choice q.id heads) e) [
        | inl same ↦ one_marked (choices_within h.1) k.0 same
        | inr other ↦ in_heads heads k.1 other
      ]

  -- whatever else a question for an arm says
  whole_marked : is_marked m (to_arm q.arm) ≡ true → q.whole ≡ true → is_marked m q ≡ true
  whole_marked e w = rw w e

  alternative_marked : is_marked m (through_alternative q.arm q.id) ≡ true → q.whole ≡ false → is_marked m q ≡ true
  alternative_marked e w = rw w e

-- what it answers is marked
pub done_answers : {T : Type 0} (m : Marks) (r : SparseRow T) (columns : List ℕ) → is_done (is_marked m) r ≡ true → (q : Question) (vs : List MValue) →
    row_answers q (row_view columns r) vs ≡ true → is_marked m q ≡ true
done_answers {T} m r columns d q vs e =
    let x = row_view columns r in
    let mine = both (nat_eq q.arm r.arm) (row_takes x.heads vs && (has_chosen q r.chosen || heads_pass r.guarded q.id x.heads vs)) e in
    let asked = both (row_takes x.heads vs) (has_chosen q r.chosen || heads_pass r.guarded q.id x.heads vs) mine.1 in
    let of_arm = subst (λ n. mark_all n ≡ true) (sym (nat_equal q.arm r.arm mine.0)) d in
    let whole = both (is_marked m (to_arm q.arm)) (both_marked q.arm) of_arm in
    let parts = both (are_marked (is_marked m) q.arm r.chosen) (heads_marked q.arm) whole.1 in
    go q.whole refl (elim (either (has_chosen q r.chosen) (heads_pass r.guarded q.id x.heads vs) asked.1) [
      | inl c ↦ inl c
      | inr h ↦ inr (heads_through q.id r.guarded r.heads columns vs h)
    ]) whole.0 parts.0 parts.1
  where
    heads_marked : ℕ → Bool
    heads_marked n = list_all (λ (h : ℕ × MDePat T). are_marked (is_marked m) n (choices_within h.1)) r.heads

    both_marked : ℕ → Bool
    both_marked n = are_marked (is_marked m) n r.chosen && list_all (λ (h : ℕ × MDePat T). are_marked (is_marked m) n (choices_within h.1)) r.heads

    mark_all : ℕ → Bool
    mark_all n = is_marked m (to_arm n) && (are_marked (is_marked m) n r.chosen && list_all (λ (h : ℕ × MDePat T). are_marked (is_marked m) n (choices_within h.1)) r.heads)

    go : (w : Bool) → q.whole ≡ w → (has_chosen q r.chosen ≡ true) ⊎ (some_choice q.id r.heads ≡ true) → is_marked m (to_arm q.arm) ≡ true →
        are_marked (is_marked m) q.arm r.chosen ≡ true → list_all (λ (h : ℕ × MDePat T). are_marked (is_marked m) q.arm (choices_within h.1)) r.heads ≡ true → is_marked m q ≡ true
    go true w c a b h = whole_marked m q a w
    go false w (inl c) a b h = alternative_marked m q (one_marked m q r.chosen b (sym (ap (λ z. z || has q.id r.chosen) w) ∙ c)) w
    go false w (inr c) a b h = alternative_marked m q (in_heads m q r.heads h c) w

-- a row that is wanted only where it is not done
pub done_row : {T : Type 0} (m : Marks) (x : SparseAsked T) (columns : List ℕ) → is_done (is_marked m) x.row ≡ true → IsDone (is_marked m) (asked_view columns x)
done_row m x columns d = λ w q vs e. done_answers m x.row columns d q vs e
