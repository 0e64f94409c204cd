-- Columns where no row lists a head may be left out.
use Rattle.std.proofs.Common.{◌≡◌, inl, inr, ℕ, ◌+◌, ◌*◌, Bool, true, false, not, ◌&&◌, ◌||◌, List, [], ◌∷◌, cond, length, nat_eq, None, refl, ap, sym, subst, ◌∙◌, arith}
use Rattle.std.proofs.lemmas.Bool.Decides.{eqb_tells}
use Rattle.std.proofs.lemmas.List.{length-map}
use Rattle.std.proofs.lemmas.List.Elements.{All-head, All-tail}
use Rattle.std.specs.List.{All}
use Rattle.match_model.specs.Values.{MValue}
use Rattle.match_model.specs.ArenaPatterns.{MDePat}
use Rattle.match_model.specs.Contexts.{Context, Open}
use Rattle.match_model.specs.WellTyped.{AreHeadsTyped}
use Rattle.match_model.specs.Weights.{head_weight, heads_weight}
use Rattle.match_model.proofs.Basics.{untrue}
use Rattle.pat_context.specs.Parts.{AreValues}
use Rattle.pattern_matrix.specs.Covering.{row_takes, head_takes}
use Rattle.pattern_matrix.specs.HeadRows.{cols, AreTypes, AllTyped, AreMadeHeads, AreMadeRows}
use Rattle.pattern_matrix.specs.Sparse.{head_at, heads_at}
use Rattle.pattern_matrix.specs.Counting.{Question, heads_pass, head_passes, has_chosen, row_answers, row_stops, counts}
use Rattle.pattern_matrix.specs.Searching.{heads_in, weight_of, IsFit, Comes}
use Rattle.pattern_matrix.proofs.SearchSteps.{values_long}
use Rattle.usefulness.specs.Compact.{used_of}
use Rattle.usefulness.specs.Frames.{SparseAsked, asked_view, asked_views, numbers, places, sub_view}

-- the heads stand at columns that pass the test
abbrev pub AreUsed : {T : Type 0} → (f : ℕ → Bool) → List (ℕ × MDePat T) → Type 0
AreUsed f heads = All (λ h. f h.0 ≡ true) heads

abbrev pub AreRowsUsed : {T : Type 0} → (f : ℕ → Bool) → List (SparseAsked T) → Type 0
AreRowsUsed f xs = All (λ x. AreUsed f x.row.heads) xs

-- their values
abbrev pub kept_values : {T : Type 0} → (f : ℕ → Bool) → List (ℕ × Open T) → List MValue → List MValue
kept_values f [] vs = []
kept_values f (o ∷ shown) [] = []
kept_values f (o ∷ shown) (v ∷ vs) = cond (f o.0) (v ∷ kept_values f shown vs) (kept_values f shown vs)

one_times : (n : ℕ) → 1 * n ≡ n
one_times n = omega arith

none_passes : (T : Type 0) (g : Bool) (id : ℕ) (v : MValue) → head_passes {T = T} g id None v ≡ false
none_passes T true id v = refl
none_passes T false id v = refl

module _ {T : Type 0} (f : ℕ → Bool) where
  none_at : (heads : List (ℕ × MDePat T)) (c : ℕ) → AreUsed f heads → f c ≡ false → head_at heads c ≡ None
  none_at [] c a e = refl
  none_at (h ∷ heads) c a e = elim (eqb_tells h.0 c) [
    | inl same ↦ untrue (sym e ∙ subst (λ n. f n ≡ true) same.1 (All-head (λ (h : ℕ × MDePat T). f h.0 ≡ true) h heads a))
    | inr other ↦ rw (other.0) (none_at heads c (All-tail (λ (h : ℕ × MDePat T). f h.0 ≡ true) h heads a) e)
  ]

  module _ (heads : List (ℕ × MDePat T)) (a : AreUsed f heads) where
    takes_used : (shown : List (ℕ × Open T)) (vs : List MValue) → length vs ≡ length shown →
        row_takes (heads_at heads (numbers shown)) vs ≡ row_takes (heads_at heads (numbers (used_of f shown))) (kept_values f shown vs)
    takes_used [] [] l = refl
    takes_used [] (v ∷ vs) l = absurd (omega (arith, l))
    takes_used (o ∷ shown) [] l = absurd (omega (arith, l))
    takes_used (o ∷ shown) (v ∷ vs) l = go (f o.0) refl (takes_used shown vs (omega (arith, l)))
      where
        go : (b : Bool) → f o.0 ≡ b → row_takes (heads_at heads (numbers shown)) vs ≡ row_takes (heads_at heads (numbers (used_of f shown))) (kept_values f shown vs) →
            (head_takes (head_at heads o.0) v && row_takes (heads_at heads (numbers shown)) vs)
            ≡ row_takes (heads_at heads (numbers (cond b (o ∷ used_of f shown) (used_of f shown)))) (cond b (v ∷ kept_values f shown vs) (kept_values f shown vs))
        go true e h = ap (λ b. head_takes (head_at heads o.0) v && b) h
        go false e h = ap (λ z. head_takes z v && row_takes (heads_at heads (numbers shown)) vs) (none_at heads o.0 a e) ∙ h

    passes_used : (g : Bool) (id : ℕ) (shown : List (ℕ × Open T)) (vs : List MValue) → length vs ≡ length shown →
        heads_pass g id (heads_at heads (numbers shown)) vs ≡ heads_pass g id (heads_at heads (numbers (used_of f shown))) (kept_values f shown vs)
    passes_used g id [] vs l = refl
    passes_used g id (o ∷ shown) [] l = absurd (omega (arith, l))
    passes_used g id (o ∷ shown) (v ∷ vs) l = go (f o.0) refl (passes_used g id shown vs (omega (arith, l)))
      where
        go : (b : Bool) → f o.0 ≡ b → heads_pass g id (heads_at heads (numbers shown)) vs ≡ heads_pass g id (heads_at heads (numbers (used_of f shown))) (kept_values f shown vs) →
            (head_passes g id (head_at heads o.0) v || heads_pass g id (heads_at heads (numbers shown)) vs)
            ≡ heads_pass g id (heads_at heads (numbers (cond b (o ∷ used_of f shown) (used_of f shown)))) (cond b (v ∷ kept_values f shown vs) (kept_values f shown vs))
        go true e h = ap (λ b. head_passes g id (head_at heads o.0) v || b) h
        go false e h =
            ap (λ z. head_passes g id z v || heads_pass g id (heads_at heads (numbers shown)) vs) (none_at heads o.0 a e)
            ∙ ap (λ b. b || heads_pass g id (heads_at heads (numbers shown)) vs) (none_passes T g id v) ∙ h

    weighs_used : (shown : List (ℕ × Open T)) → heads_weight (heads_at heads (numbers shown)) ≡ heads_weight (heads_at heads (numbers (used_of f shown)))
    weighs_used [] = refl
    weighs_used (o ∷ shown) = go (f o.0) refl (weighs_used shown)
      where
        go : (b : Bool) → f o.0 ≡ b → heads_weight (heads_at heads (numbers shown)) ≡ heads_weight (heads_at heads (numbers (used_of f shown))) →
            head_weight (head_at heads o.0) * heads_weight (heads_at heads (numbers shown)) ≡ heads_weight (heads_at heads (numbers (cond b (o ∷ used_of f shown) (used_of f shown))))
        go true e h = ap (λ n. head_weight (head_at heads o.0) * n) h
        go false e h = ap (λ z. head_weight z * heads_weight (heads_at heads (numbers shown))) (none_at heads o.0 a e) ∙ one_times (heads_weight (heads_at heads (numbers shown))) ∙ h

    typed_used : (cx : Context T) (shown : List (ℕ × Open T)) → AreHeadsTyped cx (cols (places shown)) (heads_at heads (numbers shown)) →
        AreHeadsTyped cx (cols (places (used_of f shown))) (heads_at heads (numbers (used_of f shown)))
    typed_used cx [] t = t
    typed_used cx (o ∷ shown) t = go (f o.0) (typed_used cx shown t.1)
      where
        go : (b : Bool) → AreHeadsTyped cx (cols (places (used_of f shown))) (heads_at heads (numbers (used_of f shown))) →
            AreHeadsTyped cx (cols (places (cond b (o ∷ used_of f shown) (used_of f shown)))) (heads_at heads (numbers (cond b (o ∷ used_of f shown) (used_of f shown))))
        go true h = (t.0, h)
        go false h = h

    made_used : (shown : List (ℕ × Open T)) → AreMadeHeads (heads_at heads (numbers shown)) → AreMadeHeads (heads_at heads (numbers (used_of f shown)))
    made_used [] m = m
    made_used (o ∷ shown) m = go (f o.0) (made_used shown m.1)
      where
        go : (b : Bool) → AreMadeHeads (heads_at heads (numbers (used_of f shown))) → AreMadeHeads (heads_at heads (numbers (cond b (o ∷ used_of f shown) (used_of f shown))))
        go true h = (m.0, h)
        go false h = h

  -- what counts is the same
  counts_used : (q : Question) (shown : List (ℕ × Open T)) (xs : List (SparseAsked T)) (vs : List MValue) → AreRowsUsed f xs → length vs ≡ length shown →
      counts q (asked_views (numbers shown) xs) vs ≡ counts q (asked_views (numbers (used_of f shown)) xs) (kept_values f shown vs)
  counts_used q shown [] vs a l = refl
  counts_used q shown (x ∷ xs) vs a l =
      let b = All-head (λ (x : SparseAsked T). AreUsed f x.row.heads) x xs a in
      let us = kept_values f shown vs in
      let t = row_takes (heads_at x.row.heads (numbers (used_of f shown))) us in
      let p = heads_pass x.row.guarded q.id (heads_at x.row.heads (numbers shown)) vs in
      let k = counts q (asked_views (numbers shown) xs) vs in
      ap (λ t. (x.wanted && (nat_eq q.arm x.row.arm && (t && (has_chosen q x.row.chosen || p)))) || (not (not x.row.guarded && t) && k)) (takes_used x.row.heads b shown vs l)
      ∙ ap (λ p. (x.wanted && (nat_eq q.arm x.row.arm && (t && (has_chosen q x.row.chosen || p)))) || (not (not x.row.guarded && t) && k)) (passes_used x.row.heads b x.row.guarded q.id shown vs l)
      ∙ ap (λ k. (x.wanted && row_answers q (asked_view (numbers (used_of f shown)) x).row us) || (not (row_stops (asked_view (numbers (used_of f shown)) x).row us) && k))
      (counts_used q shown xs vs (All-tail (λ (x : SparseAsked T). AreUsed f x.row.heads) x xs a) l)

  -- and what the rows weigh
  pub weight_used : (shown : List (ℕ × Open T)) (xs : List (SparseAsked T)) → AreRowsUsed f xs → weight_of (sub_view shown xs) ≡ weight_of (sub_view (used_of f shown) xs)
  weight_used shown [] a = refl
  weight_used shown (x ∷ xs) a =
      ap (λ n. n + weight_of (sub_view shown xs)) (weighs_used x.row.heads (All-head (λ (x : SparseAsked T). AreUsed f x.row.heads) x xs a) shown)
      ∙ ap (λ n. heads_weight (heads_at x.row.heads (numbers (used_of f shown))) + n) (weight_used shown xs (All-tail (λ (x : SparseAsked T). AreUsed f x.row.heads) x xs a))

  module _ (IsValue : T → Bool → MValue → Type 0) where
    values_used : (shown : List (ℕ × Open T)) (vs : List MValue) → AreValues IsValue (places shown) vs → AreValues IsValue (places (used_of f shown)) (kept_values f shown vs)
    values_used [] vs a = tt
    values_used (o ∷ shown) [] a = absurd a
    values_used (o ∷ shown) (v ∷ vs) a = go (f o.0) (values_used shown vs a.1)
      where
        go : (b : Bool) → AreValues IsValue (places (used_of f shown)) (kept_values f shown vs) →
            AreValues IsValue (places (cond b (o ∷ used_of f shown) (used_of f shown))) (cond b (v ∷ kept_values f shown vs) (kept_values f shown vs))
        go true h = (a.0, h)
        go false h = h

    -- values of those that are used, with some of the others
    values_filled : (shown : List (ℕ × Open T)) (vs ws : List MValue) → AreValues IsValue (places (used_of f shown)) vs → AreValues IsValue (places shown) ws →
        (us : List MValue) × AreValues IsValue (places shown) us × (kept_values f shown us ≡ vs)
    values_filled [] [] ws a b = ([], tt, refl)
    values_filled [] (v ∷ vs) ws a b = absurd a
    values_filled (o ∷ shown) vs [] a b = absurd b
    values_filled (o ∷ shown) vs (w ∷ ws) a b = go (f o.0) refl vs a (λ us c. values_filled shown us ws c b.1)
      where
        go : (c : Bool) → f o.0 ≡ c → (vs : List MValue) → AreValues IsValue (places (cond c (o ∷ used_of f shown) (used_of f shown))) vs →
            ((us : List MValue) → AreValues IsValue (places (used_of f shown)) us → (all : List MValue) × AreValues IsValue (places shown) all × (kept_values f shown all ≡ us)) →
            (us : List MValue) × AreValues IsValue (places (o ∷ shown)) us × (kept_values f (o ∷ shown) us ≡ vs)
        go true e [] a h = absurd a
        go true e (v ∷ vs) a h =
            let (us, p, k) = h vs a.1 in
            (v ∷ us, (a.0, p), ap (λ c. cond c (v ∷ kept_values f shown us) (kept_values f shown us)) e ∙ ap (λ zs. v ∷ zs) k)
        go false e vs a h =
            let (us, p, k) = h vs a in
            (w ∷ us, (b.0, p), ap (λ c. cond c (w ∷ kept_values f shown us) (kept_values f shown us)) e ∙ k)

    shown_long : (shown : List (ℕ × Open T)) (vs : List MValue) → AreValues IsValue (places shown) vs → length vs ≡ length shown
    shown_long shown vs a = values_long IsValue (places shown) vs a ∙ length-map shown (λ (o : ℕ × Open T). o.1)

    -- values come to the same
    pub comes_used : (shown : List (ℕ × Open T)) (xs : List (SparseAsked T)) → AreRowsUsed f xs → (q : Question) → Comes IsValue q (sub_view shown xs) → Comes IsValue q (sub_view (used_of f shown) xs)
    comes_used shown xs a q (vs, b, c) =
        (kept_values f shown vs, values_used shown vs b, sym (counts_used q shown xs vs a (shown_long shown vs b)) ∙ c)

    pub comes_unused : (shown : List (ℕ × Open T)) (xs : List (SparseAsked T)) → AreRowsUsed f xs → ((ws : List MValue) × AreValues IsValue (places shown) ws) → (q : Question) →
        Comes IsValue q (sub_view (used_of f shown) xs) → Comes IsValue q (sub_view shown xs)
    comes_unused shown xs a (ws, d) q (vs, b, c) =
        let (us, p, k) = values_filled shown vs ws b d in
        (us, p, counts_used q shown xs us a (shown_long shown us p) ∙ ap (counts q (asked_views (numbers (used_of f shown)) xs)) k ∙ c)

    module _ (IsType : T → Type 0) (cx : Context T) where
      types_used : (shown : List (ℕ × Open T)) → AreTypes IsType (cols (places shown)) → AreTypes IsType (cols (places (used_of f shown)))
      types_used [] t = t
      types_used (o ∷ shown) t = go (f o.0) (types_used shown t.1)
        where
          go : (b : Bool) → AreTypes IsType (cols (places (used_of f shown))) → AreTypes IsType (cols (places (cond b (o ∷ used_of f shown) (used_of f shown))))
          go true h = (t.0, h)
          go false h = h

      all_typed : (shown : List (ℕ × Open T)) (xs : List (SparseAsked T)) → AreRowsUsed f xs → AllTyped cx (cols (places shown)) (heads_in (asked_views (numbers shown) xs)) →
          AllTyped cx (cols (places (used_of f shown))) (heads_in (asked_views (numbers (used_of f shown)) xs))
      all_typed shown [] a t = tt
      all_typed shown (x ∷ xs) a t = (
        typed_used x.row.heads (All-head (λ (x : SparseAsked T). AreUsed f x.row.heads) x xs a) cx shown t.0,
        all_typed shown xs (All-tail (λ (x : SparseAsked T). AreUsed f x.row.heads) x xs a) t.1,
      )

      all_made : (shown : List (ℕ × Open T)) (xs : List (SparseAsked T)) → AreRowsUsed f xs → AreMadeRows (heads_in (asked_views (numbers shown) xs)) →
          AreMadeRows (heads_in (asked_views (numbers (used_of f shown)) xs))
      all_made shown [] a m = tt
      all_made shown (x ∷ xs) a m = (
        made_used x.row.heads (All-head (λ (x : SparseAsked T). AreUsed f x.row.heads) x xs a) shown m.0,
        all_made shown xs (All-tail (λ (x : SparseAsked T). AreUsed f x.row.heads) x xs a) m.1,
      )

      pub fit_used : (shown : List (ℕ × Open T)) (xs : List (SparseAsked T)) → AreRowsUsed f xs → IsFit IsType IsValue cx (sub_view shown xs) → IsFit IsType IsValue cx (sub_view (used_of f shown) xs)
      fit_used shown xs a t = record {
        types = types_used shown t.types;
        typed = all_typed shown xs a t.typed;
        made = all_made shown xs a t.made;
        some = (kept_values f shown t.some.0, values_used shown t.some.0 t.some.1);
      }
